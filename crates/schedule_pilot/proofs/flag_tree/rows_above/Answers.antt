use Rattle.std.proofs.Common.{◌≡◌, ◌∙◌, ℕ, List, length, sum, ap, arith}
use Rattle.schedule_pilot.specs.Counts.{pair_sums, last_row}
use Rattle.schedule_pilot.proofs.CountLaws.{top_sum, top_next, fewer_pairs, rows_next}
use Rattle.schedule_pilot.proofs.flag_tree.rows_above.Goals as goal

pub pair_sums-requires : goal.pair_sums-requires
pair_sums-requires c =
    let same : sum c.top-in-rising.result.now ≡ sum c.args.lowest.items =
    ap (λ (row : List ℕ). sum row) c.top-in-rising.ensures ∙ top_sum c.args.lowest.items c.rising.rows c.rising.invariant in
    let few = c.requires in
    omega arith

pub rising-smaller : goal.rising-smaller
rising-smaller c =
    let next : length (last_row c.push-in-rising.new.self) ≡ length (pair_sums (last_row c.rising.rows)) =
    ap (λ (row : List ℕ). length row) (top_next c.rising.rows c.push-in-rising.new.self c.in_ok-sums.sums.items c.in_ok-push-2.ensures ∙ c.in_ok-sums.ensures ∙ ap pair_sums c.top-in-rising.ensures) in
    let same = ap (λ (row : List ℕ). length row) c.top.ensures in
    let test = c.rising-test.true in
    let fewer = fewer_pairs (last_row c.rising.rows) (omega arith) in
    omega arith

pub rising-preserved : goal.rising-preserved
rising-preserved c =
    rows_next c.args.lowest.items c.rising.rows c.push-in-rising.new.self c.in_ok-sums.sums.items c.rising.invariant (c.in_ok-sums.ensures ∙ ap pair_sums c.top-in-rising.ensures) c.in_ok-push-2.ensures
