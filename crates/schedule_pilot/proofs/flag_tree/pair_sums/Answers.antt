use Rattle.std.proofs.Common.{◌≡◌, ◌<◌, ◌≤◌, ◌∙◌, ◌++◌, ◌∷◌, [], ℕ, List, get_or, length, take, ap, sym, arith}
use Rattle.std.proofs.lemmas.List.{take_more, take_all}
use Rattle.schedule_pilot.specs.Counts.{pair_sums}
use Rattle.schedule_pilot.proofs.CountLaws.{pair_at_twice, pair_count}
use Rattle.schedule_pilot.proofs.flag_tree.pair_sums.Goals as goal

pub loop-i-preserved : goal.loop-i-preserved
loop-i-preserved c =
    let row = c.args.row.now in
    let i = c.loop-i.i in
    let count = pair_count row in
    let less : i < length (pair_sums row) = omega arith in
    let next : c.pair_sum.result ≡ get_or (pair_sums row) i 0 = c.pair_sum.ensures ∙ sym (pair_at_twice row i) in
    c.in_ok-push.ensures.items ∙ ap (λ (l : List ℕ). l ++ c.pair_sum.result ∷ []) c.loop-i.invariant ∙ ap (λ n. take i (pair_sums row) ++ n ∷ []) next ∙ sym (take_more (pair_sums row) i 0 less)

pub returns : goal.returns
returns c =
    let row = c.args.row.now in
    let count = pair_count row in
    let all : length (pair_sums row) ≤ c.loop-i.i = omega arith in
    c.loop-i.invariant ∙ take_all c.loop-i.i (pair_sums row) all
