use Rattle.std.proofs.Common.{◌≡◌, ◌-◌, ◌<◌, ◌∙◌, ℕ, suc, List, [], length, get_or, ap, sym, subst, arith}
use Rattle.schedule_pilot.specs.Counts.{pair_sums, IsCountedAt}
use Rattle.schedule_pilot.proofs.flag_tree.position_of.Goals as goal

pub falling-preserved : goal.falling-preserved
falling-preserved c =
    let rows = c.args.rows.now in
    let j = c.falling.j in
    let some = c.falling-test.true in
    let inside = c.falling.invariant.1 in
    let step : j ≡ suc (j - 1) = omega arith in
    let less : suc (j - 1) < length rows = omega arith in
    let sums : get_or rows j [] ≡ pair_sums c.row.result.now = ap (λ n. get_or rows n []) step ∙ c.requires.above (j - 1) less ∙ ap pair_sums (sym c.row.ensures) in
    let here : IsCountedAt (pair_sums c.row.result.now) c.args.k c.falling.spot.position c.falling.spot.rest =
    subst (λ (row : List ℕ). IsCountedAt row c.args.k c.falling.spot.position c.falling.spot.rest) sums c.falling.invariant.0 in (
      subst (λ (row : List ℕ). IsCountedAt row c.args.k c.spot_below-spot.result.position c.spot_below-spot.result.rest) c.row.ensures (c.spot_below-spot.ensures c.args.k here),
      omega arith,
    )
