use Rattle.std.proofs.Common.{◌≡◌, ℕ, ◌<◌, false, get_or}
use Rattle.round_mix.specs.Kinds.{clash_between}
use Rattle.round_mix.specs.declared.MarkedRule.{MarkedRule}
use Rattle.round_mix.proofs.SweepLaws.{IsLeft}
use Rattle.round_mix.proofs.kinds.sweep.Given as goal

abbrev pub invariant-loop-i : goal.invariant-loop-i
invariant-loop-i l =
    ((j : ℕ) (d : MarkedRule) → j < l.i → IsLeft l.pair (get_or l.rules j d) l.reach)
    × ((j k : ℕ) (d : MarkedRule) → j < k → k < l.i → clash_between l.pair (get_or l.rules j d) (get_or l.rules k d) ≡ false)
