use Rattle.std.proofs.Common.{◌≡◌, ◌<◌, ◌≤◌, ℕ, false}
use Rattle.std.specs.Prelude.{slice_get, Some}
use Rattle.round_mix.specs.Named.{names}
use Rattle.round_mix.specs.declared.Mark.TheVariants.{Sure}
use Rattle.round_mix.specs.declared.MarkedRule.{MarkedRule}
use Rattle.round_mix.proofs.named.seek.Given as goal

abbrev pub invariant-loop-i : goal.invariant-loop-i
invariant-loop-i l =
    (i : ℕ) (m : MarkedRule) → l.from ≤ i → i < l.i → slice_get l.marks i ≡ Some m → m.mark ≡ Sure → names l.change m.rule ≡ false
