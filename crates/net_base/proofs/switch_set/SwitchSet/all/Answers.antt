use Rattle.std.proofs.Common.{ℕ, ap}
use Rattle.std.specs.Prelude.{◌==◌}
use Rattle.std.proofs.lemmas.Nat.Bits.{bit_at_ones}
use Rattle.net_base.proofs.switch_set.SwitchSet.all.Goals as goal

pub returns : goal.returns
returns c s less = ap (λ (b : ℕ). b == 1) (bit_at_ones 128 s.0 less)
