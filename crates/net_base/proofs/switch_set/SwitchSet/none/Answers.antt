use Rattle.std.proofs.Common.{ℕ, ap}
use Rattle.std.specs.Prelude.{◌==◌}
use Rattle.std.proofs.lemmas.Nat.Bits.{bit_at-zero}
use Rattle.net_base.proofs.switch_set.SwitchSet.none.Goals as goal

pub returns : goal.returns
returns c s = ap (λ (b : ℕ). b == 1) (bit_at-zero s.0)
