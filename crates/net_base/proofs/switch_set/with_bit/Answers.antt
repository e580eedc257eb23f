use Rattle.std.specs.Int.{w128}
use Rattle.std.proofs.lemmas.Nat.Bits.{bit_at_set_same, bit_at_set_other}
use Rattle.net_base.proofs.switch_set.with_bit.Goals as goal

pub returns : goal.returns
returns c = record { there = bit_at_set_same w128 _ _ c.requires; others = bit_at_set_other w128 _ _ c.requires }
