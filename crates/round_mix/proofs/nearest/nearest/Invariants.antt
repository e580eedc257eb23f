use Rattle.std.proofs.Common.{◌≡◌, ◌-◌, ◌<◌, ℕ, get_or, length, take}
use Rattle.net_base.specs.Members.{IsIn}
use Rattle.path_walk.specs.Outcomes.{header_at}
use Rattle.flow_rules.specs.Tuples.{pattern_around, slot_of, slots_of}
use Rattle.flow_rules.specs.declared.rules.Pattern.{Pattern}
use Rattle.round_mix.specs.Nearest.{IsMet, IsNear}
use Rattle.round_mix.proofs.nearest.nearest.Given as goal

abbrev pub invariant-loop-kind : goal.invariant-loop-kind
invariant-loop-kind l = record {
  met : IsMet (header_at l.packet.place l.packet.dst) l.rules l.from l.best;
  seen : (k : Pattern) → IsIn k (take l.kind-index l.space.kinds) → (i : ℕ) → i < length l.rules
      → get_or (slots_of l.space) i 0 ≡ slot_of l.space.count (pattern_around k (header_at l.packet.place l.packet.dst)) → IsNear (header_at l.packet.place l.packet.dst) l.rules l.from l.best (length l.rules - 1 - i);
}
