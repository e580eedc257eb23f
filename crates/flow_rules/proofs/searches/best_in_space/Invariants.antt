use Rattle.std.proofs.Common.{◌≡◌, ℕ, get_or, take}
use Rattle.net_base.specs.Members.{IsIn}
use Rattle.flow_rules.specs.Scan.{IsBeaten, IsHit}
use Rattle.flow_rules.specs.Tuples.{pattern_around, slot_of, slots_of}
use Rattle.flow_rules.specs.declared.rules.Pattern.{Pattern}
use Rattle.flow_rules.proofs.searches.best_in_space.Given as goal

abbrev pub invariant-loop-kind : goal.invariant-loop-kind
invariant-loop-kind l = record {
  hit : IsHit (record { port = l.packet.port; vlan = l.packet.vlan; dst = l.packet.dst }) l.rules l.best;
  seen : (k : Pattern) → IsIn k (take l.kind-index l.space.kinds) → (j : ℕ)
      → get_or (slots_of l.space) j 0 ≡ slot_of l.space.count (pattern_around k (record { port = l.packet.port; vlan = l.packet.vlan; dst = l.packet.dst }))
      → IsBeaten (record { port = l.packet.port; vlan = l.packet.vlan; dst = l.packet.dst }) l.rules l.best j;
}
