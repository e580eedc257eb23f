use Rattle.std.proofs.Common.{◌≡◌, ◌≤◌, ℕ, length, get_or}
use Rattle.std.specs.Prelude.{Some}
use Rattle.flow_rules.specs.Scan.{IsBeaten, IsHit}
use Rattle.flow_rules.specs.Tuples.{pattern_around, slot_of, slots_of, link_number}
use Rattle.flow_rules.proofs.searches.best_of_kind.Given as goal

abbrev pub decreases-loop-at : goal.decreases-loop-at
decreases-loop-at l = link_number l.at

abbrev pub invariant-loop-at : goal.invariant-loop-at
invariant-loop-at l = record {
  within : link_number l.at ≤ length l.rules;
  same : (i : ℕ) → l.at ≡ Some i → get_or (slots_of l.space) i 0 ≡ slot_of l.space.count (pattern_around l.kind (record { port = l.packet.port; vlan = l.packet.vlan; dst = l.packet.dst }));
  hit : IsHit (record { port = l.packet.port; vlan = l.packet.vlan; dst = l.packet.dst }) l.rules l.best;
  kept : (j : ℕ) → IsBeaten (record { port = l.packet.port; vlan = l.packet.vlan; dst = l.packet.dst }) l.rules l.initial.best j
      → IsBeaten (record { port = l.packet.port; vlan = l.packet.vlan; dst = l.packet.dst }) l.rules l.best j;
  seen : (j : ℕ) → link_number l.at ≤ j → get_or (slots_of l.space) j 0 ≡ slot_of l.space.count (pattern_around l.kind (record { port = l.packet.port; vlan = l.packet.vlan; dst = l.packet.dst }))
      → IsBeaten (record { port = l.packet.port; vlan = l.packet.vlan; dst = l.packet.dst }) l.rules l.best j;
}
