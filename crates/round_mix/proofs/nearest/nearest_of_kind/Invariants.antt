use Rattle.std.proofs.Common.{◌≡◌, ◌-◌, ◌<◌, ◌≤◌, ℕ, length, get_or}
use Rattle.std.specs.Prelude.{Some}
use Rattle.path_walk.specs.Outcomes.{header_at}
use Rattle.flow_rules.specs.Tuples.{pattern_around, slot_of, slots_of, link_number}
use Rattle.round_mix.specs.Nearest.{IsNear}
use Rattle.round_mix.proofs.nearest.nearest_of_kind.Given as goal

abbrev pub decreases-loop-at : goal.decreases-loop-at
decreases-loop-at l = link_number l.at

abbrev pub invariant-loop-at : goal.invariant-loop-at
invariant-loop-at l = record {
  within : link_number l.at ≤ length l.rules;
  same : (i : ℕ) → l.at ≡ Some i → get_or (slots_of l.space) i 0 ≡ slot_of l.space.count (pattern_around l.kind (header_at l.packet.place l.packet.dst));
  seen : (k : ℕ) → link_number l.at ≤ k → get_or (slots_of l.space) k 0 ≡ slot_of l.space.count (pattern_around l.kind (header_at l.packet.place l.packet.dst))
      → k < length l.rules → IsNear (header_at l.packet.place l.packet.dst) l.rules l.from l.best (length l.rules - 1 - k);
}
