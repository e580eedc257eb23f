use Rattle.std.proofs.Common.{◌≡◌, length, take}
use Rattle.mixed_walks.proofs.SlotLaws.{AreEmptied}
use Rattle.mixed_walks.proofs.reached.empty_slots.Given as goal

abbrev pub invariant-loop-place : goal.invariant-loop-place
invariant-loop-place l = record {
  count : length l.slots.items ≡ length l.initial.slots.items;
  taken : AreEmptied l.initial.slots.items (take l.place-index l.places) l.slots.items;
}
