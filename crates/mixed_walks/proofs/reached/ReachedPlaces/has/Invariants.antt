use Rattle.std.proofs.Common.{◌≡◌, ◌-◌, ◌<◌, ◌≤◌, length}
use Rattle.std.specs.Prelude.{slice_get, Some}
use Rattle.net_base.specs.declared.ids.Place.{Place}
use Rattle.mixed_walks.specs.Marked.{slot_number}
use Rattle.mixed_walks.proofs.ChainLaws.{IsNoneFrom}
use Rattle.mixed_walks.proofs.reached.ReachedPlaces.has.Given as goal

abbrev pub invariant-passing : goal.invariant-passing
invariant-passing l = record {
  within : l.number ≤ length l.self;
  none : IsNoneFrom l.self l.place l.number;
  alike : (p : Place) → 0 < l.number → slice_get l.self (l.number - 1) ≡ Some p → slot_number p ≡ slot_number l.place;
}

abbrev pub decreases-passing : goal.decreases-passing
decreases-passing l = l.number
