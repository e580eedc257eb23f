use Rattle.std.proofs.Common.{◌≡◌, [], take}
use Rattle.net_base.specs.Members.{IsIn}
use Rattle.net_base.specs.declared.ids.Place.{Place}
use Rattle.dest_classes.specs.declared.NumberedClass.{NumberedClass}
use Rattle.round_survey.proofs.stepping.put_entries.Given as goal

abbrev pub invariant-loop-member : goal.invariant-loop-member
invariant-loop-member l = record {
  begins : (m : NumberedClass) → IsIn m (take l.member-index l.members) → IsIn m.class.entry l.noted.places;
  each : (p : Place) → IsIn p l.noted.places → (m : NumberedClass) × IsIn m l.members × (p ≡ m.class.entry);
  steps : l.noted.steps ≡ [];
}
