-- The rooms of a check, and when they fit what is checked.
use Rattle.std.specs.Prelude.{◌≡◌}
use Rattle.topology.specs.Networks.{switch_count}
use Rattle.dest_classes.specs.Classes.{ClassList}
use Rattle.config_check.specs.Classed.{AreClassed}
use Rattle.certificates.specs.Updates.{Task, rollout}
use Rattle.certificates.specs.Certified.{classes_for}
use Rattle.certificates.specs.declared.Evidence.{Evidence}
use Rattle.certificates.specs.declared.Evidence.TheVariants.{Ordered, TwoPhase}
use Rattle.round_tables.specs.PreparedTables.{HasTableRoom}
use Rattle.ordered_check.specs.Kept.{HasClassRoom}
use Rattle.plan_checker.specs.declared.evidence_room.EvidenceRoom.{EvidenceRoom}
use Rattle.plan_checker.specs.declared.evidence_room.EvidenceRoom.TheVariants as room
use Rattle.plan_checker.specs.declared.room.CheckRoom.{CheckRoom}
use Rattle.plan_checker.specs.declared.room.UpdateRoom.{UpdateRoom}

-- the classes are those of the update with their duties, and the rooms suffice for its rounds
pub record Fits (t : Task) (room : UpdateRoom) : Type 0 where
  pub classed : AreClassed (classes_for t) t.update.demands room.classed
  pub tables : HasTableRoom (rollout t) room.tables
  pub path : room.path.switches ≡ switch_count t.update.net

-- the room is that of the evidence's kind, and suffices for these classes
abbrev pub FitsEvidence : ClassList → Evidence → EvidenceRoom → Type 0
FitsEvidence classes (Ordered e) (room.Ordered kept) = HasClassRoom classes kept
FitsEvidence classes (Ordered e) (room.TwoPhase labels) = ⊥
FitsEvidence classes (TwoPhase e) (room.Ordered kept) = ⊥
FitsEvidence classes (TwoPhase e) (room.TwoPhase labels) = Unit {0}

-- the room of a check suffices for the update and for the evidence
pub record FitsPlan (t : Task) (e : Evidence) (room : CheckRoom) : Type 0 where
  pub update : Fits t room.update
  pub evidence : FitsEvidence (classes_for t) e room.evidence
