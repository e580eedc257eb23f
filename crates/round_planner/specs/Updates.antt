-- What an update is planned over, and what its plan keeps.
use Rattle.std.specs.Prelude.{ℕ, []}
use Rattle.dest_classes.specs.Classes.{ClassList, class_count}
use Rattle.certificates.specs.Updates.{Task, Update, task_for}
use Rattle.certificates.specs.Certified.{IsCertified, is_two_phase}
use Rattle.certificates.specs.Consistent.{IsConsistent}
use Rattle.certificates.specs.declared.Plan.{Plan}
use Rattle.table_difference.specs.SameClasses.{classes_before}
use Rattle.table_difference.specs.Targets.{Target}
use Rattle.table_difference.specs.Targets.{Target, target_between}

-- the classes of an update: those of the prefixes of both configurations and of the demands
abbrev pub update_classes : Update → ClassList
update_classes u = classes_before u.net u.old u.new u.demands

-- how many they are
abbrev pub update_count : Update → ℕ
update_count u = class_count (update_classes u)

-- what the search of an update is for
abbrev pub update_target : Update → Target
update_target u = target_between u.net u.old u.new u.demands

-- the update without rounds
abbrev pub bare_task : Update → Task
bare_task u = record { update = u; rounds = [] }

-- the plan is certified, and keeps every packet of every run consistent
pub record KeepsConsistent (u : Update) (p : Plan) : Type 0 where
  pub certified : IsCertified (task_for u p) p.evidence
  pub consistent : IsConsistent u p.rounds (is_two_phase p.evidence)
