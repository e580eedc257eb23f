-- The class whose positions of chains were found guarded last.
use Rattle.std.specs.Prelude.{◌≡◌, List, length, slice_get, Option, Some, IfSome}
use Rattle.net_base.specs.Members.{IsIn}
use Rattle.net_base.specs.declared.ids.SwitchId.{SwitchId}
use Rattle.acyclic_numbering.specs.Heights.{IsEdge}
use Rattle.acyclic_numbering.specs.declared.Edge.{Edge}
use Rattle.dest_classes.specs.Classes.{IsClass}
use Rattle.dest_classes.specs.declared.Class.{Class}
use Rattle.certificates.specs.Ordered.{positions}
use Rattle.certificates.specs.Updates.{Task}
use Rattle.certificates.specs.Certified.{classes_for}
use Rattle.certificates.specs.declared.OrderedEvidence.{OrderedEvidence}
use Rattle.certificates.specs.declared.Shared.{Shared}
use Rattle.check_reasons.specs.Positions.{sets_of}
use Rattle.check_reasons.specs.Reasons.{class_duties}
use Rattle.ordered_check.specs.Judged.{IsWayRound, AreGuardedBelow}
use Rattle.ordered_check.specs.declared.guarded.GuardedClass.{GuardedClass}

-- a class, if any, with the steps of its walks and the switches where a packet may leave on them
pub record GuardedState : Type 0 where
  pub last : Option GuardedClass
  pub steps : List Edge
  pub leaving : List SwitchId

-- the positions of a class are guarded by the before sets of its use, where walks have these steps and leave there
abbrev pub IsGuarded : Task → OrderedEvidence → GuardedClass → Class → List Edge → List SwitchId → Type 0
IsGuarded t e of class steps leaving =
    (shared : Shared) → slice_get e.uses of.shared ≡ Some shared
    → AreGuardedBelow (IsWayRound of.start (IsEdge steps) (λ s. IsIn s leaving)) (positions (class_duties t class).chains (sets_of e.befores shared.befores)) (length shared.befores)

-- where there is a class, it is one of the task, and its positions are guarded
abbrev pub HoldsGuarded : Task → OrderedEvidence → GuardedState → Type 0
HoldsGuarded t e state = IfSome state.last (λ of. (class : Class) × IsClass (classes_for t) of.number class × IsGuarded t e of class state.steps state.leaving)
