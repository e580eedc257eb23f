-- Classes that stay safe while changes are made, and the switches that their mixed walks come to.
use Rattle.std.specs.Prelude.{◌≡◌, ◌⊎◌, ◌==◌, ◌&&◌, ℕ, Bool, true, false, List, length, filter, not, Option, Some, None}
use Rattle.topology.specs.Networks.{Network}
use Rattle.flow_rules.specs.declared.rules.Rule.{Rule}
use Rattle.flow_rules.specs.Same.{rule_eq}
use Rattle.dest_classes.specs.Classes.{IsClass, class_count}
use Rattle.dest_classes.specs.declared.Class.{Class}
use Rattle.update_model.specs.Changes.{switch_of}
use Rattle.update_model.specs.declared.Change.{Change}
use Rattle.update_model.specs.declared.Change.TheVariants.{Insert, Delete, Replace}
use Rattle.certificates.specs.Rounds.{one_round_of, IsSafeByEvidence}
use Rattle.round_mix.specs.Prepared.{MixedState}
use Rattle.mixed_walks.specs.Walks.{IsRoundOf}
use Rattle.class_watch.specs.Walks.{HoldsWalks, meets_any}
use Rattle.table_difference.specs.Targets.{Target}
use Rattle.round_judge.specs.Visits.{marks_at}
use Rattle.round_packer.specs.declared.failing.Failure.{Failure}

-- the switches are prepared for these changes of the tables
abbrev pub ArePreparedFor : Network → List MixedState → List (List Rule) → List Change → Type 0
ArePreparedFor net mixes tables changes = IsRoundOf net mixes (one_round_of net tables changes) 0

-- while the changes are made the set has each switch that mixed walks of the class come to
abbrev pub HoldsClass : Network → List (List Rule) → List Change → Class → ℕ → Type 0
HoldsClass net tables changes class set = HoldsWalks (one_round_of net tables changes) 0 class set

-- so it is, and some evidence keeps the class safe
pub record IsKeptSafe (to : Target) (tables : List (List Rule)) (changes : List Change) (class : Class) (set : ℕ) : Type 0 where
  pub safe : IsSafeByEvidence to.net to.demands tables changes class
  pub held : HoldsClass to.net tables changes class set

-- so it is with each class
pub record AreKept (to : Target) (tables : List (List Rule)) (changes : List Change) (came : List ℕ) : Type 0 where
  pub count : length came ≡ class_count to.classes
  pub each : (n : ℕ) (class : Class) → IsClass to.classes n class → IsKeptSafe to tables changes class (marks_at came n)

-- no evidence keeps one of the classes safe while the changes are made
pub record HasUnsafe (to : Target) (tables : List (List Rule)) (changes : List Change) : Type 0 where
  pub number : ℕ
  pub class : Class
  pub is_class : IsClass to.classes number class
  pub never : ¬ IsSafeByEvidence to.net to.demands tables changes class

-- whether two changes are the same
abbrev pub change_eq : Change → Change → Bool
change_eq (Insert s r) (Insert t q) = s.0 == t.0 && rule_eq r q
change_eq (Delete s r) (Delete t q) = s.0 == t.0 && rule_eq r q
change_eq (Replace s r) (Replace t q) = s.0 == t.0 && rule_eq r q
change_eq _ _ = false

-- no evidence keeps the class of the failure safe while the changes are made, and its set has each switch that mixed walks come to
pub record IsFailing (to : Target) (tables : List (List Rule)) (changes : List Change) (f : Failure) : Type 0 where
  pub number : ℕ
  pub is_class : IsClass to.classes number f.class
  pub never : ¬ IsSafeByEvidence to.net to.demands tables changes f.class
  pub held : HoldsClass to.net tables changes f.class f.visited

-- so it is, and the failure is one of this change
abbrev pub IsFailureOf : Target → List (List Rule) → List Change → Change → Failure → Type 0
IsFailureOf to tables changes c f = (f.change ≡ c) × IsFailing to tables changes f

-- the failures whose class no change of the round meets
abbrev pub unmet_failures : List Change → List Failure → List Failure
unmet_failures round failures = filter (λ f. not (meets_any round f.class f.visited)) failures

-- the set of each class is as it was, or has the switches that its mixed walks come to while the changes are made
pub record AreWatched (to : Target) (tables : List (List Rule)) (changes : List Change) (old new : List ℕ) : Type 0 where
  pub count : length new ≡ length old
  pub each : (n : ℕ) (class : Class) → IsClass to.classes n class → (marks_at new n ≡ marks_at old n) ⊎ HoldsClass to.net tables changes class (marks_at new n)

-- whether the class enters at the change's own switch
abbrev pub enters_at : Change → Class → Bool
enters_at c class = class.entry.switch.0 == (switch_of c).0

-- what is told of the class with a number, if it enters at the change's own switch or if it doesn't: it is kept, or the change fails
abbrev pub IsTold : Target → List (List Rule) → List Change → Change → Bool → ℕ → List ℕ → Option Failure → Type 0
IsTold to tables changes c own n came None = (class : Class) → IsClass to.classes n class → enters_at c class ≡ own → IsKeptSafe to tables changes class (marks_at came n)
IsTold to tables changes c own n came (Some f) = IsFailureOf to tables changes c f

-- so of all classes
abbrev pub AreTold : Target → List (List Rule) → List Change → Change → Bool → List ℕ → Option Failure → Type 0
AreTold to tables changes c own came None = (n : ℕ) → IsTold to tables changes c own n came None
AreTold to tables changes c own came (Some f) = IsFailureOf to tables changes c f

-- what is found for all classes: they are kept, or one is not safe
abbrev pub AreJudged : Target → List (List Rule) → List Change → List ℕ → Bool → Type 0
AreJudged to tables changes came true = AreKept to tables changes came
AreJudged to tables changes came false = HasUnsafe to tables changes

-- what is found beside a change: all classes are kept, or the change fails
abbrev pub AreJudgedBeside : Target → List (List Rule) → List Change → Change → List ℕ → Option Failure → Type 0
AreJudgedBeside to tables changes c came None = AreKept to tables changes came
AreJudgedBeside to tables changes c came (Some f) = IsFailureOf to tables changes c f
