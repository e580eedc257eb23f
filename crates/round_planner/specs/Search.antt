-- The ordered search: again and again the first remaining change that is safe as a round of its own.
use Rattle.std.specs.Prelude.{◌≡◌, ◌≢◌, ℕ, List, [], ◌∷◌, ◌++◌, map}
use Rattle.std.specs.List.{AllByRecursion}
use Rattle.flow_rules.specs.declared.rules.Rule.{Rule}
use Rattle.dest_classes.specs.Classes.{IsClass}
use Rattle.dest_classes.specs.declared.Class.{Class}
use Rattle.update_model.specs.Changes.{tables_after_change, tables_after}
use Rattle.update_model.specs.Mixtures.{Rollout}
use Rattle.update_model.specs.Remaining.{remaining_changes}
use Rattle.update_model.specs.declared.Change.{Change}
use Rattle.certificates.specs.Ordered.{IsSafe}
use Rattle.certificates.specs.declared.OrderedEvidence.{OrderedEvidence}
use Rattle.round_tables.specs.Trials.{single, HasRoomAlone}
use Rattle.table_difference.specs.Targets.{Target}
use Rattle.round_judge.specs.Goals.{duties_in}
use Rattle.round_judge.specs.Evidence.{IsSearchEvidence}

-- some numbering and before sets keep the class safe while the change is made
pub record CanBeSafe (to : Target) (tables : List (List Rule)) (c : Change) (class : Class) : Type 0 where
  pub numbers : List ℕ
  pub sets : List (List ℕ)
  pub safe : IsSafe (single to.net tables c) 0 class.first class.entry (duties_in to class) numbers sets

-- a change qualifies: as a round of its own it is clear, within capacity, and some evidence keeps every class safe
pub record Qualifies (to : Target) (tables : List (List Rule)) (c : Change) : Type 0 where
  pub stands : HasRoomAlone to.net tables c
  pub safe : (n : ℕ) (class : Class) → IsClass to.classes n class → CanBeSafe to tables c class

-- the first of the changes that qualifies
pub record IsFirstQualifying (to : Target) (tables : List (List Rule)) (changes : List Change) (c : Change) : Type 0 where
  pub earlier : List Change
  pub later : List Change
  pub are : changes ≡ earlier ++ c ∷ later
  pub none_earlier : AllByRecursion (λ d. ¬ Qualifies to tables d) earlier
  pub qualifies : Qualifies to tables c

-- each change is the first of those that remain that qualifies
abbrev pub AreFirstQualifying : Target → List (List Rule) → List Change → Type 0
AreFirstQualifying to tables [] = Unit {0}
AreFirstQualifying to tables (c ∷ cs) = IsFirstQualifying to tables (remaining_changes tables to.new) c × AreFirstQualifying to (tables_after_change c tables) cs

-- the search ends ordered with these changes: none remains after them
pub record EndsOrdered (to : Target) (old : List (List Rule)) (changes : List Change) : Type 0 where
  pub found : AreFirstQualifying to old changes
  pub none_remains : remaining_changes (tables_after changes old) to.new ≡ []

-- the search ends stuck after these changes: some remain, and none of them qualifies
pub record EndsStuck (to : Target) (old : List (List Rule)) (changes : List Change) : Type 0 where
  pub found : AreFirstQualifying to old changes
  pub some_remain : remaining_changes (tables_after changes old) to.new ≢ []
  pub none_qualifies : AllByRecursion (λ d. ¬ Qualifies to (tables_after changes old) d) (remaining_changes (tables_after changes old) to.new)

-- each change as a round of its own
abbrev pub single_rounds : List Change → List (List Change)
single_rounds changes = map (λ c. c ∷ []) changes

-- the update by these changes, each as a round of its own
abbrev pub update_by : Target → List (List Rule) → List Change → Rollout
update_by to old changes = record { net = to.net; old = old; rounds = single_rounds changes }

-- the plan of the search: its changes, each as a round of its own, with the evidence of the search
pub record IsSearchPlan (to : Target) (old : List (List Rule)) (changes : List Change) (e : OrderedEvidence) : Type 0 where
  pub ends : EndsOrdered to old changes
  pub evidence : IsSearchEvidence to (update_by to old changes) e
