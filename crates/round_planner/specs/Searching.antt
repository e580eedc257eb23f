-- What a search is for, and where it is.
use Rattle.std.specs.Prelude.{◌≡◌, ℕ, ◌≤◌, Bool, true, false, List, [], ◌∷◌, ◌++◌, length, Option, Some, None}
use Rattle.std.specs.List.{AllByRecursion}
use Rattle.flow_rules.specs.Tables.{rules_of_all}
use Rattle.flow_rules.specs.declared.rules.Rule.{Rule}
use Rattle.dest_classes.specs.Classes.{class_count}
use Rattle.update_model.specs.Changes.{tables_after}
use Rattle.update_model.specs.Remaining.{remaining_changes}
use Rattle.update_model.specs.declared.Change.{Change}
use Rattle.certificates.specs.declared.Evidence.TheVariants as evidence
use Rattle.certificates.specs.declared.OrderedEvidence.{OrderedEvidence}
use Rattle.evidence_store.specs.State.{StoreState}
use Rattle.evidence_store.specs.Stored.{IsStored}
use Rattle.round_tables.specs.PreparedTables.{PreparedState}
use Rattle.round_tables.specs.Trials.{IsBetweenTrials, IsTrying}
use Rattle.round_planner.specs.declared.Ordered.{Ordered}
use Rattle.round_planner.specs.declared.Ordered.TheVariants.{Rounds, Stuck}
use Rattle.round_planner.specs.declared.failing.Failure.{Failure}
use Rattle.round_planner.specs.declared.left.RemainingChange.{RemainingChange}
use Rattle.round_planner.specs.Failures.{IsFailure, AreLeft}
use Rattle.table_difference.specs.Targets.{Target}
use Rattle.round_judge.specs.Goals.{HasAtoms}
use Rattle.round_judge.specs.Visits.{HoldTables}
use Rattle.round_planner.specs.Search.{single_rounds, Qualifies, IsFirstQualifying, EndsOrdered, EndsStuck}
use Rattle.round_planner.specs.Standing.{Stands}

-- the tables with what is prepared of them, the rounds, their evidence, for each class the switches that its packets come to,
-- and for each atom whether its classes are looked at
pub record SearchState : Type 0 where
  pub trial : PreparedState
  pub rounds : List (List Change)
  pub store : StoreState
  pub came : List ℕ
  pub looked : List Bool

-- the search has made these changes, each as a round of its own, and no change is tried
pub record IsAt (to : Target) (old : List (List Rule)) (changes : List Change) (s : SearchState) : Type 0 where
  pub rounds : s.rounds ≡ single_rounds changes
  pub tables : rules_of_all s.trial.tables ≡ tables_after changes old
  pub settled : IsBetweenTrials to.net s.trial
  pub stands : Stands to old changes s.store.evidence
  pub classes : s.store.classes ≡ class_count to.classes
  pub came : HoldTables to (tables_after changes old) s.came
  pub looked : HasAtoms to.classes s.looked

-- the search has made these changes, and one that remains is tried; where packets come to after it is known
pub record IsTryingAt (to : Target) (old : List (List Rule)) (changes : List Change) (c : Change) (s : SearchState) : Type 0 where
  pub rounds : s.rounds ≡ single_rounds changes
  pub tables : rules_of_all s.trial.tables ≡ tables_after changes old
  pub trying : IsTrying to.net c s.trial
  pub stands : Stands to old changes s.store.evidence
  pub classes : s.store.classes ≡ class_count to.classes
  pub came : HoldTables to (tables_after (changes ++ c ∷ []) old) s.came
  pub looked : HasAtoms to.classes s.looked

-- what trying a change leads to: it qualifies and, if it is the first that does, the search has made it;
-- or it fails and the search is where it was
abbrev pub IsTried : Target → List (List Rule) → List Change → Change → SearchState → Option Failure → Type 0
IsTried to old changes c s None =
    Qualifies to (tables_after changes old) c
    × (IsFirstQualifying to (tables_after changes old) (remaining_changes (tables_after changes old) to.new) c → IsAt to old (changes ++ c ∷ []) s)
IsTried to old changes c s (Some f) = IsFailure to (tables_after changes old) c f × IsAt to old changes s

-- the same of a change that remains: if it fails, why it does is kept with it
abbrev pub IsLeftTried : Target → List (List Rule) → List Change → RemainingChange → SearchState → Bool → Type 0
IsLeftTried to old changes one s true =
    Qualifies to (tables_after changes old) one.change
    × (IsFirstQualifying to (tables_after changes old) (remaining_changes (tables_after changes old) to.new) one.change → IsAt to old (changes ++ one.change ∷ []) s)
IsLeftTried to old changes one s false = (¬ Qualifies to (tables_after changes old) one.change) × IsAt to old changes s

-- one of those that remain was made, that at the place
pub record IsMadeAt (to : Target) (old : List (List Rule)) (changes : List Change) (s : SearchState) (left : List RemainingChange) (place : ℕ) : Type 0 where
  pub front : List RemainingChange
  pub one : RemainingChange
  pub back : List RemainingChange
  pub are : left ≡ front ++ one ∷ back
  pub at_place : length front ≡ place
  pub at : IsAt to old (changes ++ one.change ∷ []) s

-- none of the changes that remain qualifies
abbrev pub NoneQualifies : Target → List (List Rule) → Type 0
NoneQualifies to tables = AllByRecursion (λ d. ¬ Qualifies to tables d) (remaining_changes tables to.new)

-- what going through the remaining changes leads to: the search has made the one at a place, or none of them qualifies
abbrev pub IsPlaced : Target → List (List Rule) → List Change → SearchState → List RemainingChange → Option ℕ → Type 0
IsPlaced to old changes s left (Some place) = IsMadeAt to old changes s left place
IsPlaced to old changes s left None = NoneQualifies to (tables_after changes old) × IsAt to old changes s

-- what one step of the search leads to: it has made one change more, and these remain then, or none that remains qualifies
abbrev pub IsMoved : Target → List (List Rule) → List Change → SearchState → List RemainingChange → Bool → Type 0
IsMoved to old changes s left true = (c : Change) × IsAt to old (changes ++ c ∷ []) s × AreLeft to (tables_after (changes ++ c ∷ []) old) left
IsMoved to old changes s left false = NoneQualifies to (tables_after changes old) × IsAt to old changes s

-- where the search ends: ordered, as no change remains, or stuck, as none of those that remain qualifies
abbrev pub IsEnded : Target → List (List Rule) → SearchState → Bool → Type 0
IsEnded to old s true = (changes : List Change) × IsAt to old changes s × EndsOrdered to old changes
IsEnded to old s false = (changes : List Change) × IsAt to old changes s × EndsStuck to old changes

-- the plan of these rounds and this evidence where no change remains, otherwise the rounds
abbrev pub answer_of : List (List Change) → OrderedEvidence → Bool → Ordered
answer_of rounds stored true = Rounds (record { rounds = rounds; evidence = evidence.Ordered stored })
answer_of rounds stored false = Stuck rounds

-- the answer of a search that has ended: the plan where no change remains, the rounds where it is stuck
abbrev pub answer_by : SearchState → Bool → Ordered
answer_by s none_remains = answer_of s.rounds s.store.evidence none_remains

-- a search that has ended has this answer, with evidence in which nothing stands twice
pub record IsAnswered (to : Target) (old : List (List Rule)) (answer : Ordered) : Type 0 where
  pub search : SearchState
  pub none_remains : Bool
  pub ended : IsEnded to old search none_remains
  pub stored : IsStored search.store.evidence
  pub few : class_count to.classes ≤ 8192
  pub answer_is : answer ≡ answer_by search none_remains
