-- Why a change doesn't qualify, and what that rests on.
use Rattle.std.specs.Prelude.{◌≡◌, ◌<◌, ◌≤◌, List, [], ◌∷◌, length, map, IsTrue, IfSome}
use Rattle.std.specs.List.{AllByRecursion}
use Rattle.net_base.specs.declared.ids.SwitchId.{SwitchId}
use Rattle.net_base.specs.declared.ids.Place.{Place}
use Rattle.topology.specs.Networks.{Network, switch_count, capacity_of}
use Rattle.flow_rules.specs.Tables.{IsClear, rules_at}
use Rattle.flow_rules.specs.declared.rules.Rule.{Rule}
use Rattle.dest_classes.specs.Classes.{IsClass}
use Rattle.dest_classes.specs.declared.Class.{Class}
use Rattle.update_model.specs.Changes.{switch_of, rule_of}
use Rattle.update_model.specs.Mixtures.{IsMixture, IsOnMixedWalk, entries_needed}
use Rattle.update_model.specs.Remaining.{remaining_changes}
use Rattle.update_model.specs.declared.Change.{Change}
use Rattle.certificates.specs.Certified.{KeepsVlan}
use Rattle.check_reasons.specs.Touched.{may_cover}
use Rattle.mixed_walks.specs.Walks.{TablesKeepVlans}
use Rattle.class_watch.specs.Walks.{HoldsWalks, meets}
use Rattle.round_tables.specs.Trials.{single}
use Rattle.round_planner.specs.declared.failing.Failure.{Failure}
use Rattle.round_planner.specs.declared.failing.Failure.TheVariants as failure
use Rattle.table_difference.specs.Targets.{Target}
use Rattle.round_judge.specs.declared.unsafe_class.UnsafeClass.{UnsafeClass}
use Rattle.round_planner.specs.declared.left.RemainingChange.{RemainingChange}
use Rattle.round_planner.specs.Search.{CanBeSafe}

-- ---- what a failure is

-- each mixture of the change and its table is clear, and the entries that are needed are within the switch's capacity
pub record HasRoomThere (net : Network) (tables : List (List Rule)) (c : Change) : Type 0 where
  pub clear : (mixed : List Rule) → IsMixture (rules_at tables (switch_of c)) (c ∷ []) mixed → IsClear mixed
  pub fits : (switch_of c).0 < switch_count net → entries_needed (rules_at tables (switch_of c)) (c ∷ []) ≤ capacity_of net (switch_of c)

-- while the change is made no evidence keeps the class safe, and each switch that its mixed walks come to is known
pub record IsUnsafeClass (to : Target) (tables : List (List Rule)) (c : Change) (f : UnsafeClass) : Type 0 where
  pub is_class : IsClass to.classes f.number f.class
  pub never : ¬ CanBeSafe to tables c f.class
  pub visits : HoldsWalks (single to.net tables c) 0 f.class f.visited

-- why the change doesn't qualify: it has no room in its table, or a class is not safe by any evidence
abbrev pub IsFailure : Target → List (List Rule) → Change → Failure → Type 0
IsFailure to tables c failure.Table = ¬ HasRoomThere to.net tables c
IsFailure to tables c (failure.Class f) = IsUnsafeClass to tables c f

-- ---- what it rests on

-- the change touches what a failure of a change at the switch rests on: its table, or the packets of the class where they come
abbrev pub IsTouched : SwitchId → Change → Failure → Type 0
IsTouched s d failure.Table = (switch_of d).0 ≡ s.0
IsTouched s d (failure.Class f) = IsTrue (meets d f.class f.visited)

-- while the change c is made no packet of the class comes to a switch where the change d covers it
abbrev pub IsApart : Target → List (List Rule) → Change → Class → Change → Type 0
IsApart to tables c class d =
    (place : Place) → IsOnMixedWalk (single to.net tables c) 0 class.first class.entry place
    → place.switch ≡ switch_of d → ¬ IsTrue (may_cover d class)

-- ---- the changes that remain

-- the failure of a change that remains stands, if there is one
abbrev pub HasStanding : Target → List (List Rule) → RemainingChange → Type 0
HasStanding to tables left = IfSome left.failure (λ f. IsFailure to tables left.change f)

-- neither the tables nor the change set or strip a tag, and there is the switch of the change
pub record IsOfUsers (tables : List (List Rule)) (left : RemainingChange) : Type 0 where
  pub rules : TablesKeepVlans tables
  pub change : KeepsVlan (rule_of left.change).action
  pub within : (switch_of left.change).0 < length tables

-- so for each of the changes that remain
abbrev pub AreOfUsers : List (List Rule) → List RemainingChange → Type 0
AreOfUsers tables left = AllByRecursion (IsOfUsers tables) left

-- these are the changes that remain, in order, and each failure stands
pub record AreLeft (to : Target) (tables : List (List Rule)) (left : List RemainingChange) : Type 0 where
  pub changes : map (λ (l : RemainingChange). l.change) left ≡ remaining_changes tables to.new
  pub standing : AllByRecursion (HasStanding to tables) left
