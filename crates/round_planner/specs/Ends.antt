-- How the search of an update ends.
use Rattle.std.specs.Prelude.{◌≡◌, List}
use Rattle.flow_rules.specs.declared.rules.Rule.{Rule}
use Rattle.update_model.specs.declared.Change.{Change}
use Rattle.certificates.specs.declared.Evidence.TheVariants as kind
use Rattle.certificates.specs.declared.OrderedEvidence.{OrderedEvidence}
use Rattle.certificates.specs.declared.Plan.{Plan}
use Rattle.round_planner.specs.declared.Ordered.{Ordered}
use Rattle.round_planner.specs.declared.Ordered.TheVariants.{Rounds, Stuck}
use Rattle.table_difference.specs.Targets.{Target}
use Rattle.round_planner.specs.Search.{IsSearchPlan, EndsStuck, single_rounds}

-- the plan is that of a search which ended ordered
pub record IsPlanOf (to : Target) (old : List (List Rule)) (plan : Plan) : Type 0 where
  pub changes : List Change
  pub evidence : OrderedEvidence
  pub plan_is : plan ≡ record { rounds = single_rounds changes; evidence = kind.Ordered evidence }
  pub searched : IsSearchPlan to old changes evidence

-- the rounds are those of a search which ended stuck
pub record AreStuck (to : Target) (old : List (List Rule)) (rounds : List (List Change)) : Type 0 where
  pub changes : List Change
  pub rounds_are : rounds ≡ single_rounds changes
  pub ends : EndsStuck to old changes

-- the search plan exactly where the search ends ordered, its rounds where it ends stuck
abbrev pub IsSearched : Target → List (List Rule) → Ordered → Type 0
IsSearched to old (Rounds plan) = IsPlanOf to old plan
IsSearched to old (Stuck rounds) = AreStuck to old rounds

-- this holds of the plan, if there is one
abbrev pub OfPlan : (Plan → Type 0) → Ordered → Type 0
OfPlan P (Rounds plan) = P plan
OfPlan P (Stuck rounds) = Unit {0}

-- this holds of the rounds after which the search is stuck, if it is
abbrev pub OfStuck : (List (List Change) → Type 0) → Ordered → Type 0
OfStuck P (Rounds plan) = Unit {0}
OfStuck P (Stuck rounds) = P rounds

-- the search isn't stuck
abbrev pub IsNotStuck : Ordered → Type 0
IsNotStuck (Rounds plan) = Unit {0}
IsNotStuck (Stuck rounds) = ⊥
