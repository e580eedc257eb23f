-- How far a round is filled, and how far rounds are packed.
use Rattle.std.specs.Prelude.{◌≡◌, ◌⊎◌, ℕ, ◌<◌, Bool, true, false, List, [], ◌∷◌, ◌++◌}
use Rattle.std.specs.List.{AllByRecursion}
use Rattle.net_base.specs.Members.{IsIn}
use Rattle.net_base.specs.declared.ids.SwitchId.{SwitchId}
use Rattle.topology.specs.Networks.{Network, switch_count}
use Rattle.flow_rules.specs.Tables.{rules_at, rules_of_all}
use Rattle.flow_rules.specs.declared.rules.Rule.{Rule}
use Rattle.update_model.specs.Changes.{switch_of, rule_of}
use Rattle.update_model.specs.declared.Change.{Change}
use Rattle.certificates.specs.Certified.{KeepsVlan}
use Rattle.mixed_walks.specs.Walks.{TablesKeepVlans}
use Rattle.table_difference.specs.Targets.{Target}
use Rattle.law_packed_rounds.specs.Packing.{CanStand, IsFilled, ArePacked, PacksOrdered, PacksStuck, tables_past}
use Rattle.round_tables.specs.PreparedTables.{PreparedState}
use Rattle.round_tables.specs.Filling.{AreTakenChanges}
use Rattle.round_judge.specs.Goals.{HasAtoms}
use Rattle.round_packer.specs.declared.failing.Failure.{Failure}
use Rattle.round_packer.specs.Kept.{AreKept, IsFailing}

-- a change at a switch of the network that neither sets nor strips a tag
pub record IsPlain (net : Network) (c : Change) : Type 0 where
  pub within : (switch_of c).0 < switch_count net
  pub keeps : KeepsVlan (rule_of c).action

-- the changes that are taken over the tables can be a round, and the switches that packets of each class come to then are known
pub record IsFilling (to : Target) (tables : List (List Rule)) (round : List Change) (trial : PreparedState) (came : List ℕ) (looked : List Bool) : Type 0 where
  pub taken : AreTakenChanges to.net trial
  pub tables_are : rules_of_all trial.tables ≡ tables
  pub round_is : trial.round ≡ round
  pub rules : TablesKeepVlans tables
  pub changes : AllByRecursion (λ c. KeepsVlan (rule_of c).action) round
  pub kept : AreKept to tables round came
  pub atoms : HasAtoms to.classes looked

-- the change of the failure keeps the VLANs, and failed for its class beside the first of the changes that are taken
pub record HasFailed (to : Target) (tables : List (List Rule)) (taken : List Change) (f : Failure) : Type 0 where
  pub early : List Change
  pub late : List Change
  pub are : taken ≡ early ++ late
  pub keeps : KeepsVlan (rule_of f.change).action
  pub failing : IsFailing to tables (early ++ f.change ∷ []) f

-- what trying a change beside the taken ones leads to: it is taken, or it can't stand beside them
abbrev pub IsTried : Target → List (List Rule) → List Change → Change → PreparedState → List ℕ → List Bool → Type 0
IsTried to tables round c trial came looked =
    (CanStand to tables (round ++ c ∷ []) × IsFilling to tables (round ++ c ∷ []) trial came looked)
    ⊎ ((¬ CanStand to tables (round ++ c ∷ [])) × IsFilling to tables round trial came looked)

-- what going through changes leads to: those that can stand beside the ones taken before are taken
pub record IsFilledBy (to : Target) (tables : List (List Rule)) (taken changes : List Change) (trial : PreparedState) (came : List ℕ) (looked : List Bool) : Type 0 where
  pub round : List Change
  pub filled : IsFilled (CanStand to tables) taken changes round
  pub filling : IsFilling to tables round trial came looked

-- each table has one rule of a key at most
abbrev pub AreUniqueAt : List (List Rule) → Type 0
AreUniqueAt tables = (s : SwitchId) (a b : Rule) → IsIn a (rules_at tables s) → IsIn b (rules_at tables s) → a.key ≡ b.key → a ≡ b

-- after these packed rounds no change is taken
pub record IsPackedTo (to : Target) (old : List (List Rule)) (rounds : List (List Change)) (trial : PreparedState) (came : List ℕ) (looked : List Bool) : Type 0 where
  pub packed : ArePacked to old rounds
  pub filling : IsFilling to (tables_past rounds old) [] trial came looked
  pub unique : AreUniqueAt (tables_past rounds old)

-- where packing ends: ordered or stuck
abbrev pub EndsAt : Target → List (List Rule) → List (List Change) → Bool → Type 0
EndsAt to old rounds true = PacksOrdered to old rounds
EndsAt to old rounds false = PacksStuck to old rounds
