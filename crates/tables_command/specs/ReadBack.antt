-- What a text of tables means, by the words of those who read plans.
use Rattle.std.specs.Prelude.{◌≡◌, ◌==◌, ℕ, ◌≤◌, List, length, map, filter, Some, Ok, codes}
use Rattle.serde_json.specs.Data.{Data}
use Rattle.serde_json.specs.Find.{get}
use Rattle.net_base.specs.declared.field.Field.TheVariants as field
use Rattle.net_base.specs.declared.ids.SwitchId.{SwitchId}
use Rattle.flat_json.specs.JsonTree.{tree_in}
use Rattle.topology.specs.Networks.{Network}
use Rattle.flow_rules.specs.Tables.{rules_at}
use Rattle.flow_rules.specs.declared.rules.Rule.{Rule}
use Rattle.update_model.specs.declared.Change.{Change}
use Rattle.plan_format.specs.Changes.{rules_in, round_in}
use Rattle.plan_format.specs.declared.changes.Spelling.TheVariants.{Objects}
use Rattle.plan_format.specs.declared.rules.PlanRule.{PlanRule}

-- the rules of one switch among rules at switches, in their order
abbrev pub rules_of_switch : SwitchId → List PlanRule → List Rule
rules_of_switch s rules = map (λ p. p.rule) (filter (λ p. p.switch.0 == s.0) rules)

-- the text is JSON, which is read as these rules at switches and these changes: its member `rules` as the rules of a plan of format 2,
-- where they are no more than such a plan may have, and its member `pending` as a round of a plan of format 1
pub record MeansTables (net : Network) (text : List ℕ) (rules : List PlanRule) (pending : List Change) : Type 0 where
  pub top : Data
  pub tree : tree_in text ≡ Some top
  pub rules_are : length rules ≤ 2200000 → rules_in net top ≡ Ok rules
  pub round : Data
  pub at : get (codes "pending") top ≡ Some round
  pub pending_are : round_in net Objects field.Rounds 0 0 round ≡ Ok pending

-- the text means the rules of each table, in their order, and no other rules, and these changes
pub record IsReadAsTables (net : Network) (tables : List (List Rule)) (pending : List Change) (text : List ℕ) : Type 0 where
  pub rules : List PlanRule
  pub means : MeansTables net text rules pending
  pub tables_are : (s : SwitchId) → rules_of_switch s rules ≡ rules_at tables s
