-- The text of tables, also in the middle of a round.
use Rattle.std.specs.Prelude.{List, ℕ, [], ◌∷◌, ◌++◌, map, codes}
use Rattle.serde_json.specs.Data.{Data, object, no_members, put}
use Rattle.serde_json.specs.Written.{compact_text}
use Rattle.topology.specs.Networks.{Network}
use Rattle.config_files.specs.RuleTrees.{list_tree}
use Rattle.update_model.specs.declared.Change.{Change}
use Rattle.plan_format.specs.declared.rules.PlanRule.{PlanRule}
use Rattle.plan_text.specs.PlanText.{rule_tree, round_tree}

-- the rules that stand in tables, each at its switch, and the changes of a running round that aren't made yet
abbrev pub tables_tree : Network → List PlanRule → List Change → Data
tables_tree net rules pending =
    object (put (codes "pending") (round_tree net pending)
    (put (codes "rules") (list_tree (map (rule_tree net) rules)) no_members))

-- the compact text of them, with one line end
abbrev pub tables_text : Network → List PlanRule → List Change → List ℕ
tables_text net rules pending = compact_text (tables_tree net rules pending) ++ 10 ∷ []
