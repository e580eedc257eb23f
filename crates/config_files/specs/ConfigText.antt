-- The text of a configuration.
use Rattle.std.specs.Prelude.{ℕ, suc, List, [], ◌∷◌, ◌++◌, map, slice_index_or, codes}
use Rattle.serde_json.specs.Data.{Data, object, Members, no_members, put}
use Rattle.serde_json.specs.Written.{compact_text}
use Rattle.net_base.specs.declared.ids.SwitchId.{SwitchId}
use Rattle.topology.specs.Networks.{Network}
use Rattle.flow_rules.specs.declared.rules.Rule.{Rule}
use Rattle.config_files.specs.RuleTrees.{list_tree, put_some, in_port_tree, test_tree, fixed_members}

-- the members of a rule of a switch
unfoldable pub rule_members : Network → SwitchId → Rule → Members
rule_members net s r =
    put_some (codes "vlan") (test_tree r.key.pattern.vlan) (put_some (codes "in_port") (in_port_tree r.key.pattern.in_port)
    (fixed_members (slice_index_or net.names s.0 []) r))

-- a rule of a switch, as an object
abbrev pub rule_tree : Network → SwitchId → Rule → Data
rule_tree net s r = object (rule_members net s r)

-- the rules of all switches from this one on, by switch, and then in the order of its table
abbrev pub rule_trees : Network → ℕ → List (List Rule) → List Data
rule_trees net s [] = []
rule_trees net s (rules ∷ tables) = map (rule_tree net (record { 0 = s })) rules ++ rule_trees net (suc s) tables

-- the object of a configuration
abbrev pub config_tree : Network → List (List Rule) → Data
config_tree net tables = object (put (codes "rules") (list_tree (rule_trees net 0 tables)) no_members)

-- the compact text of a configuration, with one line end
abbrev pub config_text : Network → List (List Rule) → List ℕ
config_text net tables = compact_text (config_tree net tables) ++ 10 ∷ []
