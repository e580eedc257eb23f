-- The text of a configuration has no float, and isn't deep.
use Rattle.std.proofs.Common.{ℕ, suc, List, [], ◌∷◌, map, codes, get_or}
use Rattle.std.specs.List.{AllByRecursion}
use Rattle.serde_json.specs.Data.{Data, no_members, put}
use Rattle.net_base.specs.declared.ids.SwitchId.{SwitchId}
use Rattle.net_base.proofs.MemberLaws.{each_append}
use Rattle.topology.specs.Networks.{Network}
use Rattle.flow_rules.specs.declared.rules.Rule.{Rule}
use Rattle.config_files.specs.RuleTrees.{list_tree}
use Rattle.config_files.specs.ConfigText.{rule_members, rule_tree, rule_trees, config_tree}
use Rattle.config_files.proofs.Flat.{IsFlat, AreFlat, put_flat, put_some_flat, object_flat, list_flat, each_flat, in_port_flat, test_flat, fixed_flat}

module _ (net : Network) where
  rule_members_flat : (s : SwitchId) (r : Rule) → AreFlat 0 (rule_members net s r)
  unfolding rule_members
  rule_members_flat s r =
      put_some_flat 0 _ _ _ (test_flat r.key.pattern.vlan) (put_some_flat 0 _ _ _ (in_port_flat r.key.pattern.in_port) (fixed_flat (get_or net.names s.0 []) r))

  rule_flat : (s : SwitchId) (r : Rule) → IsFlat 1 (rule_tree net s r)
  rule_flat s r = object_flat 0 (rule_members net s r) (rule_members_flat s r)

  rules_flat : (s : ℕ) (tables : List (List Rule)) → AllByRecursion (IsFlat 1) (rule_trees net s tables)
  rules_flat s [] = tt
  rules_flat s (rules ∷ tables) =
      each_append (IsFlat 1) (map (rule_tree net (record { 0 = s })) rules) (rule_trees net (suc s) tables) (each_flat 1 (rule_tree net (record { 0 = s })) rules (rule_flat (record { 0 = s }))) (rules_flat (suc s) tables)

  pub config_flat : (tables : List (List Rule)) → IsFlat 3 (config_tree net tables)
  config_flat tables =
      let trees : Data = list_tree (rule_trees net 0 tables) in
      object_flat 2 (put (codes "rules") trees no_members) (put_flat 2 (codes "rules") trees no_members (list_flat 1 (rule_trees net 0 tables) (rules_flat 0 tables)) tt)
