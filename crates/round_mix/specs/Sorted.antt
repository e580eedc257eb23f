-- The rules of a table and the inserted ones in some order, before any is marked.
use Rattle.std.specs.Prelude.{List, [], map, IsPermutation}
use Rattle.flow_rules.specs.declared.rules.Rule.{Rule}
use Rattle.update_model.specs.declared.Change.{Change}
use Rattle.round_mix.specs.Marks.{marked_rule, all_rules}
use Rattle.round_mix.specs.Order.{AreInKeyOrder}
use Rattle.round_mix.specs.declared.MarkedRule.{MarkedRule}

-- they stand in key order, and all are sure
pub record AreSorted (table : List Rule) (changes : List Change) (marks : List MarkedRule) : Type 0 where
  pub moved : IsPermutation (map (marked_rule []) (all_rules table changes)) marks
  pub order : AreInKeyOrder marks
