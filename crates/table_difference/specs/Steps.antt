-- A step along two lists of rules in key order.
use Rattle.std.specs.Prelude.{◌≡◌, ◌+◌, ◌<◌, List, length, Option}
use Rattle.std.specs.List.{cons_option}
use Rattle.net_base.specs.declared.ids.SwitchId.{SwitchId}
use Rattle.flow_rules.specs.declared.rules.Rule.{Rule}
use Rattle.update_model.specs.Remaining.{changes_between}
use Rattle.update_model.specs.declared.Change.{Change}
use Rattle.table_difference.specs.KeyOrder.{AreAscending}

-- the change, if there is one, comes first among the changes between the lists, and those between what is left come then
pub record IsStep (s : SwitchId) (now new : List Rule) (change : Option Change) (now_left new_left : List Rule) : Type 0 where
  pub made : changes_between s now new ≡ cons_option change (changes_between s now_left new_left)
  pub now_order : AreAscending now_left
  pub new_order : AreAscending new_left
  pub shorter : length now_left + length new_left < length now + length new
