-- Marked rules of which no two clash.
use Rattle.std.specs.Prelude.{◌≡◌, ◌==◌, ◌&&◌, ◌||◌, not, Bool, List}
use Rattle.net_base.specs.Members.{IsIn, IsDistinct}
use Rattle.flow_rules.specs.Overlaps.{IsClash, keys_clash}
use Rattle.flow_rules.specs.Tables.{keys_of}
use Rattle.flow_rules.specs.Tuples.{are_alike}
use Rattle.round_mix.specs.Marks.{rules_of}
use Rattle.round_mix.specs.declared.MarkedRule.{MarkedRule}

-- no key stands twice, and only a marked rule itself clashes with it
pub record AreApart (marks : List MarkedRule) : Type 0 where
  pub distinct : IsDistinct (keys_of (rules_of marks))
  pub alone : (m n : MarkedRule) → IsIn m marks → IsIn n marks → IsClash m.rule n.rule → m ≡ n

-- whether the second may follow the first in key order where no two rules clash: under one priority it tests the same
abbrev pub is_apart : MarkedRule → MarkedRule → Bool
is_apart m n = (not (m.rule.key.priority == n.rule.key.priority) || are_alike m.rule.key.pattern n.rule.key.pattern) && not (keys_clash m.rule.key n.rule.key)
