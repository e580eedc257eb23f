-- The tables of two lists at one switch.
use Rattle.std.specs.Prelude.{List}
use Rattle.net_base.specs.Members.{IsSameSet}
use Rattle.net_base.specs.declared.ids.SwitchId.{SwitchId}
use Rattle.flow_rules.specs.Tables.{TableState, rules_at, rules_of_all}

-- the two tables of a switch have the same rules
abbrev pub AreSameAt : List TableState → List TableState → SwitchId → Type 0
AreSameAt tables others s = IsSameSet (rules_at (rules_of_all tables) s) (rules_at (rules_of_all others) s)
