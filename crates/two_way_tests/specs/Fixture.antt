-- Two rounds over two switches, and those that take them back.
use Rattle.std.specs.Prelude.{ℕ, [], ◌∷◌, List, None}
use Rattle.net_base.specs.declared.ids.SwitchId.{SwitchId}
use Rattle.flow_rules.specs.declared.rules.Rule.{Rule}
use Rattle.flow_rules.specs.declared.rules.Action.TheVariants.{Out}
use Rattle.flow_rules.specs.declared.rules.Rewrite.TheVariants.{Keep}
use Rattle.flow_rules.specs.declared.rules.VlanTest.TheVariants.{Any}
use Rattle.update_model.specs.declared.Change.{Change}
use Rattle.update_model.specs.declared.Change.TheVariants.{Insert, Delete, Replace}

-- the rule of priority 100 for 10.0.0.0/24 that sends out of a port
abbrev pub rule_out : ℕ → Rule
rule_out port = record {
  key = record { priority = 100; pattern = record { in_port = None; vlan = Any; dst = record { base = 167772160; len = 24 } } };
  action = Out (record { 0 = port }) Keep;
}

abbrev pub switch : ℕ → SwitchId
switch n = record { 0 = n }

-- rules come to both switches; then that of the first sends back
abbrev pub two_rounds : List (List Change)
two_rounds = (Insert (switch 0) (rule_out 2) ∷ Insert (switch 1) (rule_out 1) ∷ []) ∷ (Replace (switch 0) (rule_out 1) ∷ []) ∷ []

abbrev pub two_inverses : List (List Change)
two_inverses = (Delete (switch 1) (rule_out 1) ∷ Delete (switch 0) (rule_out 2) ∷ []) ∷ (Replace (switch 0) (rule_out 2) ∷ []) ∷ []
