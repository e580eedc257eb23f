use Rattle.std.proofs.Common.{◌≡◌, take}
use Rattle.flow_rules.specs.Tables.{matched_rule}
use Rattle.flow_rules.proofs.searches.best_of.Given as goal

abbrev pub invariant-loop-rule : goal.invariant-loop-rule
invariant-loop-rule l = l.best ≡ matched_rule (record { port = l.packet.port; vlan = l.packet.vlan; dst = l.packet.dst }) (take l.rule-index l.rules)
