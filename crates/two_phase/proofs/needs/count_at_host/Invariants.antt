use Rattle.std.proofs.Common.{◌≡◌, ◌*◌, ◌≤◌, cond, take, sum_by}
use Rattle.std.specs.Prelude.{count_by}
use Rattle.flow_rules.specs.Patterns.{admits_port, admits_vlan}
use Rattle.two_phase.proofs.needs.count_at_host.Given as goal

abbrev pub invariant-loop-rule : goal.invariant-loop-rule
invariant-loop-rule l = record {
  sum : l.count ≡ sum_by (λ r. cond (admits_port r.key.pattern.in_port l.host) (count_by (admits_vlan r.key.pattern.vlan) l.net.vlans) 0) (take l.rule-index l.rules);
  few : l.count ≤ 64 * l.rule-index;
}
