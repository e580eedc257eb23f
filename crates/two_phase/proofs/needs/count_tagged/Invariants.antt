use Rattle.std.proofs.Common.{◌≡◌, ◌+◌, ◌*◌, ◌≤◌, cond, length, take, sum_by}
use Rattle.std.specs.Prelude.{count_by}
use Rattle.flow_rules.specs.Patterns.{admits_vlan}
use Rattle.two_phase.specs.TwoPhasePlan.{is_host_bound}
use Rattle.two_phase.proofs.needs.count_tagged.Given as goal

abbrev pub invariant-loop-rule : goal.invariant-loop-rule
invariant-loop-rule l = record {
  sum : l.count ≡ length l.net.vlans + sum_by (λ r. cond (is_host_bound l.net l.s r) 0 (count_by (admits_vlan r.key.pattern.vlan) l.net.vlans)) (take l.rule-index l.rules);
  few : l.count ≤ 64 + 64 * l.rule-index;
}
