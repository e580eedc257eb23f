use Rattle.std.proofs.Common.{◌≡◌, ◌+◌, take, length, sum_by, cond, sym, ap, ◌∙◌, arith}
use Rattle.std.specs.Prelude.{count_by}
use Rattle.std.proofs.lemmas.List.{take_all}
use Rattle.flow_rules.specs.Patterns.{admits_vlan}
use Rattle.two_phase.specs.TwoPhasePlan.{is_host_bound}
use Rattle.two_phase.proofs.CountedLaws.{tagged_count}
use Rattle.two_phase.proofs.needs.count_tagged.Goals as goal

pub returns-clause-value : goal.returns-clause-value
returns-clause-value c =
    let net = c.args.net.now in
    let rules = c.args.rules.now in
    let all : take c.loop-rule.rule-index rules ≡ rules = take_all c.loop-rule.rule-index rules (omega arith) in
    c.loop-rule.invariant.sum
    ∙ ap (λ rs. length net.vlans + sum_by (λ r. cond (is_host_bound net c.args.s r) 0 (count_by (admits_vlan r.key.pattern.vlan) net.vlans)) rs) all
    ∙ sym (tagged_count net c.args.s rules)
