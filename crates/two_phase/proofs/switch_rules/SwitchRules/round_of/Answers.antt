use Rattle.std.proofs.Common.{◌≡◌, ◌<◌, ◌∙◌, ap, map, arith}
use Rattle.std.specs.Prelude.{◌==◌, filter, flat_map}
use Rattle.topology.specs.Networks.{switch_count}
use Rattle.two_phase.specs.TwoPhasePlan.{in_key_order}
use Rattle.two_phase.specs.SwitchRules.{change_by}
use Rattle.two_phase.proofs.SwitchLaws.{numbered, first_switches, changes_added, ordered_at}
use Rattle.two_phase.proofs.switch_rules.SwitchRules.round_of.Goals as goal

pub loop-number-preserved : goal.loop-number-preserved
loop-number-preserved c = λ rules o.
    let n = c.loop-number.number in
    let within : n < switch_count c.args.net.now = omega (arith, c.switches-number-end.ensures.value) in
    changes_added (λ s. map (change_by c.args.step s) (in_key_order (filter (λ r. r.key.priority == c.args.priority) (rules s)))) n c.loop-number.round.items c.add_changes.new.round.items
    (map (change_by c.args.step (numbered n)) c.of_priority.result.now) (c.loop-number.invariant rules o)
    (ap (map (change_by c.args.step (numbered n))) (c.of_priority.ensures (rules (numbered n)) (o.tables (numbered n)) (c.rules.ensures ∙ ordered_at c.args.net.now rules c.args.self.now o (numbered n) within)))
    c.in_ok-add_changes.ensures

pub returns : goal.returns
returns c = λ rules o.
    let e : c.loop-number.number ≡ switch_count c.args.net.now = omega (arith, c.switches-number-end.ensures.value) in
    c.loop-number.invariant rules o ∙ ap (λ n. flat_map (λ s. map (change_by c.args.step s) (in_key_order (filter (λ r. r.key.priority == c.args.priority) (rules s)))) (first_switches n)) e
