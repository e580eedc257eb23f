use Rattle.std.proofs.Common.{◌≡◌, ◌<◌, ◌∙◌, ap, map, arith}
use Rattle.std.specs.Prelude.{◌==◌, filter, flat_map}
use Rattle.topology.specs.Networks.{switch_count}
use Rattle.two_phase.specs.TwoPhasePlan.{in_key_order}
use Rattle.two_phase.specs.SwitchRules.{change_by}
use Rattle.two_phase.specs.Depths.{depth_of}
use Rattle.two_phase.proofs.SwitchLaws.{numbered, first_switches, changes_added}
use Rattle.two_phase.proofs.DeepLaws.{deep_at, deep_listed, at_depth}
use Rattle.two_phase.proofs.deep_rules.DeepRules.round_at.Goals as goal

pub loop-number-preserved : goal.loop-number-preserved
loop-number-preserved c = λ rules o.
    let n = c.loop-number.number in
    let within : n < switch_count c.args.net.now = omega (arith, c.switches-number-end.ensures.value) in
    let change = change_by c.args.step (numbered n) in
    changes_added (λ s. map (change_by c.args.step s) (in_key_order (filter (λ r. depth_of (rules s) r == c.args.depth) (rules s)))) n c.loop-number.round.items c.add_changes_at.new.round.items
    (map (λ d. change d.rule) (deep_at c.args.depth c.rules.result.now)) (c.loop-number.invariant rules o)
    (ap (λ ds. map (λ d. change d.rule) (deep_at c.args.depth ds)) (c.rules.ensures ∙ deep_listed c.args.net.now rules c.args.self.now o (numbered n) within)
    ∙ at_depth (rules (numbered n)) (o.tables (numbered n)) change c.args.depth)
    c.in_ok-add_changes_at.ensures

pub returns : goal.returns
returns c = λ rules o.
    let e : c.loop-number.number ≡ switch_count c.args.net.now = omega (arith, c.switches-number-end.ensures.value) in
    c.loop-number.invariant rules o ∙ ap (λ n. flat_map (λ s. map (change_by c.args.step s) (in_key_order (filter (λ r. depth_of (rules s) r == c.args.depth) (rules s)))) (first_switches n)) e
