use Rattle.std.proofs.Common.{◌≡◌, arith}
use Rattle.topology.specs.Networks.{switch_count}
use Rattle.flow_rules.specs.Tables.{rules_of_all, rules_at}
use Rattle.two_phase.specs.SwitchRules.{band_rules}
use Rattle.two_phase.specs.TwoPhasePlan.{in_key_order}
use Rattle.two_phase.proofs.MadeLaws.{band_table}
use Rattle.two_phase.proofs.SwitchLaws.{list_pushed, all_ordered, ordered_count}
use Rattle.two_phase.proofs.ranks.make_band.Goals as goal

pub loop-number-preserved : goal.loop-number-preserved
loop-number-preserved c =
    list_pushed (λ s. in_key_order (band_rules c.args.band c.args.net.now s (rules_at (rules_of_all c.args.new.now) s))) c.loop-number.number c.loop-number.all c.push.new.self c.in_ok-band_at.field-0.items
    c.loop-number.invariant c.in_ok-band_at.ensures c.in_ok-push.ensures

pub returns-clause-ordered : goal.returns-clause-ordered
returns-clause-ordered c =
    let e : c.loop-number.number ≡ switch_count c.args.net.now = omega (arith, c.switches-number-end.ensures.value) in
    all_ordered c.args.net.now (λ s. band_rules c.args.band c.args.net.now s (rules_at (rules_of_all c.args.new.now) s))
    (λ s. band_table c.args.net.now c.keeps_rules.ensures c.requires.enough (rules_of_all c.args.new.now) c.requires.new s c.args.band) c.loop-number.all c.loop-number.number e c.loop-number.invariant

pub returns-clause-count : goal.returns-clause-count
returns-clause-count c = ordered_count c.args.net.now (λ s. band_rules c.args.band c.args.net.now s (rules_at (rules_of_all c.args.new.now) s)) c.loop-number.all (returns-clause-ordered c)
