use Rattle.std.proofs.Common.{◌∙◌, sym, subst, ap}
use Rattle.flow_rules.specs.Tables.{IsTable, rules_of_all}
use Rattle.two_phase.specs.SwitchRules.{band_rules_by}
use Rattle.two_phase.specs.TwoPhasePlan.{in_key_order}
use Rattle.two_phase.proofs.MadeLaws.{band_table, band_made}
use Rattle.two_phase.proofs.ranks.band_at.Goals as goal

pub put_in_key_order-requires : goal.put_in_key_order-requires
put_in_key_order-requires c =
    let made = band_made c.args.band c.args.net.now c.args.tags.now c.requires.tags c.args.new.now c.args.s c.table-table.result.now c.table-table.ensures c.in_ok-rules.rules.items
    (c.in_ok-rules.ensures ∙ ap (band_rules_by c.args.band c.args.tags.now c.args.net.now c.args.s) c.rules.ensures.value) in
    subst IsTable (sym made) (band_table c.args.net.now c.keeps_rules.ensures c.requires.enough (rules_of_all c.args.new.now) c.requires.new c.args.s c.args.band)

pub returns : goal.returns
returns c =
    c.put_in_key_order.ensures
    ∙ ap in_key_order (band_made c.args.band c.args.net.now c.args.tags.now c.requires.tags c.args.new.now c.args.s c.table-table.result.now c.table-table.ensures c.in_ok-rules.rules.items
    (c.in_ok-rules.ensures ∙ ap (band_rules_by c.args.band c.args.tags.now c.args.net.now c.args.s) c.rules.ensures.value))
