use Rattle.std.proofs.Common.{◌≡◌, cond, get_or, ◌∙◌, ap, arith}
use Rattle.flow_rules.specs.Patterns.{key_eq}
use Rattle.round_mix.specs.Tried.{settled_mark}
use Rattle.round_mix.specs.declared.MarkedRule.{MarkedRule}
use Rattle.round_mix.proofs.PassLaws.{map_step, map_end}
use Rattle.round_mix.proofs.tried.settle_among.Goals as goal

pub loop-marked-preserved : goal.loop-marked-preserved
loop-marked-preserved c =
    let marks = c.loop-marked.marks in
    let i = c.loop-marked.marked-index in
    let old : MarkedRule = get_or marks i c.marked-item.result in
    let is : old ≡ get_or marks i old = ap (λ (m : MarkedRule). get_or marks i m) c.marked-item.is in
    map_step (λ (m : MarkedRule). cond (key_eq c.args.key.now m.rule.key) (settled_mark m) m) marks i old c.settle_where.new.self (omega (arith, c.loop-marked-test.true, c.loop-marked.auto.marks)) is c.settle_where.ensures ∙ c.loop-marked.invariant

pub returns : goal.returns
returns c =
    map_end (λ (m : MarkedRule). cond (key_eq c.args.key.now m.rule.key) (settled_mark m) m) c.loop-marked.marks c.loop-marked.marked-index (omega (arith, c.loop-marked-test.false, c.loop-marked.auto.marks))
    ∙ c.loop-marked.invariant
