use Rattle.std.proofs.Common.{◌≡◌, ◌<◌, false, sym, ◌∙◌, ap, inl, inr, subst, arith}
use Rattle.std.specs.Prelude.{Some, drop, slice_get, take}
use Rattle.std.specs.List.{AllByRecursion}
use Rattle.std.proofs.lemmas.Bool.{cases_lt}
use Rattle.flow_rules.specs.declared.rules.Rule.{Rule}
use Rattle.round_mix.specs.Named.{names, with_mark}
use Rattle.round_mix.specs.declared.Mark.{Mark}
use Rattle.round_mix.specs.declared.Mark.TheVariants.{Sure}
use Rattle.round_mix.specs.declared.MarkedRule.{MarkedRule}
use Rattle.round_mix.proofs.BackLaws.{unnamed_between}
use Rattle.round_mix.proofs.NamedLaws.{mark_at}
use Rattle.round_mix.proofs.named.seek.Goals as goal

pub returns-then-is_named-clause-found : goal.returns-then-is_named-clause-found
returns-then-is_named-clause-found c =
    let m = c.index-marks-i.result in
    record {
      rule = m.rule;
      at = mark_at c.args.marks.now c.loop-i.i m (omega (arith, c.loop-i-test.true, c.end_of-to.ensures.within)) c.index-marks-i.is ∙ ap (λ (k : Mark). Some (with_mark m.rule k)) (c.is_named.ensures.sure c.if-is_named.true);
      named = c.is_named.ensures.named c.if-is_named.true;
    }

pub loop-i-preserved : goal.loop-i-preserved
loop-i-preserved c j m past before at sure =
    let i = c.loop-i.i in
    let marks = c.args.marks.now in
    elim (cases_lt j i) [
      | inl early ↦ c.loop-i.invariant j m past early at sure
      | inr late ↦ (
          let e : j ≡ i = omega arith in
          let found = mark_at marks i c.index-marks-i.result (omega (arith, c.loop-i-test.true, c.end_of-to.ensures.within)) c.index-marks-i.is in
          let here : Some c.index-marks-i.result ≡ Some m = sym found ∙ ap (slice_get marks) (sym e) ∙ at in
          let is : c.index-marks-i.result ≡ m = cc in
          subst (λ (x : MarkedRule). names c.args.change.now x.rule ≡ false) is (c.is_named.ensures.both c.if-is_named.false (subst (λ (x : MarkedRule). x.mark ≡ Sure) (sym is) sure)))
    ]

pub returns-clause-none : goal.returns-clause-none
returns-clause-none c =
    let marks = c.args.marks.now in
    let from = c.first_of-from.result in
    let to = c.end_of-to.result in
    unnamed_between c.args.change.now marks from to
    (subst (λ (r : Rule). AllByRecursion (λ (m : MarkedRule). r.key.priority < m.rule.key.priority) (take from marks)) c.rule-priority.ensures c.first_of-from.ensures.before)
    (subst (λ (r : Rule). AllByRecursion (λ (m : MarkedRule). m.rule.key.priority < r.key.priority) (drop to marks)) c.rule-priority.ensures c.end_of-to.ensures.behind)
    (λ i m past below at sure. c.loop-i.invariant i m past (omega (arith, c.loop-i-test.false)) at sure)
