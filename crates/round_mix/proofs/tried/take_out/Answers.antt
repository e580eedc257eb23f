use Rattle.std.proofs.Common.{◌<◌, ◌≤◌, List, length, take, drop, refl, subst, arith}
use Rattle.std.specs.List.{AllByRecursion}
use Rattle.round_mix.specs.declared.MarkedRule.{MarkedRule}
use Rattle.round_mix.proofs.OutLaws.{out_first, out_last, out_rising}
use Rattle.round_mix.proofs.tried.take_out.Goals as goal

pub loop-place-init : goal.loop-place-init
loop-place-init c =
    let k = c.args.key.now in
    let old = c.args.marks.now.items in
    let a = c.first_of-from.result in
    let b = c.end_of-to.result in
    let within = subst (λ (ms : List MarkedRule). a ≤ length ms) c.deref.ensures.value c.first_of-from.ensures.within in
    let above = subst (λ (ms : List MarkedRule). AllByRecursion (λ m. k.priority < m.rule.key.priority) (take a ms)) c.deref.ensures.value c.first_of-from.ensures.before in
    let at_most = subst (λ (ms : List MarkedRule). AllByRecursion (λ m. m.rule.key.priority ≤ k.priority) (drop a ms)) c.deref.ensures.value c.first_of-from.ensures.behind in
    let at_least = subst (λ (ms : List MarkedRule). AllByRecursion (λ m. k.priority ≤ m.rule.key.priority) (take b ms)) c.deref-2.ensures.value c.end_of-to.ensures.before in
    let below = subst (λ (ms : List MarkedRule). AllByRecursion (λ m. m.rule.key.priority < k.priority) (drop b ms)) c.deref-2.ensures.value c.end_of-to.ensures.behind in
    record {
      out = out_first k old a b within above at_most at_least below (subst (λ (ms : List MarkedRule). b ≤ length ms) c.deref-2.ensures.value c.end_of-to.ensures.within);
      low = out_rising k old a b within above at_most at_least below;
      room = refl;
    }

pub returns-clause-items : goal.returns-clause-items
returns-clause-items c =
    let k = c.args.key.now in
    let old = c.args.marks.now.items in
    let a = c.first_of-from.result in
    let b = c.end_of-to.result in
    let within = subst (λ (ms : List MarkedRule). a ≤ length ms) c.deref.ensures.value c.first_of-from.ensures.within in
    let above = subst (λ (ms : List MarkedRule). AllByRecursion (λ m. k.priority < m.rule.key.priority) (take a ms)) c.deref.ensures.value c.first_of-from.ensures.before in
    let at_most = subst (λ (ms : List MarkedRule). AllByRecursion (λ m. m.rule.key.priority ≤ k.priority) (drop a ms)) c.deref.ensures.value c.first_of-from.ensures.behind in
    let at_least = subst (λ (ms : List MarkedRule). AllByRecursion (λ m. k.priority ≤ m.rule.key.priority) (take b ms)) c.deref-2.ensures.value c.end_of-to.ensures.before in
    let below = subst (λ (ms : List MarkedRule). AllByRecursion (λ m. m.rule.key.priority < k.priority) (drop b ms)) c.deref-2.ensures.value c.end_of-to.ensures.behind in
    let low = c.loop-place.invariant.low in
    let high = c.loop-place-test.false in
    out_last k old a b within above at_most at_least below c.loop-place.place c.loop-place.marks.items (omega arith) c.loop-place.invariant.out
