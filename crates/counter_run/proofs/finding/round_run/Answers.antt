use Rattle.std.proofs.Common.{◌<◌, false, length, Some, sym, ◌∙◌, subst, ap, arith}
use Rattle.std.specs.Prelude.{Option, IfNone}
use Rattle.std.proofs.lemmas.Option.{slice_get-get_or}
use Rattle.dest_classes.specs.declared.Class.{Class}
use Rattle.dest_classes.proofs.MapLaws.{number_fits}
use Rattle.counter_run.specs.Showing.{shown_rollout}
use Rattle.counter_run.specs.Explaining.{ClassBreaks}
use Rattle.counter_run.proofs.ClassLaws.{class_enters, classes_more}
use Rattle.counter_run.proofs.finding.round_run.Goals as goal

pub loop-number-preserved-then-known : goal.loop-number-preserved-then-known
loop-number-preserved-then-known c =
    let n = c.loop-number.number in
    let less : n < length c.args.good.now = (let test = c.loop-number-test.true in let end = c.count-number-end.ensures.count in let count = c.requires.count in omega arith) in
    classes_more (shown_rollout c.args.stage) c.args.classes.now c.args.duties.now.demands c.args.stage.round.number n c.loop-number.invariant
    (λ class is. c.requires.good n class is (slice_get-get_or c.args.good.now n false less ∙ ap Some c.if-known.true))

pub class_run-requires-clause-entry : goal.class_run-requires-clause-entry
class_run-requires-clause-entry c = class_enters c.args.stage.round.net.now c.args.classes.now c.requires.hosts c.requires.vlans c.loop-number.number c.class-class.result c.class-class.ensures.is

pub loop-number-preserved : goal.loop-number-preserved
loop-number-preserved c =
    let u = shown_rollout c.args.stage in
    let demands = c.args.duties.now.demands in
    let k = c.args.stage.round.number in
    let found = c.class-class.result in
    let none = subst (λ (o : Option _). IfNone o (¬ ClassBreaks u demands k found)) c.in_default.is c.in_ok-events.ensures.none in
    classes_more u c.args.classes.now demands k c.loop-number.number c.loop-number.invariant (λ class is. subst (λ (x : Class). ¬ ClassBreaks u demands k x) (sym (c.class-class.ensures.only class is)) none)

pub returns-clause-none : goal.returns-clause-none
returns-clause-none c n class is =
    let fits = number_fits c.args.classes.now n class is in
    c.loop-number.invariant n class (let past = c.loop-number-test.false in let end = c.count-number-end.ensures.count in omega arith) is
