use Rattle.std.proofs.Common.{Option, ap, sym, subst, ◌∙◌}
use Rattle.std.specs.Prelude.{IfNone}
use Rattle.dest_classes.specs.declared.Class.{Class}
use Rattle.two_phase_check.specs.Agreements.{RoundView, KeepsVersions}
use Rattle.two_phase_check.specs.Judged.{KeepsVersionsAt}
use Rattle.two_phase_check.specs.declared.two_phase.MixedClass.{MixedClass}
use Rattle.two_phase_check.proofs.two_phase.judge_class.Goals as goal

pub returns-then-not-is_touched-clause-none : goal.returns-then-not-is_touched-clause-none
returns-then-not-is_touched-clause-none c = λ class is.
    c.requires.classes.stands (sym (ap (λ (v : RoundView). v.stands) c.round.view_is) ∙ c.if-round.true) c.args.number class is (sym (c.is_touched.ensures class is) ∙ c.if-not-is_touched.true)

pub least_mixed-requires-clause-old_good : goal.least_mixed-requires-clause-old_good
least_mixed-requires-clause-old_good c = c.requires.classes.old_good c.args.number c.class.result c.class.ensures.is

pub least_mixed-requires-clause-new_good : goal.least_mixed-requires-clause-new_good
least_mixed-requires-clause-new_good c = c.requires.classes.new_good c.args.number c.class.result c.class.ensures.is

pub returns-in_err-switch-clause-none : goal.returns-in_err-switch-clause-none
returns-in_err-switch-clause-none c =
    let round = c.args.round.now in
    subst (λ (o : Option MixedClass). IfNone o (KeepsVersionsAt round c.args.classes.now c.args.number)) (sym c.from_residual.ensures)
    (λ class is. subst (λ (x : Class). KeepsVersions round.task round.number x round.labels) (sym (c.class.ensures.only class is)) c.in_err-switch.ensures.none)

pub returns-clause-some : goal.returns-clause-some
returns-clause-some c = record { class = c.class.result; is_class = c.class.ensures.is; only = c.class.ensures.only; least = c.in_ok-switch.ensures.some }
