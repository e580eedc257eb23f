use Rattle.std.proofs.Common.{sym, subst}
use Rattle.std.proofs.lemmas.List.{nil_from_length}
use Rattle.table_difference.specs.Steps.{IsStep}
use Rattle.table_difference.proofs.StepLaws.{step_last_now, step_last_new, step_less, step_equal, step_greater}
use Rattle.table_difference.proofs.merging.next_step.Goals as goal

pub returns-in-None-Some-clause-some : goal.returns-in-None-Some-clause-some
returns-in-None-Some-clause-some c =
    step_last_new c.args.switch c.in-None-Some.rule.now c.in-None-Some.rest.now c.args.now.now c.args.new.now (nil_from_length c.args.now.now c.in-None-Some.ensures.cases)
    c.in-None-Some.ensures'.cases.0 c.requires.new

pub returns-in-Some-None-clause-some : goal.returns-in-Some-None-clause-some
returns-in-Some-None-clause-some c =
    step_last_now c.args.switch c.in-Some-None.old.now c.in-Some-None.rest.now c.args.now.now c.args.new.now c.in-Some-None.ensures.cases.0
    (nil_from_length c.args.new.now c.in-Some-None.ensures'.cases) c.requires.now

pub returns-in-Less-clause-some : goal.returns-in-Less-clause-some
returns-in-Less-clause-some c =
    step_less c.args.switch c.in-Some-Some.old.now c.in-Some-Some.rule.now c.in-Some-Some.now_rest.now c.in-Some-Some.new_rest.now c.args.now.now c.args.new.now
    c.in-Some-Some.ensures.cases.0 c.in-Some-Some.ensures'.cases.0 c.requires.now c.requires.new (sym c.in-Less.ensures)

pub returns-in-Equal-clause-some : goal.returns-in-Equal-clause-some
returns-in-Equal-clause-some c =
    subst (λ change. IsStep c.args.switch c.args.now.now c.args.new.now change c.in-Some-Some.now_rest.now c.in-Some-Some.new_rest.now) (sym c.replacement.ensures)
    (step_equal c.args.switch c.in-Some-Some.old.now c.in-Some-Some.rule.now c.in-Some-Some.now_rest.now c.in-Some-Some.new_rest.now c.args.now.now c.args.new.now
    c.in-Some-Some.ensures.cases.0 c.in-Some-Some.ensures'.cases.0 c.requires.now c.requires.new (sym c.in-Equal.ensures))

pub returns-in-Greater-clause-some : goal.returns-in-Greater-clause-some
returns-in-Greater-clause-some c =
    step_greater c.args.switch c.in-Some-Some.old.now c.in-Some-Some.rule.now c.in-Some-Some.now_rest.now c.in-Some-Some.new_rest.now c.args.now.now c.args.new.now
    c.in-Some-Some.ensures.cases.0 c.in-Some-Some.ensures'.cases.0 c.requires.now c.requires.new (sym c.in-Greater.ensures)
