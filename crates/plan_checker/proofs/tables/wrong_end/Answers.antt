use Rattle.std.proofs.Common.{length, sym, ◌∙◌, ap}
use Rattle.std.proofs.lemmas.List.{length-map}
use Rattle.flow_rules.specs.Tables.{TableState}
use Rattle.check_reasons.specs.Cases.{CaseView}
use Rattle.plan_checker.proofs.LastLaws.{count_case, end_same, wrong_first}
use Rattle.plan_checker.proofs.tables.wrong_end.Goals as goal

pub first_difference-requires-clause-count : goal.first_difference-requires-clause-count
first_difference-requires-clause-count c =
    count_case c.args.case.now (length c.args.case.now.task.rounds) c.case.inside.net.now c.case.inside.old.now c.args.tables.now.tables c.requires.tables
    (ap (λ (v : CaseView). v.task.update.old) c.case.view_is) c.case.invariant.old_user
    ∙ sym c.case.invariant.new_user.count ∙ length-map c.case.inside.new.now (λ (t : TableState). t.rules)

pub returns-in-Some-clause-some : goal.returns-in-Some-clause-some
returns-in-Some-clause-some c =
    wrong_first c.args.case.now.task c.args.case.now.evidence c.args.tables.now.tables c.case.inside.new.now c.requires.tables
    (ap (λ (v : CaseView). v.task.update.new) c.case.view_is) c.in-Some.switch c.in-Some.ensures.some c.in-Some.ensures.below

pub returns-in-None-clause-none : goal.returns-in-None-clause-none
returns-in-None-clause-none c = λ s.
    end_same c.args.case.now.task c.args.case.now.evidence c.args.tables.now.tables c.case.inside.new.now c.requires.tables
    (ap (λ (v : CaseView). v.task.update.new) c.case.view_is) s (c.in-None.ensures.none s)
