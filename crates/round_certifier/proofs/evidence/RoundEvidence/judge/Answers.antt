use Rattle.std.proofs.Common.{List, sym, ◌∙◌, ap, subst}
use Rattle.dest_classes.specs.Classes.{ClassList}
use Rattle.check_reasons.specs.AtomMarks.{AreTouched}
use Rattle.check_reasons.specs.Cases.{CaseView}
use Rattle.update_model.specs.Changes.{round_after}
use Rattle.update_model.specs.declared.Change.{Change}
use Rattle.table_difference.specs.Targets.{Target}
use Rattle.round_judge.specs.Goals.{HasAtoms}
use Rattle.round_judge.specs.Judged.{IsReadyToJudge}
use Rattle.round_certifier.proofs.evidence.RoundEvidence.judge.Goals as goal

pub look-requires-clause-classes : goal.look-requires-clause-classes
look-requires-clause-classes c = ap (λ (a : Target). a.classes) c.goal.view_is ∙ c.requires.classes

pub look-requires-clause-atoms : goal.look-requires-clause-atoms
look-requires-clause-atoms c = subst (λ (cs : ClassList). HasAtoms cs c.args.self.now.looked) (sym (ap (λ (a : Target). a.classes) c.goal.view_is)) c.requires.atoms

pub judge_in_order-requires-clause-ready : goal.judge_in_order-requires-clause-ready
judge_in_order-requires-clause-ready c = subst (IsReadyToJudge c.args.goal.now c.args.mixes.now) (sym c.look.ensures.store) c.requires.ready

pub judge_in_order-requires-clause-atoms : goal.judge_in_order-requires-clause-atoms
judge_in_order-requires-clause-atoms c = subst (λ (cs : ClassList). HasAtoms cs c.look.new.self.looked) (ap (λ (a : Target). a.classes) c.goal.view_is) c.look.ensures.atoms

pub judge_in_order-requires-clause-touched : goal.judge_in_order-requires-clause-touched
judge_in_order-requires-clause-touched c =
    let changes_are = c.round.ensures ∙ ap (λ (v : CaseView). round_after c.args.k v.task.rounds) c.case.view_is in
    let here = subst (λ (cs : ClassList). AreTouched cs (round_after c.args.k c.args.case.now.task.rounds) c.look.new.self.looked) (ap (λ (a : Target). a.classes) c.goal.view_is) c.look.ensures.touched in
    subst (λ (changes : List Change). AreTouched c.args.goal.now.classes changes c.look.new.self.looked) (sym changes_are) here
