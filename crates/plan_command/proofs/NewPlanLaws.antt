-- What the answer on an update stands on.
use Rattle.std.proofs.Common.{◌≡◌, ◌<◌, List, Some, Result, Ok, Err, IfOk, refl, sym, subst}
use Rattle.dest_classes.specs.Classes.{ClassList, IsClass, class_count}
use Rattle.dest_classes.proofs.MapLaws.{number_fits}
use Rattle.dest_classes.specs.declared.Class.{Class}
use Rattle.demands.specs.Duties.{ClassDuties, DemandView}
use Rattle.config_check.specs.declared.ends.EndBreak.{EndBreak}
use Rattle.config_check.specs.declared.classed.Classed.{Classed}
use Rattle.config_check.specs.Classed.{AreClassed}
use Rattle.config_check.specs.Ends.{AreGoodEnds, IsFirstEndBreak}
use Rattle.update_model.specs.declared.Change.{Change}
use Rattle.certificates.specs.Certified.{IsCertified}
use Rattle.certificates.specs.declared.Plan.{Plan}
use Rattle.check_reasons.specs.declared.reason.Reason.TheVariants.{EndBreaks}
use Rattle.two_phase.specs.Laws.{two_phase_task}
use Rattle.two_phase.specs.Plans.{two_phase_plan, IsCertifiedTwoPhase}
use Rattle.command_base.specs.declared.status.Status.TheVariants as status
use Rattle.check_base.specs.ReasonLines.{refused_line}
use Rattle.command_base.specs.Answers.{Answer}
use Rattle.command_base.specs.Judgements.{SaysWhyNot}
use Rattle.certificates.specs.Updates.{Update, task_for}
use Rattle.round_planner.specs.Updates.{update_classes, update_count}
use Rattle.plan_command.specs.Ends.{AreEndsOf, BothEndsAreGood, IsBrokenEnd, IsEndLine}

-- two facts of a value, the second under a premise
pub both_ok : {A E : Type 0} (r : Result A E) (P Q R : A → Type 0) (T : Type 0) → ((x : A) → P x → (T → Q x) → R x) → IfOk r P → (T → IfOk r Q) → IfOk r R
both_ok (Ok x) P Q R T f p q = f x p q
both_ok (Err e) P Q R T f p q = tt

module _ (u : Update) where
  pub end_law : (end : EndBreak) (class : Class) (answer : Answer) → IsBrokenEnd u end class
      → answer ≡ record { status = status.Refused; text = refused_line u.net (Some class) (EndBreaks end.new end.breaks) } → SaysWhyNot (update_count u) (BothEndsAreGood u) (IsEndLine u) answer
  end_law end class answer broken is = record {
    few = broken.few;
    fails = broken.fails;
    line = refused_line u.net (Some class) (EndBreaks end.new end.breaks);
    is_why = record { new = end.new; break = end.breaks; first = broken.first; class = class; is_class = broken.is_class; line_is = refl };
    answer_is = is;
  }

  -- the plan of two phases after a search that was stuck
  module _ (p : Plan) (rounds : List (List Change)) (plan_is : p ≡ two_phase_plan u.net u.old u.new rounds) where
    pub two_certified : IsCertifiedTwoPhase u.net u.old u.new p → BothEndsAreGood u → IsCertified (task_for u p) p.evidence
    two_certified certified good =
        let there : IsCertified (two_phase_task u.net u.old u.new u.demands) p.evidence = certified u.demands good.old_good good.new_good in
        subst (λ q. IsCertified (task_for u q) q.evidence) (sym plan_is)
        (subst (λ (q : Plan). IsCertified (two_phase_task u.net u.old u.new u.demands) q.evidence) plan_is there)

  -- what is found of the classes and their duties holds of the update
  module _ (c : Classed) (are : AreClassed (update_classes u) u.demands c) where
    of_update : (P : List DemandView → ClassList → Type 0) → P c.duties.demands c.map → P u.demands (update_classes u)
    of_update P found = subst (λ (classes : ClassList). P u.demands classes) are.map (subst (λ (d : ClassDuties). P d.demands c.map) are.duties found)

    pub good_ends : AreGoodEnds u.net u.old u.new c.duties.demands c.map → AreEndsOf u c
    good_ends good = record { classed = are; good = of_update (λ demands classes. AreGoodEnds u.net u.old u.new demands classes) good }

    pub broken_end : (end : EndBreak) (class : Class) → IsFirstEndBreak u.net u.old u.new c.duties.demands c.map end.new end.breaks → ¬ AreGoodEnds u.net u.old u.new c.duties.demands c.map
        → IsClass c.map end.breaks.class class → IsBrokenEnd u end class
    broken_end end class first fails is_class = record {
      few = are.few;
      fails = of_update (λ demands classes. ¬ AreGoodEnds u.net u.old u.new demands classes) fails;
      first = of_update (λ demands classes. IsFirstEndBreak u.net u.old u.new demands classes end.new end.breaks) first;
      is_class = subst (λ (classes : ClassList). IsClass classes end.breaks.class class) are.map is_class;
    }

    pub break_fits : (end : EndBreak) → IsFirstEndBreak u.net u.old u.new c.duties.demands c.map end.new end.breaks → end.breaks.class < class_count c.map
    break_fits end first = number_fits c.map end.breaks.class first.first.class first.first.is_class
