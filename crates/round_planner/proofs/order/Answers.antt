use Rattle.std.proofs.Common.{◌≡◌, length, sym, subst, ap}
use Rattle.std.proofs.lemmas.Result.{IfOk-weaker}
use Rattle.flow_rules.specs.Tables.{rules_of_all}
use Rattle.dest_classes.specs.Classes.{ClassList}
use Rattle.update_model.specs.Remaining.{remaining_changes}
use Rattle.certificates.specs.Certified.{IsCertified, classes_for}
use Rattle.certificates.specs.Laws.{task_of}
use Rattle.certificates.specs.Valid.{IsValidPlan}
use Rattle.table_difference.specs.SameClasses.{HasSameClasses}
use Rattle.round_planner.specs.declared.Ordered.{Ordered}
use Rattle.table_difference.specs.Targets.{Target}
use Rattle.round_planner.specs.Searching.{IsAnswered}
use Rattle.table_difference.specs.Tried.{AreTried}
use Rattle.table_difference.specs.Targets.{target_between}
use Rattle.round_planner.specs.Ends.{IsSearched, OfPlan, OfStuck, IsNotStuck}
use Rattle.round_planner.proofs.AnswerLaws.{answer_searched, answer_tried, answer_tree, answer_valid, answer_certified, answer_classes, answer_count}
use Rattle.round_planner.proofs.order.Goals as goal

pub invariant_of-goal : goal.invariant_of-goal
invariant_of-goal c = record {
  user = c.requires.new;
  duties_of_them = c.requires.duties;
  hosts = ap (λ (cs : ClassList). cs.hosts) c.requires.classes;
  listed = c.in_ok-list.ensures;
}

pub answer_to-requires : goal.answer_to-requires
answer_to-requires c = c.requires.old

pub returns-clause-searched : goal.returns-clause-searched
returns-clause-searched c =
    let to : Target = record { net = c.args.net.now; new = rules_of_all c.args.new.now; demands = c.args.duties.now.demands; classes = c.args.classes.now } in
    let old = rules_of_all c.args.old.now in
    let P : Ordered → Type 0 = IsSearched (target_between c.args.net.now old to.new to.demands) old in
    IfOk-weaker c.answer_to.result (IsAnswered to old) P (λ o a. subst P (sym a.answer_is) (answer_searched to old c.requires.classes c.keeps_rules.ensures c.requires.old c.requires.new a.search a.none_remains a.ended)) c.answer_to.ensures

pub returns-clause-valid : goal.returns-clause-valid
returns-clause-valid c =
    let to : Target = record { net = c.args.net.now; new = rules_of_all c.args.new.now; demands = c.args.duties.now.demands; classes = c.args.classes.now } in
    let old = rules_of_all c.args.old.now in
    let P : Ordered → Type 0 = OfPlan (IsValidPlan c.args.net.now) in
    IfOk-weaker c.answer_to.result (IsAnswered to old) P (λ o a. subst P (sym a.answer_is) (answer_valid to old c.requires.classes c.keeps_rules.ensures c.requires.old c.requires.new a.search a.stored a.few a.none_remains a.ended)) c.answer_to.ensures

pub returns-clause-certified : goal.returns-clause-certified
returns-clause-certified c =
    let to : Target = record { net = c.args.net.now; new = rules_of_all c.args.new.now; demands = c.args.duties.now.demands; classes = c.args.classes.now } in
    let old = rules_of_all c.args.old.now in
    let P : Ordered → Type 0 = OfPlan (λ p. IsCertified (task_of c.args.net.now c.args.old.now c.args.new.now c.args.duties.now.demands p) p.evidence) in
    IfOk-weaker c.answer_to.result (IsAnswered to old) P (λ o a. subst P (sym a.answer_is) (answer_certified to old c.requires.classes c.keeps_rules.ensures c.requires.old c.requires.new a.search a.stored c.rounds_make_no_classes.ensures c.requires.old_good c.requires.new_good a.none_remains a.ended)) c.answer_to.ensures

pub returns-clause-classes : goal.returns-clause-classes
returns-clause-classes c =
    let to : Target = record { net = c.args.net.now; new = rules_of_all c.args.new.now; demands = c.args.duties.now.demands; classes = c.args.classes.now } in
    let old = rules_of_all c.args.old.now in
    let P : Ordered → Type 0 = OfPlan (λ p. HasSameClasses (classes_for (task_of c.args.net.now c.args.old.now c.args.new.now c.args.duties.now.demands p)) c.args.classes.now) in
    IfOk-weaker c.answer_to.result (IsAnswered to old) P (λ o a. subst P (sym a.answer_is) (answer_classes to old c.requires.classes c.keeps_rules.ensures c.requires.old c.requires.new a.search a.stored c.rounds_make_no_classes.ensures c.requires.old_good c.requires.new_good a.none_remains a.ended)) c.answer_to.ensures

pub returns-clause-count : goal.returns-clause-count
returns-clause-count c =
    let to : Target = record { net = c.args.net.now; new = rules_of_all c.args.new.now; demands = c.args.duties.now.demands; classes = c.args.classes.now } in
    let old = rules_of_all c.args.old.now in
    let P : Ordered → Type 0 = OfPlan (λ p. length p.rounds ≡ length (remaining_changes old to.new)) in
    IfOk-weaker c.answer_to.result (IsAnswered to old) P (λ o a. subst P (sym a.answer_is) (answer_count to old c.requires.classes c.keeps_rules.ensures c.requires.old c.requires.new a.search a.stored c.rounds_make_no_classes.ensures c.requires.old_good c.requires.new_good a.none_remains a.ended)) c.answer_to.ensures

pub returns-clause-tried : goal.returns-clause-tried
returns-clause-tried c =
    let to : Target = record { net = c.args.net.now; new = rules_of_all c.args.new.now; demands = c.args.duties.now.demands; classes = c.args.classes.now } in
    let old = rules_of_all c.args.old.now in
    let P : Ordered → Type 0 = OfStuck (AreTried c.args.net.now) in
    IfOk-weaker c.answer_to.result (IsAnswered to old) P (λ o a. subst P (sym a.answer_is) (answer_tried to old c.requires.classes c.keeps_rules.ensures c.requires.old c.requires.new a.search a.none_remains a.ended)) c.answer_to.ensures

pub returns-clause-tree : goal.returns-clause-tree
returns-clause-tree c tree =
    let to : Target = record { net = c.args.net.now; new = rules_of_all c.args.new.now; demands = c.args.duties.now.demands; classes = c.args.classes.now } in
    let old = rules_of_all c.args.old.now in
    let P : Ordered → Type 0 = λ o. IsNotStuck o in
    IfOk-weaker c.answer_to.result (IsAnswered to old) P (λ o a. subst P (sym a.answer_is) (answer_tree to old c.requires.classes c.keeps_rules.ensures c.requires.old c.requires.new a.search a.none_remains a.ended tree)) c.answer_to.ensures
