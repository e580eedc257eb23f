-- What a search that has ended answers.
use Rattle.std.proofs.Common.{◌≡◌, ◌≤◌, Bool, true, false, List, [], length, sym, subst}
use Rattle.topology.specs.Networks.{IsNetwork}
use Rattle.flow_rules.specs.declared.rules.Rule.{Rule}
use Rattle.path_walk.specs.UserConfigs.{IsUserConfig}
use Rattle.dest_classes.specs.Classes.{class_count}
use Rattle.demands.specs.Good.{HasGoodPaths}
use Rattle.update_model.specs.Remaining.{remaining_changes}
use Rattle.certificates.specs.Updates.{Task}
use Rattle.certificates.specs.Certified.{classes_for, IsCertified}
use Rattle.certificates.specs.Trees.{IsTreeUpdate}
use Rattle.certificates.specs.Valid.{IsValidPlan}
use Rattle.certificates.specs.declared.Plan.{Plan}
use Rattle.evidence_store.specs.Stored.{IsStored}
use Rattle.table_difference.specs.SameClasses.{HasSameClasses, classes_before, MakeNoClasses}
use Rattle.table_difference.specs.Targets.{Target}
use Rattle.round_planner.specs.Searching.{SearchState, IsEnded, answer_by}
use Rattle.table_difference.specs.Tried.{AreTried}
use Rattle.table_difference.specs.Targets.{target_between}
use Rattle.round_planner.specs.Ends.{IsSearched, OfPlan, OfStuck, IsNotStuck}
use Rattle.round_planner.proofs.OrderLaws.{plan_searched, now_valid, now_certified, now_classes, now_count, rounds_stuck, rounds_tried, tree_not_stuck}

module _ (to : Target) (old : List (List Rule)) (classes_are : to.classes ≡ classes_before to.net old to.new to.demands) (net : IsNetwork to.net) (old_user : IsUserConfig to.net old)
    (new_user : IsUserConfig to.net to.new) (s : SearchState) where
  pub answer_searched : (none : Bool) → IsEnded to old s none → IsSearched (target_between to.net old to.new to.demands) old (answer_by s none)
  answer_searched true (changes, at, ends) = plan_searched to old classes_are net old_user new_user s changes at ends
  answer_searched false (changes, at, ends) = rounds_stuck to old classes_are net old_user new_user s changes at ends

  pub answer_tried : (none : Bool) → IsEnded to old s none → OfStuck (AreTried to.net) (answer_by s none)
  answer_tried true (changes, at, ends) = tt
  answer_tried false (changes, at, ends) = rounds_tried to old classes_are net old_user new_user s changes at

  pub answer_tree : (none : Bool) → IsEnded to old s none → IsTreeUpdate (record { update = record { net = to.net; old = old; new = to.new; demands = to.demands }; rounds = [] }) → IsNotStuck (answer_by s none)
  answer_tree true (changes, at, ends) tree = tt
  answer_tree false (changes, at, ends) tree = absurd (tree_not_stuck to old classes_are net old_user new_user s changes at tree ends)

  module _ (stored : IsStored s.store.evidence) where
    pub answer_valid : class_count to.classes ≤ 8192 → (none : Bool) → IsEnded to old s none → OfPlan (IsValidPlan to.net) (answer_by s none)
    answer_valid few true (changes, at, ends) = now_valid to old classes_are net old_user new_user s changes at ends stored (subst (λ n. n ≤ 8192) (sym at.classes) few)
    answer_valid few false (changes, at, ends) = tt

    module _ (no_classes : MakeNoClasses to.net old to.new) (old_good : HasGoodPaths to.net old to.demands to.classes) (new_good : HasGoodPaths to.net to.new to.demands to.classes) where
      abbrev pub task_of_plan : Plan → Task
      task_of_plan p = record { update = record { net = to.net; old = old; new = to.new; demands = to.demands }; rounds = p.rounds }

      pub answer_certified : (none : Bool) → IsEnded to old s none → OfPlan (λ p. IsCertified (task_of_plan p) p.evidence) (answer_by s none)
      answer_certified true (changes, at, ends) = now_certified to old classes_are net old_user new_user s changes at ends stored no_classes old_good new_good
      answer_certified false (changes, at, ends) = tt

      pub answer_classes : (none : Bool) → IsEnded to old s none → OfPlan (λ p. HasSameClasses (classes_for (task_of_plan p)) to.classes) (answer_by s none)
      answer_classes true (changes, at, ends) = now_classes to old classes_are net old_user new_user s changes at ends stored no_classes old_good new_good
      answer_classes false (changes, at, ends) = tt

      pub answer_count : (none : Bool) → IsEnded to old s none → OfPlan (λ p. length p.rounds ≡ length (remaining_changes old to.new)) (answer_by s none)
      answer_count true (changes, at, ends) = now_count to old classes_are net old_user new_user s changes at ends stored no_classes old_good new_good
      answer_count false (changes, at, ends) = tt
