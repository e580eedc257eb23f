-- What the search of an update hands out.
use Rattle.std.proofs.Common.{◌≡◌, ◌≤◌, List, [], length, refl, sym, ◌∙◌, subst, ap, arith}
use Rattle.topology.specs.Networks.{IsNetwork}
use Rattle.flow_rules.specs.declared.rules.Rule.{Rule}
use Rattle.path_walk.specs.UserConfigs.{IsUserConfig}
use Rattle.dest_classes.specs.Classes.{ClassList}
use Rattle.demands.specs.Good.{HasGoodPaths}
use Rattle.update_model.specs.Remaining.{remaining_changes}
use Rattle.update_model.specs.declared.Change.{Change}
use Rattle.certificates.specs.Updates.{Task}
use Rattle.certificates.specs.Certified.{classes_for, IsCertified}
use Rattle.certificates.specs.Trees.{IsTreeUpdate}
use Rattle.certificates.specs.Valid.{IsValidPlan}
use Rattle.certificates.specs.declared.Evidence.TheVariants.{Ordered}
use Rattle.certificates.specs.declared.Plan.{Plan}
use Rattle.evidence_store.specs.Stored.{IsStored}
use Rattle.table_difference.specs.SameClasses.{HasSameClasses, classes_before, MakeNoClasses}
use Rattle.table_difference.specs.Targets.{Target}
use Rattle.round_planner.specs.Search.{single_rounds, update_by, EndsOrdered, EndsStuck}
use Rattle.round_planner.specs.Searching.{SearchState, IsAt}
use Rattle.table_difference.specs.Tried.{AreTried}
use Rattle.table_difference.specs.Targets.{target_between}
use Rattle.round_planner.specs.Ends.{IsPlanOf, AreStuck}
use Rattle.round_planner.proofs.EndLaws.{plan_valid, plan_classes, plan_certified, plan_count, may_be_tried}
use Rattle.round_judge.proofs.EvidenceLaws.{evidence_whole}
use Rattle.round_planner.proofs.StandingLaws.{length_rounds}
use Rattle.round_planner.proofs.TreeSearch.{not_stuck}

module _ (to : Target) (old : List (List Rule)) (classes_are : to.classes ≡ classes_before to.net old to.new to.demands) where
  same_aim : to ≡ target_between to.net old to.new to.demands
  same_aim = ap (λ (cs : ClassList). record { net = to.net; new = to.new; demands = to.demands; classes = cs }) classes_are

  module _ (net : IsNetwork to.net) (old_user : IsUserConfig to.net old) (new_user : IsUserConfig to.net to.new) (s : SearchState) (changes : List Change) (at : IsAt to old changes s) where
    -- ---- ordered

    abbrev pub plan_now : Plan
    plan_now = record { rounds = s.rounds; evidence = Ordered s.store.evidence }

    same_plan : plan_now ≡ record { rounds = single_rounds changes; evidence = Ordered s.store.evidence }
    same_plan = ap (λ (rounds : List (List Change)). record { rounds = rounds; evidence = Ordered s.store.evidence }) at.rounds

    module _ (ends : EndsOrdered to old changes) where
      pub plan_searched : IsPlanOf (target_between to.net old to.new to.demands) old plan_now
      plan_searched = subst (λ (a : Target). IsPlanOf a old plan_now) same_aim (record {
        changes = changes;
        evidence = s.store.evidence;
        plan_is = same_plan;
        searched = record {
          ends = ends;
          evidence = evidence_whole to (update_by to old changes) (length changes) s.store.evidence at.stands.so_far (let count = length_rounds changes in omega arith);
        };
      })

      module _ (stored : IsStored s.store.evidence) where
        pub now_valid : s.store.classes ≤ 8192 → IsValidPlan to.net plan_now
        now_valid few =
            subst (IsValidPlan to.net) (sym same_plan)
            (plan_valid to old net old_user new_user changes at.stands.found s.store.evidence at.stands stored (subst (λ n. n ≤ 8192) at.classes few))

        module _ (no_classes : MakeNoClasses to.net old to.new) (old_good : HasGoodPaths to.net old to.demands to.classes) (new_good : HasGoodPaths to.net to.new to.demands to.classes) where
          abbrev pub task_by : Plan → Task
          task_by p = record { update = record { net = to.net; old = old; new = to.new; demands = to.demands }; rounds = p.rounds }

          pub now_certified : IsCertified (task_by plan_now) plan_now.evidence
          now_certified =
              subst (λ (p : Plan). IsCertified (task_by p) p.evidence) (sym same_plan)
              (plan_certified to old net old_user new_user changes at.stands.found s.store.evidence at.stands stored classes_are no_classes old_good new_good ends.none_remains)

          pub now_classes : HasSameClasses (classes_for (task_by plan_now)) to.classes
          now_classes =
              subst (λ (p : Plan). HasSameClasses (classes_for (task_by p)) to.classes) (sym same_plan)
              (plan_classes to old net old_user new_user changes at.stands.found s.store.evidence at.stands stored classes_are no_classes old_good new_good ends.none_remains)

          pub now_count : length plan_now.rounds ≡ length (remaining_changes old to.new)
          now_count =
              ap length at.rounds
              ∙ plan_count to old net old_user new_user changes at.stands.found s.store.evidence at.stands stored classes_are no_classes old_good new_good ends.none_remains

    -- ---- stuck

    pub rounds_stuck : EndsStuck to old changes → AreStuck (target_between to.net old to.new to.demands) old s.rounds
    rounds_stuck ends = subst (λ (a : Target). AreStuck a old s.rounds) same_aim (record { changes = changes; rounds_are = at.rounds; ends = ends })

    pub rounds_tried : AreTried to.net s.rounds
    rounds_tried = subst (AreTried to.net) (sym at.rounds) (may_be_tried to old net old_user new_user changes at.stands.found)

    -- the task of no rounds
    abbrev pub no_rounds : Task
    no_rounds = record { update = record { net = to.net; old = old; new = to.new; demands = to.demands }; rounds = [] }

    pub tree_not_stuck : IsTreeUpdate no_rounds → ¬ EndsStuck to old changes
    tree_not_stuck tree = not_stuck no_rounds tree net old_user new_user to.classes (subst (HasSameClasses to.classes) classes_are (record { hosts = refl; vlans = refl; atoms = refl })) changes
