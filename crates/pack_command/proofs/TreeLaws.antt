-- How the packing of an update of destination trees ends.
use Rattle.std.proofs.Common.{ℕ, ◌+◌, ◌≤◌, List, length, inl, inr}
use Rattle.topology.specs.Networks.{IsNetwork}
use Rattle.path_walk.specs.UserConfigs.{IsUserConfig}
use Rattle.update_model.specs.declared.Change.{Change}
use Rattle.certificates.specs.Trees.{IsTreeUpdate}
use Rattle.certificates.specs.Updates.{Task, Update}
use Rattle.certificates.specs.declared.Plan.{Plan}
use Rattle.law_packed_rounds.specs.Packing.{PacksOrdered, PacksStuck}
use Rattle.law_packed_trees.specs.Bounds.{AreBounds}
use Rattle.law_packed_trees.specs.TreeUpdates.{IsUserTreeUpdate, task_target}
use Rattle.round_planner.specs.Updates.{bare_task}
use Rattle.command_base.specs.Answers.{Answer}
use Rattle.pack_command.specs.declared.names.PackKind.{PackKind}
use Rattle.pack_command.specs.declared.names.PackKind.TheVariants as pack_kind
use Rattle.pack_command.specs.Chosen.{AreTriedFor, IsPackingStuck, IsOrderedPlan, IsPackPlan}
use Rattle.pack_command.specs.Packed.{SaysChosen, SaysNoPlan, PacksInFewRounds}

-- the packing of such an update isn't stuck
abbrev pub TreesAreNeverStuck : Type 0
TreesAreNeverStuck = (t : Task) → IsUserTreeUpdate t → (rounds : List (List Change)) → ¬ PacksStuck (task_target t) t.update.old rounds

-- it takes few rounds
abbrev pub TreesTakeFew : Type 0
TreesTakeFew = (t : Task) → IsUserTreeUpdate t → (rounds : List (List Change)) → PacksOrdered (task_target t) t.update.old rounds
    → (most dropped unmet : ℕ) → AreBounds t t.update.old most dropped unmet → length rounds ≤ most + dropped + unmet

module _ (never : TreesAreNeverStuck) (take_few : TreesTakeFew) (u : Update) (net : IsNetwork u.net) (old_user : IsUserConfig u.net u.old) (new_user : IsUserConfig u.net u.new)
    (tree : IsTreeUpdate (bare_task u)) where
  user_tree : IsUserTreeUpdate (bare_task u)
  user_tree = record { net = net; old_user = old_user; new_user = new_user; tree = tree }

  not_stuck : ¬ IsPackingStuck u
  not_stuck stuck = never (bare_task u) user_tree stuck.rounds stuck.ends

  ordered_in_few : (p : Plan) → IsOrderedPlan u p → PacksInFewRounds u
  ordered_in_few p (inl packed) = record { rounds = p.rounds; ends = packed.packed; few = take_few (bare_task u) user_tree p.rounds packed.packed }
  ordered_in_few p (inr (stuck, search)) = absurd (not_stuck stuck)

  tried_in_few : (tried : List (List Change)) → AreTriedFor pack_kind.TwoPhase u tried → PacksInFewRounds u
  tried_in_few tried (inl (inl packing, is)) = record { rounds = packing.rounds; ends = packing.ends; few = take_few (bare_task u) user_tree packing.rounds packing.ends }
  tried_in_few tried (inl (inr (stuck, search), is)) = absurd (not_stuck stuck)
  tried_in_few tried (inr none) = absurd (not_stuck none.packing)

  plan_in_few : (k : PackKind) (p : Plan) → IsPackPlan k u p → PacksInFewRounds u
  plan_in_few pack_kind.Any p (inl short) = ordered_in_few p short.ordered
  plan_in_few pack_kind.Any p (inr (inl phased)) = ordered_in_few phased.longer phased.ordered
  plan_in_few pack_kind.Any p (inr (inr only)) = absurd (not_stuck only.are_tried.packing)
  plan_in_few pack_kind.Ordered p ordered = ordered_in_few p ordered
  plan_in_few pack_kind.TwoPhase p only = tried_in_few only.tried only.are_tried

  none_in_few : (k : PackKind) (answer : Answer) → SaysNoPlan k u answer → PacksInFewRounds u
  none_in_few pack_kind.Any answer v = absurd (not_stuck v.are_tried.packing)
  none_in_few pack_kind.Ordered answer v = absurd (not_stuck v.none.packing)
  none_in_few pack_kind.TwoPhase answer v = tried_in_few v.tried v.are_tried

  -- an answer that says a plan, or why there is none, says that packing ended so
  pub packs_in_few : (k : PackKind) (answer : Answer) → SaysChosen k u answer → PacksInFewRounds u
  packs_in_few k answer (inl v) = plan_in_few k v.plan v.which
  packs_in_few k answer (inr v) = none_in_few k answer v
