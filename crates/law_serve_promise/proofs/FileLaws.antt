-- What follows from what files mean: they mean one update and one plan, and the rounds of a certified plan can be carried out and taken back.
use Rattle.std.proofs.Common.{◌≡◌, [], None, Some, refl, sym, subst, inl}
use Rattle.std.specs.declared.option.Option.{Option}
use Rattle.file_access.specs.Outside.{Files}
use Rattle.topology.specs.Networks.{IsNetwork}
use Rattle.path_walk.specs.UserConfigs.{IsUserConfig}
use Rattle.config_files.proofs.UserTables.{configuration_shown}
use Rattle.update_model.specs.Mixtures.{AreGoodRounds}
use Rattle.certificates.specs.Certified.{IsCertified}
use Rattle.certificates.specs.Updates.{rollout}
use Rattle.certificates.specs.Valid.{IsValidPlan}
use Rattle.plan_format.proofs.ValidPlans.{plans_are}
use Rattle.schedule_pilot.proofs.PlanLaws.{begins_safely}
use Rattle.round_inverses.specs.Rounds.{inverse_rounds}
use Rattle.round_inverses.proofs.InverseLaws.{inverse_count, same_changed}
use Rattle.round_inverses.proofs.RangeLaws.{rounds_range}
use Rattle.update_driver.specs.Calls.{AreDrivable}
use Rattle.two_way_driver.specs.Calls.{AreTurnable}
use Rattle.command_base.specs.Answers.{Answer}
use Rattle.command_base.specs.declared.status.Status.TheVariants as status
use Rattle.command_base.specs.Dialogues.{Dialogue, Bad, Ends, Reads, FileRead, file_read, IsGiven, Gives}
use Rattle.command_base.specs.Meanings.{Means, IsAnswerOver}
use Rattle.command_base.proofs.MeaningLaws.{said_over}
use Rattle.check_base.specs.Checks.{CheckMeaning, check_dialogue, task_in, FilesMeanPlan}
use Rattle.check_base.specs.Names.{CheckNames}
use Rattle.check_base.proofs.FileLaws.{means_check, check_means}
use Rattle.law_serve_promise.proofs.Networks.{network_keeps}
use Rattle.law_plan_rules.proofs.UserRules.{tables_plan}

-- ---- one meaning

-- where the source tells, a dialogue ends with what the files mean
pub given_means : {E : Type 0} (files : Files) (first last : Option FileRead) (d : Dialogue E) (v : E) → IsGiven (Some files) first d v last → Means files d v
given_means files first last (Bad kind words) v given = absurd given
given_means files first last (Ends end) v given = given.0
given_means files first last (Reads kind name next) v (bytes, held, within, given) = (bytes, held, within, given_means files (Some (file_read kind name)) last (next bytes) v given)

-- what is said of the meaning is the answer over the files
pub means_over : {E : Type 0} (says : E → Answer → Type 0) (files : Files) (d : Dialogue E) (answer : Answer) (v : E) → Means files d v → says v answer → IsAnswerOver says files d answer
means_over says files (Bad kind words) answer v means said = absurd means
means_over says files (Ends end) answer v means said = subst (λ x. says x answer) (sym means) said
means_over says files (Reads kind name next) answer v (bytes, held, within, means) said = (bytes, held, inl (within, means_over says files (next bytes) answer v means said))

module _ (files : Files) (names : CheckNames) where
  pub given_plan : (m : CheckMeaning) (last : Option FileRead) → Gives (Some files) None (check_dialogue names) m last → FilesMeanPlan files names m
  given_plan m last gives = check_means files names m (given_means files None last (check_dialogue names) m gives.given)

  -- the files mean one update and plan
  pub one_meaning : (m other : CheckMeaning) → FilesMeanPlan files names m → FilesMeanPlan files names other → m ≡ other
  one_meaning m other mean also =
      let Same : CheckMeaning → Answer → Type 0 = λ v a. v ≡ other in
      let any : Answer = record { status = status.Done; text = [] } in
      said_over Same files (check_dialogue names) any m (means_over Same files (check_dialogue names) any other (means_check files names other also) refl) (means_check files names m mean)

-- ---- the rounds of a certified plan

module _ (files : Files) (names : CheckNames) (m : CheckMeaning) (mean : FilesMeanPlan files names m) where
  pub net_keeps : IsNetwork m.update.net
  net_keeps = network_keeps mean.update_is.topology_is.bytes m.update.net mean.update_is.topology_is.means

  pub old_user : IsUserConfig m.update.net m.update.old
  old_user = configuration_shown m.update.net mean.update_is.old_is.bytes m.update.old mean.update_is.old_is.means

  pub new_user : IsUserConfig m.update.net m.update.new
  new_user = configuration_shown m.update.net mean.update_is.new_is.bytes m.update.new mean.update_is.new_is.means

  pub valid : IsValidPlan m.update.net m.plan
  valid = plans_are m.update.net mean.plan_is.bytes m.plan mean.plan_is.means

  pub good_rounds : IsCertified (task_in m) m.plan.evidence → AreGoodRounds (rollout (task_in m))
  good_rounds certified = (begins_safely (task_in m) old_user new_user m.plan.evidence certified).good

  pub turnable : AreTurnable m.update.net m.plan.rounds (inverse_rounds m.update.old m.plan.rounds)
  turnable = record {
    few = valid.few_rounds;
    plan = valid.rounds;
    count = inverse_count m.update.old m.plan.rounds;
    back_plan = rounds_range m.update.net m.plan.rounds m.update.old valid.rounds (tables_plan m.update.net net_keeps m.update.old old_user);
    same = λ k s. same_changed m.update.old m.plan.rounds k s;
  }

  pub drivable : AreDrivable m.update.net m.plan.rounds
  drivable = record { few_rounds = valid.few_rounds; few_changes = valid.few_changes; plan = valid.rounds }
