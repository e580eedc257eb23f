-- The dialogue of `check` over files that mean something.
use Rattle.std.proofs.Common.{refl, subst}
use Rattle.file_access.specs.Outside.{Files}
use Rattle.plan_format.specs.Plans.{plan_in}
use Rattle.command_base.specs.declared.kinds.FileKind.TheVariants as kind
use Rattle.command_base.specs.Lines.{plan_words}
use Rattle.command_base.specs.Meanings.{Means}
use Rattle.command_base.proofs.MeaningLaws.{MeansOnly, means_then, means_parts, means_read, read_means, means_update, update_means}
use Rattle.check_base.specs.Names.{CheckNames}
use Rattle.check_base.specs.Checks.{CheckMeaning, check_dialogue, FilesMeanPlan}

-- the dialogue means what the files mean, and nothing else
pub means_check : (files : Files) (names : CheckNames) (m : CheckMeaning) → FilesMeanPlan files names m → Means files (check_dialogue names) m
unfolding check_dialogue
means_check files names m is =
    means_then files _ _ m.update m (means_update files names.update m.update is.update_is)
    (means_then files _ _ m.plan m (means_read files kind.Plan plan_words (plan_in m.update.net) names.plan m.plan is.plan_is) refl)

pub check_means : (files : Files) (names : CheckNames) (m : CheckMeaning) → Means files (check_dialogue names) m → FilesMeanPlan files names m
unfolding check_dialogue
check_means files names m means =
    let (u, update_is, second) = means_parts files _ _ m means in
    let (p, plan_is, same) = means_parts files _ _ m second in
    let read : FilesMeanPlan files names (record { update = u; plan = p }) = record {
      update_is = update_means files names.update u update_is;
      plan_is = read_means files kind.Plan plan_words (plan_in u.net) names.plan p plan_is;
    } in
    subst (λ v. FilesMeanPlan files names v) same read

pub check_meant : (files : Files) (names : CheckNames) → MeansOnly files (check_dialogue names) (FilesMeanPlan files names)
check_meant files names = record { means = means_check files names; only = check_means files names }
