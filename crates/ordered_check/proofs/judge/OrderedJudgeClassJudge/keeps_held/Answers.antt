use Rattle.std.proofs.Common.{◌≡◌, ◌+◌, ℕ, Option, Some, None, refl, subst, add-one}
use Rattle.check_reasons.specs.declared.reason.Reason.{Reason}
use Rattle.ordered_check.specs.Firsts.{first_of, IsFoundBelow}
use Rattle.ordered_check.proofs.RoundLaws.{found_more}
use Rattle.ordered_check.proofs.StandLaws.{certificate_stands}
use Rattle.ordered_check.proofs.judge.OrderedJudgeClassJudge.keeps_held.Goals as goal

first_none : (found : Option Reason) → first_of found None ≡ found
first_none None = refl
first_none (Some reason) = refl

pub returns-clause-unmet : goal.returns-clause-unmet
returns-clause-unmet c n class set is unmet held =
    let judge = c.args.self.now in
    let t = judge.of.now.task in
    let e = judge.of.now.evidence in
    let k = judge.round.now.number in
    let round = c.requires.round in
    let valid = c.keeps_valid.ensures in
    let stands = unmet.stands in
    let there = certificate_stands t e k n class stands.pick set valid.old_user valid.valid round.within round.before round.pass is stands.in_force stands.begun held unmet.unmet in
    record { walks = there.1; held = there.0 }

pub returns-clause-further : goal.returns-clause-further
returns-clause-further c found n class is cert tells =
    let judge = c.args.self.now in
    let t = judge.of.now.task in
    let e = judge.of.now.evidence in
    let k = judge.round.now.number in
    record {
      reason =
          subst (λ (m : ℕ). IsFoundBelow t e k m found.reason) (add-one n)
          (subst (IsFoundBelow t e k (n + 1)) (first_none found.reason) (found_more t e c.keeps_valid.ensures.valid.ascending k n class is found.reason None tells.reason cert tt));
      guarded = tells.guarded;
    }
