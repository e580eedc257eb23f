use Rattle.std.proofs.Common.{ℕ, suc, refl, sym, subst, add-one}
use Rattle.certificates.specs.Certified.{classes_for}
use Rattle.config_check.proofs.JudgeLaws.{class_within}
use Rattle.ordered_check.specs.Picks.{IsKeptPick}
use Rattle.ordered_check.specs.Firsts.{IsFirstOfClass}
use Rattle.check_reasons.specs.declared.reason.Reason.TheVariants.{NoNumbering}
use Rattle.ordered_check.proofs.RoundLaws.{no_numbering_first}
use Rattle.ordered_check.proofs.judge.judge_class.Goals as goal

pub returns-in_default-clause-some : goal.returns-in_default-clause-some
returns-in_default-clause-some c =
    let t = c.args.of.now.task in
    let e = c.args.of.now.evidence in
    let k = c.args.k in
    let n = c.args.numbered.number in
    subst (λ (r : ℕ). IsFirstOfClass t e k n (NoNumbering r n)) (sym (add-one k))
    (no_numbering_first t e k n c.args.numbered.class c.requires.class c.requires.round (subst (IsKeptPick e.picks (suc k) n) c.in_default.is c.requires.in_force))

pub first_of_class-requires-clause-entry : goal.first_of_class-requires-clause-entry
first_of_class-requires-clause-entry c =
    let t = c.args.of.now.task in
    class_within t.update.net c.keeps_valid.ensures.network (classes_for t) c.args.numbered.number c.args.numbered.class refl c.requires.class
