use Rattle.std.proofs.Common.{ℕ, refl, sym, ◌∙◌, subst, inl, inr, arith}
use Rattle.std.proofs.lemmas.Bool.{cases_eq, false≢true}
use Rattle.dest_classes.specs.Classes.{IsClass}
use Rattle.dest_classes.specs.declared.Class.{Class}
use Rattle.dest_classes.proofs.MapLaws.{number_fits}
use Rattle.demands.specs.Duties.{ClassDuties}
use Rattle.certificates.specs.Rounds.{IsSafeByEvidence}
use Rattle.round_judge.specs.Visits.{marks_at}
use Rattle.round_judge.proofs.JudgingLaws.{numbered_class}
use Rattle.round_packer.specs.Kept.{HoldsClass}
use Rattle.round_packer.proofs.judging.all_safe.Goals as goal

pub numbered-class-requires : goal.numbered-class-requires
numbered-class-requires c =
    let count = c.count-number-end.ensures.count in
    let less = c.loop-number-test.true in
    omega arith

pub loop-number-init : goal.loop-number-init
loop-number-init c =
    let to = c.args.goal.now in
    let d : ClassDuties = record { demands = to.demands; classes = to.classes } in
    record { count = refl; last = c.none-last.ensures to.net d; kept = λ tables changes prepared n class less is. absurd (omega arith) }

pub loop-number-preserved : goal.loop-number-preserved
loop-number-preserved c =
    let to = c.args.goal.now in
    let number = c.loop-number.number in
    let mid = c.loop-number.watch.came.items in
    let new = c.is_safe.new.watch.came.items in
    let numbered = c.numbered-class.result in
    let one = c.in_ok-is_safe.ensures in
    let inv = c.loop-number.invariant in
    record {
      count = one.count ∙ inv.count;
      last = one.last;
      kept = λ tables changes prepared n class less is.
          elim (cases_eq n number) [
            | inl e ↦ (
                let is_n = subst (λ (i : ℕ). IsClass to.classes i class) e is in
                let same = numbered_class to.classes number numbered c.numbered-class.ensures.number c.numbered-class.ensures.class class is_n in
                record {
                  safe = subst (λ (x : Class). IsSafeByEvidence to.net to.demands tables changes x) same ((one.safe tables changes prepared).0 c.if-not-branch.false);
                  held = subst (λ (x : Class). HoldsClass to.net tables changes x (marks_at new n)) same
                      (subst (λ (i : ℕ). HoldsClass to.net tables changes numbered.class (marks_at new i)) (c.numbered-class.ensures.number ∙ sym e) (one.held tables changes prepared));
                })
            | inr ne ↦ (
                let had = inv.kept tables changes prepared n class (omega arith) is in
                record { safe = had.safe; held = subst (HoldsClass to.net tables changes class) (sym (one.others n (λ e. ne (e ∙ c.numbered-class.ensures.number)))) had.held })
          ];
    }

pub returns-then-not-branch : goal.returns-then-not-branch
returns-then-not-branch c = λ tables changes prepared.
    record {
      number = c.numbered-class.result.number;
      class = c.numbered-class.result.class;
      is_class = c.numbered-class.ensures.class;
      never = λ by. false≢true (sym c.if-not-branch.true ∙ (c.in_ok-is_safe.ensures.safe tables changes prepared).1 by);
    }

pub returns : goal.returns
returns c = λ tables changes prepared.
    let count = c.count-number-end.ensures.count in
    record {
      count = c.loop-number.invariant.count ∙ c.requires.came;
      each = λ n class is. (let fits = number_fits c.args.goal.now.classes n class is in c.loop-number.invariant.kept tables changes prepared n class (omega arith) is);
    }
