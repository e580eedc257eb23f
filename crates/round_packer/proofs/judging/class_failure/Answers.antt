use Rattle.std.proofs.Common.{◌≡◌, ℕ, Bool, true, false, [], ◌∷◌, ◌++◌, refl, sym, ◌∙◌, ap, subst, arith}
use mathlib.Core.Bool.{beq}
use Rattle.std.specs.Prelude.{◌==◌, not}
use Rattle.std.proofs.lemmas.Bool.{false≢true, both_ways}
use Rattle.net_base.specs.declared.ids.SwitchId.{SwitchId}
use Rattle.dest_classes.specs.declared.Class.{Class}
use Rattle.class_watch.specs.Walks.{meets}
use Rattle.round_judge.specs.Visits.{marks_at}
use Rattle.round_judge.proofs.JudgingLaws.{numbered_class, read_as}
use Rattle.round_packer.specs.Kept.{HoldsClass}
use Rattle.round_packer.proofs.JudgeLaws.{told_safe, told_unmet, watched_one}
use Rattle.round_packer.proofs.judging.class_failure.Goals as goal

pub index-requires : goal.index-requires
index-requires c = let number = c.requires.number in let count = c.requires.came in omega arith

pub returns-then-not-meets-clause-told : goal.returns-then-not-meets-clause-told
returns-then-not-meets-clause-told c = λ tables taken prepared kept.
    let to = c.args.goal.now in
    let change = c.args.tried.now.change.now in
    let number = c.requires.number in
    let count = c.requires.came in
    let numbered = c.numbered-class.result in
    told_unmet to tables taken change c.args.tried.now.mixes.now prepared c.args.own c.args.number c.args.watch.now.came.items kept
    (λ class is at.
    let same = numbered_class to.classes c.args.number numbered c.numbered-class.ensures.number c.numbered-class.ensures.class class is in
    let read = read_as c.args.watch.now.came.items c.args.number c.index.result.now (omega arith) c.index.ensures in
    subst (λ (ms : ℕ). meets change class ms ≡ false) read (subst (λ (x : Class). meets change x c.index.result.now ≡ false) same (sym c.meets.ensures ∙ c.if-not-meets.true)))

pub returns-then-branch-clause-told : goal.returns-then-branch-clause-told
returns-then-branch-clause-told c = λ tables taken prepared kept.
    let to = c.args.goal.now in
    let change = c.args.tried.now.change.now in
    let numbered = c.numbered-class.result in
    let found = c.in_ok-is_safe.ensures in
    told_safe to tables (taken ++ change ∷ []) change c.args.own c.args.number c.is_safe.new.watch.came.items numbered c.numbered-class.ensures.number c.numbered-class.ensures.class
    (found.held tables (taken ++ change ∷ []) prepared) ((found.safe tables (taken ++ change ∷ []) prepared).0 c.if-branch.true)

pub returns-clause-told : goal.returns-clause-told
returns-clause-told c = λ tables taken prepared kept.
    let to = c.args.goal.now in
    let change = c.args.tried.now.change.now in
    let numbered = c.numbered-class.result in
    let found = c.in_ok-is_safe.ensures in
    let changes = taken ++ change ∷ [] in
    let read = read_as c.is_safe.new.watch.came.items c.args.number c.index-2.result.now (let a = found.count in let b = c.requires.came in let less = c.requires.number in omega arith) c.index-2.ensures in
    let at = ap (marks_at c.is_safe.new.watch.came.items) c.numbered-class.ensures.number in (
      refl,
      record {
        number = numbered.number;
        is_class = c.numbered-class.ensures.class;
        never = λ by. both_ways c.in_ok-is_safe.field-0 c.if-branch.false ((found.safe tables changes prepared).1 by);
        held = subst (HoldsClass to.net tables changes numbered.class) (at ∙ sym read) (found.held tables changes prepared);
      },
    )

pub returns-then-branch-clause-watched : goal.returns-then-branch-clause-watched
returns-then-branch-clause-watched c = λ tables changes prepared.
    let to = c.args.goal.now in
    let numbered = c.numbered-class.result in
    let found = c.in_ok-is_safe.ensures in
    watched_one to tables changes c.args.watch.now.came.items c.is_safe.new.watch.came.items numbered.number found.count found.others
    (λ class is.
    let same = numbered_class to.classes numbered.number numbered refl c.numbered-class.ensures.class class is in
    subst (λ (x : Class). HoldsClass to.net tables changes x (marks_at c.is_safe.new.watch.came.items numbered.number)) same (found.held tables changes prepared))

pub returns-clause-watched : goal.returns-clause-watched
returns-clause-watched c = λ tables changes prepared.
    let to = c.args.goal.now in
    let numbered = c.numbered-class.result in
    let found = c.in_ok-is_safe.ensures in
    watched_one to tables changes c.args.watch.now.came.items c.is_safe.new.watch.came.items numbered.number found.count found.others
    (λ class is.
    let same = numbered_class to.classes numbered.number numbered refl c.numbered-class.ensures.class class is in
    subst (λ (x : Class). HoldsClass to.net tables changes x (marks_at c.is_safe.new.watch.came.items numbered.number)) same (found.held tables changes prepared))

-- what differs isn't the same
not_other : (told own : Bool) → told ≡ own → not (beq told own) ≡ true → ⊥
not_other told own same differs = other_than own (subst (λ (b : Bool). not (beq b own) ≡ true) same differs)
  where
    other_than : (b : Bool) → not (beq b b) ≡ true → ⊥
    other_than true h = false≢true h
    other_than false h = false≢true h

pub returns-then-enters-own-clause-told : goal.returns-then-enters-own-clause-told
returns-then-enters-own-clause-told c = λ tables taken prepared kept class is at.
    let numbered = c.numbered-class.result in
    let same = numbered_class c.args.goal.now.classes c.args.number numbered c.numbered-class.ensures.number c.numbered-class.ensures.class class is in
    let told : (numbered.class.entry.switch.0 == c.switch.result.0) ≡ c.args.own =
    ap (λ (x : Class). x.entry.switch.0 == c.switch.result.0) same ∙ ap (λ (s : SwitchId). class.entry.switch.0 == s.0) c.switch.ensures ∙ at in
    absurd (not_other (numbered.class.entry.switch.0 == c.switch.result.0) c.args.own told c.if-enters-own.true)
