use Rattle.std.proofs.Common.{ℕ, [], ◌∷◌, ◌++◌, refl, sym, ◌∙◌, subst, inl, inr, arith}
use Rattle.std.specs.Prelude.{None}
use Rattle.std.proofs.lemmas.Bool.{cases_lt, cases_eq}
use Rattle.dest_classes.proofs.MapLaws.{number_fits}
use Rattle.round_packer.specs.Kept.{IsTold}
use Rattle.round_packer.proofs.JudgeLaws.{told_passed, told_on, watched_same, watched_then, kept_watched}
use Rattle.round_packer.proofs.judging.classes_failure.Goals as goal

pub judging-init : goal.judging-init
judging-init c =
    let to = c.args.goal.now in
    let change = c.args.tried.now.change.now in
    let came = c.args.watch.now.came.items in
    let first = c.next_number-number.ensures in
    record {
      within = first.within;
      count = refl;
      last = c.requires.last;
      watched = λ tables changes prepared. watched_same to tables changes came;
      told = λ tables taken prepared kept n less.
          told_passed to tables taken change c.args.tried.now.mixes.now prepared c.args.own c.args.looked.now c.requires.atoms c.requires.touched n
          (first.passed n (omega arith) less) came kept;
    }

pub class_failure-requires-clause-number : goal.class_failure-requires-clause-number
class_failure-requires-clause-number c =
    let count = c.count-end.ensures.count in
    let less = c.judging-test.true in
    omega arith

pub class_failure-requires-clause-came : goal.class_failure-requires-clause-came
class_failure-requires-clause-came c = c.judging.invariant.count ∙ c.requires.came

pub judging-preserved : goal.judging-preserved
judging-preserved c =
    let to = c.args.goal.now in
    let change = c.args.tried.now.change.now in
    let number = c.judging.number in
    let first = c.args.watch.now.came.items in
    let mid = c.judging.watch.came.items in
    let new = c.class_failure.new.watch.came.items in
    let inv = c.judging.invariant in
    let one = c.in_ok-failure.ensures in
    let following = c.next_number-number-in-judging.ensures in
    record {
      within = following.within;
      count = one.count ∙ inv.count;
      last = one.last;
      watched = λ tables changes prepared. watched_then to tables changes first mid new (inv.watched tables changes prepared) (one.watched tables changes prepared);
      told = λ tables taken prepared kept n less.
          let changes = taken ++ change ∷ [] in
          let watched = one.watched tables changes prepared in
          let kept_mid = kept_watched to tables taken change first mid (inv.watched tables changes prepared) kept in
          let kept_new = kept_watched to tables taken change mid new watched kept_mid in
          let here : IsTold to tables changes change c.args.own number new None =
          subst (IsTold to tables changes change c.args.own number new) c.in_default.is (one.told tables taken prepared kept_mid) in
          elim (cases_lt n number) [
            | inl below ↦ told_on to tables changes change c.args.own n mid new watched (inv.told tables taken prepared kept n below)
            | inr past ↦ elim (cases_eq n number) [
              | inl e ↦ subst (λ (i : ℕ). IsTold to tables changes change c.args.own i new None) (sym e) here
              | inr ne ↦
                  told_passed to tables taken change c.args.tried.now.mixes.now prepared c.args.own c.args.looked.now c.requires.atoms c.requires.touched n
                  (following.passed n (omega arith) less) new kept_new
            ]
          ];
    }

pub returns-in-Some-clause-told : goal.returns-in-Some-clause-told
returns-in-Some-clause-told c = λ tables taken prepared kept.
    let to = c.args.goal.now in
    let change = c.args.tried.now.change.now in
    let changes = taken ++ change ∷ [] in
    let inv = c.judging.invariant in
    let kept_mid = kept_watched to tables taken change c.args.watch.now.came.items c.judging.watch.came.items (inv.watched tables changes prepared) kept in
    subst (IsTold to tables changes change c.args.own c.judging.number c.class_failure.new.watch.came.items) c.in-Some.is (c.in_ok-failure.ensures.told tables taken prepared kept_mid)

pub returns-in-Some-clause-watched : goal.returns-in-Some-clause-watched
returns-in-Some-clause-watched c = λ tables changes prepared.
    watched_then c.args.goal.now tables changes c.args.watch.now.came.items c.judging.watch.came.items c.class_failure.new.watch.came.items (c.judging.invariant.watched tables changes prepared)
    (c.in_ok-failure.ensures.watched tables changes prepared)

pub returns-clause-told : goal.returns-clause-told
returns-clause-told c = λ tables taken prepared kept n class is at.
    let count = c.count-end.ensures.count in
    let past = c.judging-test.false in
    let fits = number_fits c.args.goal.now.classes n class is in
    c.judging.invariant.told tables taken prepared kept n (omega arith) class is at
