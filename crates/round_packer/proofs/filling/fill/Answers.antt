use Rattle.std.proofs.Common.{◌≡◌, ◌+◌, List, Vec, Global, ◌∷◌, drop, suc, refl, sym, ◌∙◌, ap, subst, add-one, arith}
use Rattle.std.proofs.Math.Seq.{drop-cons}
use Rattle.std.specs.Prelude.{Option, IfSome}
use Rattle.std.specs.List.{AllByRecursion}
use Rattle.net_base.specs.Members.{IsIn}
use Rattle.net_base.proofs.ItemLaws.{in_at}
use Rattle.net_base.proofs.MemberLaws.{each_at}
use Rattle.update_model.specs.declared.Change.{Change}
use Rattle.law_packed_rounds.specs.Packing.{CanStand, IsFilled}
use Rattle.std.proofs.lemmas.List.{drop_all}
use Rattle.round_packer.specs.declared.failing.Failure.{Failure}
use Rattle.round_packer.specs.Filling.{IsPlain, HasFailed}
use Rattle.round_packer.proofs.FillLaws.{AreGone, gone_known, gone_tried, gone_failed}
use Rattle.round_packer.proofs.filling.fill.Goals.{in-Some-2+in_ok-push-2, in_default-2}
use Rattle.round_packer.proofs.filling.fill.Goals as goal

pub try_change-requires-clause-plain : goal.try_change-requires-clause-plain
try_change-requires-clause-plain c =
    let changes = c.args.left.now.changes.now in
    let d = c.change-item.result in
    each_at (IsPlain c.args.goal.now.net) changes d c.requires.plain (subst (λ (x : Change). IsIn x changes) (sym c.change-item.is) (in_at changes c.loop-change.change-index d c.loop-change-test.true))

pub try_change-requires-clause-filling : goal.try_change-requires-clause-filling
try_change-requires-clause-filling c =
    let (tables, round, at, failed) = c.requires.filling in
    let gone = c.loop-change.invariant.gone tables round at failed in
    (tables, gone.now, gone.filling)

pub loop-change-preserved-in-Some : goal.loop-change-preserved-in-Some
loop-change-preserved-in-Some c =
    let there = c.in-Some.ensures.there in
    let place = there.0 in
    record {
      within = omega arith;
      gone = λ tables round at failed.
          let to = c.args.goal.now in
          let i = c.loop-change.change-index in
          let changes = c.args.left.now.changes.now in
          let known = c.args.left.now.failed.now in
          let d = c.change-item.result in
          let rest = drop (i + 1) changes in
          let split : drop i changes ≡ d ∷ rest =
          drop-cons changes i d c.loop-change-test.true ∙ ap (λ (x : Change). x ∷ drop (suc i) changes) (sym c.change-item.is) ∙ ap (λ n. d ∷ drop n changes) (sym (add-one i)) in
          let p = c.loop-change.trial in
          let came = c.loop-change.watch.came.items in
          let looked = c.loop-change.looked in
          let found = c.loop-change.failures.items in
          let gone : AreGone to tables round changes known (d ∷ rest) p came looked found =
          subst (λ (cs : List Change). AreGone to tables round changes known cs p came looked found) split (c.loop-change.invariant.gone tables round at failed) in
          subst (AreGone to tables round changes known rest p came looked) (sym c.in_ok-push.ensures.items)
          (gone_known to tables round changes known d rest p came looked found gone c.in-Some.failure there.1 c.in-Some.ensures.change);
    }

pub loop-change-preserved : goal.loop-change-preserved
loop-change-preserved c = record {
  within = c.loop-change.invariant.within;
  gone = λ tables round at failed.
      let to = c.args.goal.now in
      let i = c.loop-change.change-index in
      let changes = c.args.left.now.changes.now in
      let known = c.args.left.now.failed.now in
      let d = c.change-item.result in
      let rest = drop (i + 1) changes in
      let split : drop i changes ≡ d ∷ rest =
      drop-cons changes i d c.loop-change-test.true ∙ ap (λ (x : Change). x ∷ drop (suc i) changes) (sym c.change-item.is) ∙ ap (λ n. d ∷ drop n changes) (sym (add-one i)) in
      let p = c.loop-change.trial in
      let came = c.loop-change.watch.came.items in
      let looked = c.loop-change.looked in
      let found = c.loop-change.failures.items in
      let gone : AreGone to tables round changes known (d ∷ rest) p came looked found =
      subst (λ (cs : List Change). AreGone to tables round changes known cs p came looked found) split (c.loop-change.invariant.gone tables round at failed) in
      let q = c.try_change.new.trial in
      let new = c.try_change.new.watch.came.items in
      let marks = c.try_change.new.looked in
      let tried = c.in_ok-failure.ensures.tried tables gone.now gone.filling in
      let P = AreGone to tables round changes known rest q new marks in
      elim c.match-branch-3.branch [
        | in-Some-2+in_ok-push-2 w ↦
            let f = w.in-Some-2.failure in
            let is = ap (λ (v : Vec Failure Global). v.items) w.failures-is ∙ w.in_ok-push-2.ensures.items in
            let fails = subst (λ (o : Option Failure). IfSome o (HasFailed to tables gone.now)) w.in-Some-2.is (c.in_ok-failure.ensures.failed tables gone.now gone.filling) in
            subst P (sym is) (gone_failed to tables round changes known d rest p came looked found gone q new marks tried f fails)
        | in_default-2 w ↦
            subst (λ (v : Vec Failure Global). P v.items) (sym w.failures-is) (gone_tried to tables round changes known d rest p came looked found gone q new marks tried)
      ];
}

pub returns-clause-filled : goal.returns-clause-filled
returns-clause-filled c = λ tables round at failed.
    let to = c.args.goal.now in
    let gone = c.loop-change.invariant.gone tables round at failed in
    record {
      round = gone.now;
      filled = gone.so_far gone.now
          (subst (λ (cs : List Change). IsFilled (CanStand to tables) gone.now cs gone.now) (sym (drop_all c.loop-change.change-index c.args.left.now.changes.now c.loop-change-test.false)) refl);
      filling = gone.filling;
    }

pub returns-clause-failed : goal.returns-clause-failed
returns-clause-failed c = λ tables round at failed.
    let to = c.args.goal.now in
    let gone = c.loop-change.invariant.gone tables round at failed in
    subst (λ (cs : List Change). AllByRecursion (HasFailed to tables cs) c.loop-change.failures.items) (sym gone.filling.round_is) gone.found_failed
