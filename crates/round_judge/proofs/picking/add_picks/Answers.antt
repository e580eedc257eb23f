use Rattle.std.proofs.Common.{◌<◌, List, ◌∷◌, refl, sym, ◌∙◌, subst}
use Rattle.std.proofs.IntoIterSteps.{All-taken}
use Rattle.std.specs.List.{AllByRecursion}
use Rattle.net_base.proofs.MemberLaws.{each_last}
use Rattle.certificates.specs.Valid.{IsChain}
use Rattle.round_judge.specs.declared.judging.FoundEvidence.{FoundEvidence}
use Rattle.round_judge.specs.Judged.{AreWithPicks}
use Rattle.round_judge.proofs.PickingLaws.{taken_next, picks_push, all_before}
use Rattle.round_judge.proofs.picking.add_picks.Goals as goal

pub loop-new-init : goal.loop-new-init
loop-new-init c = (refl, refl)

pub add-requires-clause-class : goal.add-requires-clause-class
add-requires-clause-class c =
    let xs = c.loop-new.yielded in
    let whole = sym c.into_iter-new-iterator.ensures.into_iter_gives.0
    ∙ taken_next c.into_iter-new-iterator.result xs c.loop-new.new-iterator c.in-Some.new c.next.new.self.rest.items c.loop-new.yielded_by c.in-Some.ensures.steps.0 in
    let within = subst (AllByRecursion (λ (f : FoundEvidence). f.class < c.args.store.classes)) whole c.requires.classes in
    subst (λ n. c.in-Some.new.class < n) (sym c.loop-new.invariant.1) (each_last (λ (f : FoundEvidence). f.class < c.args.store.classes) xs (c.in-Some.new ∷ c.next.new.self.rest.items) within).0

pub add-requires-clause-behind : goal.add-requires-clause-behind
add-requires-clause-behind c =
    let xs = c.loop-new.yielded in
    let whole = sym c.into_iter-new-iterator.ensures.into_iter_gives.0
    ∙ taken_next c.into_iter-new-iterator.result xs c.loop-new.new-iterator c.in-Some.new c.next.new.self.rest.items c.loop-new.yielded_by c.in-Some.ensures.steps.0 in
    all_before c.args.store.evidence c.args.round xs c.next.new.self.rest.items c.in-Some.new c.loop-new.store.evidence c.loop-new.invariant.0
    c.requires.behind (subst (IsChain (λ (f g : FoundEvidence). f.class < g.class)) whole c.requires.ascending)

pub loop-new-preserved : goal.loop-new-preserved
loop-new-preserved c = (
  picks_push c.args.store.evidence c.args.round c.loop-new.yielded c.in-Some.new c.loop-new.store.evidence c.in_ok-store.store.evidence
      c.loop-new.invariant.0 c.in_ok-store.ensures.pick,
  c.in_ok-store.ensures.classes ∙ c.loop-new.invariant.1,
)

pub returns-clause-picks : goal.returns-clause-picks
returns-clause-picks c =
    let start = c.into_iter-new-iterator.result in
    let all = All-taken start c.loop-new.yielded (c.next.new.self, (c.loop-new.new-iterator, c.loop-new.yielded_by, c.in-None.ensures.steps)) in
    subst (λ (xs : List FoundEvidence). AreWithPicks c.args.store.evidence c.args.round xs c.loop-new.store.evidence)
    (all ∙ c.into_iter-new-iterator.ensures.into_iter_gives.0) c.loop-new.invariant.0

pub returns-clause-classes : goal.returns-clause-classes
returns-clause-classes c = c.loop-new.invariant.1
