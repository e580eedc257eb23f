use Rattle.std.proofs.Common.{◌≡◌, ◌<◌, Some, sym, subst, ap, ◌∙◌}
use Rattle.dest_classes.specs.Classes.{class_count}
use Rattle.demands.specs.Duties.{ClassDuties}
use Rattle.demands.specs.OfClass.{HaveSameDuties}
use Rattle.ordered_check.specs.Guarded.{GuardedState}
use Rattle.ordered_check.proofs.GuardedLaws.{guarded_of_same, kept_within}
use Rattle.ordered_check.proofs.guarded.GuardedWalks.knows.Goals as goal

pub are_shared-requires-clause-one : goal.are_shared-requires-clause-one
are_shared-requires-clause-one c =
    let state = c.args.self.now in
    let last : state.last ≡ Some c.in-Some.last = ap (λ (s : GuardedState). s.last) (sym c.self.view_is) ∙ c.in-Some.is in
    subst (λ (d : ClassDuties). c.in-Some.last.number < class_count d.classes) (sym c.class_duties-duties.ensures)
    (kept_within c.args.of.now.task c.args.of.now.evidence state.last c.in-Some.last state.steps state.leaving last c.requires.kept)

pub returns-then-are_shared : goal.returns-then-are_shared
returns-then-are_shared c same =
    let state = c.args.self.now in
    let noted = c.args.walk.now in
    let last : state.last ≡ Some c.in-Some.last = ap (λ (s : GuardedState). s.last) (sym c.self.view_is) ∙ c.in-Some.is in
    let duties = subst (λ (d : ClassDuties). HaveSameDuties d c.in-Some.last.number c.args.class.number) c.class_duties-duties.ensures (c.are_shared.ensures c.if-are_shared.true) in
    guarded_of_same c.args.of.now.task c.args.of.now.evidence state.last c.in-Some.last c.args.class state.steps noted.steps state.leaving noted.leaving last c.requires.kept
    (c.is_judged_like.ensures.start c.if-not-is_judged_like.false) (c.is_judged_like.ensures.shared c.if-not-is_judged_like.false) duties (c.has_walks.ensures.steps same) (c.has_walks.ensures.leaving same)
