use Rattle.std.proofs.Common.{◌≡◌, ◌<◌, false, set, refl, subst, arith}
use Rattle.std.proofs.lemmas.Result.{IfOk-weaker}
use Rattle.acyclic_numbering.specs.Heights.{IsEdge}
use Rattle.acyclic_numbering.specs.Numbered.{IsOpen, open_count, IsClosedAt, IsClosedWalk}
use Rattle.acyclic_numbering.specs.declared.Edge.{Edge}
use Rattle.acyclic_numbering.proofs.ListLaws.{all_members}
use Rattle.acyclic_numbering.proofs.HeightLaws.{count_set}
use Rattle.acyclic_numbering.proofs.CycleLaws.{closed_at, walked_more}
use Rattle.acyclic_numbering.proofs.closed_walk.Goals as goal

pub walking-smaller : goal.walking-smaller
walking-smaller c =
    let h = count_set c.walking.left c.in-Some.next.0 c.if-not-left-next.false in
    let g : open_count (set c.walking.left c.in-Some.next.0 false) < open_count c.walking.left = omega arith in g

pub walking-preserved : goal.walking-preserved
walking-preserved c =
    walked_more (IsEdge c.args.edges.now) c.args.pending.now c.walking.left c.walking.at c.in-Some.next c.walking.walk.items c.push-in-Some.new.self.items
    c.walking.invariant c.in-Some.ensures.0 c.in-Some.ensures.1 c.in_ok-push-2.ensures.items

pub unreachable-requires : goal.unreachable-requires
unreachable-requires c =
    c.requires.stuck c.walking.at c.walking.invariant.at_open (λ t goes opens.
    all_members (λ (e : Edge). (e.from ≡ c.walking.at) → ¬ IsOpen c.args.pending.now e.to) c.args.edges.now c.in_default.ensures (record { from = c.walking.at; to = t }) goes refl opens)

pub returns-then-not-left-next : goal.returns-then-not-left-next
returns-then-not-left-next c =
    IfOk-weaker c.close_at.result (λ v. IsClosedAt c.in-Some.next c.deref.result.now v.items) (λ v. IsClosedWalk (IsEdge c.args.edges.now) v.items)
    (λ v is. closed_at (IsEdge c.args.edges.now) c.args.pending.now c.walking.left c.walking.at c.in-Some.next c.walking.walk.items v.items c.walking.invariant c.in-Some.ensures.0
    (subst (λ xs. IsClosedAt c.in-Some.next xs v.items) c.deref.ensures.value is)) c.close_at.ensures
