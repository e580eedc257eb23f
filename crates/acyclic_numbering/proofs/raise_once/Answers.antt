use Rattle.std.proofs.Common.{◌≡◌, ◌<◌, ℕ, List, [], ◌∷◌, ◌++◌, length, length-set, refl, sym, ◌∙◌, subst, ap, inl, inr, arith}
use Rattle.std.specs.List.{All}
use Rattle.net_base.specs.Members.{IsIn}
use Rattle.net_base.proofs.MemberLaws.{in_append_left, in_append_right}
use Rattle.acyclic_numbering.specs.Heights.{IsEdge}
use Rattle.acyclic_numbering.specs.Numbered.{IsRaisedAlong, AreReached}
use Rattle.acyclic_numbering.specs.declared.Edge.{Edge}
use Rattle.acyclic_numbering.proofs.ListLaws.{all_members}
use Rattle.acyclic_numbering.proofs.PassLaws.{still_reached}
use Rattle.acyclic_numbering.proofs.raise_once.Goals as goal

-- raising along the last edge that is left
after_last : (edges left rest : List Edge) (numbers new : List ℕ) (count : ℕ) (e : Edge) → All (λ x. (x.from.0 < count) × (x.to.0 < count)) edges → length numbers ≡ count
    → ((d : Edge) → IsIn d left → IsIn d edges) → left ≡ rest ++ e ∷ [] → IsRaisedAlong e numbers new → AreReached (IsEdge edges) numbers → AreReached (IsEdge edges) new
after_last edges left rest numbers new count e within len from is raised reached =
    let i = from e (subst (λ (xs : List Edge). IsIn e xs) (sym is) (in_append_right e rest (e ∷ []) (inl refl))) in
    let low = (all_members (λ (x : Edge). (x.from.0 < count) × (x.to.0 < count)) edges within e i).0 in
    still_reached (IsEdge edges) e numbers new (omega arith) i raised reached

pub loop-edge-init : goal.loop-edge-init
loop-edge-init c =
    let same : c.into_iter-edge-iterator.result.iter.rest.now ≡ c.args.edges.now =
    ap (λ r. r.iter.rest.now) c.into_iter-edge-iterator.ensures.into_iter_gives ∙ ap (λ x. x.rest.now) c.rev-edge-items.ensures.source ∙ c.iter.ensures.rest in
    (c.requires.reached, refl, λ e i. subst (λ (xs : List Edge). IsIn e xs) same i)

pub returns-then-not-raise : goal.returns-then-not-raise
returns-then-not-raise c =
    after_last c.args.edges.now c.loop-edge.edge-iterator.iter.rest.now c.next.new.self.iter.rest.now c.loop-edge.numbers c.raise.new.numbers (length c.args.numbers.now) c.in-Some.edge.now
    c.requires.edges c.loop-edge.invariant.1 c.loop-edge.invariant.2 c.in-Some.ensures.steps c.raise.ensures c.loop-edge.invariant.0

pub loop-edge-preserved : goal.loop-edge-preserved
loop-edge-preserved c = (
  after_last c.args.edges.now c.loop-edge.edge-iterator.iter.rest.now c.next.new.self.iter.rest.now c.loop-edge.numbers c.raise.new.numbers (length c.args.numbers.now) c.in-Some.edge.now
      c.requires.edges c.loop-edge.invariant.1 c.loop-edge.invariant.2 c.in-Some.ensures.steps c.raise.ensures c.loop-edge.invariant.0,
  elim c.raise.ensures [
    | inl same ↦ ap length same ∙ c.loop-edge.invariant.1
    | inr more ↦ ap length more.1 ∙ length-set c.loop-edge.numbers _ _ ∙ c.loop-edge.invariant.1
  ],
  λ e i. c.loop-edge.invariant.2 e (subst (λ (xs : List Edge). IsIn e xs) (sym c.in-Some.ensures.steps) (in_append_left e c.next.new.self.iter.rest.now (c.in-Some.edge.now ∷ []) i)),
)
