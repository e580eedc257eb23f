use Rattle.std.proofs.Common.{◌≡◌, ◌<◌, get_or, refl, ◌∙◌, subst, inl, inr, arith}
use Rattle.net_base.specs.declared.ids.SwitchId.{SwitchId}
use Rattle.acyclic_numbering.specs.Heights.{IsEdge, number_of}
use Rattle.acyclic_numbering.specs.declared.Edge.{Edge}
use Rattle.acyclic_numbering.proofs.ListLaws.{each_more, all_members}
use Rattle.net_base.proofs.ItemLaws.{in_at}
use Rattle.acyclic_numbering.proofs.next_number.Goals as goal

pub loop-edge-preserved : goal.loop-edge-preserved
loop-edge-preserved c =
    let none : Edge = record { from = record { 0 = 0 }; to = record { 0 = 0 } } in
    let edges = c.args.edges.now in
    let numbers = c.args.numbers.now in
    let e = get_or edges c.loop-edge.edge-index none in
    let up = c.raised-number.ensures in
    let above = up.above in
    let in_edges = in_at edges c.loop-edge.edge-index none c.loop-edge-test.true in (
      each_more (λ (x : Edge). (x.from ≡ c.args.s) → number_of numbers x.to < c.raised-number.result) edges c.loop-edge.edge-index none c.loop-edge-test.true
          (λ k d less from. let h = c.loop-edge.invariant.0 k d less from in omega arith) up.past,
      elim up.reached [
        | inl same ↦ elim c.loop-edge.invariant.1 [ inl z ↦ inl (same ∙ z) | inr t ↦ inr (t.0, t.1, same ∙ t.2) ]
        | inr here ↦ inr (e.to, subst (λ (x : SwitchId). IsEdge edges x e.to) here.0 in_edges, here.1)
      ],
    )

pub returns : goal.returns
returns c =
    let end = c.loop-edge-test.false in
    record {
      above = λ t edge. all_members (λ (x : Edge). (x.from ≡ c.args.s) → number_of c.args.numbers.now x.to < c.loop-edge.number) c.args.edges.now
          (λ k d within. c.loop-edge.invariant.0 k d (omega arith)) (record { from = c.args.s; to = t }) edge refl;
      reached = c.loop-edge.invariant.1;
    }
