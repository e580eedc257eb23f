use Rattle.std.proofs.Common.{◌≡◌, ◌<◌, length, subst, arith}
use Rattle.net_base.specs.declared.ids.SwitchId.{SwitchId}
use Rattle.acyclic_numbering.specs.Heights.{IsEdge, number_of}
use Rattle.acyclic_numbering.specs.declared.Edge.{Edge}
use Rattle.acyclic_numbering.proofs.ListLaws.{all_members, members_all}
use Rattle.acyclic_numbering.proofs.HeightLaws.{so_far_more, count_set}
use Rattle.acyclic_numbering.proofs.give_number.Goals as goal

pub next_number-number-requires-clause-low : goal.next_number-number-requires-clause-low
next_number-number-requires-clause-low c =
    let edges = c.args.edges.now in
    let few = c.requires.few in
    members_all (λ (x : Edge). (x.from ≡ c.args.s) → number_of c.args.numbers.now x.to < 65535) edges (λ x i same.
    let goes : IsEdge edges c.args.s x.to = subst (λ (y : SwitchId). IsEdge edges y x.to) same i in
    let inside = (all_members (λ (e : Edge). (e.from.0 < length c.args.pending.now) × (e.to.0 < length c.args.pending.now)) edges c.requires.edges x i).1 in
    let low = c.requires.so_far.low x.to inside (c.requires.next.1 x.to goes) in omega arith)

pub returns-clause-so_far : goal.returns-clause-so_far
returns-clause-so_far c =
    let edges = c.args.edges.now in
    so_far_more (IsEdge edges) c.args.numbers.now c.args.s c.next_number-number.result c.next_number-number.ensures c.args.pending.now c.requires.so_far c.requires.within c.requires.next.0 c.requires.next.1
    (λ t goes. (all_members (λ (e : Edge). (e.from.0 < length c.args.pending.now) × (e.to.0 < length c.args.pending.now)) edges c.requires.edges (record { from = c.args.s; to = t }) goes).1)

pub returns-clause-fewer : goal.returns-clause-fewer
returns-clause-fewer c = count_set c.args.pending.now c.args.s.0 c.requires.next.0
