use Rattle.std.proofs.Common.{length, ◌∙◌}
use Rattle.acyclic_numbering.specs.Heights.{IsEdge, IsLower}
use Rattle.acyclic_numbering.specs.declared.Edge.{Edge}
use Rattle.acyclic_numbering.proofs.ListLaws.{all_members}
use Rattle.acyclic_numbering.proofs.PassLaws.{fallen_heights}
use Rattle.acyclic_numbering.proofs.raise_all.Goals as goal

pub returns-then-fall_along : goal.returns-then-fall_along
returns-then-fall_along c told =
    let edges = c.args.edges.now in
    let numbers = c.raise_once.new.numbers in
    fallen_heights (IsEdge edges) numbers c.raise_once.ensures
    (λ s t goes. all_members (λ (e : Edge). IsLower numbers e.from e.to) edges (c.fall_along.ensures.0 c.if-fall_along.true) (record { from = s; to = t }) goes) (length c.args.numbers.now)
    (c.raise_once.auto.numbers ∙ c.loop.auto.numbers)
