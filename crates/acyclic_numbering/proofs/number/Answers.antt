use Rattle.std.proofs.Common.{rules, ◌∙◌}
use Rattle.acyclic_numbering.specs.Heights.{IsEdge}
use Rattle.acyclic_numbering.proofs.PassLaws.{zeros_reached}
use Rattle.acyclic_numbering.proofs.number.Goals as goal

pub raise_all-requires-clause-reached : goal.raise_all-requires-clause-reached
raise_all-requires-clause-reached c =
    zeros_reached (IsEdge c.args.edges.now) c.args.switches c.deref_mut.result.now (c.deref_mut.ensures.value ∙ c.in_ok-numbers.ensures.items_if_clones_equal (λ y h. search rules))
