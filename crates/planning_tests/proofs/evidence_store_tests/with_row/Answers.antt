use Rattle.std.proofs.Common.{List, refl, ap, ◌∙◌, subst}
use Rattle.std.specs.List.{AllByRecursion}
use Rattle.certificates.specs.Valid.{IsPickBefore}
use Rattle.certificates.specs.declared.OrderedPick.{OrderedPick}
use Rattle.certificates.specs.declared.OrderedEvidence.{OrderedEvidence}
use Rattle.planning_tests.proofs.evidence_store_tests.with_row.Goals as goal

pub add-requires-clause-behind : goal.add-requires-clause-behind
add-requires-clause-behind g c =
    let last : OrderedPick = record { round = c.args.row.round; class = c.args.row.class; shared = 0 } in
    let picks = c.list.ensures ∙ ap (λ (e : OrderedEvidence). e.picks) c.evidence.ensures in
    subst (λ (picks : List OrderedPick). AllByRecursion (λ p. IsPickBefore p last) picks) picks (c.if-not-are_earlier.ensures.0 refl)
