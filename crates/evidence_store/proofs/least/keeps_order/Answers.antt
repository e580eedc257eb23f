use Rattle.std.proofs.Common.{ℕ, ◌<◌, List, subst}
use Rattle.certificates.specs.Valid.{IsChain}
use Rattle.certificates.proofs.Chains.{marked_ascends}
use Rattle.evidence_store.proofs.least.keeps_order.Goals as goal

pub returns : goal.returns
returns c = subst (λ (set : List ℕ). IsChain (λ s t. s < t) set) c.marks.ensures.value (marked_ascends 0 c.marks.result)
