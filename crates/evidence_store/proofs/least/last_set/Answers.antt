use Rattle.std.proofs.Common.{◌≡◌, ℕ, ◌-◌, ◌<◌, List, ◌++◌, length, ap, ◌∙◌, arith}
use Rattle.std.specs.Prelude.{slice_get}
use Rattle.evidence_store.proofs.PositionLaws.{last_of_back}
use Rattle.evidence_store.proofs.least.last_set.Goals as goal

pub returns-else-place-eq0 : goal.returns-else-place-eq0
returns-else-place-eq0 c so_far sets is long =
    let some : 0 < length sets = (let ne = c.if-place-eq0.false in omega arith) in
    let same : c.list.result.now ≡ so_far ++ sets = c.list.ensures ∙ is in
    c.last.ensures.value ∙ ap (λ (xs : List (List ℕ)). slice_get xs (length xs - 1)) same ∙ last_of_back so_far sets some
