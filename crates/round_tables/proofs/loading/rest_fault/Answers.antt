use Rattle.std.proofs.Common.{◌≡◌, ◌∙◌, sym, ap}
use Rattle.std.proofs.lemmas.Option.{get_or_from_slice_get}
use Rattle.update_model.specs.Changes.{switch_of}
use Rattle.update_model.specs.declared.Change.{Change}
use Rattle.round_tables.proofs.loading.rest_fault.Goals as goal

pub returns-in-Some-clause-err : goal.returns-in-Some-clause-err
returns-in-Some-clause-err c =
    let found = c.in-Some.ensures.some in
    let item = c.index-round-change.result in
    let same : item ≡ found.change = c.index-round-change.is ∙ get_or_from_slice_get c.args.round.now c.in-Some.change found.change item found.is in
    (found, ap (λ (x : Change). switch_of x) (sym same) ∙ sym c.switch-switch.ensures)
