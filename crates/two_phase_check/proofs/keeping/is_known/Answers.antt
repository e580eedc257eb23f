use Rattle.std.proofs.Common.{◌≡◌, Option, Some, None, ap, ◌∙◌}
use Rattle.std.proofs.lemmas.Option.{slice_get-get_or}
use Rattle.net_base.proofs.ItemLaws.{in_from_get}
use Rattle.two_phase_check.specs.declared.keeping.KeptPlace.{KeptPlace}
use Rattle.two_phase_check.proofs.KeepLaws.{kept_at}
use Rattle.two_phase_check.proofs.keeping.is_known.Goals as goal

pub returns-in-Some : goal.returns-in-Some
returns-in-Some c = λ yes t k all.
    let same : c.in-Some.other ≡ c.args.kept = c.is_same.ensures yes in
    kept_at t k c.args.known.now c.args.kept all
    (in_from_get c.args.known.now c.slot_of-slot.result (Some c.args.kept)
    (slice_get-get_or c.args.known.now c.slot_of-slot.result None c.if-slot-known.false
    ∙ ap (λ (o : Option KeptPlace). let s : Option (Option KeptPlace) = Some o in s) (c.in-Some.is ∙ ap (λ (p : KeptPlace). let s : Option KeptPlace = Some p in s) same)))
