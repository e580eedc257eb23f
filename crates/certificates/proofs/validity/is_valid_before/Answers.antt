use Rattle.std.proofs.Common.{ℕ, List, sym, subst, arith}
use Rattle.topology.specs.Networks.{switch_count}
use Rattle.certificates.specs.Valid.{IsValidBefore}
use Rattle.certificates.proofs.Chains.{marked_ascends, marked_below, off_past}
use Rattle.certificates.proofs.validity.is_valid_before.Goals as goal

pub returns : goal.returns
returns c =
    let told = c.none_from.ensures in
    let marks = c.marks.result in
    let at = λ (v : List ℕ). IsValidBefore c.args.net.now v in
    let same = c.switches.ensures in (
      λ t. subst at c.marks.ensures.value (marked_below 0 (switch_count c.args.net.now) marks (λ j ge lt. told.0 t j (omega arith) lt), marked_ascends 0 marks),
      λ h. told.1 (λ j ge lt. off_past 0 (switch_count c.args.net.now) marks (subst at (sym c.marks.ensures.value) h).0 j (omega arith) lt),
    )
