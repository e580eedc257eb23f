use Rattle.std.proofs.Common.{◌<◌, false, length, get_or, set, ap, ◌∙◌, sym, inl, inr, arith, get_or-set_same, get_or-set_other}
use Rattle.std.specs.Prelude.{slice_get}
use Rattle.std.proofs.lemmas.Bool.{cases_eq}
use Rattle.std.proofs.lemmas.List.{length-set}
use Rattle.class_watch.proofs.looked.mark_covered.Goals as goal

pub loop-atom-preserved : goal.loop-atom-preserved
loop-atom-preserved c =
    let marks = c.loop-atom.marks.items in
    let i = c.loop-atom.atom in
    let here = c.covers_at.result in
    let count = c.loop-atom.invariant.count in
    let within : i < length marks = omega arith in
    record {
      count = length-set marks i here ∙ count;
      each = λ a class lt at.
          elim (cases_eq a i) [
            | inl e ↦ ap (λ n. get_or (set marks i here) n false) e ∙ get_or-set_same marks i here false within ∙ c.covers_at.ensures class (sym (ap (slice_get c.args.classes.now) e) ∙ at)
            | inr ne ↦ get_or-set_other marks i a here false ne ∙ c.loop-atom.invariant.each a class (omega arith) at
          ];
    }
