use Rattle.std.proofs.Common.{◌<◌, false, length, get_or, set, ap, ◌∙◌, sym, inl, inr, arith, get_or-set_same, get_or-set_other}
use Rattle.std.proofs.lemmas.Bool.{cases_eq}
use Rattle.std.proofs.lemmas.List.{length-set}
use Rattle.class_watch.proofs.looked.mark_touched.Goals as goal

pub loop-atom-preserved : goal.loop-atom-preserved
loop-atom-preserved c =
    let marks = c.loop-atom.marks.items in
    let i = c.loop-atom.atom in
    let here = c.has.result in
    let count = c.loop-atom.invariant.count in
    let within : i < length marks = omega arith in
    record {
      count = length-set marks i here ∙ count;
      each = λ a lt.
          elim (cases_eq a i) [
            | inl e ↦ ap (λ n. get_or (set marks i here) n false) e ∙ get_or-set_same marks i here false within ∙ c.has.ensures ∙ ap (λ n. get_or c.args.touched.now n false) (sym e)
            | inr ne ↦ get_or-set_other marks i a here false ne ∙ c.loop-atom.invariant.each a (omega arith)
          ];
    }
