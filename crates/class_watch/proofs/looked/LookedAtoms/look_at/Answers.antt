use Rattle.std.proofs.Common.{sym, ◌∙◌, inl, inr, arith}
use Rattle.class_watch.proofs.looked.LookedAtoms.look_at.Goals as goal

pub returns-clause-touched : goal.returns-clause-touched
returns-clause-touched c atom lt on =
    let count = c.mark_picked.ensures.count in
    c.mark_picked.ensures.kept atom (c.mark_touched.ensures.each atom (omega arith) ∙ on)

pub returns-clause-only : goal.returns-clause-only
returns-clause-only c atom lt on =
    let count = c.mark_picked.ensures.count in
    elim (c.mark_picked.ensures.only atom on) [
      | inl was ↦ inl (sym (c.mark_touched.ensures.each atom (omega arith)) ∙ was)
      | inr of ↦ inr of
    ]
