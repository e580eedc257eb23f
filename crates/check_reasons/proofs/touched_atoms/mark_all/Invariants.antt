use Rattle.std.proofs.Common.{◌≡◌, length, take}
use Rattle.check_reasons.specs.AtomMarks.{AreTouched}
use Rattle.check_reasons.proofs.touched_atoms.mark_all.Given as goal

abbrev pub invariant-loop-change : goal.invariant-loop-change
invariant-loop-change l = record {
  touched : AreTouched l.classes (take l.change-index l.changes) l.marks;
  count : length l.marks ≡ length l.fn.marks;
}
