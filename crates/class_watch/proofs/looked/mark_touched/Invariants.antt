use Rattle.std.proofs.Common.{◌≡◌, ℕ, ◌<◌, length}
use Rattle.check_reasons.specs.AtomMarks.{is_marked}
use Rattle.class_watch.proofs.looked.mark_touched.Given as goal

abbrev pub invariant-loop-atom : goal.invariant-loop-atom
invariant-loop-atom l = record {
  count : length l.marks.items ≡ length l.initial.marks.items;
  each : (a : ℕ) → a < l.atom → is_marked l.marks.items a ≡ is_marked l.touched a;
}
