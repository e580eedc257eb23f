use Rattle.std.proofs.Common.{◌≡◌, ℕ, ◌<◌, length, Some}
use Rattle.std.specs.Prelude.{slice_get}
use Rattle.net_base.specs.Blocks.{in_block}
use Rattle.dest_classes.specs.declared.Class.{Class}
use Rattle.check_reasons.specs.AtomMarks.{is_marked}
use Rattle.class_watch.proofs.looked.mark_covered.Given as goal

abbrev pub invariant-loop-atom : goal.invariant-loop-atom
invariant-loop-atom l = record {
  count : length l.marks.items ≡ length l.initial.marks.items;
  each : (a : ℕ) (class : Class) → a < l.atom → slice_get l.classes a ≡ Some class → is_marked l.marks.items a ≡ in_block l.prefix class.first;
}
