use Rattle.std.proofs.Common.{◌≡◌, ◌⊎◌, ℕ, ◌%◌, true, length, take}
use Rattle.net_base.specs.Members.{IsIn}
use Rattle.certificates.specs.declared.OrderedPick.{OrderedPick}
use Rattle.check_reasons.specs.AtomMarks.{is_marked}
use Rattle.class_watch.proofs.looked.mark_picked.Given as goal

abbrev pub invariant-loop-pick : goal.invariant-loop-pick
invariant-loop-pick l = record {
  count : length l.marks.items ≡ length l.initial.marks.items;
  kept : (atom : ℕ) → is_marked l.initial.marks.items atom ≡ true → is_marked l.marks.items atom ≡ true;
  only : (atom : ℕ) → is_marked l.marks.items atom ≡ true
      → (is_marked l.initial.marks.items atom ≡ true) ⊎ ((pick : OrderedPick) × IsIn pick (take l.pick-index l.picks) × (pick.class % length l.marks.items ≡ atom));
  picked : (pick : OrderedPick) → IsIn pick (take l.pick-index l.picks) → is_marked l.marks.items (pick.class % length l.marks.items) ≡ true;
}
