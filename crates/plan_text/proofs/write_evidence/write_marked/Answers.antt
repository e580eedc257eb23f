use Rattle.std.proofs.Common.{arith}
use Rattle.plan_text.proofs.Adding.{token_added}
use Rattle.plan_text.proofs.Marked.{marked_added, unmarked_added, marks_added}
use Rattle.plan_text.proofs.write_evidence.write_marked.Goals as goal
use Rattle.plan_text.proofs.write_evidence.write_marked.Goals.{then-marked+in_ok-u64, else-marked}

pub loop-number-preserved : goal.loop-number-preserved
loop-number-preserved c = elim c.if-marked.branch [
  | then-marked+in_ok-u64 w ↦ rw w.out-is
      (marked_added c.loop-number.number c.args.marks.now _ _ _ c.loop-number-test.true w.if-marked.true c.loop-number.invariant (token_added w.in_ok-u64.ensures))
  | else-marked w ↦ rw w.out-is (unmarked_added c.loop-number.number c.args.marks.now _ _ c.loop-number-test.true w.if-marked.false c.loop-number.invariant)
]

pub returns : goal.returns
returns c =
    marks_added c.args.marks.now c.loop-number.number _ _ _ _ (omega arith) (token_added c.in_ok-begin_array.ensures) c.loop-number.invariant (token_added c.in_ok-end_array.ensures)
