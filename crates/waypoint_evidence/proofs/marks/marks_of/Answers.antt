use Rattle.std.proofs.Common.{◌≡◌, ◌==◌, Bool, get_or, set, length-set, false, sym, ◌∙◌, subst, arith}
use Rattle.std.specs.Int.{bit_at}
use Rattle.waypoint_evidence.proofs.MarkLaws.{list_more, marks_are}
use Rattle.waypoint_evidence.proofs.marks.marks_of.Goals as goal

pub loop-n-preserved : goal.loop-n-preserved
loop-n-preserved c = (
  length-set c.loop-n.marks c.loop-n.n c.has.result ∙ c.loop-n.invariant.0,
  λ k within. let bits = c.args.set in
      subst (λ (b : Bool). get_or (set c.loop-n.marks c.loop-n.n b) k false ≡ (bit_at bits k == 1)) (sym c.has.ensures)
      (list_more bits c.loop-n.n c.loop-n.marks c.loop-n-test.true c.loop-n.invariant.0 c.loop-n.invariant.1 k within),
)

pub returns : goal.returns
returns c = let end = c.loop-n-test.false in sym (marks_are c.args.set c.loop-n.marks c.loop-n.invariant.0 (λ n less. sym (c.loop-n.invariant.1 n (omega arith))))
