use Rattle.std.proofs.Common.{ℕ, List, [], ◌∷◌, ◌++◌, Vec, Global, sym, ap, ◌∙◌}
use Rattle.waypoint_evidence.proofs.MarkLaws.{marked_on, marked_off}
use Rattle.evidence_store.proofs.keys.marked.Goals as goal
use Rattle.evidence_store.proofs.keys.marked.Goals.{then-is_member+in_ok-push, else-is_member}

pub loop-switch-preserved : goal.loop-switch-preserved
loop-switch-preserved c =
    elim c.if-is_member.branch [
      | then-is_member+in_ok-push w ↦
          ap (λ (v : Vec ℕ Global). v.items) w.members-is ∙ w.in_ok-push.ensures.items ∙ ap (λ (l : List ℕ). l ++ c.loop-switch.switch ∷ []) c.loop-switch.invariant
          ∙ sym (marked_on c.args.marks.now c.loop-switch.switch c.loop-switch-test.true w.if-is_member.true)
      | else-is_member w ↦
          ap (λ (v : Vec ℕ Global). v.items) w.members-is ∙ c.loop-switch.invariant ∙ sym (marked_off c.args.marks.now c.loop-switch.switch c.loop-switch-test.true w.if-is_member.false)
    ]
