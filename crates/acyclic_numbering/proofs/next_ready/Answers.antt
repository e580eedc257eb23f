use Rattle.std.proofs.Common.{◌≡◌, subst, inl, inr, arith}
use Rattle.std.proofs.lemmas.Bool.{both_ways, cases_lt}
use Rattle.net_base.specs.declared.ids.SwitchId.{SwitchId}
use Rattle.acyclic_numbering.specs.Heights.{IsEdge}
use Rattle.acyclic_numbering.specs.Numbered.{IsOpen, IsNumberable}
use Rattle.net_base.proofs.NameLaws.{same_switch}
use Rattle.acyclic_numbering.proofs.next_ready.Goals as goal

pub loop-i-preserved : goal.loop-i-preserved
loop-i-preserved c s below opens ready =
    elim (cases_lt s.0 c.loop-i.i) [
      | inl less ↦ c.loop-i.invariant s less opens ready
      | inr more ↦ (
          let e : s.0 ≡ c.loop-i.i = omega arith in
          let same = same_switch s (record { 0 = c.loop-i.i }) e in
          both_ways c.is_next.result c.if-is_next.false (c.is_next.ensures.1
          (subst (λ (x : SwitchId). IsOpen c.args.pending.now x) same opens, subst (λ (x : SwitchId). IsNumberable (IsEdge c.args.edges.now) c.args.pending.now x) same ready)))
    ]
