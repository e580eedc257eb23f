use Rattle.std.proofs.Common.{arith}
use Rattle.std.proofs.lemmas.Bool.{both_ways}
use Rattle.net_base.specs.declared.ids.SwitchId.{SwitchId}
use Rattle.waypoint_evidence.specs.Befores.{Holds}
use Rattle.net_base.proofs.ItemLaws.{in_at}
use Rattle.waypoint_evidence.proofs.first_held.Goals as goal
use Rattle.acyclic_numbering.proofs.ListLaws.{each_more}

pub returns-then-holds : goal.returns-then-holds
returns-then-holds c = (in_at c.args.switches.now c.loop-s.s-index (record { 0 = 0 }) c.loop-s-test.true, c.holds.ensures.0 c.if-holds.true)

pub loop-s-preserved : goal.loop-s-preserved
loop-s-preserved c =
    each_more (λ (s : SwitchId). ¬ Holds c.args.before.now s) c.args.switches.now c.loop-s.s-index (record { 0 = 0 }) c.loop-s-test.true c.loop-s.invariant
    (λ h. both_ways c.holds.result c.if-holds.false (c.holds.ensures.1 h))

pub returns : goal.returns
returns c k d within = let end = c.loop-s-test.false in c.loop-s.invariant k d (omega arith)
