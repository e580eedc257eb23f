use Rattle.std.proofs.Common.{◌≡◌, ◌+◌, ◌<◌, length, subst, sym, ◌∙◌, ℕ, drop, arith}
use Rattle.net_base.specs.declared.ids.SwitchId.{SwitchId}
use Rattle.net_base.specs.declared.ids.Stop.{Stop}
use Rattle.demands.specs.Good.{switches_of}
use Rattle.config_check.proofs.ChainLaws.{left_of, left_met, left_other, left_none, left_at_end, met_at_end}
use Rattle.config_check.proofs.waypoints.missed_waypoint.Goals as goal
use Rattle.config_check.proofs.waypoints.missed_waypoint.Goals.{then-met-chain+then-chain-met, else-met-chain, else-met-chain-via-then-met-chain+else-chain-met, else-met-chain-via-else-met-chain}

abbrev no_switch : SwitchId
no_switch = record { 0 = 0 }

abbrev no_stop : Stop
no_stop = record { switch = record { 0 = 0 }; port = record { 0 = 0 } }

pub loop-stop-preserved : goal.loop-stop-preserved
loop-stop-preserved c =
    let chain = c.args.chain.now in
    let stops = c.args.stops.now in
    let met = c.loop-stop.met in
    let i = c.loop-stop.stop-index in
    let before = c.loop-stop.invariant in
    let within : i < length stops = c.loop-stop-test.true in
    let stays = λ (n : ℕ). left_of (drop n chain) (switches_of (drop (i + 1) stops)) ≡ left_of chain (switches_of stops) in
    elim c.if-met-chain.branch [
      | then-met-chain+then-chain-met w ↦ record {
        in_chain = (let more = w.if-met-chain.true in let is = w.met-is in omega arith);
        left = subst stays (sym w.met-is) (left_met chain stops met i no_switch no_stop within w.if-met-chain.true w.if-chain-met.true ∙ before.left);
      }
      | else-met-chain w ↦ elim w.else-met-chain.branch [
        | else-met-chain-via-then-met-chain+else-chain-met v ↦ record {
          in_chain = (let h = before.in_chain in let is = w.met-is in omega arith);
          left = subst stays (sym w.met-is) (left_other chain stops met i no_switch no_stop within v.if-met-chain.true v.if-chain-met.false ∙ before.left);
        }
        | else-met-chain-via-else-met-chain v ↦ record {
          in_chain = (let h = before.in_chain in let is = w.met-is in omega arith);
          left = subst stays (sym w.met-is) (left_none chain stops met i no_switch no_stop within v.if-met-chain.false ∙ before.left);
        }
      ]
    ]

pub returns-then-met-chain-2-clause-some : goal.returns-then-met-chain-2-clause-some
returns-then-met-chain-2-clause-some c =
    left_at_end c.args.chain.now c.args.stops.now c.loop-stop.met c.loop-stop.stop-index no_switch (omega arith) c.if-met-chain-2.true c.loop-stop.invariant.left

pub returns-else-met-chain-2-clause-none : goal.returns-else-met-chain-2-clause-none
returns-else-met-chain-2-clause-none c = met_at_end c.args.chain.now c.args.stops.now c.loop-stop.met c.loop-stop.stop-index c.if-met-chain-2.false c.loop-stop.invariant.left
