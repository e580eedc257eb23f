use Rattle.std.proofs.Common.{◌++◌, ◌∙◌, ap, arith}
use Rattle.counter_run.specs.Showing.{whole_round}
use Rattle.counter_run.proofs.AddLaws.{rounds_more}
use Rattle.counter_run.proofs.showing.add_whole_rounds.Goals as goal

pub loop-k-preserved : goal.loop-k-preserved
loop-k-preserved c =
    rounds_more c.args.rounds.now c.loop-k.k c.args.events.now c.loop-k.events c.add_whole_round.new.events (omega arith) c.loop-k.invariant
    (c.in_ok-add_whole_round.ensures ∙ ap (λ r. c.loop-k.events ++ whole_round r) c.round.ensures)
