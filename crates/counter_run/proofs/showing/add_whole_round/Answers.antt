use Rattle.counter_run.proofs.AddLaws.{round_added}
use Rattle.counter_run.proofs.showing.add_whole_round.Goals as goal

pub returns : goal.returns
returns c =
    round_added c.args.round.now c.args.events.now c.add.new.self c.add_every.new.events c.add-2.new.self c.in_ok-add.ensures.ok c.in_ok-add_every.ensures c.in_ok-add-2.ensures.ok
