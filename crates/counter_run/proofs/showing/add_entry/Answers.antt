use Rattle.counter_run.proofs.AddLaws.{entry_added}
use Rattle.counter_run.proofs.showing.add_entry.Goals as goal

pub returns-clause-added : goal.returns-clause-added
returns-clause-added c = entry_added c.args.entry c.args.dst c.args.events.now c.add.new.self c.add-2.new.self c.in_ok-add.ensures.ok c.in_ok-add-2.ensures.ok
