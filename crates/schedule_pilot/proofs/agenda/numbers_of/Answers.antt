use Rattle.std.proofs.Common.{add-one}
use Rattle.schedule_pilot.proofs.AgendaLaws.{numbers_next}
use Rattle.schedule_pilot.proofs.agenda.numbers_of.Goals as goal

pub loop-i-preserved : goal.loop-i-preserved
loop-i-preserved c = rw add-one (numbers_next c.args.flags.now c.loop-i.i _ c.loop-i.numbers.items c.add_if_on.new.numbers.items c.loop-i-test.true c.loop-i.invariant c.in_ok-add_if_on.ensures)
