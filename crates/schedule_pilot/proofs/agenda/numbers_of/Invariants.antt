use Rattle.std.proofs.Common.{◌≡◌, take}
use Rattle.schedule_pilot.specs.Agendas.{numbers_on}
use Rattle.schedule_pilot.proofs.agenda.numbers_of.Given as goal

abbrev pub invariant-loop-i : goal.invariant-loop-i
invariant-loop-i l = l.numbers.items ≡ numbers_on 0 (take l.i l.flags)
