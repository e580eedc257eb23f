use Rattle.std.proofs.Common.{rules, arith}
use Rattle.schedule_pilot.proofs.pilot.Pilot.ask.Goals as goal

pub returns-clause-below : goal.returns-clause-below
returns-clause-below g c = (c.requires.names_one c.args.step c.args.count (omega arith) c.requires.some (omega arith)).1 c.call.result (search rules)
