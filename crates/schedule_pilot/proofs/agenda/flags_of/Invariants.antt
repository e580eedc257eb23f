use Rattle.std.proofs.Common.{◌≡◌, take, map}
use Rattle.update_model.specs.Worlds.{goes_on}
use Rattle.schedule_pilot.proofs.agenda.flags_of.Given as goal

abbrev pub invariant-loop-packet : goal.invariant-loop-packet
invariant-loop-packet l = l.flags.items ≡ map (λ p. goes_on p.ended) (take l.packet-index l.packets)
