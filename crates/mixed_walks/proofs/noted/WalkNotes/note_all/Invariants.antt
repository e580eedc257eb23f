use Rattle.std.proofs.Common.{take}
use Rattle.mixed_walks.specs.Walking.{IsNoted}
use Rattle.mixed_walks.proofs.noted.WalkNotes.note_all.Given as goal

abbrev pub invariant-loop-outcome : goal.invariant-loop-outcome
invariant-loop-outcome l = IsNoted l.initial.self l.place (take l.outcome-index l.outcomes) l.self
