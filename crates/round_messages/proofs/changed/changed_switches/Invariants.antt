use Rattle.std.proofs.Common.{take}
use Rattle.round_messages.proofs.Marking.{HasChanged}
use Rattle.round_messages.proofs.changed.changed_switches.Given as goal

abbrev pub invariant-loop-change : goal.invariant-loop-change
invariant-loop-change l = HasChanged l.changed (take l.change-index l.changes)
