use Rattle.std.proofs.Common.{◌≡◌, take}
use Rattle.waypoint_evidence.specs.Befores.{marked_from}
use Rattle.evidence_store.proofs.keys.marked.Given as goal

abbrev pub invariant-loop-switch : goal.invariant-loop-switch
invariant-loop-switch l = l.members.items ≡ marked_from 0 (take l.switch l.marks)
