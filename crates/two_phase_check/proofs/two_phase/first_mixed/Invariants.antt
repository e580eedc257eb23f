use Rattle.std.proofs.Common.{ℕ, ◌+◌, ◌<◌, length}
use Rattle.dest_classes.specs.Classes.{IsClass}
use Rattle.dest_classes.specs.declared.Class.{Class}
use Rattle.two_phase_check.specs.Agreements.{KeepsVersions}
use Rattle.two_phase_check.specs.Kept.{AreKept}
use Rattle.two_phase_check.proofs.two_phase.first_mixed.Given as goal

abbrev pub invariant-loop-number : goal.invariant-loop-number
invariant-loop-number l = record {
  keep : (n : ℕ) (class : Class) → n < l.number → IsClass l.classes n class → KeepsVersions l.round.task l.round.number class l.round.labels;
  entry_room : 8192 < length l.at_entry.list + l.at_entry.spare;
  path_room : 8192 < length l.on_path.list + l.on_path.spare;
  known : AreKept l.round.task l.round.number l.known;
}
