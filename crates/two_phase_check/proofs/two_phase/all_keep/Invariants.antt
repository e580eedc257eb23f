use Rattle.std.proofs.Common.{ℕ, ◌+◌, ◌<◌, length}
use Rattle.dest_classes.specs.Classes.{IsClass}
use Rattle.dest_classes.specs.declared.Class.{Class}
use Rattle.two_phase_check.specs.Agreements.{KeepsVersions}
use Rattle.two_phase_check.specs.Kept.{AreKept, number_at}
use Rattle.two_phase_check.proofs.two_phase.all_keep.Given as goal

abbrev pub invariant-loop-i : goal.invariant-loop-i
invariant-loop-i l = record {
  keep : (j : ℕ) (class : Class) → j < l.i → IsClass l.classes (number_at j l.ports l.count) class → KeepsVersions l.round.task l.round.number class l.round.labels;
  entry_room : 8192 < length l.at_entry.list + l.at_entry.spare;
  path_room : 8192 < length l.on_path.list + l.on_path.spare;
  known : AreKept l.round.task l.round.number l.known;
}
