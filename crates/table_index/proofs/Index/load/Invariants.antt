use Rattle.std.proofs.Common.{◌≤◌, length, take}
use Rattle.table_index.specs.Candidates.{AreCandidates, prefixes_of}
use Rattle.table_index.proofs.Index.load.Given as goal

abbrev pub invariant-loop-position : goal.invariant-loop-position
invariant-loop-position l =
    AreCandidates (prefixes_of (take l.position l.rules)) l.dst l.self.candidates × (length l.self.candidates ≤ l.position) × (l.initial.self.room ≤ l.self.room)
