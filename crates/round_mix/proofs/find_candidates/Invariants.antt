use Rattle.std.proofs.Common.{◌≤◌, length, take}
use Rattle.table_index.specs.Candidates.{AreCandidates}
use Rattle.round_mix.specs.Among.{blocks_of}
use Rattle.round_mix.proofs.find_candidates.Given as goal

abbrev pub invariant-loop-position : goal.invariant-loop-position
invariant-loop-position l =
    AreCandidates (blocks_of (take l.position l.rules)) l.dst l.index.candidates × (length l.index.candidates ≤ l.position) × (l.initial.index.room ≤ l.index.room)
