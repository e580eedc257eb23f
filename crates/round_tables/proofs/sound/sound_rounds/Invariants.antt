use Rattle.std.proofs.Common.{ℕ, ◌<◌}
use Rattle.round_tables.specs.PreparedTables.{HasRoomForAll, StandsBefore}
use Rattle.round_tables.proofs.SoundLaws.{IsSound}
use Rattle.round_tables.proofs.sound.sound_rounds.Given as goal

abbrev pub invariant-loop-k : goal.invariant-loop-k
invariant-loop-k l = record {
  stands : StandsBefore l.update l.k l.tables;
  room : HasRoomForAll l.update l.tables;
  sound : (j : ℕ) → j < l.k → IsSound l.update j;
}
