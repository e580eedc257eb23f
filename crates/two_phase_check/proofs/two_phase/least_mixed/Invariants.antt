use Rattle.std.proofs.Common.{◌+◌, ◌<◌, length, take}
use Rattle.two_phase_check.specs.Kept.{AreKept}
use Rattle.two_phase_check.proofs.FollowLaws.{IsLeastAmong}
use Rattle.two_phase_check.proofs.two_phase.least_mixed.Given as goal

abbrev pub invariant-loop-found : goal.invariant-loop-found
invariant-loop-found l = record {
  among : IsLeastAmong l.round.task l.round.number l.class l.round.labels (take l.found-index l.outcomes) l.least;
  room : 8192 < length l.on_path.list + l.on_path.spare;
  known : AreKept l.round.task l.round.number l.known;
}
