use Rattle.certificates.specs.Updates.{rollout}
use Rattle.std.proofs.Common.{◌+◌, ◌<◌, length}
use Rattle.topology.specs.Networks.{switch_count}
use Rattle.flow_rules.specs.Tables.{rules_of_all}
use Rattle.two_phase_check.proofs.StrayLaws.{HasFollowed}
use Rattle.two_phase_check.proofs.straying.first_stray.Given as goal

abbrev pub invariant-loop-step : goal.invariant-loop-step
invariant-loop-step l = record {
  followed : HasFollowed (rollout l.round.task) l.round.number l.dst (rules_of_all l.tables) l.fn.first l.tag l._step l.place;
  within : l.place.switch.0 < switch_count l.round.task.update.net;
  room : 8192 < length l.room.list + l.room.spare;
}
