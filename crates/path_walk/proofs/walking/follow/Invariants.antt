use Rattle.std.proofs.Common.{◌≡◌, ◌+◌, ◌-◌, length}
use Rattle.topology.specs.Networks.{switch_count}
use Rattle.flow_rules.specs.Tables.{rules_of_all}
use Rattle.path_walk.proofs.WalkedLaws.{HasWalked}
use Rattle.path_walk.proofs.walking.follow.Given as goal

abbrev pub invariant-path : goal.invariant-path
invariant-path l = record {
  walked : HasWalked l.net (rules_of_all l.config) l.fn.entry l.dst l.room.places l.place;
  same_room : l.room.switches ≡ switch_count l.net;
}

abbrev pub decreases-path : goal.decreases-path
decreases-path l = switch_count l.net + 1 - length l.room.places
