use Rattle.std.proofs.Common.{◌≡◌, ◌<◌, ℕ}
use Rattle.topology.specs.Networks.{switch_count}
use Rattle.flow_rules.specs.Tables.{rules_of_all}
use Rattle.dest_classes.specs.Classes.{IsClass}
use Rattle.dest_classes.specs.declared.Class.{Class}
use Rattle.demands.specs.Good.{HasGoodPath}
use Rattle.config_check.specs.Met.{IsMetPath}
use Rattle.config_check.proofs.checking.check_config.Given as goal

abbrev pub invariant-loop-number : goal.invariant-loop-number
invariant-loop-number l = record {
  good : (n : ℕ) (class : Class) → n < l.number → IsClass l.classes n class → HasGoodPath l.net (rules_of_all l.config) l.duties.demands class.entry class.first;
  same_room : l.room.switches ≡ switch_count l.net;
  kept : IsMetPath l.duties l.met;
}
