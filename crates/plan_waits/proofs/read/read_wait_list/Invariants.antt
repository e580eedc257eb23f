use Rattle.std.proofs.Common.{◌≡◌, map, drop}
use Rattle.flat_json.specs.Trees.{data_of}
use Rattle.net_base.specs.Reading.{in_turn}
use Rattle.plan_waits.specs.Waits.{wait_at, wait_list_in}
use Rattle.plan_waits.proofs.read.read_wait_list.Given as goal

abbrev pub invariant-loop-i : goal.invariant-loop-i
invariant-loop-i l = in_turn (wait_at l.rounds) l.i l.numbers (map (data_of l.tree) (drop l.i l.items)) ≡ wait_list_in l.rounds (data_of l.tree l.member)
