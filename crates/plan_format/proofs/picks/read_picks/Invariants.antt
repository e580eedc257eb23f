use Rattle.std.proofs.Common.{◌≡◌, map, drop}
use Rattle.flat_json.specs.Trees.{data_of}
use Rattle.net_base.specs.Reading.{in_turn}
use Rattle.plan_format.specs.Evidence.{pick_at, picks_in}
use Rattle.plan_format.proofs.picks.read_picks.Given as goal

abbrev pub invariant-loop-i : goal.invariant-loop-i
invariant-loop-i l = in_turn (pick_at l.rounds l.uses) l.i l.picks (map (data_of l.tree) (drop l.i l.items)) ≡ picks_in l.rounds l.uses (data_of l.tree l.top)
