use Rattle.std.proofs.Common.{◌≡◌, map, drop}
use Rattle.flat_json.specs.Trees.{data_of}
use Rattle.net_base.specs.Reading.{in_turn}
use Rattle.plan_format.specs.Evidence.{label_pick_at, label_picks_in}
use Rattle.plan_format.proofs.labels.read_label_picks.Given as goal

abbrev pub invariant-loop-i : goal.invariant-loop-i
invariant-loop-i l = in_turn (label_pick_at l.rounds l.tables) l.i l.picks (map (data_of l.tree) (drop l.i l.items)) ≡ label_picks_in l.rounds l.tables (data_of l.tree l.top)
