use Rattle.std.proofs.Common.{◌≡◌, map, drop}
use Rattle.flat_json.specs.Trees.{data_of}
use Rattle.net_base.specs.Reading.{in_turn}
use Rattle.plan_format.specs.Evidence.{table_at, labels_in}
use Rattle.plan_format.proofs.labels.read_labels.Given as goal

abbrev pub invariant-loop-i : goal.invariant-loop-i
invariant-loop-i l = in_turn table_at l.i l.tables (map (data_of l.tree) (drop l.i l.items)) ≡ labels_in (data_of l.tree l.top)
