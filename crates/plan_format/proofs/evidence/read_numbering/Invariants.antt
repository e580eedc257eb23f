use Rattle.std.proofs.Common.{◌≡◌, map, drop}
use Rattle.flat_json.specs.Trees.{data_of}
use Rattle.net_base.specs.Reading.{in_turn}
use Rattle.plan_format.specs.Evidence.{height_at, numbering_in}
use Rattle.plan_format.proofs.evidence.read_numbering.Given as goal

abbrev pub invariant-loop-height : goal.invariant-loop-height
invariant-loop-height l = in_turn (λ i. height_at l.place) l.height-index l.numbering (map (data_of l.tree) (drop l.height-index l.items)) ≡ numbering_in l.net l.place (data_of l.tree l.item)
