use Rattle.std.proofs.Common.{◌≡◌, map, drop}
use Rattle.flat_json.specs.Trees.{data_of}
use Rattle.net_base.specs.Reading.{in_turn}
use Rattle.plan_format.specs.Evidence.{number_at, numbers_in}
use Rattle.plan_format.proofs.lists.read_numbers.Given as goal

abbrev pub invariant-loop-number : goal.invariant-loop-number
invariant-loop-number l = in_turn (λ i. number_at l.field l.place) l.number-index l.numbers (map (data_of l.tree) (drop l.number-index l.items)) ≡ numbers_in l.field l.place (data_of l.tree l.item)
