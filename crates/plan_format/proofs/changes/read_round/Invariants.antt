use Rattle.std.proofs.Common.{◌≡◌, ◌+◌, ◌≤◌, drop, map, length}
use Rattle.std.specs.Prelude.{max}
use Rattle.flat_json.specs.Trees.{data_of}
use Rattle.net_base.specs.Reading.{in_turn}
use Rattle.plan_format.specs.Changes.{change_at, round_in}
use Rattle.plan_format.proofs.changes.read_round.Given as goal

abbrev pub invariant-loop-change : goal.invariant-loop-change
invariant-loop-change l = record {
  so_far : in_turn (change_at l.list.net.now l.list.spelling.now l.list.name) l.number l.changes.items (map (data_of l.tree) (drop l.change-index l.items))
      ≡ round_in l.list.net.now l.list.spelling.now l.list.name l.place l.first (data_of l.tree l.item);
  counted : l.number ≡ l.first + length l.changes.items;
  few : l.number ≤ max l.first 2200000;
}
