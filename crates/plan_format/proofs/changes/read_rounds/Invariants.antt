use Rattle.std.proofs.Common.{◌≡◌, map, drop, length}
use Rattle.flat_json.specs.Trees.{data_of}
use Rattle.net_base.specs.Reading.{in_turn}
use Rattle.plan_format.specs.Changes.{round_at, rounds_in}
use Rattle.plan_format.proofs.changes.read_rounds.Given as goal

abbrev pub invariant-loop-i : goal.invariant-loop-i
invariant-loop-i l = record {
  so_far : in_turn (round_at l.list.net.now l.list.spelling.now l.list.name l.list.first) l.i l.rounds (map (data_of l.tree) (drop l.i l.items))
      ≡ rounds_in l.list.net.now l.list.spelling.now l.list.name l.most l.list.first (data_of l.tree l.top);
  counted : length l.rounds ≡ l.i;
}
