use Rattle.std.proofs.Common.{◌≡◌, map, drop}
use Rattle.flat_json.specs.Trees.{data_of}
use Rattle.net_base.specs.Reading.{in_turn}
use Rattle.plan_format.specs.Evidence.{full_pick_at, full_picks_in}
use Rattle.plan_format.specs.FewPicks.{HasFew}
use Rattle.plan_format.proofs.full_picks.read_full_picks.Given as goal

abbrev pub invariant-loop-i : goal.invariant-loop-i
invariant-loop-i l = record {
  so_far : in_turn (full_pick_at l.counts.rounds l.counts.numberings l.counts.befores) l.i l.table (map (data_of l.tree) (drop l.i l.items))
      ≡ full_picks_in l.counts.rounds l.counts.numberings l.counts.befores (data_of l.tree l.top);
  keys : l.keys ≡ l.table.uses;
  few : HasFew l.table;
}
