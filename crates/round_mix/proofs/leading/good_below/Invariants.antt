use Rattle.std.proofs.Common.{◌-◌, ◌≤◌, length, take, vec_capacity}
use Rattle.round_mix.specs.Prepared.{AreGood}
use Rattle.round_mix.proofs.leading.good_below.Given as goal

abbrev pub invariant-halving : goal.invariant-halving
invariant-halving l = record {
  within : l.good ≤ length l.changes;
  below : l.bad ≤ length l.changes;
  so_far : AreGood l.table.rules (take l.good l.changes);
  room : vec_capacity l.initial.marks ≤ vec_capacity l.marks;
}

abbrev pub decreases-halving : goal.decreases-halving
decreases-halving l = l.bad - l.good
