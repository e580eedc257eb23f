use Rattle.std.proofs.Common.{◌≡◌, ◌++◌, take, drop}
use Rattle.round_mix.specs.Tried.{settled_where}
use Rattle.round_mix.proofs.tried.settle_among.Given as goal

abbrev pub invariant-loop-marked : goal.invariant-loop-marked
invariant-loop-marked l = take l.marked-index l.marks ++ settled_where l.key (drop l.marked-index l.marks) ≡ settled_where l.key l.fn.marks
