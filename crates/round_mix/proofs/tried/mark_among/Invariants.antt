use Rattle.std.proofs.Common.{◌≡◌, ◌++◌, take, drop}
use Rattle.round_mix.specs.Tried.{marked_where}
use Rattle.round_mix.proofs.tried.mark_among.Given as goal

abbrev pub invariant-loop-marked : goal.invariant-loop-marked
invariant-loop-marked l = take l.marked-index l.marks ++ marked_where l.key l.mark (drop l.marked-index l.marks) ≡ marked_where l.key l.mark l.fn.marks
