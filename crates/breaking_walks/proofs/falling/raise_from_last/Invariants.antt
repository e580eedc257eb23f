use Rattle.std.proofs.Common.{◌≡◌, length}
use Rattle.breaking_walks.proofs.falling.raise_from_last.Given as goal

abbrev pub invariant-loop-edge : goal.invariant-loop-edge
invariant-loop-edge l = length l.numbers.items ≡ length l.initial.numbers.items
