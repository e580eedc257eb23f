use Rattle.std.proofs.Common.{◌≡◌, ◌≤◌, vec_capacity}
use Rattle.round_mix.proofs.OutLaws.{AreOutFrom}
use Rattle.round_mix.proofs.tried.take_out.Given as goal

abbrev pub invariant-loop-place : goal.invariant-loop-place
invariant-loop-place l = record {
  out : AreOutFrom l.key l.fn.marks.items l.place l.marks.items;
  low : l.from ≤ l.place;
  room : vec_capacity l.marks ≡ vec_capacity l.fn.marks;
}
