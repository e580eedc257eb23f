use Rattle.std.proofs.Common.{◌≡◌, ◌-◌, ◌^◌, min, take, length, sum_by}
use Rattle.certificates.proofs.validity.change_count.Given as goal

abbrev pub invariant-loop-k : goal.invariant-loop-k
invariant-loop-k l = l.count ≡ min (sum_by length (take l.k l.rounds)) (2 ^ 64 - 1)
