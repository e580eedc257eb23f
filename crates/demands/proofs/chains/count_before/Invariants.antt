use Rattle.std.proofs.Common.{◌≡◌, ℕ, ◌<◌, get_or, true, []}
use Rattle.demands.specs.Duties.{chain_lt}
use Rattle.demands.proofs.chains.count_before.Given as goal

abbrev pub invariant-loop-i : goal.invariant-loop-i
invariant-loop-i l = (k : ℕ) → k < l.i → chain_lt (get_or l.chains k []) l.chain ≡ true
