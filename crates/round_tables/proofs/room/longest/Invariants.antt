use Rattle.std.proofs.Common.{ℕ, ◌<◌, ◌≤◌, length}
use Rattle.update_model.specs.Changes.{round_after}
use Rattle.round_tables.proofs.room.longest.Given as goal

abbrev pub invariant-loop-k : goal.invariant-loop-k
invariant-loop-k l = (j : ℕ) → j < l.k → length (round_after j l.rounds) ≤ l.most
