use Rattle.std.proofs.Common.{◌≡◌, ◌++◌, take}
use Rattle.counter_run.specs.Showing.{whole_rounds}
use Rattle.counter_run.proofs.showing.add_whole_rounds.Given as goal

abbrev pub invariant-loop-k : goal.invariant-loop-k
invariant-loop-k l = l.events ≡ l.initial.events ++ whole_rounds (take l.k l.rounds)
