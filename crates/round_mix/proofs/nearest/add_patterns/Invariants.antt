use Rattle.std.proofs.Common.{◌≡◌, ◌≤◌, ◌++◌, drop, length}
use Rattle.round_mix.specs.Nearest.{patterns_back}
use Rattle.round_mix.proofs.nearest.add_patterns.Given as goal

abbrev pub invariant-loop-position : goal.invariant-loop-position
invariant-loop-position l = record {
  added : l.space.patterns ≡ l.initial.space.patterns ++ patterns_back (drop l.position l.rules);
  within : l.position ≤ length l.rules;
}
