use Rattle.std.proofs.Common.{◌≡◌, ◌++◌, drop}
use Rattle.tables_command.specs.Listed.{placed_from, placed_rules}
use Rattle.tables_command.proofs.listing.placed_rules.Given as goal

abbrev pub invariant-loop-number : goal.invariant-loop-number
invariant-loop-number l =
    l.listed.items ++ placed_from l.number (drop l.number l.world.course.state.tables) ≡ placed_rules l.world.course.state.tables
