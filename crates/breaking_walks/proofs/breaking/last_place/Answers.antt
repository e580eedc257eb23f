use Rattle.std.proofs.Common.{◌≤◌, length, arith}
use Rattle.breaking_walks.proofs.BreakLaws.{last_is_end}
use Rattle.breaking_walks.proofs.breaking.last_place.Goals as goal

pub returns-in-len1-up : goal.returns-in-len1-up
returns-in-len1-up c = let some : 1 ≤ length c.args.rest.now = omega arith in last_is_end c.args.entry c.args.rest.now _ some
