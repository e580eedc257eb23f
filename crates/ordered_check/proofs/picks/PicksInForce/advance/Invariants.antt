use Rattle.std.proofs.Common.{◌≡◌, ◌-◌, length}
use Rattle.ordered_check.proofs.PickLaws.{AreTaken}
use Rattle.ordered_check.proofs.picks.PicksInForce.advance.Given as goal

abbrev pub invariant-taking : goal.invariant-taking
invariant-taking l = record {
  taken : AreTaken l.picks l.round l.self-inside.next l.self-inside.of_class.items;
  classes : length l.self-inside.of_class.items ≡ length l.fn.self.of_class;
}

abbrev pub decreases-taking : goal.decreases-taking
decreases-taking l = length l.picks - l.self-inside.next
