use Rattle.std.proofs.Common.{◌≡◌, ℕ, ◌-◌, ◌≤◌}
use Rattle.std.specs.Prelude.{slice_get}
use Rattle.class_watch.specs.Judges.{AreKeptClasses, AreWalkedBelow}
use Rattle.class_watch.proofs.rounds.ClassRounds.judge_rest.Given as goal

abbrev pub invariant-judging : goal.invariant-judging
invariant-judging g l = record {
  within : l.number ≤ l.count;
  kept : AreKeptClasses (g.J.ClassJudge.judged l.judge) (g.J.ClassJudge.holds l.judge) l.self;
  later : (n : ℕ) → l.number ≤ n → slice_get l.self.good.items n ≡ slice_get l.fn.self.good.items n;
  below : AreWalkedBelow l.number (g.J.ClassJudge.judged l.judge) l.self.classes.items l.self.came.items;
  told : g.J.ClassJudge.tells l.judge l.found l.number;
}

abbrev pub decreases-judging : goal.decreases-judging
decreases-judging g l = l.count - l.number
