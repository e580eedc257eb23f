use Rattle.std.proofs.Common.{◌≡◌, ℕ, ◌-◌, true, Some}
use Rattle.std.specs.Prelude.{slice_get}
use Rattle.class_watch.specs.Judges.{AreKeptClasses}
use Rattle.class_watch.proofs.rounds.ClassRounds.settle.Given as goal

abbrev pub invariant-settling : goal.invariant-settling
invariant-settling g l = record {
  kept : AreKeptClasses (g.J.ClassJudge.judged l.judge) (g.J.ClassJudge.holds l.judge) l.self;
  marked : (n : ℕ) → slice_get l.fn.self.good.items n ≡ Some true → slice_get l.self.good.items n ≡ Some true;
  told : (n : ℕ) → g.J.ClassJudge.tells l.judge l.fn.found n → g.J.ClassJudge.tells l.judge l.found n;
}

abbrev pub decreases-settling : goal.decreases-settling
decreases-settling g l = l.step - l.first
