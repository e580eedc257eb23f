use Rattle.std.proofs.Common.{◌≡◌, ℕ, length}
use Rattle.std.specs.List.{AllByRecursion}
use Rattle.update_model.specs.Mixtures.{Rollout, tables_before}
use Rattle.mixed_walks.specs.Walks.{IsRoundOf}
use Rattle.round_judge.specs.Goals.{HoldsLastOf}
use Rattle.round_judge.specs.Judged.{IsNextRound, WasFound, AreSafeBelow}
use Rattle.round_judge.specs.Visits.{HoldTables}
use Rattle.round_judge.proofs.VisitLaws.{AreHeldBelow}
use Rattle.round_judge.proofs.judging.judge_each.Given as goal

abbrev pub invariant-loop-number : goal.invariant-loop-number
invariant-loop-number l = record {
  count : length l.watch.came.items ≡ length l.fn.watch.came.items;
  last : HoldsLastOf l.goal l.last;
  safe : (u : Rollout) (k : ℕ) → IsRoundOf l.goal.net l.tried.mixes.now u k → IsNextRound l.goal u l.tried.store.now.evidence k l.tried.changes.now → HoldTables l.goal (tables_before u k) l.fn.watch.came.items
      → AllByRecursion (WasFound l.goal u l.tried.store.now.evidence k l.fn.watch.came.items) l.fn.before.items
      → AreSafeBelow l.goal u l.tried.store.now.evidence k l.number l.found.items
      × AllByRecursion (WasFound l.goal u l.tried.store.now.evidence k l.watch.came.items) l.before.items × AreHeldBelow l.goal u k l.number l.watch.came.items;
}
