use Rattle.std.proofs.Common.{◌≡◌, ℕ, ◌-◌, ◌≤◌, length}
use Rattle.update_model.specs.Mixtures.{Rollout, tables_before}
use Rattle.mixed_walks.specs.Walks.{IsRoundOf}
use Rattle.round_judge.specs.Goals.{HoldsLastOf}
use Rattle.round_judge.specs.Judged.{IsNextRound}
use Rattle.round_judge.specs.Visits.{HoldTables}
use Rattle.round_judge.proofs.JudgingLaws.{AreMetBelow}
use Rattle.round_judge.proofs.VisitLaws.{AreHeldBelow}
use Rattle.round_judge.proofs.judging.judge_touched.Given as goal

-- each class below the number was looked at or isn't covered
abbrev pub invariant-judging : goal.invariant-judging
invariant-judging l = record {
  within : l.number ≤ l.end;
  count : length l.watch.came.items ≡ length l.fn.watch.came.items;
  last : HoldsLastOf l.goal l.last;
  met : (u : Rollout) (k : ℕ) → IsRoundOf l.goal.net l.tried.mixes.now u k → IsNextRound l.goal u l.tried.store.now.evidence k l.tried.changes.now → HoldTables l.goal (tables_before u k) l.fn.watch.came.items
      → AreMetBelow l.goal u l.tried.store.now.evidence k l.number l.found.items × AreHeldBelow l.goal u k l.number l.watch.came.items;
}

abbrev pub decreases-judging : goal.decreases-judging
decreases-judging l = l.end - l.number
