use Rattle.std.specs.Prelude.{None}
use Rattle.std.proofs.Common.{◌≡◌, ℕ, ◌-◌, ◌<◌, ◌≤◌, List, [], ◌∷◌, ◌++◌, length}
use Rattle.flow_rules.specs.declared.rules.Rule.{Rule}
use Rattle.update_model.specs.declared.Change.{Change}
use Rattle.round_judge.specs.Goals.{HoldsLastOf}
use Rattle.round_packer.specs.Kept.{ArePreparedFor, AreKept, AreWatched, IsTold}
use Rattle.round_packer.proofs.judging.classes_failure.Given as goal

-- each class below the number is told of
abbrev pub invariant-judging : goal.invariant-judging
invariant-judging l = record {
  within : l.number ≤ l.end;
  count : length l.watch.came.items ≡ length l.fn.watch.came.items;
  last : HoldsLastOf l.goal l.last;
  watched : (tables : List (List Rule)) (changes : List Change) → ArePreparedFor l.goal.net l.tried.mixes.now tables changes
      → AreWatched l.goal tables changes l.fn.watch.came.items l.watch.came.items;
  told : (tables : List (List Rule)) (taken : List Change) → ArePreparedFor l.goal.net l.tried.mixes.now tables (taken ++ l.tried.change.now ∷ [])
      → AreKept l.goal tables taken l.fn.watch.came.items → (n : ℕ) → n < l.number
      → IsTold l.goal tables (taken ++ l.tried.change.now ∷ []) l.tried.change.now l.own n l.watch.came.items None;
}

abbrev pub decreases-judging : goal.decreases-judging
decreases-judging l = l.end - l.number
