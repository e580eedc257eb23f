-- The switches that packets of a class come to.
use Rattle.std.specs.Prelude.{◌≡◌, ℕ, suc, List, length, slice_index_or}
use Rattle.flow_rules.specs.declared.rules.Rule.{Rule}
use Rattle.dest_classes.specs.Classes.{IsClass, class_count}
use Rattle.dest_classes.specs.declared.Class.{Class}
use Rattle.update_model.specs.Mixtures.{Rollout, tables_before}
use Rattle.class_watch.specs.Walks.{HoldsWalks, HoldsTables}
use Rattle.round_judge.specs.declared.judging.RoundVerdict.{RoundVerdict}
use Rattle.round_judge.specs.declared.judging.RoundVerdict.TheVariants as verdict
use Rattle.table_difference.specs.Targets.{Target}

-- the switches of the class with a number
abbrev pub marks_at : List ℕ → ℕ → ℕ
marks_at came n = slice_index_or came n 0

-- each switch that packets of each class come to in the tables is known
pub record HoldTables (to : Target) (tables : List (List Rule)) (came : List ℕ) : Type 0 where
  pub count : length came ≡ class_count to.classes
  pub each : (n : ℕ) (class : Class) → IsClass to.classes n class → HoldsTables to.net tables class (marks_at came n)

-- each switch that the mixed walks of each class come to in round k is known
pub record HoldRound (to : Target) (u : Rollout) (k : ℕ) (came : List ℕ) : Type 0 where
  pub count : length came ≡ class_count to.classes
  pub each : (n : ℕ) (class : Class) → IsClass to.classes n class → HoldsWalks u k class (marks_at came n)

-- what is known once all classes were looked at in round k: the switches that they come to after it, where they are safe in
-- it, otherwise those before it
abbrev pub HoldAfter : Target → Rollout → ℕ → RoundVerdict → List ℕ → Type 0
HoldAfter to u k (verdict.Safe found) came = HoldTables to (tables_before u (suc k)) came
HoldAfter to u k (verdict.Unsafe f) came = HoldTables to (tables_before u k) came
