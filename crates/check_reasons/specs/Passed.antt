-- How the checker goes through a plan: what has given no reason so far, and the first reason from a rank on.
use Rattle.std.specs.Prelude.{ℕ, ◌<◌, ◌≤◌, List}
use Rattle.std.specs.List.{AllByRecursion}
use Rattle.net_base.specs.declared.ids.SwitchId.{SwitchId}
use Rattle.topology.specs.Networks.{switch_count, capacity_of}
use Rattle.flow_rules.specs.Tables.{IsClear}
use Rattle.flow_rules.specs.declared.rules.Rule.{Rule}
use Rattle.dest_classes.specs.Classes.{IsClass}
use Rattle.dest_classes.specs.declared.Class.{Class}
use Rattle.update_model.specs.Changes.{rule_of, round_after, IsGoodRound}
use Rattle.update_model.specs.Mixtures.{tables_before, MayHold, need_of}
use Rattle.update_model.specs.declared.Change.{Change}
use Rattle.certificates.specs.Updates.{Task, rollout}
use Rattle.certificates.specs.Certified.{KeepsVlan, HasCertificate, classes_for}
use Rattle.certificates.specs.declared.Evidence.{Evidence}
use Rattle.certificates.specs.declared.Evidence.TheVariants.{Ordered, TwoPhase}
use Rattle.check_reasons.specs.Ranks.{Rank, IsBefore, rank_of}
use Rattle.check_reasons.specs.Reasons.{IsReason}
use Rattle.check_reasons.specs.declared.reason.Reason.{Reason}

-- the first reason of those that do not come before a rank
pub record IsFirstFrom (t : Task) (evidence : Evidence) (from : Rank) (reason : Reason) : Type 0 where
  pub position : ℕ
  pub holds : IsReason t evidence position reason
  pub first : (i : ℕ) (other : Reason) → IsReason t evidence i other → ¬ IsBefore (rank_of i other) from → ¬ IsBefore (rank_of i other) (rank_of position reason)

-- no reason comes before a rank
abbrev pub NoneBefore : Task → Evidence → Rank → Type 0
NoneBefore t evidence from = (i : ℕ) (other : Reason) → IsReason t evidence i other → ¬ IsBefore (rank_of i other) from

-- in an ordered plan the changes of a round neither set nor strip
abbrev pub RoundKeepsVlans : Evidence → List Change → Type 0
RoundKeepsVlans (Ordered e) round = AllByRecursion (λ c. KeepsVlan (rule_of c).action) round
RoundKeepsVlans (TwoPhase e) round = Unit {0}

-- the changes of round k give no reason
pub record ChangesPass (t : Task) (evidence : Evidence) (k : ℕ) : Type 0 where
  pub good : IsGoodRound (tables_before (rollout t) k) (round_after k t.rounds)
  pub clear : (s : SwitchId) (mixed : List Rule) → MayHold (rollout t) k s mixed → IsClear mixed
  pub fits : (s : SwitchId) → s.0 < switch_count t.update.net → need_of (rollout t) k s ≤ capacity_of t.update.net s
  pub keeps : RoundKeepsVlans evidence (round_after k t.rounds)

-- each class of round k has its certificate
abbrev pub ClassesPass : Task → Evidence → ℕ → Type 0
ClassesPass t evidence k = (n : ℕ) (class : Class) → IsClass (classes_for t) n class → HasCertificate t evidence k n class

-- the first k rounds give no reason
abbrev pub RoundsPass : Task → Evidence → ℕ → Type 0
RoundsPass t evidence k = (j : ℕ) → j < k → ChangesPass t evidence j × ClassesPass t evidence j
