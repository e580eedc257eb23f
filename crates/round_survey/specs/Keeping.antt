-- Updates in which packets keep the VLANs with which they came.
use Rattle.std.specs.Prelude.{ℕ, List}
use Rattle.std.specs.List.{AllByRecursion}
use Rattle.flow_rules.specs.declared.rules.Rule.{Rule}
use Rattle.update_model.specs.Changes.{rule_of, round_after}
use Rattle.update_model.specs.declared.Change.{Change}
use Rattle.certificates.specs.Certified.{KeepsVlan}
use Rattle.mixed_walks.specs.Walks.{TablesKeepVlans}

-- no rule of the tables sets or strips, and no change of a round
pub record KeepVlans (old : List (List Rule)) (rounds : List (List Change)) : Type 0 where
  pub tables : TablesKeepVlans old
  pub changes : (k : ℕ) → AllByRecursion (λ c. KeepsVlan (rule_of c).action) (round_after k rounds)
