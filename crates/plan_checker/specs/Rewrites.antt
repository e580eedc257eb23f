-- Changes of an ordered plan that set or strip a tag.
use Rattle.std.specs.Prelude.{◌≡◌, ◌<◌, List, Option, MatchOption}
use Rattle.std.specs.List.{AllByRecursion}
use Rattle.net_base.specs.Members.{IsIn}
use Rattle.net_base.specs.declared.ids.SwitchId.{SwitchId}
use Rattle.update_model.specs.Changes.{switch_of, rule_of}
use Rattle.update_model.specs.declared.Change.{Change}
use Rattle.certificates.specs.Certified.{KeepsVlan}
use Rattle.certificates.specs.declared.Evidence.{Evidence}
use Rattle.certificates.specs.declared.Evidence.TheVariants.{Ordered, TwoPhase}

-- the first switch at which a change sets or strips
pub record IsFirstRewrite (round : List Change) (s : SwitchId) : Type 0 where
  pub change : Change
  pub stands : IsIn change round
  pub at_is : switch_of change ≡ s
  pub rewrites : ¬ KeepsVlan (rule_of change).action
  pub first : (other : Change) → IsIn other round → (switch_of other).0 < s.0 → KeepsVlan (rule_of other).action

-- no change sets or strips, or the first switch at which one does is found
abbrev pub IsRewriteFound : List Change → Option SwitchId → Type 0
IsRewriteFound round found = MatchOption found (AllByRecursion (λ c. KeepsVlan (rule_of c).action) round) (IsFirstRewrite round)

-- the evidence is that of an ordered plan
abbrev pub IsOrdered : Evidence → Type 0
IsOrdered (Ordered e) = Unit {0}
IsOrdered (TwoPhase e) = ⊥
