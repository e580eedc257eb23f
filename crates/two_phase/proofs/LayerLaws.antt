-- Marks of ingress rules, and the orders in which a plan lays them and takes them away.
use Rattle.std.proofs.Common.{◌≡◌, ℕ, ◌<◌, true, List, [], ◌∷◌, length}
use Rattle.net_base.specs.Members.{IsIn, IsDistinct}
use Rattle.net_base.specs.declared.ids.SwitchId.{SwitchId}
use Rattle.topology.specs.Networks.{Network, switch_count}
use Rattle.flow_rules.specs.Patterns.{Header, covers}
use Rattle.flow_rules.specs.Tables.{rules_at}
use Rattle.flow_rules.specs.declared.rules.Rule.{Rule}
use Rattle.two_phase.specs.TwoPhasePlan.{ingress_rules}

-- each number stands so to those after it
abbrev pub IsChained : (ℕ → ℕ → Type 0) → List ℕ → Type 0
IsChained R [] = Unit {0}
IsChained R (x ∷ xs) = ((y : ℕ) → IsIn y xs → R x y) × IsChained R xs

pub chained_distinct : (R : ℕ → ℕ → Type 0) → ((a : ℕ) → ¬ R a a) → (ns : List ℕ) → IsChained R ns → IsDistinct ns
chained_distinct R never [] chain = tt
chained_distinct R never (n ∷ ns) chain = (λ i. never n (chain.0 n i), chained_distinct R never ns chain.1)

-- the marks are laid in one order and taken away in the other, and of two ingress rules with a common packet the upper one has an earlier mark
pub record IsLayering (net : Network) (new : List (List Rule)) (mark : SwitchId → Rule → ℕ) (before : ℕ → ℕ → Type 0) (layers : ℕ) (laid taken : List ℕ) : Type 0 where
  pub apart : (a b : ℕ) → before a b → ¬ before b a
  pub up : (s : SwitchId) → s.0 < switch_count net → (p q : Rule) → IsIn p (ingress_rules net s (rules_at new s)) → IsIn q (ingress_rules net s (rules_at new s))
      → (h : Header) → covers p.key.pattern h ≡ true → covers q.key.pattern h ≡ true → q.key.priority < p.key.priority → before (mark s p) (mark s q)
  pub laying : IsChained before laid
  pub taking : IsChained (λ a b. before b a) taken
  pub laid_count : length laid ≡ layers
  pub taken_count : length taken ≡ layers
  pub in_laid : (s : SwitchId) → s.0 < switch_count net → (r : Rule) → IsIn r (ingress_rules net s (rules_at new s)) → IsIn (mark s r) laid
  pub in_taken : (s : SwitchId) → s.0 < switch_count net → (r : Rule) → IsIn r (ingress_rules net s (rules_at new s)) → IsIn (mark s r) taken

module _ (net : Network) (new : List (List Rule)) (mark : SwitchId → Rule → ℕ) (before : ℕ → ℕ → Type 0) (layers : ℕ) (laid taken : List ℕ) (layering : IsLayering net new mark before layers laid taken) where
  pub laid_distinct : IsDistinct laid
  laid_distinct = chained_distinct before (λ a h. layering.apart a a h h) laid layering.laying

  pub taken_distinct : IsDistinct taken
  taken_distinct = chained_distinct (λ a b. before b a) (λ a h. layering.apart a a h h) taken layering.taking
