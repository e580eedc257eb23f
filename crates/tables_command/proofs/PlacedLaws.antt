-- The rules of one switch among the rules of all.
use Rattle.std.proofs.Common.{◌≡◌, ℕ, zero, suc, ◌+◌, ◌<◌, Bool, true, false, cond, List, [], ◌∷◌, ◌++◌, map, get_or, refl, ap, ◌∙◌, append-nil, arith}
use Rattle.std.specs.Prelude.{◌==◌}
use Rattle.std.proofs.lemmas.Bool.{eq-eqb, ne_eqb}
use Rattle.net_base.specs.declared.ids.SwitchId.{SwitchId}
use Rattle.flow_rules.specs.declared.rules.Rule.{Rule}
use Rattle.plan_format.specs.declared.rules.PlanRule.{PlanRule}
use Rattle.tables_command.specs.Listed.{placed_rule, placed_from}
use Rattle.tables_command.specs.ReadBack.{rules_of_switch}

module _ (s : SwitchId) where
  one_more : (p : PlanRule) (rest : List PlanRule) (b : Bool) → (p.switch.0 == s.0) ≡ b → rules_of_switch s (p ∷ rest) ≡ cond b (p.rule ∷ rules_of_switch s rest) (rules_of_switch s rest)
  one_more p rest true e = rw e refl
  one_more p rest false e = rw e refl

  -- those of this switch stay
  these : (n : ℕ) (rules : List Rule) (rest : List PlanRule) → (n == s.0) ≡ true → rules_of_switch s (map (placed_rule (record { 0 = n })) rules ++ rest) ≡ rules ++ rules_of_switch s rest
  these n [] rest e = refl
  these n (r ∷ rules) rest e =
      one_more (placed_rule (record { 0 = n }) r) (map (placed_rule (record { 0 = n })) rules ++ rest) true e ∙ ap (λ (rs : List Rule). r ∷ rs) (these n rules rest e)

  -- those of another are left out
  others : (n : ℕ) (rules : List Rule) (rest : List PlanRule) → (n == s.0) ≡ false → rules_of_switch s (map (placed_rule (record { 0 = n })) rules ++ rest) ≡ rules_of_switch s rest
  others n [] rest e = refl
  others n (r ∷ rules) rest e = one_more (placed_rule (record { 0 = n }) r) (map (placed_rule (record { 0 = n })) rules ++ rest) false e ∙ others n rules rest e

  none_behind : (n : ℕ) (tables : List (List Rule)) → s.0 < n → rules_of_switch s (placed_from n tables) ≡ []
  none_behind n [] lt = refl
  none_behind n (rules ∷ tables) lt = others n rules (placed_from (suc n) tables) (ne_eqb n s.0 (λ e. omega arith)) ∙ none_behind (suc n) tables (omega arith)

  pub placed_at : (n j : ℕ) (tables : List (List Rule)) → n + j ≡ s.0 → rules_of_switch s (placed_from n tables) ≡ get_or tables j []
  placed_at n j [] e = refl
  placed_at n zero (rules ∷ tables) e =
      these n rules (placed_from (suc n) tables) (eq-eqb n s.0 (omega arith)) ∙ ap (λ (rs : List Rule). rules ++ rs) (none_behind (suc n) tables (omega arith)) ∙ append-nil rules
  placed_at n (suc j) (rules ∷ tables) e = others n rules (placed_from (suc n) tables) (ne_eqb n s.0 (λ same. omega arith)) ∙ placed_at (suc n) j tables (omega arith)
