-- Each rule once, in order of first use, by one use after the other.
use Rattle.std.proofs.Common.{◌≡◌, ◌==◌, ℕ, Bool, true, false, not, ◌&&◌, ◌||◌, List, [], ◌∷◌, ◌++◌, map, filter, cond, refl, sym, ap, subst, ◌∙◌, append_assoc}
use Rattle.std.specs.List.{list_any}
use Rattle.std.proofs.lemmas.Bool.{eqb-true, eq-eqb, and_parts, and_from, false_from_ne_true, both_ways}
use Rattle.std.proofs.lemmas.List.Elements.{filter-append}
use Rattle.std.proofs.lemmas.List.{append-nil}
use Rattle.std.proofs.lemmas.Grind.{flat_map-append}
use Rattle.flow_rules.specs.declared.rules.Rule.{Rule}
use Rattle.flow_rules.proofs.TableLaws.{rule_eq-true, rule_eq-refl}
use Rattle.flow_rules.proofs.EqualLaws.{same_rule}
use Rattle.plan_text.specs.PlanText.{plan_rule_eq, plan_rule_of, rules_of, rules_once}
use Rattle.update_model.specs.declared.Change.{Change}
use Rattle.plan_format.specs.declared.rules.PlanRule.{PlanRule}
use Rattle.plan_format.specs.contracts.rules.PlanRulePartialEq.TheImpl as rule_impl
use Rattle.plan_text.specs.Uses.{with_use, with_uses}

-- the derived `==` is the definition's
pub derived_test : (p : PlanRule) → rule_impl.eq-value.it p ≡ plan_rule_eq p
derived_test p = λ i q. ap (λ b. p.switch.0 == q.switch.0 && b) (same_rule p.rule q.rule) i

pub plan_rule_eq-true : (p q : PlanRule) → plan_rule_eq p q ≡ true → p ≡ q
plan_rule_eq-true p q e =
    let (switch, rule) = and_parts _ _ e in
    ap (λ (n : ℕ). let x : PlanRule = record { switch = record { 0 = n }; rule = p.rule } in x) (eqb-true p.switch.0 q.switch.0 switch)
    ∙ ap (λ (r : Rule). let x : PlanRule = record { switch = q.switch; rule = r } in x) (rule_eq-true p.rule q.rule rule)

pub plan_rule_eq-refl : (p : PlanRule) → plan_rule_eq p p ≡ true
plan_rule_eq-refl p = and_from _ _ (eq-eqb p.switch.0 p.switch.0 refl) (rule_eq-refl p.rule)

pub differ : (p q : PlanRule) → plan_rule_eq p q ≡ false → ¬ (p ≡ q)
differ p q e same = both_ways (plan_rule_eq p q) e (subst (λ k. plan_rule_eq p k ≡ true) same (plan_rule_eq-refl p))

pub not_same : (p q : PlanRule) → ¬ (p ≡ q) → plan_rule_eq p q ≡ false
not_same p q apart = false_from_ne_true (plan_rule_eq p q) (λ e. apart (plan_rule_eq-true p q e))

pub turned : (p q : PlanRule) → plan_rule_eq p q ≡ false → plan_rule_eq q p ≡ false
turned p q e = not_same q p (λ same. differ p q e (sym same))

-- those that aren't x
abbrev pub without : PlanRule → List PlanRule → List PlanRule
without x ys = filter (λ q. not (plan_rule_eq x q)) ys

pub any_kept : (x p : PlanRule) (ys : List PlanRule) → plan_rule_eq x p ≡ false → list_any (plan_rule_eq p) (without x ys) ≡ list_any (plan_rule_eq p) ys
any_kept x p [] e = refl
any_kept x p (y ∷ ys) e =
    elim (plan_rule_eq x y) as (λ b. plan_rule_eq x y ≡ b → list_any (plan_rule_eq p) (cond (not b) (y ∷ without x ys) (without x ys)) ≡ (plan_rule_eq p y || list_any (plan_rule_eq p) ys)) [
      | true ↦ λ same. any_kept x p ys e ∙ ap (λ b. b || list_any (plan_rule_eq p) ys) (sym (not_same p y (λ is. differ x p e (plan_rule_eq-true x y same ∙ sym is))))
      | false ↦ λ _. ap (λ b. plan_rule_eq p y || b) (any_kept x p ys e)
    ] refl

used_again : (x : PlanRule) (ys : List PlanRule) → without x (with_use ys x) ≡ without x ys
used_again x ys =
    elim (list_any (plan_rule_eq x) ys) as (λ b. without x (cond b ys (ys ++ x ∷ [])) ≡ without x ys) [
      | true ↦ refl
      | false ↦ filter-append (λ q. not (plan_rule_eq x q)) ys (x ∷ []) ∙ rw (plan_rule_eq-refl x) (append-nil (without x ys))
    ]

used_beside : (x p : PlanRule) (ys : List PlanRule) → plan_rule_eq x p ≡ false → without x (with_use ys p) ≡ with_use (without x ys) p
used_beside x p ys e =
    rw (any_kept x p ys e) (elim (list_any (plan_rule_eq p) ys) as (λ b. without x (cond b ys (ys ++ p ∷ [])) ≡ cond b (without x ys) (without x ys ++ p ∷ [])) [
      | true ↦ refl
      | false ↦ filter-append (λ q. not (plan_rule_eq x q)) ys (p ∷ []) ∙ rw e refl
    ])

step : (x p : PlanRule) (ys : List PlanRule) → x ∷ without x (with_use ys p) ≡ with_use (x ∷ without x ys) p
step x p ys =
    elim (plan_rule_eq p x) as (λ b. plan_rule_eq p x ≡ b → x ∷ without x (with_use ys p) ≡ with_use (x ∷ without x ys) p) [
      | true ↦ λ same. rw (same, plan_rule_eq-true p x same) (ap (λ l. x ∷ l) (used_again x ys))
      | false ↦ λ other. rw other (ap (λ l. x ∷ l) (used_beside x p ys (turned p x other)) ∙ after (list_any (plan_rule_eq p) (without x ys)))
    ] refl
  where
    after : (b : Bool) → x ∷ cond b (without x ys) (without x ys ++ p ∷ []) ≡ cond b (x ∷ without x ys) (x ∷ (without x ys ++ p ∷ []))
    after true = refl
    after false = refl

-- one use more
pub once_push : (ps : List PlanRule) (p : PlanRule) → rules_once (ps ++ p ∷ []) ≡ with_use (rules_once ps) p
once_push [] p = refl
once_push (x ∷ ps) p = rw (once_push ps p) (step x p (rules_once ps))

uses_after : (before ps : List PlanRule) → with_uses (rules_once before) ps ≡ rules_once (before ++ ps)
uses_after before [] = ap rules_once (sym (append-nil before))
uses_after before (p ∷ ps) = rw (← once_push before p) (uses_after (before ++ p ∷ []) ps ∙ ap rules_once (append_assoc before (p ∷ []) ps))

pub uses_push : (before ps : List PlanRule) (p : PlanRule) → with_uses before (ps ++ p ∷ []) ≡ with_use (with_uses before ps) p
uses_push before [] p = refl
uses_push before (q ∷ ps) p = uses_push (with_use before q) ps p

-- the uses of rounds, and then of more rounds
pub plan_uses : (rounds tried : List (List Change)) → with_uses (with_uses [] (rules_of rounds)) (rules_of tried) ≡ rules_once (rules_of (rounds ++ tried))
plan_uses rounds tried =
    ap (λ before. with_uses before (rules_of tried)) (uses_after [] (rules_of rounds)) ∙ uses_after (rules_of rounds) (rules_of tried)
    ∙ ap rules_once (sym (flat_map-append (map plan_rule_of) rounds tried))
