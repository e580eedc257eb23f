-- The rule of a key is taken out of marked rules in descending priority, from the last of its priority to the first.
use Rattle.std.proofs.Common.{◌≡◌, ℕ, ◌<◌, ◌≤◌, not, List, ◌++◌, length, take, drop, refl, sym, ◌∙◌, subst, ap}
use Rattle.std.specs.List.{AllByRecursion}
use Rattle.std.proofs.lemmas.List.{take-append-drop}
use Rattle.std.proofs.lemmas.List.Elements.{filter-append}
use Rattle.flow_rules.specs.Patterns.{key_eq}
use Rattle.flow_rules.specs.declared.rules.Key.{Key}
use Rattle.round_mix.specs.Tried.{marks_without}
use Rattle.round_mix.specs.declared.MarkedRule.{MarkedRule}
use Rattle.round_mix.proofs.PriorityLaws.{rising, kept_before, kept_behind}

-- the list once those from a place on are looked at
pub record AreOutFrom (k : Key) (old : List MarkedRule) (i : ℕ) (new : List MarkedRule) : Type 0 where
  pub within : i ≤ length old
  pub is : new ≡ take i old ++ marks_without k (drop i old)

-- at first all behind are of other keys, and at last all before
module _ (k : Key) (old : List MarkedRule) (a b : ℕ) (first_within : a ≤ length old) (above : AllByRecursion (λ m. k.priority < m.rule.key.priority) (take a old))
    (at_most : AllByRecursion (λ m. m.rule.key.priority ≤ k.priority) (drop a old)) (at_least : AllByRecursion (λ m. k.priority ≤ m.rule.key.priority) (take b old))
    (below : AllByRecursion (λ m. m.rule.key.priority < k.priority) (drop b old)) where
  pub out_rising : a ≤ b
  out_rising = rising old k.priority a b first_within above at_most at_least below

  pub out_first : b ≤ length old → AreOutFrom k old b old
  out_first le = record {
    within = le;
    is = sym (ap (λ (xs : List MarkedRule). take b old ++ xs) (kept_behind old k.priority a b first_within above at_most at_least below k refl) ∙ take-append-drop b old);
  }

  pub out_last : (i : ℕ) (new : List MarkedRule) → i ≡ a → AreOutFrom k old i new → new ≡ marks_without k old
  out_last i new is state =
      let p = λ (m : MarkedRule). not (key_eq m.rule.key k) in
      let last : AreOutFrom k old a new = subst (λ (n : ℕ). AreOutFrom k old n new) is state in
      let before : marks_without k (take a old) ≡ take a old = kept_before old k.priority a b first_within above at_most at_least below k refl in
      last.is ∙ ap (λ (xs : List MarkedRule). xs ++ marks_without k (drop a old)) (sym before) ∙ sym (filter-append p (take a old) (drop a old)) ∙ ap (marks_without k) (take-append-drop a old)
