-- The tests of changes say which are good.
use Rattle.std.proofs.Common.{◌≡◌, ◌↔◌, Bool, true, List, [], ◌∷◌, ◌++◌, map, refl, sym, subst, inl, inr}
use Rattle.std.specs.List.{list_any}
use Rattle.std.proofs.lemmas.Bool.{or_cases, or_left, or_right, false≢true}
use Rattle.net_base.specs.Members.{IsIn, IsDistinct}
use Rattle.net_base.proofs.MemberLaws.{in_map, in_from_map, each_append, in_append_cases, map-push}
use Rattle.flow_rules.specs.Patterns.{key_eq}
use Rattle.flow_rules.proofs.KeyLaws.{key_eq-true, key_eq-refl}
use Rattle.flow_rules.specs.declared.rules.Key.{Key}
use Rattle.flow_rules.specs.declared.rules.Rule.{Rule}
use Rattle.update_model.specs.Changes.{rule_of, AppliesTo}
use Rattle.update_model.specs.declared.Change.{Change}
use Rattle.update_model.proofs.ChangeLaws.{key_named}
use Rattle.round_mix.specs.Faults.{IsGoodAfter}
use Rattle.round_mix.specs.Prepared.{AreGood}

module _ {A : Type 0} (p : A → Bool) where
  any_in : (xs : List A) → list_any p xs ≡ true → (x : A) × IsIn x xs × (p x ≡ true)
  any_in [] e = absurd (false≢true e)
  any_in (x ∷ xs) e =
      elim (or_cases (p x) (list_any p xs) e) [
        | inl f ↦ (x, inl refl, f)
        | inr f ↦ (let (y, i, g) = any_in xs f in (y, inr i, g))
      ]

  in_any : (x : A) (xs : List A) → IsIn x xs → p x ≡ true → list_any p xs ≡ true
  in_any x [] i f = absurd i
  in_any x (y ∷ xs) (inl e) f = or_left (p y) (list_any p xs) (subst (λ z. p z ≡ true) e f)
  in_any x (y ∷ xs) (inr i) f = or_right (p y) (list_any p xs) (in_any x xs i f)

-- one of the changes names the key
pub names_key_is : (k : Key) (cs : List Change) → (list_any (λ c. key_eq (rule_of c).key k) cs ≡ true) ↔ IsIn k (map (λ d. (rule_of d).key) cs)
names_key_is k cs = (
  λ e. let (c, i, f) = any_in (λ c. key_eq (rule_of c).key k) cs e in subst (λ z. IsIn z (map key_named cs)) (key_eq-true (key_named c) k f) (in_map key_named c cs i),
  λ i. let (c, j, f) = in_from_map key_named k cs i in in_any (λ c. key_eq (rule_of c).key k) c cs j (subst (λ z. key_eq z k ≡ true) f (key_eq-refl k)),
)

distinct_push : {A : Type 0} (x : A) (xs : List A) → IsDistinct xs → ¬ IsIn x xs → IsDistinct (xs ++ x ∷ [])
distinct_push x [] distinct fresh = (λ i. i, tt)
distinct_push x (y ∷ xs) distinct fresh = (
  λ i. elim (in_append_cases y xs (x ∷ []) i) [
    | inl j ↦ distinct.0 j
    | inr j ↦ elim j [ inl e ↦ fresh (inl (sym e)) | inr none ↦ none ]
  ],
  distinct_push x xs distinct.1 (λ i. fresh (inr i)),
)

-- one more good change
pub good_push : (table : List Rule) (before : List Change) (c : Change) → AreGood table before → IsGoodAfter table before c → AreGood table (before ++ c ∷ [])
good_push table before c good more = record {
  applies = each_append (AppliesTo table) before (c ∷ []) good.applies (more.applies, tt);
  distinct = subst IsDistinct (sym (map-push key_named before c)) (distinct_push (key_named c) (map key_named before) good.distinct more.fresh);
}
