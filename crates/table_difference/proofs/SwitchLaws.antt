-- The changes of a switch don't depend on the order of the rules; those of all switches are those of one after the other.
use Rattle.std.proofs.Common.{◌≡◌, ◌⊎◌, ℕ, zero, suc, ◌+◌, ◌≤◌, List, [], ◌∷◌, ◌++◌, drop, length, refl, sym, ◌∙◌, subst, ap, inl, inr, arith, append_assoc, append-nil, add-one}
use Rattle.std.specs.Prelude.{Some, None, filter_map, slice_get, IsPermutation}
use Rattle.std.proofs.lemmas.List.Sorted.{IsPermutation-sym, IsPermutation-map}
use Rattle.std.proofs.lemmas.Option.{none-some, same_Some}
use Rattle.net_base.specs.Members.{IsIn}
use Rattle.net_base.proofs.MemberLaws.{in_permutation, in_append_left, in_append_right, in_append_cases, in_map}
use Rattle.net_base.proofs.ListLaws.{told_from_distinct}
use Rattle.net_base.specs.declared.ids.SwitchId.{SwitchId}
use Rattle.flow_rules.specs.Tables.{TableState, keys_of, IsTable, rules_of_all}
use Rattle.flow_rules.specs.declared.rules.Key.{Key}
use Rattle.flow_rules.specs.declared.rules.Rule.{Rule}
use Rattle.update_model.specs.Remaining.{rule_with, difference, changes_between, changes_from, keys_in_order}
use Rattle.update_model.specs.declared.Change.{Change}
use Rattle.update_model.proofs.KeyOrderLaws.{in_order, from_order, sorted_order, sorted_unique}
use Rattle.update_model.proofs.RemainingLaws.{same_outside, rule_is, rule_none}
use Rattle.update_model.proofs.DifferenceLaws.{HasKey, with_is}
use Rattle.table_difference.proofs.OrderLaws.{table_moved}

module _ (rs qs : List Rule) (moved : IsPermutation rs qs) where
  back : IsPermutation qs rs
  back = IsPermutation-sym rs qs moved

  key_to : (k : Key) → IsIn k (keys_of rs) → IsIn k (keys_of qs)
  key_to k i = in_permutation (keys_of qs) (keys_of rs) k (IsPermutation-map (λ (r : Rule). r.key) qs rs back) i

  key_back : (k : Key) → IsIn k (keys_of qs) → IsIn k (keys_of rs)
  key_back k i = in_permutation (keys_of rs) (keys_of qs) k (IsPermutation-map (λ (r : Rule). r.key) rs qs moved) i

  -- a table has the same rule with a key when its rules change places
  same_with : IsTable rs → (k : Key) → rule_with k rs ≡ rule_with k qs
  same_with table k =
      elim (rule_with k rs) as (λ o. HasKey k rs o → o ≡ rule_with k qs) [
        | None ↦ λ none. sym (rule_none qs k (λ r i e. none (key_back k (subst (λ x. IsIn x (keys_of qs)) e (in_map (λ x. x.key) r qs i)))))
        | Some r ↦ λ h. sym (rule_is qs (told_from_distinct (λ x. x.key) qs (table_moved rs qs moved table)) k r (in_permutation qs rs r back h.0) h.1)
      ] (with_is k rs)

module _ (now new now_moved new_moved : List Rule) (first : IsPermutation now now_moved) (second : IsPermutation new new_moved) where
  same_keys : keys_in_order (keys_of now_moved ++ keys_of new_moved) ≡ keys_in_order (keys_of now ++ keys_of new)
  same_keys =
      sorted_unique (keys_in_order (keys_of now_moved ++ keys_of new_moved)) (keys_in_order (keys_of now ++ keys_of new)) (sorted_order (keys_of now_moved ++ keys_of new_moved)) (sorted_order (keys_of now ++ keys_of new))
      (λ k i. in_order k (keys_of now ++ keys_of new) (elim (in_append_cases k (keys_of now_moved) (keys_of new_moved) (from_order k (keys_of now_moved ++ keys_of new_moved) i)) [
        | inl j ↦ in_append_left k (keys_of now) (keys_of new) (key_back now now_moved first k j)
        | inr j ↦ in_append_right k (keys_of now) (keys_of new) (key_back new new_moved second k j)
      ]))
      (λ k i. in_order k (keys_of now_moved ++ keys_of new_moved) (elim (in_append_cases k (keys_of now) (keys_of new) (from_order k (keys_of now ++ keys_of new) i)) [
        | inl j ↦ in_append_left k (keys_of now_moved) (keys_of new_moved) (key_to now now_moved first k j)
        | inr j ↦ in_append_right k (keys_of now_moved) (keys_of new_moved) (key_to new new_moved second k j)
      ]))

  -- the changes between tables don't depend on the order of their rules
  pub same_between : (s : SwitchId) → IsTable now → IsTable new → changes_between s now_moved new_moved ≡ changes_between s now new
  same_between s now_table new_table =
      ap (filter_map (λ k. difference s (rule_with k now_moved) (rule_with k new_moved))) same_keys
      ∙ same_outside (λ k. difference s (rule_with k now_moved) (rule_with k new_moved)) (λ k. difference s (rule_with k now) (rule_with k new)) (keys_in_order (keys_of now ++ keys_of new))
      (λ k i. ap (λ o. difference s o (rule_with k new_moved)) (sym (same_with now now_moved first now_table k)) ∙ ap (difference s (rule_with k now)) (sym (same_with new new_moved second new_table k)))

abbrev switch_at : ℕ → SwitchId
switch_at n = record { 0 = n }

-- the changes from a switch on are its own and those from the next one on
next_switch : (n m : ℕ) (nows news : List TableState) (a b : TableState) → slice_get nows m ≡ Some a → slice_get news m ≡ Some b
    → changes_from n (drop m (rules_of_all nows)) (drop m (rules_of_all news))
    ≡ changes_between (switch_at n) a.rules b.rules ++ changes_from (suc n) (drop (suc m) (rules_of_all nows)) (drop (suc m) (rules_of_all news))
next_switch n m [] news a b e f = absurd (none-some a e)
next_switch n m (x ∷ nows) [] a b e f = absurd (none-some b f)
next_switch n zero (x ∷ nows) (y ∷ news) a b e f =
    ap (λ rs. changes_between (switch_at n) rs y.rules ++ changes_from (suc n) (rules_of_all nows) (rules_of_all news)) (ap (λ t. t.rules) (same_Some x a e))
    ∙ ap (λ rs. changes_between (switch_at n) a.rules rs ++ changes_from (suc n) (rules_of_all nows) (rules_of_all news)) (ap (λ t. t.rules) (same_Some y b f))
next_switch n (suc m) (x ∷ nows) (y ∷ news) a b e f = next_switch n m nows news a b e f

-- no switch is left where one of the lists is at its end
no_switch : (n m : ℕ) (nows news : List TableState) → (length nows ≤ m) ⊎ (length news ≤ m) → changes_from n (drop m (rules_of_all nows)) (drop m (rules_of_all news)) ≡ []
no_switch n zero [] news end = refl
no_switch n (suc m) [] news end = refl
no_switch n zero (x ∷ nows) [] end = refl
no_switch n (suc m) (x ∷ nows) [] end = elim (drop m (rules_of_all nows)) as (λ xs. changes_from n xs [] ≡ []) [ [] ↦ refl | y ∷ ys ↦ refl ]
no_switch n zero (x ∷ nows) (y ∷ news) (inl le) = absurd (omega arith)
no_switch n zero (x ∷ nows) (y ∷ news) (inr le) = absurd (omega arith)
no_switch n (suc m) (x ∷ nows) (y ∷ news) (inl le) = no_switch n m nows news (inl (omega arith))
no_switch n (suc m) (x ∷ nows) (y ∷ news) (inr le) = no_switch n m nows news (inr (omega arith))

module _ (n : ℕ) (nows news : List TableState) (before whole : List Change) (so_far : before ++ changes_from n (drop n (rules_of_all nows)) (drop n (rules_of_all news)) ≡ whole) where
  -- with the changes of a switch added those from the next one on are left
  pub one_added : (a b : TableState) (after : List Change) → slice_get nows n ≡ Some a → slice_get news n ≡ Some b → after ≡ before ++ changes_between (switch_at n) a.rules b.rules
      → after ++ changes_from (n + 1) (drop (n + 1) (rules_of_all nows)) (drop (n + 1) (rules_of_all news)) ≡ whole
  one_added a b after e f is =
      rw add-one
      (ap (λ cs. cs ++ changes_from (suc n) (drop (suc n) (rules_of_all nows)) (drop (suc n) (rules_of_all news))) is
      ∙ append_assoc before (changes_between (switch_at n) a.rules b.rules) (changes_from (suc n) (drop (suc n) (rules_of_all nows)) (drop (suc n) (rules_of_all news)))
      ∙ ap (λ cs. before ++ cs) (sym (next_switch n n nows news a b e f)) ∙ so_far)

  -- at the end of one of the lists all are added
  pub all_added : (length nows ≤ n) ⊎ (length news ≤ n) → before ≡ whole
  all_added end = sym (append-nil before) ∙ ap (λ cs. before ++ cs) (sym (no_switch n n nows news end)) ∙ so_far
