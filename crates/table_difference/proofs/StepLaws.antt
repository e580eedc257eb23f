-- The least key of two ascending lists makes the first change between them.
use Rattle.std.proofs.Common.{◌≡◌, ◌⊎◌, List, [], ◌∷◌, ◌++◌, refl, sym, ◌∙◌, subst, ap, inl, inr, arith}
use Rattle.std.specs.Prelude.{Some, None, filter_map}
use Rattle.std.specs.List.{cons_option}
use Rattle.std.specs.declared.cmp.Ordering.TheVariants.{Less, Equal, Greater}
use Rattle.std.proofs.lemmas.Bool.{cond-true, cond-false}
use Rattle.net_base.specs.Members.{IsIn}
use Rattle.net_base.proofs.MemberLaws.{in_append_left, in_append_right, in_append_cases}
use Rattle.net_base.specs.declared.ids.SwitchId.{SwitchId}
use Rattle.flow_rules.specs.Order.{key_cmp}
use Rattle.flow_rules.specs.Patterns.{key_eq}
use Rattle.flow_rules.specs.Tables.{keys_of}
use Rattle.flow_rules.specs.declared.rules.Key.{Key}
use Rattle.flow_rules.specs.declared.rules.Rule.{Rule}
use Rattle.flow_rules.proofs.KeyLaws.{key_eq-refl, key_ne}
use Rattle.update_model.specs.Remaining.{rule_with, difference, changes_between, keys_in_order}
use Rattle.update_model.specs.declared.Change.TheVariants.{Insert, Delete}
use Rattle.update_model.proofs.KeyOrderLaws.{IsKeyLess, key_through, key_never, in_order, from_order, sorted_order, sorted_unique}
use Rattle.update_model.proofs.RemainingLaws.{same_outside, rule_none}
use Rattle.table_difference.specs.KeyOrder.{AreAscending}
use Rattle.table_difference.specs.Steps.{IsStep}
use Rattle.table_difference.proofs.OrderLaws.{less_from, less_back, tied, sorted_keys}

-- what is left of a list when the rule with the least key is gone, or the list, where it has none
record IsLeft (k : Key) (rules left : List Rule) : Type 0 where
  behind : (x : Key) → IsIn x (keys_of left) → IsKeyLess k x
  whole : (x : Key) → IsIn x (keys_of rules) → (x ≡ k) ⊎ IsIn x (keys_of left)
  part : (x : Key) → IsIn x (keys_of left) → IsIn x (keys_of rules)
  others : (x : Key) → ¬ (x ≡ k) → rule_with x rules ≡ rule_with x left

tail_left : (r : Rule) (rs : List Rule) → AreAscending (r ∷ rs) → IsLeft r.key (r ∷ rs) rs
tail_left r rs up = record {
  behind = sorted_keys r rs up;
  whole = λ x i. i;
  part = λ x i. inr i;
  others = λ x ne. cond-false (key_eq r.key x) (Some r) (rule_with x rs) (key_ne r.key x (λ e. ne (sym e)));
}

all_left : (k : Key) (rs : List Rule) → ((x : Key) → IsIn x (keys_of rs) → IsKeyLess k x) → IsLeft k rs rs
all_left k rs behind = record { behind = behind; whole = λ x i. inr i; part = λ x i. i; others = λ x ne. refl }

-- the rule with the first key
first_with : (r : Rule) (rs : List Rule) → rule_with r.key (r ∷ rs) ≡ Some r
first_with r rs = cond-true (key_eq r.key r.key) (Some r) (rule_with r.key rs) (key_eq-refl r.key)

-- no rule has a key before all
none_with : (k : Key) (rs : List Rule) → ((x : Key) → IsIn x (keys_of rs) → IsKeyLess k x) → rule_with k rs ≡ None
none_with k rs behind = rule_none rs k (λ r i e. key_never k (subst (IsKeyLess k) e (behind r.key (key_in r rs i))))
  where
    key_in : (r : Rule) (rs : List Rule) → IsIn r rs → IsIn r.key (keys_of rs)
    key_in r [] i = i
    key_in r (q ∷ rs) (inl e) = inl (ap (λ x. x.key) e)
    key_in r (q ∷ rs) (inr i) = inr (key_in r rs i)

module _ (s : SwitchId) (k : Key) (now new now_left new_left : List Rule) (now_is : IsLeft k now now_left) (new_is : IsLeft k new new_left) (there : IsIn k (keys_of now) ⊎ IsIn k (keys_of new)) where
  left : (x : Key) → IsIn x (keys_of now_left ++ keys_of new_left) → IsKeyLess k x
  left x i = elim (in_append_cases x (keys_of now_left) (keys_of new_left) i) [ inl j ↦ now_is.behind x j | inr j ↦ new_is.behind x j ]

  -- the least key comes first
  first_key : keys_in_order (keys_of now ++ keys_of new) ≡ k ∷ keys_in_order (keys_of now_left ++ keys_of new_left)
  first_key =
      sorted_unique (keys_in_order (keys_of now ++ keys_of new)) (k ∷ keys_in_order (keys_of now_left ++ keys_of new_left)) (sorted_order (keys_of now ++ keys_of new))
      (λ x i. left x (from_order x (keys_of now_left ++ keys_of new_left) i), sorted_order (keys_of now_left ++ keys_of new_left))
      (λ x i. elim (in_append_cases x (keys_of now) (keys_of new) (from_order x (keys_of now ++ keys_of new) i)) [
        | inl j ↦ elim (now_is.whole x j) [ inl e ↦ inl e | inr l ↦ inr (in_order x (keys_of now_left ++ keys_of new_left) (in_append_left x (keys_of now_left) (keys_of new_left) l)) ]
        | inr j ↦ elim (new_is.whole x j) [ inl e ↦ inl e | inr l ↦ inr (in_order x (keys_of now_left ++ keys_of new_left) (in_append_right x (keys_of now_left) (keys_of new_left) l)) ]
      ])
      (λ x i. in_order x (keys_of now ++ keys_of new) (elim i [
        | inl e ↦ subst (λ y. IsIn y (keys_of now ++ keys_of new)) (sym e) (elim there [ inl j ↦ in_append_left k (keys_of now) (keys_of new) j | inr j ↦ in_append_right k (keys_of now) (keys_of new) j ])
        | inr j ↦ elim (in_append_cases x (keys_of now_left) (keys_of new_left) (from_order x (keys_of now_left ++ keys_of new_left) j)) [
          | inl l ↦ in_append_left x (keys_of now) (keys_of new) (now_is.part x l)
          | inr l ↦ in_append_right x (keys_of now) (keys_of new) (new_is.part x l)
        ]
      ]))

  -- its change comes first, and the others are those between what is left
  first_change : changes_between s now new ≡ cons_option (difference s (rule_with k now) (rule_with k new)) (changes_between s now_left new_left)
  first_change =
      ap (filter_map (λ x. difference s (rule_with x now) (rule_with x new))) first_key
      ∙ ap (cons_option (difference s (rule_with k now) (rule_with k new)))
      (same_outside (λ x. difference s (rule_with x now) (rule_with x new)) (λ x. difference s (rule_with x now_left) (rule_with x new_left)) (keys_in_order (keys_of now_left ++ keys_of new_left))
      (λ x i.
      let ne : ¬ (x ≡ k) = λ e. key_never k (subst (IsKeyLess k) e (left x (from_order x (keys_of now_left ++ keys_of new_left) i))) in
      ap (λ o. difference s o (rule_with x new)) (now_is.others x ne) ∙ ap (difference s (rule_with x now_left)) (new_is.others x ne)))

module _ (s : SwitchId) where
  delete_first : (r : Rule) (now new : List Rule) → AreAscending (r ∷ now) → AreAscending new → ((x : Key) → IsIn x (keys_of new) → IsKeyLess r.key x)
      → IsStep s (r ∷ now) new (Some (Delete s r)) now new
  delete_first r now new now_up new_up behind = record {
    made = first_change s r.key (r ∷ now) new now new (tail_left r now now_up) (all_left r.key new behind) (inl (inl refl))
        ∙ ap (λ o. cons_option (difference s o (rule_with r.key new)) (changes_between s now new)) (first_with r now)
        ∙ ap (λ o. cons_option (difference s (Some r) o) (changes_between s now new)) (none_with r.key new behind);
    now_order = now_up.1;
    new_order = new_up;
    shorter = omega arith;
  }

  insert_first : (q : Rule) (now new : List Rule) → AreAscending now → AreAscending (q ∷ new) → ((x : Key) → IsIn x (keys_of now) → IsKeyLess q.key x)
      → IsStep s now (q ∷ new) (Some (Insert s q)) now new
  insert_first q now new now_up new_up behind = record {
    made = first_change s q.key now (q ∷ new) now new (all_left q.key now behind) (tail_left q new new_up) (inr (inl refl))
        ∙ ap (λ o. cons_option (difference s o (rule_with q.key (q ∷ new))) (changes_between s now new)) (none_with q.key now behind)
        ∙ ap (λ o. cons_option (difference s None o) (changes_between s now new)) (first_with q new);
    now_order = now_up;
    new_order = new_up.1;
    shorter = omega arith;
  }

  -- a key is less than all of a list where it is less than the first
  behind_first : (k : Key) (q : Rule) (rs : List Rule) → AreAscending (q ∷ rs) → IsKeyLess k q.key → (x : Key) → IsIn x (keys_of (q ∷ rs)) → IsKeyLess k x
  behind_first k q rs up less x (inl e) = subst (IsKeyLess k) (sym e) less
  behind_first k q rs up less x (inr i) = key_through k q.key x less (sorted_keys q rs up x i)

  pub step_last_now : (r : Rule) (now xs ys : List Rule) → xs ≡ r ∷ now → ys ≡ [] → AreAscending xs → IsStep s xs ys (Some (Delete s r)) now ys
  step_last_now r now xs ys e f up =
      subst (λ zs. IsStep s xs zs (Some (Delete s r)) now zs) (sym f)
      (subst (λ zs. IsStep s zs [] (Some (Delete s r)) now []) (sym e) (delete_first r now [] (subst AreAscending e up) tt (λ x i. absurd i)))

  pub step_last_new : (q : Rule) (new xs ys : List Rule) → xs ≡ [] → ys ≡ q ∷ new → AreAscending ys → IsStep s xs ys (Some (Insert s q)) xs new
  step_last_new q new xs ys e f up =
      subst (λ zs. IsStep s zs ys (Some (Insert s q)) zs new) (sym e)
      (subst (λ zs. IsStep s [] zs (Some (Insert s q)) [] new) (sym f) (insert_first q [] new tt (subst AreAscending f up) (λ x i. absurd i)))

  module _ (r q : Rule) (now new xs ys : List Rule) (e : xs ≡ r ∷ now) (f : ys ≡ q ∷ new) (xs_up : AreAscending xs) (ys_up : AreAscending ys) where
    now_up : AreAscending (r ∷ now)
    now_up = subst AreAscending e xs_up

    new_up : AreAscending (q ∷ new)
    new_up = subst AreAscending f ys_up

    pub step_less : key_cmp r.key q.key ≡ Less → IsStep s xs ys (Some (Delete s r)) now ys
    step_less is =
        subst (λ zs. IsStep s xs zs (Some (Delete s r)) now zs) (sym f)
        (subst (λ zs. IsStep s zs (q ∷ new) (Some (Delete s r)) now (q ∷ new)) (sym e)
        (delete_first r now (q ∷ new) now_up new_up (behind_first r.key q new new_up (less_from r.key q.key is))))

    pub step_greater : key_cmp r.key q.key ≡ Greater → IsStep s xs ys (Some (Insert s q)) xs new
    step_greater is =
        subst (λ zs. IsStep s zs ys (Some (Insert s q)) zs new) (sym e)
        (subst (λ zs. IsStep s (r ∷ now) zs (Some (Insert s q)) (r ∷ now) new) (sym f)
        (insert_first q (r ∷ now) new now_up new_up (behind_first q.key r now now_up (less_back r.key q.key is))))

    pub step_equal : key_cmp r.key q.key ≡ Equal → IsStep s xs ys (difference s (Some r) (Some q)) now new
    step_equal is =
        subst (λ zs. IsStep s xs zs (difference s (Some r) (Some q)) now new) (sym f)
        (subst (λ zs. IsStep s zs (q ∷ new) (difference s (Some r) (Some q)) now new) (sym e)
        (record {
          made = first_change s r.key (r ∷ now) (q ∷ new) now new (tail_left r now now_up) (subst (λ k. IsLeft k (q ∷ new) new) (sym same) (tail_left q new new_up)) (inl (inl refl))
              ∙ ap (λ o. cons_option (difference s o (rule_with r.key (q ∷ new))) (changes_between s now new)) (first_with r now)
              ∙ ap (λ k. cons_option (difference s (Some r) (rule_with k (q ∷ new))) (changes_between s now new)) same
              ∙ ap (λ o. cons_option (difference s (Some r) o) (changes_between s now new)) (first_with q new);
          now_order = now_up.1;
          new_order = new_up.1;
          shorter = omega arith;
        }))
      where
        same : r.key ≡ q.key
        same = tied r.key q.key is
