-- After a change that remains the others remain, in the same order.
use Rattle.std.proofs.Common.{◌≡◌, ◌⊎◌, ℕ, zero, suc, ◌+◌, ◌<◌, List, [], ◌∷◌, ◌++◌, length, get_or, set, refl, sym, ◌∙◌, subst, ap, inl, inr, arith}
use Rattle.std.specs.Prelude.{Option, Some, None, filter_map}
use Rattle.std.specs.List.{cons_option, AllByRecursion}
use Rattle.std.proofs.lemmas.Bool.{cond-true, cond-false}
use Rattle.std.proofs.lemmas.List.{append_assoc}
use Rattle.net_base.specs.Members.{IsIn, IsDistinct}
use Rattle.net_base.proofs.ListLaws.{distinct_members, told_from_distinct}
use Rattle.net_base.proofs.MemberLaws.{in_map, in_from_map, in_append_left, in_append_right, in_append_cases, each_get_or}
use Rattle.net_base.specs.declared.ids.SwitchId.{SwitchId}
use Rattle.flow_rules.specs.Tables.{keys_of, rules_at, IsTable}
use Rattle.flow_rules.specs.declared.rules.Key.{Key}
use Rattle.flow_rules.specs.declared.rules.Rule.{Rule}
use Rattle.flow_rules.specs.Same.{action_eq}
use Rattle.flow_rules.proofs.KeyLaws.{cases_key}
use Rattle.flow_rules.proofs.TableLaws.{action_eq-refl}
use Rattle.update_model.specs.Changes.{switch_of, AppliesTo, entry_named, rules_after_change, tables_after_change}
use Rattle.update_model.specs.Remaining.{rule_with, difference, changes_between, changes_from, with_key, keys_in_order, remaining_changes}
use Rattle.update_model.specs.declared.Change.{Change}
use Rattle.update_model.specs.declared.Change.TheVariants.{Insert, Delete, Replace}
use Rattle.update_model.proofs.ChangeLaws.{key_named, writes_key, stands_from_in, in_from_stands}
use Rattle.update_model.proofs.DifferenceLaws.{IsDifference, between_is, difference_switch, remaining_distinct}
use Rattle.update_model.proofs.KeyOrderLaws.{order_distinct, in_order, from_order, in_with_key, from_with_key, sorted_with, sorted_order, sorted_unique}
use Rattle.update_model.proofs.RemainingLaws.{AreUnique, AllUnique, unique_after, same_outside, rule_is, rule_none, rule_told, switch_at, in_from_changes, with_nothing}

-- ---- a list with one member cut out

record IsCut {A : Type 0} (xs : List A) (x : A) (ys : List A) : Type 0 where
  front : List A
  back : List A
  are : xs ≡ front ++ x ∷ back
  left : ys ≡ front ++ back

module _ {A : Type 0} where
  cut_under : (y : A) (xs : List A) (x : A) (ys : List A) → IsCut xs x ys → IsCut (y ∷ xs) x (y ∷ ys)
  cut_under y xs x ys h = record { front = y ∷ h.front; back = h.back; are = ap (λ zs. y ∷ zs) h.are; left = ap (λ zs. y ∷ zs) h.left }

  cut_behind : (zs xs : List A) (x : A) (ys : List A) → IsCut xs x ys → IsCut (zs ++ xs) x (zs ++ ys)
  cut_behind [] xs x ys h = h
  cut_behind (z ∷ zs) xs x ys h = cut_under z (zs ++ xs) x (zs ++ ys) (cut_behind zs xs x ys h)

  cut_before : (xs : List A) (x : A) (ys zs : List A) → IsCut xs x ys → IsCut (xs ++ zs) x (ys ++ zs)
  cut_before xs x ys zs h = record {
    front = h.front;
    back = h.back ++ zs;
    are = ap (λ vs. vs ++ zs) h.are ∙ append_assoc h.front (x ∷ h.back) zs;
    left = ap (λ vs. vs ++ zs) h.left ∙ append_assoc h.front h.back zs;
  }

  not_twice : (front back : List A) (x : A) → IsDistinct (front ++ x ∷ back) → ¬ IsIn x front
  not_twice [] back x once i = absurd i
  not_twice (y ∷ front) back x once i =
      elim i [ inl e ↦ once.0 (subst (λ z. IsIn z (front ++ x ∷ back)) e (in_append_right x front (x ∷ back) (inl refl))) | inr j ↦ not_twice front back x once.1 j ]

  -- a member that stands once stands at one place
  one_place : (x : A) (a b c d : List A) → ¬ IsIn x a → ¬ IsIn x c → a ++ x ∷ b ≡ c ++ x ∷ d → (a ≡ c) × (b ≡ d)
  one_place x [] b [] d first second e = let f : x ∷ b ≡ x ∷ d = e in (refl, cc)
  one_place x [] b (z ∷ c) d first second e = let f : x ∷ b ≡ z ∷ (c ++ x ∷ d) = e in absurd (second (inl cc))
  one_place x (y ∷ a) b [] d first second e = let f : y ∷ (a ++ x ∷ b) ≡ x ∷ d = e in absurd (first (inl cc))
  one_place x (y ∷ a) b (z ∷ c) d first second e =
      let f : y ∷ (a ++ x ∷ b) ≡ z ∷ (c ++ x ∷ d) = e in
      let head : y ≡ z = cc in
      let tail : a ++ x ∷ b ≡ c ++ x ∷ d = cc in
      let (same, rest) = one_place x a b c d (λ i. first (inr i)) (λ i. second (inr i)) tail in
      (ap (λ v. v ∷ a) head ∙ ap (λ vs. z ∷ vs) same, rest)

-- where two functions differ at one member alone, and there only the first gives something, that is cut out
module _ {A B : Type 0} (f g : A → Option B) (x : A) (y : B) (some : f x ≡ Some y) (none : g x ≡ None) (same : (z : A) → ¬ (z ≡ x) → f z ≡ g z) where
  cut_one : (xs : List A) → IsDistinct xs → IsIn x xs → IsCut (filter_map f xs) y (filter_map g xs)
  cut_one [] once i = absurd i
  cut_one (z ∷ xs) once (inl e) =
      let first : f z ≡ Some y = ap f (sym e) ∙ some in
      let second : g z ≡ None = ap g (sym e) ∙ none in
      let rest = same_outside f g xs (λ w i. same w (λ h. once.0 (subst (λ v. IsIn v xs) (h ∙ e) i))) in
      record {
        front = [];
        back = filter_map f xs;
        are = ap (λ o. cons_option o (filter_map f xs)) first;
        left = ap (λ o. cons_option o (filter_map g xs)) second ∙ sym rest;
      }
  cut_one (z ∷ xs) once (inr i) =
      let h = same z (λ e. once.0 (subst (λ v. IsIn v xs) (sym e) i)) in
      let rest = cut_one xs once.1 i in
      subst (λ o. IsCut (cons_option o (filter_map f xs)) y (cons_option (g z) (filter_map g xs))) (sym h)
      (elim (g z) as (λ o. IsCut (cons_option o (filter_map f xs)) y (cons_option o (filter_map g xs))) [
        | None ↦ rest
        | Some w ↦ cut_under w (filter_map f xs) y (filter_map g xs) rest
      ])

-- ---- at one switch

module _ (s : SwitchId) (now new : List Rule) (now_unique : AreUnique now) (new_unique : AreUnique new) where
  abbrev of_key : Key → Option Change
  of_key k = difference s (rule_with k now) (rule_with k new)

  key_there : (rules : List Rule) (r : Rule) → IsIn r rules → IsIn r.key (keys_of rules)
  key_there rules r i = in_map (λ x. x.key) r rules i

  no_rule : (rules : List Rule) (k : Key) → ¬ IsIn k (keys_of rules) → rule_with k rules ≡ None
  no_rule rules k none = rule_none rules k (λ r i e. none (subst (λ z. IsIn z (keys_of rules)) e (key_there rules r i)))

  nothing_left : (r : Rule) → difference s (Some r) (Some r) ≡ None
  nothing_left r = cond-true (action_eq r.action r.action) None (Some (Replace s r)) (action_eq-refl r.action)

  -- a difference applies, is that of its key, and after it there is none of its key
  record IsMade (c : Change) : Type 0 where
    applies : AppliesTo now c
    there : IsIn (key_named c) (keys_of now ++ keys_of new)
    before : of_key (key_named c) ≡ Some c
    after : difference s (rule_with (key_named c) (rules_after_change c now)) (rule_with (key_named c) new) ≡ None

  same_change : (make : SwitchId → Change) (t : SwitchId) → t ≡ s → Some (make s) ≡ Some (make t)
  same_change make t e = ap (λ x. Some (make x)) (sym e)

  made_once : (c : Change) → IsDifference s now new c → IsMade c
  made_once (Delete t r) h = record {
    applies = h.1;
    there = in_append_left r.key (keys_of now) (keys_of new) (key_there now r h.1);
    before = ap (λ o. difference s o (rule_with r.key new)) (rule_is now now_unique r.key r h.1 refl) ∙ ap (difference s (Some r)) (no_rule new r.key h.2) ∙ same_change (λ x. Delete x r) t h.0;
    after = ap (λ o. difference s o (rule_with r.key new))
        (rule_none (rules_after_change (Delete t r) now) r.key (λ q j e. elim (stands_from_in now (Delete t r) q h.1 j) [ inl x ↦ x.1 e | inr w ↦ absurd w ]))
        ∙ ap (difference s None) (no_rule new r.key h.2);
  }
  made_once (Insert t r) h = record {
    applies = h.2;
    there = in_append_right r.key (keys_of now) (keys_of new) (key_there new r h.1);
    before = ap (λ o. difference s o (rule_with r.key new)) (no_rule now r.key h.2) ∙ ap (difference s None) (rule_is new new_unique r.key r h.1 refl) ∙ same_change (λ x. Insert x r) t h.0;
    after = ap (λ o. difference s o (rule_with r.key new))
        (rule_is (rules_after_change (Insert t r) now) (unique_after now (Insert t r) h.2 now_unique) r.key r (in_from_stands now (Insert t r) r h.2 (inr refl)) refl)
        ∙ ap (difference s (Some r)) (rule_is new new_unique r.key r h.1 refl) ∙ nothing_left r;
  }
  made_once (Replace t q) h =
      let (r, i, same, differ) = h.2 in
      let applies : IsIn q.key (keys_of now) = subst (λ k. IsIn k (keys_of now)) same (key_there now r i) in
      record {
        applies = applies;
        there = in_append_right q.key (keys_of now) (keys_of new) (key_there new q h.1);
        before = ap (λ o. difference s o (rule_with q.key new)) (rule_is now now_unique q.key r i same) ∙ ap (difference s (Some r)) (rule_is new new_unique q.key q h.1 refl)
            ∙ cond-false (action_eq r.action q.action) None (Some (Replace s q)) differ ∙ same_change (λ x. Replace x q) t h.0;
        after = ap (λ o. difference s o (rule_with q.key new))
            (rule_is (rules_after_change (Replace t q) now) (unique_after now (Replace t q) applies now_unique) q.key q (in_from_stands now (Replace t q) q applies (inr refl)) refl)
            ∙ ap (difference s (Some q)) (rule_is new new_unique q.key q h.1 refl) ∙ nothing_left q;
      }

  module _ (c : Change) (made : IsMade c) where
    abbrev after : List Rule
    after = rules_after_change c now

    -- the rule with another key stays
    other_stays : (k : Key) → ¬ (k ≡ key_named c) → rule_with k now ≡ rule_with k after
    other_stays k ne =
        elim (rule_with k now) as (λ o. rule_with k now ≡ o → o ≡ rule_with k after) [
          | None ↦ λ e. sym (rule_none after k (λ r i same. elim (stands_from_in now c r made.applies i) [
            | inl x ↦ (let f : None ≡ Some r = sym e ∙ rule_is now now_unique k r x.0 same in cc)
            | inr w ↦ ne (sym same ∙ writes_key r c w)
          ]))
          | Some r ↦ λ e. (
              let (i, same) = rule_told now k r e in
              sym (rule_is after (unique_after now c made.applies now_unique) k r (in_from_stands now c r made.applies (inl (i, λ f. ne (sym same ∙ f)))) same))
        ] refl

    keys_before : (k : Key) → IsIn k (keys_of after) → IsIn k (keys_of now) ⊎ (k ≡ key_named c)
    keys_before k i =
        let (r, j, e) = in_from_map (λ x. x.key) k after i in
        elim (stands_from_in now c r made.applies j) [ inl x ↦ inl (subst (λ z. IsIn z (keys_of now)) (sym e) (key_there now r x.0)) | inr w ↦ inr (e ∙ writes_key r c w) ]

    keys_later : (k : Key) → IsIn k (keys_of now) → IsIn k (keys_of after) ⊎ (k ≡ key_named c)
    keys_later k i =
        let (r, j, e) = in_from_map (λ x. x.key) k now i in
        elim (cases_key k (key_named c)) [
          | inl same ↦ inr same
          | inr ne ↦ inl (subst (λ z. IsIn z (keys_of after)) (sym e) (key_there after r (in_from_stands now c r made.applies (inl (j, λ f. ne (e ∙ f))))))
        ]

    -- the keys in order before are those after, with the change's key put in
    same_order : keys_in_order (keys_of now ++ keys_of new) ≡ with_key (key_named c) (keys_in_order (keys_of after ++ keys_of new))
    same_order =
        sorted_unique (keys_in_order (keys_of now ++ keys_of new)) (with_key (key_named c) (keys_in_order (keys_of after ++ keys_of new))) (sorted_order (keys_of now ++ keys_of new))
        (sorted_with (key_named c) (keys_in_order (keys_of after ++ keys_of new)) (sorted_order (keys_of after ++ keys_of new)))
        (λ k i. in_with_key (key_named c) k (keys_in_order (keys_of after ++ keys_of new)) (elim (in_append_cases k (keys_of now) (keys_of new) (from_order k (keys_of now ++ keys_of new) i)) [
          | inl j ↦ elim (keys_later k j) [ inl l ↦ inr (in_order k (keys_of after ++ keys_of new) (in_append_left k (keys_of after) (keys_of new) l)) | inr e ↦ inl e ]
          | inr j ↦ inr (in_order k (keys_of after ++ keys_of new) (in_append_right k (keys_of after) (keys_of new) j))
        ]))
        (λ k i. in_order k (keys_of now ++ keys_of new) (elim (from_with_key (key_named c) k (keys_in_order (keys_of after ++ keys_of new)) i) [
          | inl e ↦ subst (λ x. IsIn x (keys_of now ++ keys_of new)) (sym e) made.there
          | inr j ↦ elim (in_append_cases k (keys_of after) (keys_of new) (from_order k (keys_of after ++ keys_of new) j)) [
            | inl l ↦ elim (keys_before k l) [
              | inl m ↦ in_append_left k (keys_of now) (keys_of new) m
              | inr e ↦ subst (λ x. IsIn x (keys_of now ++ keys_of new)) (sym e) made.there
            ]
            | inr l ↦ in_append_right k (keys_of now) (keys_of new) l
          ]
        ]))

    cut_here : IsCut (changes_between s now new) c (changes_between s after new)
    cut_here =
        let g : Key → Option Change = λ x. difference s (rule_with x after) (rule_with x new) in
        let ks = keys_in_order (keys_of now ++ keys_of new) in
        let cut : IsCut (filter_map of_key ks) c (filter_map g ks) =
        cut_one of_key g (key_named c) c made.before made.after (λ z ne. ap (λ o. difference s o (rule_with z new)) (other_stays z ne)) ks (order_distinct (keys_of now ++ keys_of new))
        (in_order (key_named c) (keys_of now ++ keys_of new) made.there) in
        subst (IsCut (filter_map of_key ks) c)
        (ap (filter_map g) same_order ∙ with_nothing g (key_named c) made.after (keys_in_order (keys_of after ++ keys_of new))) cut

  -- without a change that remains there
  cut_at : (c : Change) → IsIn c (changes_between s now new) → IsCut (changes_between s now new) c (changes_between s (rules_after_change c now) new)
  cut_at c i = cut_here c (made_once c (between_is s now new c i))

-- ---- at all switches

cut_from : (n : ℕ) (nows news : List (List Rule)) (i : ℕ) (after : List Rule) (c : Change) → i < length nows → i < length news
    → IsCut (changes_between (switch_at (n + i)) (get_or nows i []) (get_or news i [])) c (changes_between (switch_at (n + i)) after (get_or news i []))
    → IsCut (changes_from n nows news) c (changes_from n (set nows i after) news)
cut_from n [] news i after c less more cut = absurd (omega arith)
cut_from n (now ∷ nows) [] i after c less more cut = absurd (omega arith)
cut_from n (now ∷ nows) (new ∷ news) zero after c less more cut =
    let same : n + 0 ≡ n = omega arith in
    cut_before (changes_between (switch_at n) now new) c (changes_between (switch_at n) after new) (changes_from (suc n) nows news)
    (subst (λ m. IsCut (changes_between (switch_at m) now new) c (changes_between (switch_at m) after new)) same cut)
cut_from n (now ∷ nows) (new ∷ news) (suc i) after c less more cut =
    let same : n + suc i ≡ suc n + i = omega arith in
    cut_behind (changes_between (switch_at n) now new) (changes_from (suc n) nows news) c (changes_from (suc n) (set nows i after) news)
    (cut_from (suc n) nows news i after c (omega arith) (omega arith)
    (subst (λ m. IsCut (changes_between (switch_at m) (get_or nows i []) (get_or news i [])) c (changes_between (switch_at m) after (get_or news i []))) same cut))

module _ (now new : List (List Rule)) (now_unique : AllUnique now) (new_unique : AllUnique new) where
  cut_remaining : (c : Change) → IsIn c (remaining_changes now new) → IsCut (remaining_changes now new) c (remaining_changes (tables_after_change c now) new)
  cut_remaining c i =
      let (n, j, less, more) = in_from_changes 0 now new c i in
      let zero_n : 0 + n ≡ n = omega arith in
      let s = switch_at n in
      let here : IsIn c (changes_between s (rules_at now s) (rules_at new s)) = subst (λ m. IsIn c (changes_between (switch_at m) (get_or now n []) (get_or new n []))) zero_n j in
      let at : switch_of c ≡ s = difference_switch s (rules_at now s) (rules_at new s) c (between_is s (rules_at now s) (rules_at new s) c here) in
      let cut = cut_at s (rules_at now s) (rules_at new s) (now_unique s) (new_unique s) c here in
      let all : IsCut (remaining_changes now new) c (remaining_changes (set now n (rules_after_change c (rules_at now s))) new) =
      cut_from 0 now new n (rules_after_change c (rules_at now s)) c less more
      (subst (λ m. IsCut (changes_between (switch_at m) (get_or now n []) (get_or new n [])) c (changes_between (switch_at m) (rules_after_change c (rules_at now s)) (get_or new n []))) (sym zero_n) cut) in
      subst (λ (x : SwitchId). IsCut (remaining_changes now new) c (remaining_changes (set now x.0 (rules_after_change c (rules_at now x))) new)) (sym at) all

  -- after one of the changes that remain the others do, in the same order
  pub remaining_without : (front back : List Change) (c : Change) → remaining_changes now new ≡ front ++ c ∷ back → remaining_changes (tables_after_change c now) new ≡ front ++ back
  remaining_without front back c are =
      let cut = cut_remaining c (subst (IsIn c) (sym are) (in_append_right c front (c ∷ back) (inl refl))) in
      let once : IsDistinct (remaining_changes now new) = distinct_members entry_named (remaining_changes now new) (remaining_distinct now new) in
      let (fronts, backs) = one_place c cut.front cut.back front back (not_twice cut.front cut.back c (subst IsDistinct cut.are once)) (not_twice front back c (subst IsDistinct are once)) (sym cut.are ∙ are) in
      cut.left ∙ ap (λ xs. xs ++ cut.back) fronts ∙ ap (λ xs. front ++ xs) backs

pub unique_tables : (tables : List (List Rule)) → AllByRecursion IsTable tables → AllUnique tables
unique_tables tables are s = told_from_distinct (λ r. r.key) (rules_at tables s) (each_get_or IsTable tables s.0 [] are tt)
