-- The changes that remain: each applies, and after it one fewer remains.
use Rattle.std.proofs.Common.{◌≡◌, ◌⊎◌, ℕ, zero, suc, ◌+◌, ◌<◌, true, false, cond, List, [], ◌∷◌, ◌++◌, length, get_or, set, refl, sym, ◌∙◌, subst, ap, inl, inr, arith, length-append}
use Rattle.std.specs.Prelude.{◌==◌, Option, Some, None, filter_map}
use Rattle.std.specs.List.{cons_option}
use Rattle.std.specs.Ordering.{is_lt}
use Rattle.std.proofs.lemmas.Bool.{cond-true, cond_both, eqb-true}
use Rattle.net_base.specs.Members.{IsIn, IsDistinct}
use Rattle.net_base.proofs.MemberLaws.{in_map, in_from_map, in_append_left, in_append_right, in_append_cases, find_passes}
use Rattle.net_base.specs.declared.ids.SwitchId.{SwitchId}
use Rattle.flow_rules.specs.Order.{key_cmp}
use Rattle.flow_rules.specs.Patterns.{key_eq}
use Rattle.flow_rules.specs.Tables.{keys_of, rules_at}
use Rattle.flow_rules.proofs.KeyLaws.{key_eq-true, key_eq-refl, cases_key}
use Rattle.flow_rules.specs.declared.rules.Key.{Key}
use Rattle.flow_rules.specs.declared.rules.Rule.{Rule}
use Rattle.update_model.specs.Changes.{switch_of, AppliesTo, Applies, rules_after_change, tables_after, tables_after_change}
use Rattle.update_model.proofs.Matches.{Writes}
use Rattle.update_model.specs.Remaining.{rule_with, difference, changes_between, changes_from, with_key, keys_in_order, remaining_changes, AreRemaining}
use Rattle.update_model.specs.declared.Change.{Change}
use Rattle.update_model.specs.declared.Change.TheVariants.{Insert, Delete, Replace}
use Rattle.update_model.proofs.ChangeLaws.{key_named, writes_key, stands_from_in, in_from_stands, rules_at-after_change}
use Rattle.net_base.proofs.ListLaws.{found_is, in_from_filter_map}
use Rattle.net_base.proofs.NameLaws.{same_switch}
use Rattle.flow_rules.specs.Same.{action_eq}
use Rattle.flow_rules.proofs.TableLaws.{action_eq-refl}
use Rattle.update_model.proofs.KeyOrderLaws.{order_distinct, in_order, from_order, in_with_key, from_with_key, sorted_with, sorted_order, sorted_unique}

-- no two rules have one key
abbrev pub AreUnique : List Rule → Type 0
AreUnique rules = (a b : Rule) → IsIn a rules → IsIn b rules → a.key ≡ b.key → a ≡ b

writes_same : (a b : Rule) (c : Change) → Writes a c → Writes b c → a ≡ b
writes_same a b (Insert s q) v w = v ∙ sym w
writes_same a b (Delete s q) v w = absurd v
writes_same a b (Replace s q) v w = v ∙ sym w

-- a change that applies leaves no two rules with one key
pub unique_after : (rules : List Rule) (c : Change) → AppliesTo rules c → AreUnique rules → AreUnique (rules_after_change c rules)
unique_after rules c applies unique a b i j e =
    elim (stands_from_in rules c a applies i) [
      | inl x ↦ elim (stands_from_in rules c b applies j) [ inl y ↦ unique a b x.0 y.0 e | inr w ↦ absurd (x.1 (e ∙ writes_key b c w)) ]
      | inr v ↦ elim (stands_from_in rules c b applies j) [ inl y ↦ absurd (y.1 (sym e ∙ writes_key a c v)) | inr w ↦ writes_same a b c v w ]
    ]

-- two functions that differ at one member alone, where only the first gives something
module _ {A B : Type 0} (f g : A → Option B) where
  pub same_outside : (xs : List A) → ((x : A) → IsIn x xs → f x ≡ g x) → filter_map f xs ≡ filter_map g xs
  same_outside [] same = refl
  same_outside (x ∷ xs) same = ap (λ o. cons_option o (filter_map f xs)) (same x (inl refl)) ∙ ap (cons_option (g x)) (same_outside xs (λ y i. same y (inr i)))

  pub one_fewer : (x : A) (y : B) → f x ≡ Some y → g x ≡ None → ((z : A) → ¬ (z ≡ x) → f z ≡ g z) → (xs : List A) → IsDistinct xs → IsIn x xs → length (filter_map f xs) ≡ suc (length (filter_map g xs))
  one_fewer x y some none same [] once i = absurd i
  one_fewer x y some none same (z ∷ xs) once (inl e) =
      let first : f z ≡ Some y = ap f (sym e) ∙ some in
      let second : g z ≡ None = ap g (sym e) ∙ none in
      let rest = same_outside xs (λ w i. same w (λ h. once.0 (subst (λ v. IsIn v xs) (h ∙ e) i))) in
      ap (λ o. length (cons_option o (filter_map f xs))) first ∙ ap (λ ys. suc (length ys)) rest ∙ ap (λ o. suc (length (cons_option o (filter_map g xs)))) (sym second)
  one_fewer x y some none same (z ∷ xs) once (inr i) =
      let h = same z (λ e. once.0 (subst (λ v. IsIn v xs) (sym e) i)) in
      let rest = one_fewer x y some none same xs once.1 i in
      ap (λ o. length (cons_option o (filter_map f xs))) h
      ∙ elim (g z) as (λ o. length (cons_option o (filter_map f xs)) ≡ suc (length (cons_option o (filter_map g xs)))) [ None ↦ rest | Some w ↦ ap suc rest ]

-- the rule with a key
pub rule_is : (rules : List Rule) → ((a b : Rule) → IsIn a rules → IsIn b rules → a.key ≡ b.key → a ≡ b) → (k : Key) (r : Rule) → IsIn r rules → r.key ≡ k → rule_with k rules ≡ Some r
rule_is rules unique k r i e =
    let (y, found, j, passes) = find_passes (λ x. key_eq x.key k) r rules i (subst (λ x. key_eq x k ≡ true) (sym e) (key_eq-refl k)) in
    found ∙ ap Some (unique y r j i (key_eq-true y.key k passes ∙ sym e))

pub rule_told : (rules : List Rule) (k : Key) (r : Rule) → rule_with k rules ≡ Some r → IsIn r rules × (r.key ≡ k)
rule_told rules k r e = let (i, passes) = found_is (λ x. key_eq x.key k) r rules e in (i, key_eq-true r.key k passes)

-- there is a rule with a key of the list
pub rule_there : (rules : List Rule) (k : Key) → IsIn k (keys_of rules) → ¬ (rule_with k rules ≡ None)
rule_there rules k i none =
    let (r, j, e) = in_from_map (λ x. x.key) k rules i in
    let (y, found, l, passes) = find_passes (λ x. key_eq x.key k) r rules j (subst (λ x. key_eq x k ≡ true) e (key_eq-refl k)) in
    let f : None ≡ Some y = sym none ∙ found in cc

-- no rule has the key
pub rule_none : (rules : List Rule) (k : Key) → ((r : Rule) → IsIn r rules → ¬ (r.key ≡ k)) → rule_with k rules ≡ None
rule_none rules k none =
    elim (rule_with k rules) as (λ o. rule_with k rules ≡ o → o ≡ None) [
      | None ↦ λ _. refl
      | Some r ↦ λ e. let (i, same) = rule_told rules k r e in absurd (none r i same)
    ] refl

none_there : (rules : List Rule) (k : Key) → rule_with k rules ≡ None → ¬ IsIn k (keys_of rules)
none_there rules k none i = rule_there rules k i none

key_in : (r : Rule) (rules : List Rule) (k : Key) → IsIn r rules → r.key ≡ k → IsIn k (keys_of rules)
key_in r rules k i e = subst (λ x. IsIn x (keys_of rules)) e (in_map (λ x. x.key) r rules i)

-- a key that gives nothing can be put in
pub with_nothing : {B : Type 0} (g : Key → Option B) (k : Key) → g k ≡ None → (ks : List Key) → filter_map g (with_key k ks) ≡ filter_map g ks
with_nothing g k none [] = ap (λ o. cons_option o []) none
with_nothing g k none (q ∷ ks) =
    cond_both (is_lt (key_cmp k q)) (k ∷ q ∷ ks) (cond (key_eq k q) (q ∷ ks) (q ∷ with_key k ks)) (λ zs. filter_map g zs ≡ filter_map g (q ∷ ks))
    (λ _. ap (λ o. cons_option o (filter_map g (q ∷ ks))) none)
    (λ _. cond_both (key_eq k q) (q ∷ ks) (q ∷ with_key k ks) (λ zs. filter_map g zs ≡ filter_map g (q ∷ ks)) (λ _. refl) (λ _. ap (cons_option (g q)) (with_nothing g k none ks)))

module _ (s : SwitchId) (now new : List Rule) (now_unique : AreUnique now) (new_unique : AreUnique new) where
  -- a change that leads from the rule with a key to the new one: it applies, and after it nothing is left to change there
  pub record Leads (k : Key) (d : Change) : Type 0 where
    pub named : key_named d ≡ k
    pub switch : switch_of d ≡ s
    pub applies : AppliesTo now d
    pub done : difference s (rule_with k (rules_after_change d now)) (rule_with k new) ≡ None

  nothing_between : (r : Rule) → difference s (Some r) (Some r) ≡ None
  nothing_between r = cond-true (action_eq r.action r.action) None (Some (Replace s r)) (action_eq-refl r.action)

  leads : (k : Key) (d : Change) (o p : Option Rule) → rule_with k now ≡ o → rule_with k new ≡ p → difference s o p ≡ Some d → Leads k d
  leads k d None None a b e = absurd (let f : None ≡ Some d = e in cc)
  leads k d (Some r) None a b e =
      let (i, same) = rule_told now k r a in
      let f : Some (Delete s r) ≡ Some d = e in
      let is : Delete s r ≡ d = cc in
      let gone : (q : Rule) → IsIn q (rules_after_change (Delete s r) now) → ¬ (q.key ≡ k) = λ q j g.
      elim (stands_from_in now (Delete s r) q i j) [ inl x ↦ x.1 (g ∙ sym same) | inr w ↦ absurd w ] in
      subst (Leads k) is (record {
        named = same;
        switch = refl;
        applies = i;
        done = ap (λ o. difference s o (rule_with k new)) (rule_none (rules_after_change (Delete s r) now) k gone) ∙ ap (difference s None) b;
      })
  leads k d None (Some q) a b e =
      let (j, same) = rule_told new k q b in
      let f : Some (Insert s q) ≡ Some d = e in
      let is : Insert s q ≡ d = cc in
      let fresh : ¬ IsIn q.key (keys_of now) = λ i. none_there now k a (subst (λ x. IsIn x (keys_of now)) same i) in
      subst (Leads k) is (record {
        named = same;
        switch = refl;
        applies = fresh;
        done = ap (λ o. difference s o (rule_with k new)) (rule_is (rules_after_change (Insert s q) now) (unique_after now (Insert s q) fresh now_unique) k q (in_from_stands now (Insert s q) q fresh (inr refl)) same)
            ∙ ap (difference s (Some q)) b ∙ nothing_between q;
      })
  leads k d (Some r) (Some q) a b e =
      let (i, here) = rule_told now k r a in
      let (j, same) = rule_told new k q b in
      elim (action_eq r.action q.action) as (λ t. cond t None (Some (Replace s q)) ≡ Some d → Leads k d) [
        | true ↦ λ h. absurd (let x : None ≡ Some d = h in cc)
        | false ↦ λ h. (
            let f : Some (Replace s q) ≡ Some d = h in
            let is : Replace s q ≡ d = cc in
            let there : IsIn q.key (keys_of now) = key_in r now q.key i (here ∙ sym same) in
            subst (Leads k) is (record {
              named = same;
              switch = refl;
              applies = there;
              done = ap (λ o. difference s o (rule_with k new)) (rule_is (rules_after_change (Replace s q) now) (unique_after now (Replace s q) there now_unique) k q (in_from_stands now (Replace s q) q there (inr refl)) same)
                  ∙ ap (difference s (Some q)) b ∙ nothing_between q;
            }))
      ] e

  module _ (d : Change) (applies : AppliesTo now d) where
    abbrev after : List Rule
    after = rules_after_change d now

    -- the rule with another key stays
    other_stays : (k : Key) → ¬ (k ≡ key_named d) → rule_with k now ≡ rule_with k after
    other_stays k ne =
        elim (rule_with k now) as (λ o. rule_with k now ≡ o → o ≡ rule_with k after) [
          | None ↦ λ e. sym (rule_none after k (λ r i same. elim (stands_from_in now d r applies i) [ inl x ↦ none_there now k e (key_in r now k x.0 same) | inr w ↦ ne (sym same ∙ writes_key r d w) ]))
          | Some r ↦ λ e. (
              let (i, same) = rule_told now k r e in
              sym (rule_is after (unique_after now d applies now_unique) k r (in_from_stands now d r applies (inl (i, λ f. ne (sym same ∙ f)))) same))
        ] refl

    keys_before : (k : Key) → IsIn k (keys_of after) → IsIn k (keys_of now) ⊎ (k ≡ key_named d)
    keys_before k i =
        let (r, j, e) = in_from_map (λ x. x.key) k after i in
        elim (stands_from_in now d r applies j) [ inl x ↦ inl (key_in r now k x.0 (sym e)) | inr w ↦ inr (e ∙ writes_key r d w) ]

    keys_later : (k : Key) → IsIn k (keys_of now) → IsIn k (keys_of after) ⊎ (k ≡ key_named d)
    keys_later k i =
        let (r, j, e) = in_from_map (λ x. x.key) k now i in
        elim (cases_key k (key_named d)) [ inl same ↦ inr same | inr ne ↦ inl (key_in r after k (in_from_stands now d r applies (inl (j, λ f. ne (e ∙ f)))) (sym e)) ]

    -- the keys in order before are those after, with the change's key put in
    same_order : IsIn (key_named d) (keys_in_order (keys_of now ++ keys_of new)) → keys_in_order (keys_of now ++ keys_of new) ≡ with_key (key_named d) (keys_in_order (keys_of after ++ keys_of new))
    same_order this =
        sorted_unique (keys_in_order (keys_of now ++ keys_of new)) (with_key (key_named d) (keys_in_order (keys_of after ++ keys_of new))) (sorted_order (keys_of now ++ keys_of new))
        (sorted_with (key_named d) (keys_in_order (keys_of after ++ keys_of new)) (sorted_order (keys_of after ++ keys_of new)))
        (λ k i. in_with_key (key_named d) k (keys_in_order (keys_of after ++ keys_of new)) (elim (in_append_cases k (keys_of now) (keys_of new) (from_order k (keys_of now ++ keys_of new) i)) [
          | inl j ↦ elim (keys_later k j) [ inl l ↦ inr (in_order k (keys_of after ++ keys_of new) (in_append_left k (keys_of after) (keys_of new) l)) | inr e ↦ inl e ]
          | inr j ↦ inr (in_order k (keys_of after ++ keys_of new) (in_append_right k (keys_of after) (keys_of new) j))
        ]))
        (λ k i. elim (from_with_key (key_named d) k (keys_in_order (keys_of after ++ keys_of new)) i) [
          | inl e ↦ subst (λ x. IsIn x (keys_in_order (keys_of now ++ keys_of new))) (sym e) this
          | inr j ↦ in_order k (keys_of now ++ keys_of new) (elim (in_append_cases k (keys_of after) (keys_of new) (from_order k (keys_of after ++ keys_of new) j)) [
            | inl l ↦ elim (keys_before k l) [
              | inl m ↦ in_append_left k (keys_of now) (keys_of new) m
              | inr e ↦ subst (λ x. IsIn x (keys_of now ++ keys_of new)) (sym e) (from_order (key_named d) (keys_of now ++ keys_of new) this)
            ]
            | inr l ↦ in_append_right k (keys_of now) (keys_of new) l
          ])
        ])

  -- a change that remains is of its switch and applies, and after it one fewer remains there
  pub record Shortens (d : Change) : Type 0 where
    pub switch : switch_of d ≡ s
    pub applies : AppliesTo now d
    pub fewer : length (changes_between s now new) ≡ suc (length (changes_between s (rules_after_change d now) new))

  pub shortens : (d : Change) → IsIn d (changes_between s now new) → Shortens d
  shortens d i =
      let f : Key → Option Change = λ x. difference s (rule_with x now) (rule_with x new) in
      let g : Key → Option Change = λ x. difference s (rule_with x (rules_after_change d now)) (rule_with x new) in
      let (k, j, e) = in_from_filter_map f d (keys_in_order (keys_of now ++ keys_of new)) i in
      let h = leads k d (rule_with k now) (rule_with k new) refl refl e in
      let this : IsIn (key_named d) (keys_in_order (keys_of now ++ keys_of new)) = subst (λ x. IsIn x (keys_in_order (keys_of now ++ keys_of new))) (sym h.named) j in
      record {
        switch = h.switch;
        applies = h.applies;
        fewer = one_fewer f g k d e h.done (λ z ne. ap (λ o. difference s o (rule_with z new)) (other_stays d h.applies z (λ same. ne (same ∙ h.named)))) (keys_in_order (keys_of now ++ keys_of new)) (order_distinct (keys_of now ++ keys_of new)) j
            ∙ ap (λ ks. suc (length (filter_map g ks))) (same_order d h.applies this)
            ∙ ap (λ xs. suc (length xs)) (with_nothing g (key_named d) (subst (λ x. g x ≡ None) (sym h.named) h.done) (keys_in_order (keys_of (rules_after_change d now) ++ keys_of new)));
      }

abbrev pub switch_at : ℕ → SwitchId
switch_at n = record { 0 = n }

-- the changes from one list of tables to another stand at their switches
pub in_from_changes : (n : ℕ) (nows news : List (List Rule)) (d : Change) → IsIn d (changes_from n nows news)
    → (i : ℕ) × IsIn d (changes_between (switch_at (n + i)) (get_or nows i []) (get_or news i [])) × (i < length nows) × (i < length news)
in_from_changes n [] news d j = absurd j
in_from_changes n (now ∷ nows) [] d j = absurd j
in_from_changes n (now ∷ nows) (new ∷ news) d j =
    elim (in_append_cases d (changes_between (switch_at n) now new) (changes_from (suc n) nows news) j) [
      | inl k ↦ (0, subst (λ m. IsIn d (changes_between (switch_at m) now new)) (let e : n ≡ n + 0 = omega arith in e) k, omega arith, omega arith)
      | inr k ↦ (
          let (i, l, less, more) = in_from_changes (suc n) nows news d k in
          (suc i, subst (λ m. IsIn d (changes_between (switch_at m) (get_or nows i []) (get_or news i []))) (let e : suc n + i ≡ n + suc i = omega arith in e) l, omega arith, omega arith))
    ]

pub in_changes : (n : ℕ) (nows news : List (List Rule)) (d : Change) (i : ℕ) → i < length nows → i < length news
    → IsIn d (changes_between (switch_at (n + i)) (get_or nows i []) (get_or news i [])) → IsIn d (changes_from n nows news)
in_changes n [] news d i less more j = absurd (omega arith)
in_changes n (now ∷ nows) [] d i less more j = absurd (omega arith)
in_changes n (now ∷ nows) (new ∷ news) d zero less more j =
    in_append_left d (changes_between (switch_at n) now new) (changes_from (suc n) nows news) (subst (λ m. IsIn d (changes_between (switch_at m) now new)) (let e : n + 0 ≡ n = omega arith in e) j)
in_changes n (now ∷ nows) (new ∷ news) d (suc i) less more j =
    in_append_right d (changes_between (switch_at n) now new) (changes_from (suc n) nows news)
    (in_changes (suc n) nows news d i (omega arith) (omega arith) (subst (λ m. IsIn d (changes_between (switch_at m) (get_or nows i []) (get_or news i []))) (let e : n + suc i ≡ suc n + i = omega arith in e) j))

-- one change fewer at one switch is one fewer of all
pub fewer_from : (n : ℕ) (nows news : List (List Rule)) (i : ℕ) (after : List Rule) → i < length nows → i < length news
    → length (changes_between (switch_at (n + i)) (get_or nows i []) (get_or news i [])) ≡ suc (length (changes_between (switch_at (n + i)) after (get_or news i [])))
    → length (changes_from n nows news) ≡ suc (length (changes_from n (set nows i after) news))
fewer_from n [] news i after less more e = absurd (omega arith)
fewer_from n (now ∷ nows) [] i after less more e = absurd (omega arith)
fewer_from n (now ∷ nows) (new ∷ news) zero after less more e =
    let f : n + 0 ≡ n = omega arith in
    let g : length (changes_between (switch_at n) now new) ≡ suc (length (changes_between (switch_at n) after new)) =
    subst (λ m. length (changes_between (switch_at m) now new) ≡ suc (length (changes_between (switch_at m) after new))) f e in
    length-append (changes_between (switch_at n) now new) (changes_from (suc n) nows news)
    ∙ ap (λ x. x + length (changes_from (suc n) nows news)) g
    ∙ (let h : suc (length (changes_between (switch_at n) after new)) + length (changes_from (suc n) nows news) ≡ suc (length (changes_between (switch_at n) after new) + length (changes_from (suc n) nows news)) = omega arith in h)
    ∙ ap suc (sym (length-append (changes_between (switch_at n) after new) (changes_from (suc n) nows news)))
fewer_from n (now ∷ nows) (new ∷ news) (suc i) after less more e =
    let f : n + suc i ≡ suc n + i = omega arith in
    let rest = fewer_from (suc n) nows news i after (omega arith) (omega arith)
    (subst (λ m. length (changes_between (switch_at m) (get_or nows i []) (get_or news i [])) ≡ suc (length (changes_between (switch_at m) after (get_or news i [])))) f e) in
    length-append (changes_between (switch_at n) now new) (changes_from (suc n) nows news)
    ∙ ap (λ x. length (changes_between (switch_at n) now new) + x) rest
    ∙ (let h : length (changes_between (switch_at n) now new) + suc (length (changes_from (suc n) (set nows i after) news)) ≡ suc (length (changes_between (switch_at n) now new) + length (changes_from (suc n) (set nows i after) news)) = omega arith in h)
    ∙ ap suc (sym (length-append (changes_between (switch_at n) now new) (changes_from (suc n) (set nows i after) news)))

-- each change that remains applies, and after it one fewer remains
pub remaining_shortens : (tables new : List (List Rule)) → ((s : SwitchId) → AreUnique (rules_at tables s)) → ((s : SwitchId) → AreUnique (rules_at new s)) → (d : Change) → IsIn d (remaining_changes tables new)
    → Applies tables d × (length (remaining_changes tables new) ≡ suc (length (remaining_changes (tables_after_change d tables) new)))
remaining_shortens tables new unique new_unique d i =
    let (n, j, less, more) = in_from_changes 0 tables new d i in
    let s = switch_at (0 + n) in
    let zero_n : 0 + n ≡ n = omega arith in
    let here : IsIn d (changes_between (switch_at n) (rules_at tables (switch_at n)) (rules_at new (switch_at n))) =
    subst (λ m. IsIn d (changes_between (switch_at m) (get_or tables n []) (get_or new n []))) zero_n j in
    let h = shortens (switch_at n) (rules_at tables (switch_at n)) (rules_at new (switch_at n)) (unique (switch_at n)) (new_unique (switch_at n)) d here in
    let fewer : length (changes_between (switch_at (0 + n)) (get_or tables n []) (get_or new n [])) ≡ suc (length (changes_between (switch_at (0 + n)) (rules_after_change d (get_or tables n [])) (get_or new n []))) =
    subst (λ m. length (changes_between (switch_at m) (get_or tables n []) (get_or new n [])) ≡ suc (length (changes_between (switch_at m) (rules_after_change d (get_or tables n [])) (get_or new n [])))) (sym zero_n) h.fewer in (
      subst (λ x. (x.0 < length tables) × AppliesTo (rules_at tables x) d) (sym h.switch) (less, h.applies),
      fewer_from 0 tables new n (rules_after_change d (get_or tables n [])) less more fewer
          ∙ ap (λ (x : SwitchId). suc (length (remaining_changes (set tables x.0 (rules_after_change d (rules_at tables x))) new))) (sym h.switch),
    )

-- at each switch no two rules have one key
abbrev pub AllUnique : List (List Rule) → Type 0
AllUnique tables = (s : SwitchId) → AreUnique (rules_at tables s)

pub unique_then : (tables : List (List Rule)) (d : Change) → Applies tables d → AllUnique tables → AllUnique (tables_after_change d tables)
unique_then tables d applies unique s =
    subst AreUnique (sym (rules_at-after_change d tables s applies.0))
    (elim ((switch_of d).0 == s.0) as (λ b. ((switch_of d).0 == s.0) ≡ b → AreUnique (cond b (rules_after_change d (rules_at tables s)) (rules_at tables s))) [
      | true ↦ λ e. unique_after (rules_at tables s) d (subst (λ x. AppliesTo (rules_at tables x) d) (same_switch (switch_of d) s (eqb-true (switch_of d).0 s.0 e)) applies.1) (unique s)
      | false ↦ λ _. unique s
    ] refl)

-- what remains at first is what is made and what remains after it
pub remaining_made : (new : List (List Rule)) → AllUnique new → (tables : List (List Rule)) → AllUnique tables → (changes : List Change) → AreRemaining tables new changes
    → length (remaining_changes tables new) ≡ length changes + length (remaining_changes (tables_after changes tables) new)
remaining_made new new_unique tables unique [] made = omega arith
remaining_made new new_unique tables unique (c ∷ changes) made =
    let (applies, fewer) = remaining_shortens tables new unique new_unique c made.0 in
    let rest = remaining_made new new_unique (tables_after_change c tables) (unique_then tables c applies unique) changes made.1 in
    omega arith
