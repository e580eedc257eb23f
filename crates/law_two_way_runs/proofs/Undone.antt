-- A change of a round taken back: the tables are those that the other changes leave.
use Rattle.std.proofs.Common.{◌≡◌, ◌⊎◌, ℕ, ◌<◌, Bool, true, false, cond, not, List, [], map, length, set, refl, sym, ◌∙◌, subst, ap, inl, inr, get_or-set_same, get_or-set_other}
use Rattle.std.specs.Prelude.{◌==◌, filter, slice_get, Some}
use Rattle.std.specs.List.{AllByRecursion}
use Rattle.std.proofs.lemmas.Bool.{eqb-true, eq-eqb, ne_eqb, cases_eq, cases_Bool, both_ways, cond-true, cond-false, not-true, not_from_false}
use Rattle.net_base.specs.Members.{IsIn, IsDistinct}
use Rattle.net_base.proofs.MemberLaws.{in_map, in_from_map, in_filter, in_from_filter, in_append_left, in_append_right, in_append_cases}
use Rattle.net_base.specs.declared.ids.SwitchId.{SwitchId}
use Rattle.flow_rules.specs.Patterns.{key_eq}
use Rattle.flow_rules.specs.Tables.{rules_at}
use Rattle.flow_rules.specs.declared.rules.Key.{Key}
use Rattle.flow_rules.specs.declared.rules.Rule.{Rule}
use Rattle.flow_rules.proofs.KeyLaws.{key_eq-true, key_eq-false, key_eq-refl, key_ne}
use Rattle.update_model.specs.Changes.{switch_of, AppliesTo, entry_named, changes_at, rules_after, IsGoodRound}
use Rattle.update_model.specs.declared.Change.{Change}
use Rattle.update_model.proofs.ChangeLaws.{key_named, writes_key, StandsAfterAll, stands_all_from_in, in_from_stands_all}
use Rattle.update_model.proofs.MadeLaws.{made_of, made_some, made_more, made_still, made_this, made_fresh, at_some, distinct_some, keys_distinct, apply_there, same_entry, each_some}
use Rattle.update_model.proofs.RoundLaws.{HoldsMade}
use Rattle.law_two_way_runs.specs.States.{with_entry_of}
use Rattle.law_two_way_runs.proofs.Flags.{set_back, get_set}

-- the rules of one switch after those of another, or of itself, are set
pub rules_at-set : (tables : List (List Rule)) (x s : SwitchId) (rules : List Rule) → x.0 < length tables
    → rules_at (set tables x.0 rules) s ≡ cond (x.0 == s.0) rules (rules_at tables s)
rules_at-set tables x s rules within =
    elim (cases_eq x.0 s.0) [
      | inl e ↦ (
          let same : x ≡ s = ap (λ (n : ℕ). let z : SwitchId = record { 0 = n } in z) e in
          subst (λ z. rules_at (set tables x.0 rules) z ≡ cond (x.0 == z.0) rules (rules_at tables z)) same
          (get_or-set_same tables x.0 rules [] within ∙ sym (cond-true (x.0 == x.0) _ _ (eq-eqb x.0 x.0 refl))))
      | inr ne ↦ get_or-set_other tables x.0 s.0 rules [] (λ e. ne (sym e))
          ∙ sym (cond-false (x.0 == s.0) _ _ (ne_eqb x.0 s.0 ne))
    ]

-- what stands in a table after an entry is again what it was
pub in_entry_of : (before rules : List Rule) (key : Key) (r : Rule) → IsIn r (with_entry_of before key rules)
    → (IsIn r rules × ¬ (r.key ≡ key)) ⊎ (IsIn r before × (r.key ≡ key))
in_entry_of before rules key r i =
    elim (in_append_cases r (filter (λ q. not (key_eq q.key key)) rules) (filter (λ q. key_eq q.key key) before) i) [
      | inl j ↦ (let (k, passes) = in_from_filter (λ q. not (key_eq q.key key)) r rules j in inl (k, key_eq-false r.key key (not-true (key_eq r.key key) passes)))
      | inr j ↦ (let (k, passes) = in_from_filter (λ q. key_eq q.key key) r before j in inr (k, key_eq-true r.key key passes))
    ]

pub entry_of_in : (before rules : List Rule) (key : Key) (r : Rule) → (IsIn r rules × ¬ (r.key ≡ key)) ⊎ (IsIn r before × (r.key ≡ key))
    → IsIn r (with_entry_of before key rules)
entry_of_in before rules key r (inl h) =
    in_append_left r (filter (λ q. not (key_eq q.key key)) rules) (filter (λ q. key_eq q.key key) before)
    (in_filter (λ q. not (key_eq q.key key)) r rules h.0 (not_from_false (key_eq r.key key) (key_ne r.key key h.1)))
entry_of_in before rules key r (inr h) =
    in_append_right r (filter (λ q. not (key_eq q.key key)) rules) (filter (λ q. key_eq q.key key) before)
    (in_filter (λ q. key_eq q.key key) r before h.0 (subst (λ k. key_eq k key ≡ true) (sym h.1) (key_eq-refl key)))

-- with a change more, and without it
module _ (before : List Rule) (fewer more : List Change) (c : Change) (one_more : (d : Change) → IsIn d more → IsIn d fewer ⊎ (d ≡ c)) (still : (d : Change) → IsIn d fewer → IsIn d more)
    (this : IsIn c more) (fresh : ¬ IsIn (key_named c) (map key_named fewer)) where
  stands_undone : (r : Rule) → (StandsAfterAll before more r × ¬ (r.key ≡ key_named c)) ⊎ (IsIn r before × (r.key ≡ key_named c)) → StandsAfterAll before fewer r
  stands_undone r (inl (inl h, differ)) =
      inl (h.0, λ i. let (d, j, e) = in_from_map key_named r.key fewer i in h.1 (subst (λ n. IsIn n (map key_named more)) (sym e) (in_map key_named d more (still d j))))
  stands_undone r (inl (inr w, differ)) =
      elim (one_more w.0 w.1) [
        | inl j ↦ inr (w.0, j, w.2)
        | inr e ↦ absurd (differ (writes_key r w.0 w.2 ∙ ap key_named e))
      ]
  stands_undone r (inr h) = inl (h.0, λ i. fresh (subst (λ n. IsIn n (map key_named fewer)) h.1 i))

  undone_stands : (r : Rule) → StandsAfterAll before fewer r → (StandsAfterAll before more r × ¬ (r.key ≡ key_named c)) ⊎ (IsIn r before × (r.key ≡ key_named c))
  undone_stands r stands =
      elim (cases_Bool (key_eq r.key (key_named c))) [
        | inl equal ↦ (
            let e : r.key ≡ key_named c = key_eq-true r.key (key_named c) equal in
            elim stands [
              | inl h ↦ inr (h.0, e)
              | inr w ↦ absurd (fresh (subst (λ n. IsIn n (map key_named fewer)) (sym (writes_key r w.0 w.2) ∙ e) (in_map key_named w.0 fewer w.1)))
            ])
        | inr unequal ↦ (
            let differ : ¬ (r.key ≡ key_named c) = key_eq-false r.key (key_named c) unequal in
            elim stands [
              | inl h ↦ inl (
                inl (
                  h.0,
                  λ i.
                      let (d, j, e) = in_from_map key_named r.key more i in
                      elim (one_more d j) [
                        | inl k ↦ h.1 (subst (λ n. IsIn n (map key_named fewer)) (sym e) (in_map key_named d fewer k))
                        | inr f ↦ differ (e ∙ ap key_named f)
                      ],
                ),
                differ,
              )
              | inr w ↦ inl (inr (w.0, still w.0 w.1, w.2), differ)
            ])
      ]

module _ (before : List (List Rule)) (round : List Change) (good : IsGoodRound before round) (tables : List (List Rule)) (flags : List Bool) (i : ℕ) (c : Change)
    (at : slice_get round i ≡ Some c) (flag : slice_get flags i ≡ Some false) where
  -- the flags without the change
  fewer : List Bool
  fewer = set flags i true

  fewer_at : slice_get (set flags i true) i ≡ Some true
  fewer_at = get_set flags i false true flag

  again : set (set flags i true) i false ≡ flags
  again = set_back flags i false true flag

  apply_of : (s : SwitchId) (some : List Bool) → AllByRecursion (AppliesTo (rules_at before s)) (changes_at s (made_of some round))
  apply_of s some = each_some (AppliesTo (rules_at before s)) (changes_at s (made_of some round)) (changes_at s round) (at_some s (made_of some round) round (made_some some round)) (apply_there before s round good.applies)

  distinct_of : (s : SwitchId) (some : List Bool) → IsDistinct (map key_named (changes_at s (made_of some round)))
  distinct_of s some = keys_distinct s (made_of some round) (distinct_some entry_named (made_of some round) round (made_some some round) good.distinct)

  made_without : (d : Change) → IsIn d (made_of (set flags i true) round) → IsIn d (made_of flags round)
  made_without d j = subst (λ xs. IsIn d (made_of xs round)) again (made_still (set flags i true) round i d j)

  made_or_this : (d : Change) → IsIn d (made_of flags round) → IsIn d (made_of (set flags i true) round) ⊎ (d ≡ c)
  made_or_this d j = made_more (set flags i true) round i c at fewer_at d (subst (λ xs. IsIn d (made_of xs round)) (sym again) j)

  this_made : IsIn c (made_of flags round)
  this_made = subst (λ xs. IsIn c (made_of xs round)) again (made_this (set flags i true) round i c at fewer_at)

  -- each switch still holds what the changes that are made leave, after one of them is taken back
  pub holds_fewer : (switch_of c).0 < length tables → HoldsMade before round good tables flags
      → HoldsMade before round good (set tables (switch_of c).0 (with_entry_of (rules_at before (switch_of c)) (key_named c) (rules_at tables (switch_of c)))) (set flags i true)
  holds_fewer within holds s =
      let more = changes_at s (made_of flags round) in
      let less = changes_at s (made_of (set flags i true) round) in
      let rules = rules_at before s in
      let now : (r : Rule) → IsIn r (rules_at tables s) → StandsAfterAll rules more r = λ r j. stands_all_from_in rules more r (apply_of s flags) (distinct_of s flags) ((holds s r).0 j) in
      let back : (r : Rule) → StandsAfterAll rules more r → IsIn r (rules_at tables s) = λ r j. (holds s r).1 (in_from_stands_all rules more r (apply_of s flags) (distinct_of s flags) j) in
      let then : (r : Rule) → StandsAfterAll rules less r → IsIn r (rules_after less rules) = λ r j. in_from_stands_all rules less r (apply_of s (set flags i true)) (distinct_of s (set flags i true)) j in
      let there : (r : Rule) → IsIn r (rules_after less rules) → StandsAfterAll rules less r = λ r j. stands_all_from_in rules less r (apply_of s (set flags i true)) (distinct_of s (set flags i true)) j in
      let is_here : Change → Bool = λ d. (switch_of d).0 == s.0 in
      let still : (d : Change) → IsIn d less → IsIn d more = λ d j. let (k, h) = in_from_filter is_here d (made_of (set flags i true) round) j in in_filter is_here d (made_of flags round) (made_without d k) h in
      let table_is = rules_at-set tables (switch_of c) s (with_entry_of (rules_at before (switch_of c)) (key_named c) (rules_at tables (switch_of c))) within in
      elim (cases_Bool (is_here c)) [
        | inl here ↦ (
            let same : switch_of c ≡ s = ap (λ (n : ℕ). let x : SwitchId = record { 0 = n } in x) (eqb-true _ _ here) in
            let table : rules_at (set tables (switch_of c).0 (with_entry_of (rules_at before (switch_of c)) (key_named c) (rules_at tables (switch_of c)))) s
            ≡ with_entry_of (rules_at before s) (key_named c) (rules_at tables s) =
            table_is ∙ cond-true (is_here c) _ _ here ∙ ap (λ x. with_entry_of (rules_at before x) (key_named c) (rules_at tables x)) same in
            let one_more : (d : Change) → IsIn d more → IsIn d less ⊎ (d ≡ c) = λ d j.
            let (k, h) = in_from_filter is_here d (made_of flags round) j in
            elim (made_or_this d k) [ inl m ↦ inl (in_filter is_here d (made_of (set flags i true) round) m h) | inr e ↦ inr e ] in
            let this : IsIn c more = in_filter is_here c (made_of flags round) this_made here in
            let fresh : ¬ IsIn (key_named c) (map key_named less) = λ j.
            let (d, k, e) = in_from_map key_named (key_named c) less j in
            let (m, h) = in_from_filter is_here d (made_of (set flags i true) round) k in
            made_fresh (set flags i true) round i c at fewer_at good.distinct
            (subst (λ n. IsIn n (map entry_named (made_of (set flags i true) round))) (sym (same_entry c d (eqb-true _ _ here ∙ sym (eqb-true _ _ h)) e)) (in_map entry_named d (made_of (set flags i true) round) m)) in
            λ r. (
              (λ j. then r (stands_undone rules less more c one_more still this fresh r
                  (elim (in_entry_of rules (rules_at tables s) (key_named c) r (subst (λ t. IsIn r t) table j)) [ inl h ↦ inl (now r h.0, h.1) | inr h ↦ inr h ]))),
              (λ j. subst (λ t. IsIn r t) (sym table) (entry_of_in rules (rules_at tables s) (key_named c) r
                  (elim (undone_stands rules less more c one_more still this fresh r (there r j)) [ inl h ↦ inl (back r h.0, h.1) | inr h ↦ inr h ]))),
            ))
        | inr away ↦ (
            let table : rules_at (set tables (switch_of c).0 (with_entry_of (rules_at before (switch_of c)) (key_named c) (rules_at tables (switch_of c)))) s ≡ rules_at tables s =
            table_is ∙ cond-false (is_here c) _ _ away in
            let from : (d : Change) → IsIn d more → IsIn d less = λ d j.
            let (k, h) = in_from_filter is_here d (made_of flags round) j in
            elim (made_or_this d k) [
              | inl m ↦ in_filter is_here d (made_of (set flags i true) round) m h
              | inr e ↦ absurd (both_ways (is_here c) away (subst (λ x. is_here x ≡ true) e h))
            ] in
            λ r. (
              (λ j. then r (same_stand rules more less from still r (now r (subst (λ t. IsIn r t) table j)))),
              (λ j. subst (λ t. IsIn r t) (sym table) (back r (same_stand rules less more still from r (there r j)))),
            ))
      ]
    where
      -- the same changes leave the same
      same_stand : (rules : List Rule) (xs ys : List Change) → ((d : Change) → IsIn d xs → IsIn d ys) → ((d : Change) → IsIn d ys → IsIn d xs) → (r : Rule)
          → StandsAfterAll rules xs r → StandsAfterAll rules ys r
      same_stand rules xs ys to from r (inl h) = inl (h.0, λ i. let (d, j, e) = in_from_map key_named r.key ys i in h.1 (subst (λ k. IsIn k (map key_named xs)) (sym e) (in_map key_named d xs (from d j))))
      same_stand rules xs ys to from r (inr w) = inr (w.0, to w.0 w.1, w.2)
