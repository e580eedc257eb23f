-- An entry that is put back is what runs both ways make of it, but for its place.
use Rattle.std.proofs.Common.{◌≡◌, Bool, true, false, cond, not, List, [], ◌∷◌, ◌++◌, map, refl, sym, ◌∙◌, subst, ap, inl, inr}
use Rattle.std.specs.Prelude.{Option, Some, None, filter, is_some}
use Rattle.std.proofs.lemmas.Bool.{cases_Bool, cond-true, cond-false}
use Rattle.net_base.specs.Members.{IsIn, IsSameSet}
use Rattle.net_base.proofs.ListLaws.{told_from_distinct}
use Rattle.net_base.proofs.MemberLaws.{in_map, in_from_map, in_filter, in_from_filter, in_append_left, in_append_right, in_append_cases}
use Rattle.flow_rules.specs.Patterns.{key_eq}
use Rattle.flow_rules.specs.Tables.{IsTable, action_of, keys_of}
use Rattle.flow_rules.specs.declared.rules.Action.{Action}
use Rattle.flow_rules.specs.declared.rules.Key.{Key}
use Rattle.flow_rules.specs.declared.rules.Rule.{Rule}
use Rattle.flow_rules.proofs.KeyLaws.{key_eq-true, key_eq-refl, key_eq-false, key_ne}
use Rattle.flow_rules.proofs.TableLaws.{action_held, action_none}
use Rattle.law_two_way_runs.specs.States.{with_entry_of}
use Rattle.law_two_way_runs.proofs.Undone.{in_entry_of, entry_of_in}
use Rattle.two_way_replay.specs.Entries.{with_entry}

is_none_of : (a : Option Action) → is_some a ≡ false → a ≡ None
is_none_of None e = refl
is_none_of (Some a) e = absurd cc

some_of : (a : Option Action) → is_some a ≡ true → (x : Action) × (a ≡ Some x)
some_of None e = absurd cc
some_of (Some x) e = (x, refl)

-- no entry has the key
no_key : (key : Key) (rules : List Rule) → action_of key rules ≡ None → ¬ IsIn key (keys_of rules)
no_key key rules e = (action_none key rules).0 (rw e refl)

module _ (before rules : List Rule) (key : Key) where
  none_same : action_of key before ≡ None → IsSameSet (with_entry key None rules) (with_entry_of before key rules)
  none_same none r = (
    λ j. in_append_left r (filter (λ q. not (key_eq q.key key)) rules) (filter (λ q. key_eq q.key key) before) j,
    λ j. elim (in_append_cases r (filter (λ q. not (key_eq q.key key)) rules) (filter (λ q. key_eq q.key key) before) j) [
      | inl k ↦ k
      | inr k ↦ (
          let (i, passes) = in_from_filter (λ q. key_eq q.key key) r before k in
          absurd (no_key key before none (subst (λ x. IsIn x (keys_of before)) (key_eq-true r.key key passes) (in_map (λ (q : Rule). q.key) r before i))))
    ],
  )

  module _ (a : Action) (table : IsTable before) (is : action_of key before ≡ Some a) where
    abbrev entry : Rule
    entry = record { key = key; action = a }

    there : IsIn entry before
    there = action_held key before a is

    -- the rule of the key is this one
    it : (r : Rule) → IsIn r before → r.key ≡ key → r ≡ entry
    it r i e = told_from_distinct (λ (q : Rule). q.key) before table r entry i there e

    replaced : is_some (action_of key rules) ≡ true → IsSameSet (map (λ q. cond (key_eq q.key key) entry q) rules) (with_entry_of before key rules)
    replaced some r = (
      λ j.
          let (x, i, e) = in_from_map (λ q. cond (key_eq q.key key) entry q) r rules j in
          elim (cases_Bool (key_eq x.key key)) [
            | inl same ↦ (
                let f : r ≡ entry = e ∙ cond-true (key_eq x.key key) entry x same in
                entry_of_in before rules key r (inr (subst (λ y. IsIn y before) (sym f) there, ap (λ (q : Rule). q.key) f)))
            | inr differ ↦ (
                let f : r ≡ x = e ∙ cond-false (key_eq x.key key) entry x differ in
                entry_of_in before rules key r (inl (subst (λ y. IsIn y rules) (sym f) i, λ k. key_eq-false x.key key differ (sym (ap (λ (q : Rule). q.key) f) ∙ k))))
          ],
      λ j. elim (in_entry_of before rules key r j) [
        | inl h ↦ subst (λ y. IsIn y (map (λ q. cond (key_eq q.key key) entry q) rules)) (cond-false (key_eq r.key key) entry r (key_ne r.key key h.1)) (in_map (λ q. cond (key_eq q.key key) entry q) r rules h.0)
        | inr h ↦ (
            let (b, has) = some_of (action_of key rules) some in
            let old : Rule = record { key = key; action = b } in
            subst (λ y. IsIn y (map (λ q. cond (key_eq q.key key) entry q) rules)) (cond-true (key_eq key key) entry old (key_eq-refl key) ∙ sym (it r h.0 h.1))
            (in_map (λ q. cond (key_eq q.key key) entry q) old rules (action_held key rules b has)))
      ],
    )

    behind : is_some (action_of key rules) ≡ false → IsSameSet (rules ++ entry ∷ []) (with_entry_of before key rules)
    behind none r = (
      λ j. elim (in_append_cases r rules (entry ∷ []) j) [
        | inl i ↦ entry_of_in before rules key r (inl (i, λ e. no_key key rules (is_none_of (action_of key rules) none) (subst (λ k. IsIn k (keys_of rules)) e (in_map (λ (q : Rule). q.key) r rules i))))
        | inr i ↦ elim i [
          | inl e ↦ entry_of_in before rules key r (inr (subst (λ y. IsIn y before) (sym e) there, ap (λ (q : Rule). q.key) e))
          | inr k ↦ absurd k
        ]
      ],
      λ j. elim (in_entry_of before rules key r j) [
        | inl h ↦ in_append_left r rules (entry ∷ []) h.0
        | inr h ↦ in_append_right r rules (entry ∷ []) (inl (it r h.0 h.1))
      ],
    )

    some_same : IsSameSet (with_entry key (Some a) rules) (with_entry_of before key rules)
    some_same = elim (cases_Bool (is_some (action_of key rules))) [
      | inl some ↦ subst (λ l. IsSameSet l (with_entry_of before key rules))
          (sym (cond-true (is_some (action_of key rules)) (map (λ q. cond (key_eq q.key key) entry q) rules) (rules ++ entry ∷ []) some)) (replaced some)
      | inr none ↦ subst (λ l. IsSameSet l (with_entry_of before key rules))
          (sym (cond-false (is_some (action_of key rules)) (map (λ q. cond (key_eq q.key key) entry q) rules) (rules ++ entry ∷ []) none)) (behind none)
    ]

  same_by : (o : Option Action) → IsTable before → action_of key before ≡ o → IsSameSet (with_entry key o rules) (with_entry_of before key rules)
  same_by None table is = none_same is
  same_by (Some a) table is = some_same a table is

  pub put_back_same : IsTable before → IsSameSet (with_entry key (action_of key before) rules) (with_entry_of before key rules)
  put_back_same table = same_by (action_of key before) table refl
