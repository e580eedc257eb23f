-- The tables while the changes of a round are made one by one.
use Rattle.std.proofs.Common.{◌≡◌, ◌⊎◌, ℕ, zero, suc, ◌<◌, Bool, true, false, List, [], ◌∷◌, map, length, set, refl, sym, ◌∙◌, subst, ap, inl, inr, arith}
use Rattle.std.specs.Prelude.{◌==◌, slice_get, Some}
use Rattle.std.specs.List.{AllByRecursion}
use Rattle.std.proofs.lemmas.Bool.{eqb-true, both_ways, cases_Bool, cond-true, cond-false}
use Rattle.net_base.specs.Members.{IsIn, IsSameSet, IsDistinct}
use Rattle.net_base.proofs.MemberLaws.{in_map, in_from_map, in_filter, in_from_filter}
use Rattle.net_base.specs.declared.ids.SwitchId.{SwitchId}
use Rattle.flow_rules.specs.Tables.{rules_at}
use Rattle.flow_rules.specs.declared.rules.Rule.{Rule}
use Rattle.update_model.specs.Changes.{switch_of, AppliesTo, Applies, entry_named, changes_at, rules_after, rules_after_change, tables_after, tables_after_change, round_after, settled_tables, IsGoodRound}
use Rattle.update_model.proofs.Matches.{Writes}
use Rattle.update_model.specs.declared.Change.{Change}
use Rattle.update_model.proofs.ChangeLaws.{key_named, writes_key, StandsAfterAll, stands_from_in, in_from_stands, stands_all_from_in, in_from_stands_all, length-tables_after, rules_at-after_change}
use Rattle.update_model.proofs.MadeLaws.{made_of, made_some, made_more, made_still, made_this, made_fresh, at_some, distinct_some, keys_distinct, apply_there, same_entry, each_some}

pub settled_zero : (rounds : List (List Change)) (tables : List (List Rule)) → settled_tables rounds zero tables ≡ tables
settled_zero [] tables = refl
settled_zero (r ∷ rounds) tables = refl

pub settled_start : (rounds : List (List Change)) (tables : List (List Rule)) → settled_tables rounds 0 tables ≡ tables
settled_start rounds tables = settled_zero rounds tables

-- the tables after one more round
pub settled_next : (rounds : List (List Change)) (k : ℕ) (tables : List (List Rule)) → k < length rounds
    → settled_tables rounds (suc k) tables ≡ tables_after (round_after k rounds) (settled_tables rounds k tables)
settled_next [] k tables less = absurd (omega arith)
settled_next (r ∷ rounds) zero tables less = settled_zero rounds (tables_after r tables)
settled_next (r ∷ rounds) (suc k) tables less = settled_next rounds k (tables_after r tables) (omega arith)

-- the changes of rounds keep the number of tables
pub length-settled : (rounds : List (List Change)) (k : ℕ) (tables : List (List Rule)) → length (settled_tables rounds k tables) ≡ length tables
length-settled [] k tables = refl
length-settled (round ∷ rounds) zero tables = refl
length-settled (round ∷ rounds) (suc k) tables = length-settled rounds k (tables_after round tables) ∙ length-tables_after round tables

module _ (before : List Rule) (some more : List Change) where
  -- the same changes leave the same
  stands_same : ((d : Change) → IsIn d some → IsIn d more) → ((d : Change) → IsIn d more → IsIn d some) → (r : Rule) → StandsAfterAll before some r → StandsAfterAll before more r
  stands_same to from r (inl h) = inl (h.0, λ i. let (d, j, e) = in_from_map key_named r.key more i in h.1 (subst (λ k. IsIn k (map key_named some)) (sym e) (in_map key_named d some (from d j))))
  stands_same to from r (inr w) = inr (w.0, to w.0 w.1, w.2)

  module _ (c : Change) (one_more : (d : Change) → IsIn d more → IsIn d some ⊎ (d ≡ c)) (still : (d : Change) → IsIn d some → IsIn d more)
      (this : IsIn c more) (fresh : ¬ IsIn (key_named c) (map key_named some)) where
    stands_more : (r : Rule) → (StandsAfterAll before some r × ¬ (r.key ≡ key_named c)) ⊎ Writes r c → StandsAfterAll before more r
    stands_more r (inl (inl h, differ)) =
        inl (
          h.0,
          λ i.
              let (d, j, e) = in_from_map key_named r.key more i in
              elim (one_more d j) [
                | inl k ↦ h.1 (subst (λ n. IsIn n (map key_named some)) (sym e) (in_map key_named d some k))
                | inr f ↦ differ (e ∙ ap key_named f)
              ],
        )
    stands_more r (inl (inr w, differ)) = inr (w.0, still w.0 w.1, w.2)
    stands_more r (inr w) = inr (c, this, w)

    stands_less : (r : Rule) → StandsAfterAll before more r → (StandsAfterAll before some r × ¬ (r.key ≡ key_named c)) ⊎ Writes r c
    stands_less r (inl h) =
        inl (
          (inl (h.0, λ i. let (d, j, e) = in_from_map key_named r.key some i in h.1 (subst (λ n. IsIn n (map key_named more)) (sym e) (in_map key_named d more (still d j))))),
          λ e. h.1 (subst (λ n. IsIn n (map key_named more)) (sym e) (in_map key_named c more this)),
        )
    stands_less r (inr w) =
        elim (one_more w.0 w.1) [
          | inl j ↦ inl (inr (w.0, j, w.2), λ e. fresh (subst (λ n. IsIn n (map key_named some)) (sym (writes_key r w.0 w.2) ∙ e) (in_map key_named w.0 some j)))
          | inr e ↦ inr (subst (Writes r) e w.2)
        ]

module _ (before : List (List Rule)) (round : List Change) (good : IsGoodRound before round) where
  made_apply : (s : SwitchId) (flags : List Bool) → AllByRecursion (AppliesTo (rules_at before s)) (changes_at s (made_of flags round))
  made_apply s flags = each_some (AppliesTo (rules_at before s)) (changes_at s (made_of flags round)) (changes_at s round) (at_some s (made_of flags round) round (made_some flags round)) (apply_there before s round good.applies)

  made_distinct : (s : SwitchId) (flags : List Bool) → IsDistinct (map key_named (changes_at s (made_of flags round)))
  made_distinct s flags = keys_distinct s (made_of flags round) (distinct_some entry_named (made_of flags round) round (made_some flags round) good.distinct)

  -- each switch holds what the changes that are made leave of the tables before the round
  abbrev pub HoldsMade : List (List Rule) → List Bool → Type 0
  HoldsMade tables flags = (s : SwitchId) → IsSameSet (rules_at tables s) (rules_after (changes_at s (made_of flags round)) (rules_at before s))

  module _ (tables : List (List Rule)) (flags : List Bool) (i : ℕ) (c : Change) (at : slice_get round i ≡ Some c) (flag : slice_get flags i ≡ Some true) where
    -- and still does after one more is made
    pub holds_more : Applies tables c → HoldsMade tables flags → HoldsMade (tables_after_change c tables) (set flags i false)
    holds_more applies holds s =
        let some = changes_at s (made_of flags round) in
        let more = changes_at s (made_of (set flags i false) round) in
        let rules = rules_at before s in
        let now : (r : Rule) → IsIn r (rules_at tables s) → StandsAfterAll rules some r = λ r j. stands_all_from_in rules some r (made_apply s flags) (made_distinct s flags) ((holds s r).0 j) in
        let back : (r : Rule) → StandsAfterAll rules some r → IsIn r (rules_at tables s) = λ r j. (holds s r).1 (in_from_stands_all rules some r (made_apply s flags) (made_distinct s flags) j) in
        let then : (r : Rule) → StandsAfterAll rules more r → IsIn r (rules_after more rules) = λ r j. in_from_stands_all rules more r (made_apply s (set flags i false)) (made_distinct s (set flags i false)) j in
        let there : (r : Rule) → IsIn r (rules_after more rules) → StandsAfterAll rules more r = λ r j. stands_all_from_in rules more r (made_apply s (set flags i false)) (made_distinct s (set flags i false)) j in
        let is_here : Change → Bool = λ d. (switch_of d).0 == s.0 in
        let still : (d : Change) → IsIn d some → IsIn d more = λ d j. let (k, h) = in_from_filter is_here d (made_of flags round) j in in_filter is_here d (made_of (set flags i false) round) (made_still flags round i d k) h in
        let table_is = rules_at-after_change c tables s applies.0 in
        elim (cases_Bool (is_here c)) [
          | inl here ↦ (
              let table : rules_at (tables_after_change c tables) s ≡ rules_after_change c (rules_at tables s) = table_is ∙ cond-true (is_here c) _ _ here in
              let same : switch_of c ≡ s = ap (λ (n : ℕ). let x : SwitchId = record { 0 = n } in x) (eqb-true _ _ here) in
              let applied : AppliesTo (rules_at tables s) c = subst (λ t. AppliesTo (rules_at tables t) c) same applies.1 in
              let one_more : (d : Change) → IsIn d more → IsIn d some ⊎ (d ≡ c) = λ d j.
              let (k, h) = in_from_filter is_here d (made_of (set flags i false) round) j in
              elim (made_more flags round i c at flag d k) [ inl m ↦ inl (in_filter is_here d (made_of flags round) m h) | inr e ↦ inr e ] in
              let this : IsIn c more = in_filter is_here c (made_of (set flags i false) round) (made_this flags round i c at flag) here in
              let fresh : ¬ IsIn (key_named c) (map key_named some) = λ j.
              let (d, k, e) = in_from_map key_named (key_named c) some j in
              let (m, h) = in_from_filter is_here d (made_of flags round) k in
              made_fresh flags round i c at flag good.distinct
              (subst (λ n. IsIn n (map entry_named (made_of flags round))) (sym (same_entry c d (eqb-true _ _ here ∙ sym (eqb-true _ _ h)) e)) (in_map entry_named d (made_of flags round) m)) in
              λ r. (
                (λ j. then r (stands_more rules some more c one_more still this fresh r
                    (elim (stands_from_in (rules_at tables s) c r applied (subst (λ t. IsIn r t) table j)) [ inl h ↦ inl (now r h.0, h.1) | inr w ↦ inr w ]))),
                (λ j. subst (λ t. IsIn r t) (sym table) (in_from_stands (rules_at tables s) c r applied
                    (elim (stands_less rules some more c one_more still this fresh r (there r j)) [ inl h ↦ inl (back r h.0, h.1) | inr w ↦ inr w ]))),
              ))
          | inr away ↦ (
              let table : rules_at (tables_after_change c tables) s ≡ rules_at tables s = table_is ∙ cond-false (is_here c) _ _ away in
              let from : (d : Change) → IsIn d more → IsIn d some = λ d j.
              let (k, h) = in_from_filter is_here d (made_of (set flags i false) round) j in
              elim (made_more flags round i c at flag d k) [
                | inl m ↦ in_filter is_here d (made_of flags round) m h
                | inr e ↦ absurd (both_ways (is_here c) away (subst (λ x. is_here x ≡ true) e h))
              ] in
              λ r. (
                (λ j. then r (stands_same rules some more still from r (now r (subst (λ t. IsIn r t) table j)))),
                (λ j. subst (λ t. IsIn r t) (sym table) (back r (stands_same rules more some from still r (there r j)))),
              ))
        ]
