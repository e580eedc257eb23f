-- What stands in a table after changes that name different keys.
use Rattle.std.proofs.Common.{◌≡◌, ◌⊎◌, ℕ, ◌<◌, true, false, cond, not, List, [], ◌∷◌, map, length, refl, sym, ◌∙◌, subst, ap, inl, inr, length-set, get_or-set_same, get_or-set_other}
use Rattle.std.specs.Prelude.{◌==◌}
use Rattle.std.specs.List.{AllByRecursion}
use Rattle.std.proofs.lemmas.Bool.{eq-eqb, ne_eqb, cases_eq, cond-true, cond-false, not-true, not_from_false}
use Rattle.net_base.specs.Members.{IsIn, IsDistinct}
use Rattle.net_base.proofs.MemberLaws.{in_append_left, in_append_right, in_append_cases, in_filter, in_from_filter, in_map, in_from_map}
use Rattle.net_base.specs.declared.ids.SwitchId.{SwitchId}
use Rattle.flow_rules.specs.Patterns.{key_eq}
use Rattle.flow_rules.specs.Tables.{keys_of, rules_at}
use Rattle.flow_rules.proofs.KeyLaws.{key_eq-refl, key_eq-false, key_ne}
use Rattle.flow_rules.specs.declared.rules.Key.{Key}
use Rattle.flow_rules.specs.declared.rules.Rule.{Rule}
use Rattle.update_model.specs.Changes.{switch_of, rule_of, AppliesTo, rules_after_change, rules_after, tables_after_change, tables_after, changes_at}
use Rattle.update_model.proofs.Matches.{Writes, IsWritten}
use Rattle.update_model.specs.declared.Change.{Change}
use Rattle.update_model.specs.declared.Change.TheVariants.{Insert, Delete, Replace}

-- the key that a change names
abbrev pub key_named : Change → Key
key_named c = (rule_of c).key

-- what stands in a table after one change: what stood there under another key, and what the change writes
abbrev pub StandsAfter : List Rule → Change → Rule → Type 0
StandsAfter rules c r = (IsIn r rules × ¬ (r.key ≡ key_named c)) ⊎ Writes r c

pub writes_key : (r : Rule) (c : Change) → Writes r c → r.key ≡ key_named c
writes_key r (Insert s q) w = ap (λ x. x.key) w
writes_key r (Delete s q) w = absurd w
writes_key r (Replace s q) w = ap (λ x. x.key) w

pub stands_from_in : (rules : List Rule) (c : Change) (r : Rule) → AppliesTo rules c → IsIn r (rules_after_change c rules) → StandsAfter rules c r
stands_from_in rules (Insert s q) r applies i =
    elim (in_append_cases r rules (q ∷ []) i) [
      | inl j ↦ inl (j, λ e. applies (subst (λ k. IsIn k (keys_of rules)) e (in_map (λ x. x.key) r rules j)))
      | inr j ↦ elim j [ inl e ↦ inr e | inr k ↦ absurd k ]
    ]
stands_from_in rules (Delete s q) r applies i =
    let (j, passes) = in_from_filter (λ x. not (key_eq x.key q.key)) r rules i in
    inl (j, key_eq-false r.key q.key (not-true (key_eq r.key q.key) passes))
stands_from_in rules (Replace s q) r applies i =
    let (x, j, e) = in_from_map (λ y. cond (key_eq y.key q.key) q y) r rules i in
    elim (key_eq x.key q.key) as (λ b. key_eq x.key q.key ≡ b → r ≡ cond b q x → StandsAfter rules (Replace s q) r) [
      | true ↦ λ _ f. inr f
      | false ↦ λ t f. inl (subst (λ y. IsIn y rules) (sym f) j, λ same. key_eq-false x.key q.key t (sym (ap (λ y. y.key) f) ∙ same))
    ] refl e

pub in_from_stands : (rules : List Rule) (c : Change) (r : Rule) → AppliesTo rules c → StandsAfter rules c r → IsIn r (rules_after_change c rules)
in_from_stands rules (Insert s q) r applies (inl h) = in_append_left r rules (q ∷ []) h.0
in_from_stands rules (Insert s q) r applies (inr e) = in_append_right r rules (q ∷ []) (inl e)
in_from_stands rules (Delete s q) r applies (inl h) =
    in_filter (λ x. not (key_eq x.key q.key)) r rules h.0 (not_from_false (key_eq r.key q.key) (key_ne r.key q.key h.1))
in_from_stands rules (Delete s q) r applies (inr w) = absurd w
in_from_stands rules (Replace s q) r applies (inl h) =
    subst (λ y. IsIn y (map (λ y. cond (key_eq y.key q.key) q y) rules)) (cond-false (key_eq r.key q.key) q r (key_ne r.key q.key h.1))
    (in_map (λ y. cond (key_eq y.key q.key) q y) r rules h.0)
in_from_stands rules (Replace s q) r applies (inr e) =
    let (x, j, f) = in_from_map (λ y. y.key) q.key rules applies in
    subst (λ y. IsIn y (map (λ y. cond (key_eq y.key q.key) q y) rules))
    (cond-true (key_eq x.key q.key) q x (subst (λ k. key_eq k q.key ≡ true) f (key_eq-refl q.key)) ∙ sym e)
    (in_map (λ y. cond (key_eq y.key q.key) q y) x rules j)

-- a change still applies after one that names another key
pub applies_kept : (rules : List Rule) (c d : Change) → AppliesTo rules c → AppliesTo rules d → ¬ (key_named d ≡ key_named c) → AppliesTo (rules_after_change c rules) d
applies_kept rules c (Insert s q) first second differ = λ i.
    let (x, j, e) = in_from_map (λ y. y.key) q.key (rules_after_change c rules) i in
    elim (stands_from_in rules c x first j) [
      | inl h ↦ second (subst (λ k. IsIn k (keys_of rules)) (sym e) (in_map (λ y. y.key) x rules h.0))
      | inr w ↦ differ (e ∙ writes_key x c w)
    ]
applies_kept rules c (Delete s q) first second differ = in_from_stands rules c q first (inl (second, differ))
applies_kept rules c (Replace s q) first second differ =
    let (x, j, e) = in_from_map (λ y. y.key) q.key rules second in
    subst (λ k. IsIn k (keys_of (rules_after_change c rules))) (sym e)
    (in_map (λ y. y.key) x (rules_after_change c rules) (in_from_stands rules c x first (inl (j, λ same. differ (e ∙ same)))))

-- what stands in a table after changes: what stood there under a key that none names, and what one of them writes
abbrev pub StandsAfterAll : List Rule → List Change → Rule → Type 0
StandsAfterAll rules cs r = (IsIn r rules × ¬ IsIn r.key (map key_named cs)) ⊎ IsWritten r cs

pub applies_all_kept : (rules : List Rule) (c : Change) (cs : List Change) → AppliesTo rules c → AllByRecursion (AppliesTo rules) cs
    → ¬ IsIn (key_named c) (map key_named cs) → AllByRecursion (AppliesTo (rules_after_change c rules)) cs
applies_all_kept rules c [] first all fresh = tt
applies_all_kept rules c (d ∷ cs) first all fresh =
    (applies_kept rules c d first all.0 (λ e. fresh (inl (sym e))), applies_all_kept rules c cs first all.1 (λ i. fresh (inr i)))

pub stands_all_from_in : (rules : List Rule) (cs : List Change) (r : Rule) → AllByRecursion (AppliesTo rules) cs → IsDistinct (map key_named cs)
    → IsIn r (rules_after cs rules) → StandsAfterAll rules cs r
stands_all_from_in rules [] r applies distinct i = inl (i, λ h. h)
stands_all_from_in rules (c ∷ cs) r applies distinct i =
    elim (stands_all_from_in (rules_after_change c rules) cs r (applies_all_kept rules c cs applies.0 applies.1 distinct.0) distinct.1 i) [
      | inl h ↦ elim (stands_from_in rules c r applies.0 h.0) [
        | inl g ↦ inl (g.0, λ j. elim j [ inl e ↦ g.1 e | inr k ↦ h.1 k ])
        | inr w ↦ inr (c, inl refl, w)
      ]
      | inr w ↦ inr (w.0, inr w.1, w.2)
    ]

pub in_from_stands_all : (rules : List Rule) (cs : List Change) (r : Rule) → AllByRecursion (AppliesTo rules) cs → IsDistinct (map key_named cs)
    → StandsAfterAll rules cs r → IsIn r (rules_after cs rules)
in_from_stands_all rules [] r applies distinct (inl h) = h.0
in_from_stands_all rules [] r applies distinct (inr w) = absurd w.1
in_from_stands_all rules (c ∷ cs) r applies distinct h =
    let kept = applies_all_kept rules c cs applies.0 applies.1 distinct.0 in
    in_from_stands_all (rules_after_change c rules) cs r kept distinct.1 (
    elim h [
      | inl g ↦ inl (in_from_stands rules c r applies.0 (inl (g.0, λ e. g.1 (inl e))), λ i. g.1 (inr i))
      | inr w ↦ elim w.1 [
        | inl e ↦ (
            let here : Writes r c = subst (Writes r) e w.2 in
            inl (in_from_stands rules c r applies.0 (inr here), λ i. distinct.0 (subst (λ k. IsIn k (map key_named cs)) (writes_key r c here) i)))
        | inr i ↦ inr (w.0, i, w.2)
      ]
    ])

-- the rules of one switch after changes of all switches
pub rules_at-after_change : (c : Change) (tables : List (List Rule)) (s : SwitchId) → (switch_of c).0 < length tables
    → rules_at (tables_after_change c tables) s ≡ cond ((switch_of c).0 == s.0) (rules_after_change c (rules_at tables s)) (rules_at tables s)
rules_at-after_change c tables s within =
    elim (cases_eq (switch_of c).0 s.0) [
      | inl e ↦ (
          let same : switch_of c ≡ s = ap (λ (n : ℕ). let x : SwitchId = record { 0 = n } in x) e in
          subst (λ z. rules_at (tables_after_change c tables) z ≡ cond ((switch_of c).0 == z.0) (rules_after_change c (rules_at tables z)) (rules_at tables z)) same
          (get_or-set_same tables (switch_of c).0 (rules_after_change c (rules_at tables (switch_of c))) [] within
          ∙ sym (cond-true ((switch_of c).0 == (switch_of c).0) _ _ (eq-eqb (switch_of c).0 (switch_of c).0 refl))))
      | inr ne ↦ get_or-set_other tables (switch_of c).0 s.0 (rules_after_change c (rules_at tables (switch_of c))) [] (λ e. ne (sym e))
          ∙ sym (cond-false ((switch_of c).0 == s.0) _ _ (ne_eqb (switch_of c).0 s.0 ne))
    ]

-- the change names a switch of the tables
abbrev pub IsWithin : ℕ → Change → Type 0
IsWithin n c = (switch_of c).0 < n

pub length-tables_after : (cs : List Change) (tables : List (List Rule)) → length (tables_after cs tables) ≡ length tables
length-tables_after [] tables = refl
length-tables_after (c ∷ cs) tables = length-tables_after cs (tables_after_change c tables) ∙ length-set tables (switch_of c).0 _

pub rules_at-after : (cs : List Change) (tables : List (List Rule)) (s : SwitchId) → AllByRecursion (IsWithin (length tables)) cs
    → rules_at (tables_after cs tables) s ≡ rules_after (changes_at s cs) (rules_at tables s)
rules_at-after [] tables s within = refl
rules_at-after (c ∷ cs) tables s within =
    let still : AllByRecursion (IsWithin (length (tables_after_change c tables))) cs =
    subst (λ n. AllByRecursion (IsWithin n) cs) (sym (length-set tables (switch_of c).0 _)) within.1 in
    let rest = rules_at-after cs (tables_after_change c tables) s still in
    let first = rules_at-after_change c tables s within.0 in
    elim ((switch_of c).0 == s.0) as (λ b. rules_at (tables_after_change c tables) s ≡ cond b (rules_after_change c (rules_at tables s)) (rules_at tables s)
    → rules_at (tables_after cs (tables_after_change c tables)) s ≡ rules_after (cond b (c ∷ changes_at s cs) (changes_at s cs)) (rules_at tables s)) [
      | true ↦ λ e. rest ∙ ap (rules_after (changes_at s cs)) e
      | false ↦ λ e. rest ∙ ap (rules_after (changes_at s cs)) e
    ] first
