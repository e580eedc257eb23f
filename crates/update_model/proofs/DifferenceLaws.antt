-- What stands among the changes that remain between two lists of tables, and that they name no entry twice.
use Rattle.std.proofs.Common.{◌≡◌, ℕ, zero, suc, ◌+◌, ◌<◌, Bool, true, false, cond, List, [], ◌∷◌, ◌++◌, map, length, get_or, refl, sym, ◌∙◌, subst, ap, inl, inr, arith}
use Rattle.std.specs.Prelude.{find, filter_map, Option, Some, None}
use Rattle.std.specs.List.{cons_option}
use Rattle.std.proofs.lemmas.Bool.{both_ways, cond-false}
use Rattle.net_base.specs.Members.{IsIn, IsDistinct}
use Rattle.net_base.proofs.MemberLaws.{in_append_left, in_append_right, in_append_cases, in_map, in_from_map}
use Rattle.net_base.specs.declared.ids.SwitchId.{SwitchId}
use Rattle.flow_rules.specs.Patterns.{key_eq}
use Rattle.flow_rules.specs.Tables.{keys_of, IsTable, rules_at}
use Rattle.flow_rules.specs.declared.rules.Key.{Key}
use Rattle.flow_rules.specs.declared.rules.Rule.{Rule}
use Rattle.flow_rules.proofs.KeyLaws.{key_eq-true, key_eq-refl}
use Rattle.flow_rules.specs.Same.{action_eq}
use Rattle.update_model.specs.Remaining.{keys_in_order, rule_with, difference, changes_between, changes_from, remaining_changes}
use Rattle.update_model.specs.Changes.{switch_of, entry_named}
use Rattle.update_model.specs.declared.Change.{Change}
use Rattle.update_model.specs.declared.Change.TheVariants.{Insert, Delete, Replace}
use Rattle.update_model.proofs.ChangeLaws.{key_named}
use Rattle.net_base.proofs.ListLaws.{found_is, in_filter_map, in_from_filter_map, told_from_distinct, distinct_append}
use Rattle.update_model.proofs.KeyOrderLaws.{order_distinct, in_order}

find_none_all : (p : Rule → Bool) (xs : List Rule) → find p xs ≡ None → (x : Rule) → IsIn x xs → p x ≡ false
find_none_all p [] e x i = absurd i
find_none_all p (y ∷ xs) e x i =
    elim (p y) as (λ b. p y ≡ b → cond b (Some y) (find p xs) ≡ None → p x ≡ false) [
      | true ↦ λ _ f. absurd (let g : Some y ≡ None = f in cc)
      | false ↦ λ off f. elim i [ inl same ↦ subst (λ z. p z ≡ false) (sym same) off | inr j ↦ find_none_all p xs f x j ]
    ] refl e

-- the rule with a key, or no rule has it
abbrev pub HasKey : Key → List Rule → Option Rule → Type 0
HasKey k rules None = ¬ IsIn k (keys_of rules)
HasKey k rules (Some r) = IsIn r rules × (r.key ≡ k)

pub with_is : (k : Key) (rules : List Rule) → HasKey k rules (rule_with k rules)
with_is k rules = of (rule_with k rules) refl
  where
    of : (o : Option Rule) → rule_with k rules ≡ o → HasKey k rules o
    of None e = λ i.
        let (r, j, f) = in_from_map (λ x. x.key) k rules i in
        both_ways (key_eq r.key k) (find_none_all (λ x. key_eq x.key k) rules e r j) (subst (λ z. key_eq z k ≡ true) f (key_eq-refl k))
    of (Some r) e = let (i, f) = found_is (λ x. key_eq x.key k) r rules e in (i, key_eq-true r.key k f)

-- what a change between two tables is
abbrev pub IsDifference : SwitchId → List Rule → List Rule → Change → Type 0
IsDifference s now new (Delete t r) = (t ≡ s) × IsIn r now × (¬ IsIn r.key (keys_of new))
IsDifference s now new (Insert t r) = (t ≡ s) × IsIn r new × (¬ IsIn r.key (keys_of now))
IsDifference s now new (Replace t q) = (t ≡ s) × IsIn q new × ((r : Rule) × IsIn r now × (r.key ≡ q.key) × (action_eq r.action q.action ≡ false))

module _ (s : SwitchId) (now new : List Rule) where
  difference_is : (k : Key) (o p : Option Rule) → HasKey k now o → HasKey k new p → (c : Change) → difference s o p ≡ Some c → IsDifference s now new c × (key_named c ≡ k)
  difference_is k None None h g c e = absurd (let f : None ≡ Some c = e in cc)
  difference_is k (Some r) None h g c e =
      let f : Delete s r ≡ c = cc in
      subst (λ x. IsDifference s now new x × (key_named x ≡ k)) f ((refl, h.0, (λ i. g (subst (λ z. IsIn z (keys_of new)) h.1 i))), h.1)
  difference_is k None (Some r) h g c e =
      let f : Insert s r ≡ c = cc in
      subst (λ x. IsDifference s now new x × (key_named x ≡ k)) f ((refl, g.0, (λ i. h (subst (λ z. IsIn z (keys_of now)) g.1 i))), g.1)
  difference_is k (Some r) (Some q) h g c e =
      elim (action_eq r.action q.action) as (λ b. action_eq r.action q.action ≡ b → cond b None (Some (Replace s q)) ≡ Some c → IsDifference s now new c × (key_named c ≡ k)) [
        | true ↦ λ _ f. absurd (let d : None ≡ Some c = f in cc)
        | false ↦ λ off f.
            let d : Replace s q ≡ c = cc in
            subst (λ x. IsDifference s now new x × (key_named x ≡ k)) d ((refl, g.0, (r, h.0, h.1 ∙ sym g.1, off)), g.1)
      ] refl e

  abbrev of_key : Key → Option Change
  of_key k = difference s (rule_with k now) (rule_with k new)

  key_is : (c : Change) (k : Key) → of_key k ≡ Some c → IsDifference s now new c × (key_named c ≡ k)
  key_is c k e = difference_is k (rule_with k now) (rule_with k new) (with_is k now) (with_is k new) c e

  pub between_is : (c : Change) → IsIn c (changes_between s now new) → IsDifference s now new c
  between_is c i = let (k, _, e) = in_from_filter_map of_key c (keys_in_order (keys_of now ++ keys_of new)) i in (key_is c k e).0

  named_apart : (ks : List Key) → IsDistinct ks → IsDistinct (map entry_named (filter_map of_key ks))
  named_apart [] distinct = tt
  named_apart (k ∷ ks) distinct =
      elim (of_key k) as (λ o. of_key k ≡ o → IsDistinct (map entry_named (cons_option o (filter_map of_key ks)))) [
        | None ↦ λ _. named_apart ks distinct.1
        | Some d ↦ λ e. (
          λ i.
              let (c, j, f) = in_from_map entry_named (entry_named d) (filter_map of_key ks) i in
              let (x, l, g) = in_from_filter_map of_key c ks j in
              let same : k ≡ x = sym (key_is d k e).1 ∙ ap (λ n. n.key) f ∙ (key_is c x g).1 in
              distinct.0 (subst (λ z. IsIn z ks) (sym same) l),
          named_apart ks distinct.1,
        )
      ] refl

  pub between_distinct : IsDistinct (map entry_named (changes_between s now new))
  between_distinct = named_apart (keys_in_order (keys_of now ++ keys_of new)) (order_distinct (keys_of now ++ keys_of new))

  in_now : (r : Rule) → IsIn r now → IsIn r.key (keys_in_order (keys_of now ++ keys_of new))
  in_now r i = in_order r.key (keys_of now ++ keys_of new) (in_append_left r.key (keys_of now) (keys_of new) (in_map (λ x. x.key) r now i))

  in_new : (r : Rule) → IsIn r new → IsIn r.key (keys_in_order (keys_of now ++ keys_of new))
  in_new r i = in_order r.key (keys_of now ++ keys_of new) (in_append_right r.key (keys_of now) (keys_of new) (in_map (λ x. x.key) r new i))

  module _ (now_table : IsTable now) (new_table : IsTable new) where
    with_some : (rules : List Rule) → IsTable rules → (r : Rule) → IsIn r rules → rule_with r.key rules ≡ Some r
    with_some rules table r i =
        elim (rule_with r.key rules) as (λ o. HasKey r.key rules o → o ≡ Some r) [
          | None ↦ λ none. absurd (none (in_map (λ x. x.key) r rules i))
          | Some q ↦ λ h. ap Some (told_from_distinct (λ x. x.key) rules table q r h.0 i h.1)
        ] (with_is r.key rules)

    with_none : (k : Key) (rules : List Rule) → ¬ IsIn k (keys_of rules) → rule_with k rules ≡ None
    with_none k rules none =
        elim (rule_with k rules) as (λ o. HasKey k rules o → o ≡ None) [
          | None ↦ λ _. refl
          | Some q ↦ λ h. absurd (none (subst (λ z. IsIn z (keys_of rules)) h.1 (in_map (λ x. x.key) q rules h.0)))
        ] (with_is k rules)

    pub deletes_it : (r : Rule) → IsIn r now → ¬ IsIn r.key (keys_of new) → IsIn (Delete s r) (changes_between s now new)
    deletes_it r i none =
        in_filter_map of_key r.key (Delete s r) (keys_in_order (keys_of now ++ keys_of new)) (in_now r i)
        (ap (λ o. difference s o (rule_with r.key new)) (with_some now now_table r i) ∙ ap (difference s (Some r)) (with_none r.key new none))

    pub inserts_it : (r : Rule) → IsIn r new → ¬ IsIn r.key (keys_of now) → IsIn (Insert s r) (changes_between s now new)
    inserts_it r i none =
        in_filter_map of_key r.key (Insert s r) (keys_in_order (keys_of now ++ keys_of new)) (in_new r i)
        (ap (λ o. difference s o (rule_with r.key new)) (with_none r.key now none) ∙ ap (difference s None) (with_some new new_table r i))

    pub replaces_it : (r q : Rule) → IsIn r now → IsIn q new → r.key ≡ q.key → action_eq r.action q.action ≡ false → IsIn (Replace s q) (changes_between s now new)
    replaces_it r q i j same differ =
        in_filter_map of_key r.key (Replace s q) (keys_in_order (keys_of now ++ keys_of new)) (in_now r i)
        (ap (λ o. difference s o (rule_with r.key new)) (with_some now now_table r i)
        ∙ ap (difference s (Some r)) (ap (λ k. rule_with k new) same ∙ with_some new new_table q j)
        ∙ cond-false (action_eq r.action q.action) None (Some (Replace s q)) differ)

abbrev at_switch : ℕ → SwitchId
at_switch n = record { 0 = n }

-- the switch of a difference
pub difference_switch : (s : SwitchId) (now new : List Rule) (c : Change) → IsDifference s now new c → switch_of c ≡ s
difference_switch s now new (Insert t r) h = h.0
difference_switch s now new (Delete t r) h = h.0
difference_switch s now new (Replace t r) h = h.0

from_is : (n : ℕ) (nows news : List (List Rule)) (c : Change) → IsIn c (changes_from n nows news)
    → (i m : ℕ) × (m ≡ n + i) × (i < length nows) × IsIn c (changes_between (at_switch m) (get_or nows i []) (get_or news i []))
from_is n [] news c i = absurd i
from_is n (now ∷ nows) [] c i = absurd i
from_is n (now ∷ nows) (new ∷ news) c i =
    elim (in_append_cases c (changes_between (at_switch n) now new) (changes_from (suc n) nows news) i) [
      | inl j ↦ (0, n, omega arith, omega arith, j)
      | inr j ↦ (let (k, m, e, less, l) = from_is (suc n) nows news c j in (suc k, m, omega arith, omega arith, l))
    ]

from_in : (n i m : ℕ) (nows news : List (List Rule)) (c : Change) → m ≡ n + i → i < length nows → i < length news → IsIn c (changes_between (at_switch m) (get_or nows i []) (get_or news i []))
    → IsIn c (changes_from n nows news)
from_in n i m [] news c e less other j = absurd (omega arith)
from_in n i m (now ∷ nows) [] c e less other j = absurd (omega arith)
from_in n zero m (now ∷ nows) (new ∷ news) c e less other j =
    let f : m ≡ n = omega arith in
    in_append_left c (changes_between (at_switch n) now new) (changes_from (suc n) nows news) (subst (λ x. IsIn c (changes_between (at_switch x) now new)) f j)
from_in n (suc i) m (now ∷ nows) (new ∷ news) c e less other j =
    in_append_right c (changes_between (at_switch n) now new) (changes_from (suc n) nows news) (from_in (suc n) i m nows news c (omega arith) (omega arith) (omega arith) j)

from_distinct : (n : ℕ) (nows news : List (List Rule)) → IsDistinct (map entry_named (changes_from n nows news))
from_distinct n [] news = tt
from_distinct n (now ∷ nows) [] = tt
from_distinct n (now ∷ nows) (new ∷ news) =
    distinct_append entry_named (changes_between (at_switch n) now new) (changes_from (suc n) nows news) (between_distinct (at_switch n) now new) (from_distinct (suc n) nows news)
    (λ c d i j e.
    let first : switch_of c ≡ at_switch n = difference_switch (at_switch n) now new c (between_is (at_switch n) now new c i) in
    let (k, m, f, less, l) = from_is (suc n) nows news d j in
    let second : switch_of d ≡ at_switch m = difference_switch (at_switch m) (get_or nows k []) (get_or news k []) d (between_is (at_switch m) (get_or nows k []) (get_or news k []) d l) in
    let same : n ≡ m = ap (λ x. x.0) (sym first ∙ ap (λ x. x.switch) e ∙ second) in
    absurd (omega arith))

module _ (old new : List (List Rule)) where
  -- each change that remains is a difference at its switch
  pub remaining_is : (c : Change) → IsIn c (remaining_changes old new) → (s : SwitchId) × (s.0 < length old) × IsDifference s (rules_at old s) (rules_at new s) c
  remaining_is c i =
      let (k, m, e, less, l) = from_is 0 old new c i in
      let f : k ≡ m = omega arith in
      (at_switch m, omega arith, subst (λ x. IsDifference (at_switch m) (get_or old x []) (get_or new x []) c) f (between_is (at_switch m) (get_or old k []) (get_or new k []) c l))

  pub remaining_in : (s : SwitchId) (c : Change) → s.0 < length old → s.0 < length new → IsIn c (changes_between s (rules_at old s) (rules_at new s)) → IsIn c (remaining_changes old new)
  remaining_in s c less other i = from_in 0 s.0 s.0 old new c (omega arith) less other i

  pub remaining_distinct : IsDistinct (map entry_named (remaining_changes old new))
  remaining_distinct = from_distinct 0 old new
