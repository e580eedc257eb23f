-- The key order is a strict total order, so keys in order stand once each.
use Rattle.std.proofs.Common.{◌≡◌, ◌⊎◌, ℕ, zero, suc, ◌<◌, ◌≤◌, true, false, cond, List, [], ◌∷◌, refl, sym, ◌∙◌, subst, ap, inl, inr, arith}
use Rattle.std.specs.Prelude.{◌==◌, nat_lt}
use Rattle.std.specs.Ordering.{is_lt, nat_cmp}
use Rattle.std.specs.declared.cmp.Ordering.{Ordering}
use Rattle.std.specs.declared.cmp.Ordering.TheVariants.{Less, Equal, Greater}
use Rattle.std.proofs.lemmas.Bool.{eqb-true, eq-eqb, ltb-true, lt-ltb, le-ltb, both_ways, cond_both, cases_eq, cases_lt}
use Rattle.net_base.specs.Members.{IsIn, IsDistinct}
use Rattle.flow_rules.specs.Order.{port_rank, vlan_rank, by_parts, key_cmp}
use Rattle.flow_rules.specs.Patterns.{key_eq}
use Rattle.flow_rules.specs.declared.rules.Key.{Key}
use Rattle.flow_rules.specs.declared.rules.VlanTest.TheVariants as test
use Rattle.flow_rules.proofs.KeyLaws.{key_eq-true, key_eq-false, port_told, vlan_told, key_same}
use Rattle.update_model.specs.Remaining.{with_key, keys_in_order}

abbrev IsLess : List Ordering → Type 0
IsLess parts = is_lt (by_parts parts) ≡ true

less_cases : (x y : ℕ) (parts : List Ordering) → IsLess (nat_cmp x y ∷ parts) → (x < y) ⊎ ((x ≡ y) × IsLess parts)
less_cases x y parts =
    elim (nat_lt x y) as (λ b. nat_lt x y ≡ b → is_lt (by_parts (cond b Less (cond (x == y) Equal Greater) ∷ parts)) ≡ true → (x < y) ⊎ ((x ≡ y) × IsLess parts)) [
      | true ↦ λ e _. inl (ltb-true x y e)
      | false ↦ λ _. elim (x == y) as (λ b. (x == y) ≡ b → is_lt (by_parts (cond b Equal Greater ∷ parts)) ≡ true → (x < y) ⊎ ((x ≡ y) × IsLess parts)) [
        | true ↦ λ e l. inr (eqb-true x y e, l)
        | false ↦ λ _ l. absurd (both_ways false refl l)
      ] refl
    ] refl

less_first : (x y : ℕ) (parts : List Ordering) → x < y → IsLess (nat_cmp x y ∷ parts)
less_first x y parts less = subst (λ b. is_lt (by_parts (cond b Less (cond (x == y) Equal Greater) ∷ parts)) ≡ true) (sym (lt-ltb x y less)) refl

less_rest : (x y : ℕ) (parts : List Ordering) → x ≡ y → IsLess parts → IsLess (nat_cmp x y ∷ parts)
less_rest x y parts e l =
    subst (λ b. is_lt (by_parts (cond b Less (cond (x == y) Equal Greater) ∷ parts)) ≡ true) (sym (le-ltb x y (omega arith)))
    (subst (λ b. is_lt (by_parts (cond b Equal Greater ∷ parts)) ≡ true) (sym (eq-eqb x y e)) l)

through : (x y z : ℕ) (p q r : List Ordering) → (IsLess p → IsLess q → IsLess r) → IsLess (nat_cmp x y ∷ p) → IsLess (nat_cmp y z ∷ q) → IsLess (nat_cmp x z ∷ r)
through x y z p q r rest first second =
    elim (less_cases x y p first) [
      | inl a ↦ elim (less_cases y z q second) [ inl b ↦ less_first x z r (omega arith) | inr b ↦ (let e = b.0 in less_first x z r (omega arith)) ]
      | inr a ↦ (let d = a.0 in elim (less_cases y z q second) [ inl b ↦ less_first x z r (omega arith) | inr b ↦ (let e = b.0 in less_rest x z r (omega arith) (rest a.1 b.1)) ])
    ]

never : (x : ℕ) (p : List Ordering) → (IsLess p → ⊥) → IsLess (nat_cmp x x ∷ p) → ⊥
never x p rest l = elim (less_cases x x p l) [ inl a ↦ absurd (omega arith) | inr a ↦ rest a.1 ]

one_way : (x y : ℕ) (p q : List Ordering) (E : Type 0) → ((IsLess p → ⊥) → IsLess q ⊎ E) → (IsLess (nat_cmp x y ∷ p) → ⊥) → IsLess (nat_cmp y x ∷ q) ⊎ ((x ≡ y) × E)
one_way x y p q E rest not_less =
    elim (cases_eq x y) [
      | inl e ↦ elim (rest (λ l. not_less (less_rest x y p e l))) [ inl l ↦ inl (less_rest y x q (sym e) l) | inr f ↦ inr (e, f) ]
      | inr ne ↦ elim (cases_lt x y) [
        | inl less ↦ absurd (not_less (less_first x y p less))
        | inr more ↦ inl (less_first y x q (above y x more (λ e. ne (sym e))))
      ]
    ]
  where
    above : (y x : ℕ) → y ≤ x → ¬ (y ≡ x) → y < x
    above zero zero le ne = absurd (ne refl)
    above zero (suc x) le ne = omega arith
    above (suc y) zero le ne = absurd (omega arith)
    above (suc y) (suc x) le ne = let h = above y x (omega arith) (λ e. ne (ap suc e)) in omega arith

-- a key comes before another
abbrev pub IsKeyLess : Key → Key → Type 0
IsKeyLess a b = is_lt (key_cmp a b) ≡ true

pub key_through : (a b c : Key) → IsKeyLess a b → IsKeyLess b c → IsKeyLess a c
key_through a b c first second =
    through3 first second
  where
    -- the first number is compared the other way round
    abbrev_rest : Key → Key → List Ordering
    abbrev_rest a b = nat_cmp (port_rank a.pattern.in_port) (port_rank b.pattern.in_port) ∷ nat_cmp (vlan_rank a.pattern.vlan) (vlan_rank b.pattern.vlan) ∷ nat_cmp a.pattern.dst.base b.pattern.dst.base ∷ nat_cmp a.pattern.dst.len b.pattern.dst.len ∷ []

    inner : IsLess (abbrev_rest a b) → IsLess (abbrev_rest b c) → IsLess (abbrev_rest a c)
    inner = through (port_rank a.pattern.in_port) (port_rank b.pattern.in_port) (port_rank c.pattern.in_port) _ _ _
        (through (vlan_rank a.pattern.vlan) (vlan_rank b.pattern.vlan) (vlan_rank c.pattern.vlan) _ _ _
        (through a.pattern.dst.base b.pattern.dst.base c.pattern.dst.base _ _ _
        (through a.pattern.dst.len b.pattern.dst.len c.pattern.dst.len [] [] [] (λ l _. l))))

    through3 : IsLess (nat_cmp b.priority a.priority ∷ abbrev_rest a b) → IsLess (nat_cmp c.priority b.priority ∷ abbrev_rest b c) → IsLess (nat_cmp c.priority a.priority ∷ abbrev_rest a c)
    through3 l m =
        elim (less_cases b.priority a.priority (abbrev_rest a b) l) [
          | inl x ↦ elim (less_cases c.priority b.priority (abbrev_rest b c) m) [ inl y ↦ less_first c.priority a.priority (abbrev_rest a c) (omega arith) | inr y ↦ (let e = y.0 in less_first c.priority a.priority (abbrev_rest a c) (omega arith)) ]
          | inr x ↦ (let d = x.0 in elim (less_cases c.priority b.priority (abbrev_rest b c) m) [ inl y ↦ less_first c.priority a.priority (abbrev_rest a c) (omega arith) | inr y ↦ (let e = y.0 in less_rest c.priority a.priority (abbrev_rest a c) (omega arith) (inner x.1 y.1)) ])
        ]

pub key_never : (a : Key) → IsKeyLess a a → ⊥
key_never a =
    never a.priority _ (never (port_rank a.pattern.in_port) _ (never (vlan_rank a.pattern.vlan) _ (never a.pattern.dst.base _ (never a.pattern.dst.len [] (λ l. both_ways false refl l)))))

pub key_either : (a b : Key) → (IsKeyLess a b → ⊥) → IsKeyLess b a ⊎ (a ≡ b)
key_either a b not_less =
    elim (one_way b.priority a.priority _ _ _
    (one_way (port_rank a.pattern.in_port) (port_rank b.pattern.in_port) _ _ _
    (one_way (vlan_rank a.pattern.vlan) (vlan_rank b.pattern.vlan) _ _ _
    (one_way a.pattern.dst.base b.pattern.dst.base _ _ _
    (one_way a.pattern.dst.len b.pattern.dst.len [] [] (Unit {0}) (λ _. inr tt))))) not_less) [
      | inl l ↦ inl l
      | inr e ↦ (
          let (priority, e1) = e in
          let (port, e2) = e1 in
          let (vlan, e3) = e2 in
          let (base, e4) = e3 in
          let (len, _) = e4 in
          inr (key_same a b (sym priority) (port_told a.pattern.in_port b.pattern.in_port port) (vlan_told a.pattern.vlan b.pattern.vlan vlan) base len))
    ]

-- each key comes before those after it
abbrev pub IsSorted : List Key → Type 0
IsSorted [] = Unit {0}
IsSorted (k ∷ ks) = ((x : Key) → IsIn x ks → IsKeyLess k x) × IsSorted ks

pub in_with_key : (k x : Key) (ks : List Key) → (x ≡ k) ⊎ IsIn x ks → IsIn x (with_key k ks)
in_with_key k x [] i = i
in_with_key k x (q ∷ ks) i =
    cond_both (is_lt (key_cmp k q)) (k ∷ q ∷ ks) (cond (key_eq k q) (q ∷ ks) (q ∷ with_key k ks)) (IsIn x) (λ _. i)
    (λ _. cond_both (key_eq k q) (q ∷ ks) (q ∷ with_key k ks) (IsIn x)
    (λ same. elim i [ inl e ↦ inl (e ∙ key_eq-true k q same) | inr j ↦ j ])
    (λ _. elim i [ inl e ↦ inr (in_with_key k x ks (inl e)) | inr j ↦ elim j [ inl e ↦ inl e | inr l ↦ inr (in_with_key k x ks (inr l)) ] ]))

pub from_with_key : (k x : Key) (ks : List Key) → IsIn x (with_key k ks) → (x ≡ k) ⊎ IsIn x ks
from_with_key k x [] i = i
from_with_key k x (q ∷ ks) i =
    cond_both (is_lt (key_cmp k q)) (k ∷ q ∷ ks) (cond (key_eq k q) (q ∷ ks) (q ∷ with_key k ks)) (λ zs. IsIn x zs → (x ≡ k) ⊎ IsIn x (q ∷ ks)) (λ _ j. j)
    (λ _. cond_both (key_eq k q) (q ∷ ks) (q ∷ with_key k ks) (λ zs. IsIn x zs → (x ≡ k) ⊎ IsIn x (q ∷ ks)) (λ _ j. inr j)
    (λ _ j. elim j [ inl e ↦ inr (inl e) | inr l ↦ elim (from_with_key k x ks l) [ inl e ↦ inl e | inr m ↦ inr (inr m) ] ])) i

pub sorted_with : (k : Key) (ks : List Key) → IsSorted ks → IsSorted (with_key k ks)
sorted_with k [] sorted = (λ x i. absurd i, tt)
sorted_with k (q ∷ ks) sorted =
    cond_both (is_lt (key_cmp k q)) (k ∷ q ∷ ks) (cond (key_eq k q) (q ∷ ks) (q ∷ with_key k ks)) IsSorted
    (λ less. (λ x i. elim i [ inl e ↦ subst (IsKeyLess k) (sym e) less | inr j ↦ key_through k q x less (sorted.0 x j) ], sorted))
    (λ not_less. cond_both (key_eq k q) (q ∷ ks) (q ∷ with_key k ks) IsSorted (λ _. sorted)
    (λ differ. (
      λ x i. elim (from_with_key k x ks i) [
        | inl e ↦ subst (IsKeyLess q) (sym e) (elim (key_either k q (λ l. both_ways (is_lt (key_cmp k q)) not_less l)) [ inl l ↦ l | inr same ↦ absurd (key_eq-false k q differ same) ])
        | inr j ↦ sorted.0 x j
      ],
      sorted_with k ks sorted.1,
    )))

pub sorted_order : (ks : List Key) → IsSorted (keys_in_order ks)
sorted_order [] = tt
sorted_order (k ∷ ks) = sorted_with k (keys_in_order ks) (sorted_order ks)

sorted_distinct : (ks : List Key) → IsSorted ks → IsDistinct ks
sorted_distinct [] sorted = tt
sorted_distinct (k ∷ ks) sorted = (λ i. key_never k (sorted.0 k i), sorted_distinct ks sorted.1)

pub order_distinct : (ks : List Key) → IsDistinct (keys_in_order ks)
order_distinct ks = sorted_distinct (keys_in_order ks) (sorted_order ks)

pub in_order : (x : Key) (ks : List Key) → IsIn x ks → IsIn x (keys_in_order ks)
in_order x [] i = i
in_order x (k ∷ ks) (inl e) = in_with_key k x (keys_in_order ks) (inl e)
in_order x (k ∷ ks) (inr i) = in_with_key k x (keys_in_order ks) (inr (in_order x ks i))

pub from_order : (x : Key) (ks : List Key) → IsIn x (keys_in_order ks) → IsIn x ks
from_order x [] i = i
from_order x (k ∷ ks) i = elim (from_with_key k x (keys_in_order ks) i) [ inl e ↦ inl e | inr j ↦ inr (from_order x ks j) ]

-- two sorted lists of the same keys are one
pub sorted_unique : (xs ys : List Key) → IsSorted xs → IsSorted ys → ((k : Key) → IsIn k xs → IsIn k ys) → ((k : Key) → IsIn k ys → IsIn k xs) → xs ≡ ys
sorted_unique [] [] a b to from = refl
sorted_unique [] (y ∷ ys) a b to from = absurd (from y (inl refl))
sorted_unique (x ∷ xs) [] a b to from = absurd (to x (inl refl))
sorted_unique (x ∷ xs) (y ∷ ys) a b to from =
    ap (λ k. k ∷ xs) same
    ∙ ap (λ ks. y ∷ ks) (sorted_unique xs ys a.1 b.1
    (λ k i. elim (to k (inr i)) [ inl e ↦ absurd (key_never x (subst (IsKeyLess x) (e ∙ sym same) (a.0 k i))) | inr j ↦ j ])
    (λ k i. elim (from k (inr i)) [ inl e ↦ absurd (key_never y (subst (IsKeyLess y) (e ∙ same) (b.0 k i))) | inr j ↦ j ]))
  where
    same : x ≡ y
    same = elim (to x (inl refl)) [
      | inl e ↦ e
      | inr i ↦ elim (from y (inl refl)) [ inl e ↦ sym e | inr j ↦ absurd (key_never x (key_through x y x (a.0 y j) (b.0 x i))) ]
    ]
