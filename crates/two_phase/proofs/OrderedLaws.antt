-- Rules in key order: what a sort gives, what a filter leaves, and the block of one priority.
use Rattle.std.proofs.Common.{◌≡◌, ℕ, zero, suc, ◌<◌, ◌≤◌, Bool, true, false, cond, List, [], ◌∷◌, length, get_or, take, drop, refl, sym, ◌∙◌, subst, ap, inl, inr, arith}
use Rattle.std.specs.Prelude.{◌==◌, nat_lt, nat_le, not, filter}
use Rattle.std.specs.Ordering.{is_lt, nat_cmp}
use Rattle.std.specs.List.Sorted.{IsPermutation, IsPartitionedBy, IsPartitionPoint}
use Rattle.std.specs.declared.cmp.Ordering.{Ordering}
use Rattle.std.specs.declared.cmp.Ordering.TheVariants.{Less, Equal, Greater}
use Rattle.std.proofs.lemmas.Bool.{both_ways, cond_both, cond-true, cond-false, cases_lt, ltb-true, lt-ltb, le-ltb, leb-true, le-leb, lt-leb, eqb-true, eq-eqb, ne_eqb}
use Rattle.std.proofs.lemmas.List.Sorted.{IsPermutation-sym}
use Rattle.net_base.specs.Members.{IsIn}
use Rattle.net_base.proofs.MemberLaws.{in_map, in_from_map, in_from_filter, in_filter, each_at, in_permutation}
use Rattle.flow_rules.specs.Order.{by_parts, key_cmp}
use Rattle.flow_rules.specs.Tables.{IsTable, keys_of}
use Rattle.flow_rules.specs.declared.rules.Key.{Key}
use Rattle.flow_rules.specs.declared.rules.Rule.{Rule}
use Rattle.flow_rules.proofs.TableLaws.{table_filter}
use Rattle.update_model.proofs.KeyOrderLaws.{IsKeyLess, key_through, key_never, key_either, IsSorted}
use Rattle.table_difference.specs.KeyOrder.{AreAscending}
use Rattle.two_phase.specs.TwoPhasePlan.{with_rule, in_key_order}
use Rattle.two_phase.proofs.DistinctLaws.{from_with_rule, in_ordered, from_ordered}

-- the keys of ascending rules are sorted
ascending_keys : (rs : List Rule) → AreAscending rs → IsSorted (keys_of rs)
ascending_keys [] up = tt
ascending_keys (r ∷ rs) up = (
  λ k i.
      let (q, j, e) = in_from_map (λ (y : Rule). y.key) k rs i in
      subst (IsKeyLess r.key) (sym e) (ap is_lt (each_at (λ x. key_cmp r.key x.key ≡ Less) rs q up.0 j)),
  ascending_keys rs up.1,
)

sorted_with_rule : (r : Rule) (rs : List Rule) → ¬ IsIn r.key (keys_of rs) → IsSorted (keys_of rs) → IsSorted (keys_of (with_rule r rs))
sorted_with_rule r [] fresh sorted = (λ x i. absurd i, tt)
sorted_with_rule r (q ∷ rs) fresh sorted =
    cond_both (is_lt (key_cmp r.key q.key)) (r ∷ q ∷ rs) (q ∷ with_rule r rs) (λ zs. IsSorted (keys_of zs))
    (λ less. (λ x i. elim i [ inl e ↦ subst (IsKeyLess r.key) (sym e) less | inr j ↦ key_through r.key q.key x less (sorted.0 x j) ], sorted))
    (λ not_less. (
      λ x i.
          let (p, j, e) = in_from_map (λ (y : Rule). y.key) x (with_rule r rs) i in
          subst (IsKeyLess q.key) (sym e) (elim (from_with_rule r p rs j) [
            | inl f ↦ subst (λ y. IsKeyLess q.key y.key) (sym f) (elim (key_either r.key q.key (λ l. both_ways (is_lt (key_cmp r.key q.key)) not_less l)) [
              | inl l ↦ l
              | inr same ↦ absurd (fresh (inl same))
            ])
            | inr l ↦ sorted.0 p.key (in_map (λ (y : Rule). y.key) p rs l)
          ]),
      sorted_with_rule r rs (λ i. fresh (inr i)) sorted.1,
    ))

keys_ordered : (k : Key) (rs : List Rule) → IsIn k (keys_of (in_key_order rs)) → IsIn k (keys_of rs)
keys_ordered k rs i =
    let (q, j, e) = in_from_map (λ (y : Rule). y.key) k (in_key_order rs) i in
    subst (λ x. IsIn x (keys_of rs)) (sym e) (in_map (λ (y : Rule). y.key) q rs (from_ordered q rs j))

-- the rules in key order are sorted
pub ordered_sorted : (rs : List Rule) → IsTable rs → IsSorted (keys_of (in_key_order rs))
ordered_sorted [] table = tt
ordered_sorted (r ∷ rs) table = sorted_with_rule r (in_key_order rs) (λ i. table.0 (keys_ordered r.key rs i)) (ordered_sorted rs table.1)

-- sorted rules are determined by their members
rules_unique : (xs ys : List Rule) → IsSorted (keys_of xs) → IsSorted (keys_of ys) → ((r : Rule) → IsIn r xs → IsIn r ys) → ((r : Rule) → IsIn r ys → IsIn r xs) → xs ≡ ys
rules_unique [] [] a b to from = refl
rules_unique [] (y ∷ ys) a b to from = absurd (from y (inl refl))
rules_unique (x ∷ xs) [] a b to from = absurd (to x (inl refl))
rules_unique (x ∷ xs) (y ∷ ys) a b to from =
    ap (λ r. r ∷ xs) same
    ∙ ap (λ rs. y ∷ rs) (rules_unique xs ys a.1 b.1
    (λ r i. elim (to r (inr i)) [ inl e ↦ absurd (key_never x.key (subst (λ q. IsKeyLess x.key q.key) (e ∙ sym same) (a.0 r.key (in_map (λ (z : Rule). z.key) r xs i)))) | inr j ↦ j ])
    (λ r i. elim (from r (inr i)) [ inl e ↦ absurd (key_never y.key (subst (λ q. IsKeyLess y.key q.key) (e ∙ same) (b.0 r.key (in_map (λ (z : Rule). z.key) r ys i)))) | inr j ↦ j ]))
  where
    same : x ≡ y
    same = elim (to x (inl refl)) [
      | inl e ↦ e
      | inr i ↦ elim (from y (inl refl)) [
        | inl e ↦ sym e
        | inr j ↦ absurd (key_never x.key (key_through x.key y.key x.key (a.0 y.key (in_map (λ (z : Rule). z.key) y xs j)) (b.0 x.key (in_map (λ (z : Rule). z.key) x ys i))))
      ]
    ]

-- ascending rules are those in key order
pub ascending_is : (xs ys : List Rule) → IsTable xs → IsPermutation xs ys → AreAscending ys → ys ≡ in_key_order xs
ascending_is xs ys table same up =
    rules_unique ys (in_key_order xs) (ascending_keys ys up) (ordered_sorted xs table)
    (λ r i. in_ordered r xs (in_permutation xs ys r same i)) (λ r i. in_permutation ys xs r (IsPermutation-sym xs ys same) (from_ordered r xs i))

sorted_filter : (p : Rule → Bool) (rs : List Rule) → IsSorted (keys_of rs) → IsSorted (keys_of (filter p rs))
sorted_filter p [] sorted = tt
sorted_filter p (r ∷ rs) sorted =
    cond_both (p r) (r ∷ filter p rs) (filter p rs) (λ zs. IsSorted (keys_of zs))
    (λ _. (
      λ x i.
          let (q, j, e) = in_from_map (λ (y : Rule). y.key) x (filter p rs) i in
          subst (IsKeyLess r.key) (sym e) (sorted.0 q.key (in_map (λ (y : Rule). y.key) q rs (in_from_filter p q rs j).0)),
      sorted_filter p rs sorted.1,
    ))
    (λ _. sorted_filter p rs sorted.1)

-- a choice among rules commutes with the key order
pub filter_ordered : (p : Rule → Bool) (rs : List Rule) → IsTable rs → filter p (in_key_order rs) ≡ in_key_order (filter p rs)
filter_ordered p rs table =
    rules_unique (filter p (in_key_order rs)) (in_key_order (filter p rs)) (sorted_filter p (in_key_order rs) (ordered_sorted rs table)) (ordered_sorted (filter p rs) (table_filter p rs table))
    (λ r i. let (j, passes) = in_from_filter p r (in_key_order rs) i in in_ordered r (filter p rs) (in_filter p r rs (from_ordered r rs j) passes))
    (λ r i. let (j, passes) = in_from_filter p r rs (from_ordered r (filter p rs) i) in in_filter p r (in_key_order rs) (in_ordered r rs j) passes)

pub first_part : (x y : ℕ) (parts : List Ordering) → is_lt (by_parts (nat_cmp x y ∷ parts)) ≡ true → x ≤ y
first_part x y parts =
    elim (nat_lt x y) as (λ b. nat_lt x y ≡ b → is_lt (by_parts (cond b Less (cond (x == y) Equal Greater) ∷ parts)) ≡ true → x ≤ y) [
      | true ↦ λ e _. (let l = ltb-true x y e in omega arith)
      | false ↦ λ _. elim (x == y) as (λ b. (x == y) ≡ b → is_lt (by_parts (cond b Equal Greater ∷ parts)) ≡ true → x ≤ y) [
        | true ↦ λ e l. (let f = eqb-true x y e in omega arith)
        | false ↦ λ _ l. absurd (both_ways false refl l)
      ] refl
    ] refl

-- priorities don't rise along the key order
falls_at : (rs : List Rule) → IsSorted (keys_of rs) → (i j : ℕ) (d : Rule) → i ≤ j → j < length rs → (get_or rs j d).key.priority ≤ (get_or rs i d).key.priority
falls_at [] sorted i j d le within = absurd (omega arith)
falls_at (r ∷ rs) sorted zero zero d le within = omega arith
falls_at (r ∷ rs) sorted zero (suc j) d le within =
    let q = get_or rs j d in
    first_part q.key.priority r.key.priority _ (sorted.0 q.key (in_map (λ (y : Rule). y.key) q rs (in_at rs j d (omega arith))))
  where
    in_at : (rs : List Rule) (j : ℕ) (d : Rule) → j < length rs → IsIn (get_or rs j d) rs
    in_at [] j d within = absurd (omega arith)
    in_at (x ∷ rs) zero d within = inl refl
    in_at (x ∷ rs) (suc j) d within = inr (in_at rs j d (omega arith))
falls_at (r ∷ rs) sorted (suc i) zero d le within = absurd (omega arith)
falls_at (r ∷ rs) sorted (suc i) (suc j) d le within = falls_at rs sorted.1 i j d (omega arith) (omega arith)

-- where a test that holds up to a place and no further cuts a list
front_is : {A : Type 0} (p : A → Bool) (xs : List A) (k : ℕ) → k ≤ length xs → IsPartitionPoint (λ y. p y ≡ true) (λ y. p y ≡ false) xs k → take k xs ≡ filter p xs
front_is p [] zero le point = refl
front_is p [] (suc k) le point = absurd (omega arith)
front_is p (x ∷ xs) zero le point =
    front_is p xs zero (omega arith) (λ i d low high. absurd (omega arith), λ i d low high. point.1 (suc i) d (omega arith) (omega arith))
    ∙ sym (cond-false (p x) (x ∷ filter p xs) (filter p xs) (point.1 zero x (omega arith) (omega arith)))
front_is p (x ∷ xs) (suc k) le point =
    ap (λ ys. x ∷ ys) (front_is p xs k (omega arith) (λ i d low high. point.0 (suc i) d (omega arith) (omega arith), λ i d low high. point.1 (suc i) d (omega arith) (omega arith)))
    ∙ sym (cond-true (p x) (x ∷ filter p xs) (filter p xs) (point.0 zero x (omega arith) (omega arith)))

rest_is : {A : Type 0} (p : A → Bool) (xs : List A) (k : ℕ) → k ≤ length xs → IsPartitionPoint (λ y. p y ≡ true) (λ y. p y ≡ false) xs k → drop k xs ≡ filter (λ y. not (p y)) xs
rest_is p [] zero le point = refl
rest_is p [] (suc k) le point = absurd (omega arith)
rest_is p (x ∷ xs) zero le point =
    ap (λ ys. x ∷ ys) (rest_is p xs zero (omega arith) (λ i d low high. absurd (omega arith), λ i d low high. point.1 (suc i) d (omega arith) (omega arith)))
    ∙ sym (cond-true (not (p x)) (x ∷ filter (λ y. not (p y)) xs) (filter (λ y. not (p y)) xs) (ap not (point.1 zero x (omega arith) (omega arith))))
rest_is p (x ∷ xs) (suc k) le point =
    rest_is p xs k (omega arith) (λ i d low high. point.0 (suc i) d (omega arith) (omega arith), λ i d low high. point.1 (suc i) d (omega arith) (omega arith))
    ∙ sym (cond-false (not (p x)) (x ∷ filter (λ y. not (p y)) xs) (filter (λ y. not (p y)) xs) (ap not (point.0 zero x (omega arith) (omega arith))))

-- the rules from a priority on, those above it, and those of just that one
abbrev pub is_from : ℕ → Rule → Bool
is_from rank r = nat_le rank r.key.priority

abbrev pub is_above : ℕ → Rule → Bool
is_above rank r = nat_lt rank r.key.priority

abbrev pub is_of : ℕ → Rule → Bool
is_of rank r = r.key.priority == rank

one_choice : (rank : ℕ) (rs : List Rule) → filter (λ r. not (is_above rank r)) (filter (is_from rank) rs) ≡ filter (is_of rank) rs
one_choice rank [] = refl
one_choice rank (r ∷ rs) =
    let rest = one_choice rank rs in
    elim (cases_lt r.key.priority rank) [
      | inl less ↦ (
          ap (filter (λ q. not (is_above rank q))) (cond-false (is_from rank r) (r ∷ filter (is_from rank) rs) (filter (is_from rank) rs) (lt-leb rank r.key.priority less))
          ∙ rest ∙ sym (cond-false (is_of rank r) (r ∷ filter (is_of rank) rs) (filter (is_of rank) rs) (ne_eqb r.key.priority rank (λ e. absurd (omega arith)))))
      | inr from ↦ (
          ap (filter (λ q. not (is_above rank q))) (cond-true (is_from rank r) (r ∷ filter (is_from rank) rs) (filter (is_from rank) rs) (le-leb rank r.key.priority from))
          ∙ elim (cases_lt rank r.key.priority) [
            | inl more ↦ (
                cond-false (not (is_above rank r)) (r ∷ filter (λ q. not (is_above rank q)) (filter (is_from rank) rs)) (filter (λ q. not (is_above rank q)) (filter (is_from rank) rs)) (ap not (lt-ltb rank r.key.priority more))
                ∙ rest ∙ sym (cond-false (is_of rank r) (r ∷ filter (is_of rank) rs) (filter (is_of rank) rs) (ne_eqb r.key.priority rank (λ e. absurd (omega arith)))))
            | inr upto ↦ (
                cond-true (not (is_above rank r)) (r ∷ filter (λ q. not (is_above rank q)) (filter (is_from rank) rs)) (filter (λ q. not (is_above rank q)) (filter (is_from rank) rs)) (ap not (le-ltb rank r.key.priority upto))
                ∙ ap (λ qs. r ∷ qs) rest ∙ sym (cond-true (is_of rank r) (r ∷ filter (is_of rank) rs) (filter (is_of rank) rs) (eq-eqb r.key.priority rank (omega arith))))
          ])
    ]

sorted_take : (k : ℕ) (rs : List Rule) → IsSorted (keys_of rs) → IsSorted (keys_of (take k rs))
sorted_take zero rs sorted = tt
sorted_take (suc k) [] sorted = tt
sorted_take (suc k) (r ∷ rs) sorted = (
  λ x i.
      let (q, j, e) = in_from_map (λ (y : Rule). y.key) x (take k rs) i in
      subst (IsKeyLess r.key) (sym e) (sorted.0 q.key (in_map (λ (y : Rule). y.key) q rs (in_from_take k q rs j))),
  sorted_take k rs sorted.1,
)
  where
    in_from_take : (k : ℕ) (q : Rule) (rs : List Rule) → IsIn q (take k rs) → IsIn q rs
    in_from_take zero q rs i = absurd i
    in_from_take (suc k) q [] i = i
    in_from_take (suc k) q (x ∷ rs) (inl e) = inl e
    in_from_take (suc k) q (x ∷ rs) (inr i) = inr (in_from_take k q rs i)

cut_from : (rank : ℕ) (rs : List Rule) → IsSorted (keys_of rs) → IsPartitionedBy (is_from rank) rs
cut_from rank rs sorted i j d le within passes =
    let falls = falls_at rs sorted i j d le within in
    let from = leb-true rank (get_or rs j d).key.priority passes in
    le-leb rank (get_or rs i d).key.priority (omega arith)

cut_above : (rank : ℕ) (rs : List Rule) → IsSorted (keys_of rs) → IsPartitionedBy (is_above rank) rs
cut_above rank rs sorted i j d le within passes =
    let falls = falls_at rs sorted i j d le within in
    let above = ltb-true rank (get_or rs j d).key.priority passes in
    lt-ltb rank (get_or rs i d).key.priority (omega arith)

-- where the rules from a priority on end, and those above it
pub ordered_from : (all : List Rule) → IsTable all → (rank : ℕ) → IsPartitionedBy (is_from rank) (in_key_order all)
ordered_from all table rank = cut_from rank (in_key_order all) (ordered_sorted all table)

pub ordered_above : (all : List Rule) → IsTable all → (rank k : ℕ) → IsPartitionedBy (is_above rank) (take k (in_key_order all))
ordered_above all table rank k = cut_above rank (take k (in_key_order all)) (sorted_take k (in_key_order all) (ordered_sorted all table))

-- the block between is that of the rules of just that priority
pub block_is : (all : List Rule) → IsTable all → (rank : ℕ) (rules : List Rule) (a b : ℕ) → rules ≡ in_key_order all → a ≤ length rules → b ≤ length (take a rules)
    → IsPartitionPoint (λ r. is_from rank r ≡ true) (λ r. is_from rank r ≡ false) rules a
    → IsPartitionPoint (λ r. is_above rank r ≡ true) (λ r. is_above rank r ≡ false) (take a rules) b
    → drop b (take a rules) ≡ in_key_order (filter (is_of rank) all)
block_is all table rank rules a b e within_a within_b point_a point_b =
    rest_is (is_above rank) (take a rules) b within_b point_b
    ∙ ap (filter (λ r. not (is_above rank r))) (front_is (is_from rank) rules a within_a point_a)
    ∙ one_choice rank rules ∙ ap (filter (is_of rank)) e ∙ filter_ordered (is_of rank) all table
