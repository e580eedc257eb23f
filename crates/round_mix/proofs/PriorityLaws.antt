-- The marked rules of a priority among those in descending priority.
use Rattle.std.proofs.Common.{◌≡◌, ℕ, zero, suc, ◌+◌, ◌-◌, ◌<◌, ◌≤◌, true, false, cond, not, List, [], ◌∷◌, ◌++◌, map, length, take, drop, get_or, refl, sym, ◌∙◌, subst, ap, arith}
use Rattle.std.specs.Prelude.{◌==◌, ◌||◌, Bool, filter, nat_lt, nat_le}
use Rattle.std.specs.List.{AllByRecursion, AllWithin, list_any, slice_range}
use Rattle.std.specs.List.Sorted.{IsPartitionedBy, IsPartitionPoint}
use Rattle.std.proofs.lemmas.Bool.{cond-true, cond-false, leb-true, ltb-true, ltb-false, leb-false, le-leb, lt-ltb, le-ltb, and_parts, both_ways, false_from_ne_true, eqb-true, eq-eqb, not_from_false}
use Rattle.std.proofs.lemmas.List.{append-nil, drop-take, map-append, take-append-drop}
use Rattle.std.proofs.lemmas.List.Folds.{drop_split}
use Rattle.std.proofs.lemmas.List.Elements.{filter-append}
use Rattle.flow_rules.specs.Patterns.{key_eq}
use Rattle.flow_rules.specs.Overlaps.{keys_clash, patterns_meet}
use Rattle.flow_rules.specs.declared.rules.Key.{Key}
use Rattle.flow_rules.proofs.KeyLaws.{key_ne}
use Rattle.round_mix.specs.Order.{priority_of}
use Rattle.round_mix.specs.Prepared.{IsFalling}
use Rattle.round_mix.specs.Tried.{clashes_with, of_priority, put_in, marks_without}
use Rattle.round_mix.specs.declared.MarkedRule.{MarkedRule}

-- of a fact of all members, that of one of them
each_there : (P : MarkedRule → Type 0) (ms : List MarkedRule) (j : ℕ) (d : MarkedRule) → AllByRecursion P ms → j < length ms → P (get_or ms j d)
each_there P [] j d h less = absurd (omega arith)
each_there P (m ∷ ms) zero d h less = h.0
each_there P (m ∷ ms) (suc j) d h less = each_there P ms j d h.1 (omega arith)

falling_at : (ms : List MarkedRule) → IsFalling ms → (i j : ℕ) (d : MarkedRule) → i ≤ j → j < length ms → priority_of (get_or ms j d) ≤ priority_of (get_or ms i d)
falling_at [] h i j d le less = absurd (omega arith)
falling_at (m ∷ ms) h zero zero d le less = omega arith
falling_at (m ∷ ms) h zero (suc j) d le less = each_there (λ n. priority_of n ≤ priority_of m) ms j d h.0 (omega arith)
falling_at (m ∷ ms) h (suc i) zero d le less = absurd (omega arith)
falling_at (m ∷ ms) h (suc i) (suc j) d le less = falling_at ms h.1 i j d (omega arith) (omega arith)

-- so a priority parts the list
pub parted_above : (ms : List MarkedRule) (p : ℕ) → IsFalling ms → IsPartitionedBy (λ m. nat_lt p (priority_of m)) ms
parted_above ms p h i j d le less e =
    let a = ltb-true p (priority_of (get_or ms j d)) e in
    let b = falling_at ms h i j d le less in
    lt-ltb p (priority_of (get_or ms i d)) (omega arith)

pub parted_from : (ms : List MarkedRule) (p : ℕ) → IsFalling ms → IsPartitionedBy (λ m. nat_le p (priority_of m)) ms
parted_from ms p h i j d le less e =
    let a = leb-true p (priority_of (get_or ms j d)) e in
    let b = falling_at ms h i j d le less in
    le-leb p (priority_of (get_or ms i d)) (omega arith)

all_before : (P : MarkedRule → Type 0) (ms : List MarkedRule) (i : ℕ) → i ≤ length ms → AllWithin P ms 0 i → AllByRecursion P (take i ms)
all_before P ms zero le h = tt
all_before P [] (suc i) le h = absurd (omega arith)
all_before P (m ∷ ms) (suc i) le h = (h 0 m (omega arith) (omega arith), all_before P ms i (omega arith) (λ k d low high. h (suc k) d (omega arith) (omega arith)))

all_behind : (P : MarkedRule → Type 0) (ms : List MarkedRule) (i : ℕ) → AllWithin P ms i (length ms) → AllByRecursion P (drop i ms)
all_behind P [] zero h = tt
all_behind P [] (suc i) h = tt
all_behind P (m ∷ ms) zero h = (h 0 m (omega arith) (omega arith), all_behind P ms zero (λ k d low high. h (suc k) d (omega arith) (omega arith)))
all_behind P (m ∷ ms) (suc i) h = all_behind P ms i (λ k d low high. h (suc k) d (omega arith) (omega arith))

module _ (ms : List MarkedRule) (p i : ℕ) (within : i ≤ length ms) where
  pub above_before : IsPartitionPoint (λ m. nat_lt p (priority_of m) ≡ true) (λ m. nat_lt p (priority_of m) ≡ false) ms i → AllByRecursion (λ m. p < m.rule.key.priority) (take i ms)
  above_before parts = all_before (λ m. p < m.rule.key.priority) ms i within (λ k d low high. ltb-true p (priority_of (get_or ms k d)) (parts.0 k d low high))

  pub above_behind : IsPartitionPoint (λ m. nat_lt p (priority_of m) ≡ true) (λ m. nat_lt p (priority_of m) ≡ false) ms i → AllByRecursion (λ m. m.rule.key.priority ≤ p) (drop i ms)
  above_behind parts = all_behind (λ m. m.rule.key.priority ≤ p) ms i (λ k d low high. ltb-false p (priority_of (get_or ms k d)) (parts.1 k d low high))

  pub from_before : IsPartitionPoint (λ m. nat_le p (priority_of m) ≡ true) (λ m. nat_le p (priority_of m) ≡ false) ms i → AllByRecursion (λ m. p ≤ m.rule.key.priority) (take i ms)
  from_before parts = all_before (λ m. p ≤ m.rule.key.priority) ms i within (λ k d low high. leb-true p (priority_of (get_or ms k d)) (parts.0 k d low high))

  pub from_behind : IsPartitionPoint (λ m. nat_le p (priority_of m) ≡ true) (λ m. nat_le p (priority_of m) ≡ false) ms i → AllByRecursion (λ m. m.rule.key.priority < p) (drop i ms)
  from_behind parts = all_behind (λ m. m.rule.key.priority < p) ms i (λ k d low high. leb-false p (priority_of (get_or ms k d)) (parts.1 k d low high))

-- the place behind all of at least its priority is that of a marked rule
pub put_at : (m : MarkedRule) (ms : List MarkedRule) (i : ℕ) → i ≤ length ms → AllByRecursion (λ n. priority_of m ≤ n.rule.key.priority) (take i ms)
    → AllByRecursion (λ n. n.rule.key.priority < priority_of m) (drop i ms) → take i ms ++ m ∷ drop i ms ≡ put_in m ms
put_at m [] zero le before behind = refl
put_at m [] (suc i) le before behind = absurd (omega arith)
put_at m (n ∷ ms) zero le before behind = sym (cond-true (nat_lt n.rule.key.priority m.rule.key.priority) (m ∷ n ∷ ms) (n ∷ put_in m ms) (lt-ltb n.rule.key.priority m.rule.key.priority behind.0))
put_at m (n ∷ ms) (suc i) le before behind =
    ap (λ (xs : List MarkedRule). n ∷ xs) (put_at m ms i (omega arith) before.1 behind)
    ∙ sym (cond-false (nat_lt n.rule.key.priority m.rule.key.priority) (m ∷ n ∷ ms) (n ∷ put_in m ms) (le-ltb n.rule.key.priority m.rule.key.priority before.0))

-- a test that fails for each
none_pass : (q : MarkedRule → Bool) (ms : List MarkedRule) → AllByRecursion (λ m. q m ≡ false) ms → filter q ms ≡ []
none_pass q [] h = refl
none_pass q (m ∷ ms) h = cond-false (q m) (m ∷ filter q ms) (filter q ms) h.0 ∙ none_pass q ms h.1

all_pass : (q : MarkedRule → Bool) (ms : List MarkedRule) → AllByRecursion (λ m. q m ≡ true) ms → filter q ms ≡ ms
all_pass q [] h = refl
all_pass q (m ∷ ms) h = cond-true (q m) (m ∷ filter q ms) (filter q ms) h.0 ∙ ap (λ (xs : List MarkedRule). m ∷ xs) (all_pass q ms h.1)

each_so : (P Q : MarkedRule → Type 0) → ((m : MarkedRule) → P m → Q m) → (ms : List MarkedRule) → AllByRecursion P ms → AllByRecursion Q ms
each_so P Q f [] h = tt
each_so P Q f (m ∷ ms) h = (f m h.0, each_so P Q f ms h.1)

each_dropped : (P : MarkedRule → Type 0) (i : ℕ) (ms : List MarkedRule) → AllByRecursion P ms → AllByRecursion P (drop i ms)
each_dropped P zero ms h = h
each_dropped P (suc i) [] h = tt
each_dropped P (suc i) (m ∷ ms) h = each_dropped P i ms h.1

both_taken : (P Q : MarkedRule → Type 0) (n : ℕ) (ms : List MarkedRule) → AllByRecursion P (take n ms) → AllByRecursion Q ms → AllByRecursion (λ m. P m × Q m) (take n ms)
both_taken P Q zero ms p q = tt
both_taken P Q (suc n) [] p q = tt
both_taken P Q (suc n) (m ∷ ms) p q = ((p.0, q.0), both_taken P Q n ms p.1 q.1)

-- what is dropped of what is taken
each_mid : (P Q : MarkedRule → Type 0) (a b : ℕ) (ms : List MarkedRule) → a ≤ b → AllByRecursion P (take b ms) → AllByRecursion Q (drop a ms)
    → AllByRecursion (λ m. P m × Q m) (slice_range ms a b)
each_mid P Q a b ms le p q =
    let n = b - a in
    let same : a + n ≡ b = omega arith in
    let front : AllByRecursion P (take n (drop a ms)) =
    subst (AllByRecursion P) (drop-take a n ms) (each_dropped P a (take (a + n) ms) (subst (λ (i : ℕ). AllByRecursion P (take i ms)) (sym same) p)) in
    both_taken P Q n (drop a ms) front q

in_order : (p : ℕ) (ms : List MarkedRule) (a b : ℕ) → a ≤ length ms → AllByRecursion (λ m. p < m.rule.key.priority) (take a ms)
    → AllByRecursion (λ m. m.rule.key.priority < p) (drop b ms) → a ≤ b
in_order p ms zero b le before behind = omega arith
in_order p [] (suc a) b le before behind = absurd (omega arith)
in_order p (m ∷ ms) (suc a) zero le before behind = absurd (let x = before.0 in let y = behind.0 in omega arith)
in_order p (m ∷ ms) (suc a) (suc b) le before behind = let h = in_order p ms a b (omega arith) before.1 behind in omega arith

-- the two places of a priority
module _ (ms : List MarkedRule) (p a b : ℕ) (first_within : a ≤ length ms) (above : AllByRecursion (λ m. p < m.rule.key.priority) (take a ms))
    (at_most : AllByRecursion (λ m. m.rule.key.priority ≤ p) (drop a ms)) (at_least : AllByRecursion (λ m. p ≤ m.rule.key.priority) (take b ms))
    (below : AllByRecursion (λ m. m.rule.key.priority < p) (drop b ms)) where
  pub rising : a ≤ b
  rising = in_order p ms a b first_within above below

  three : ms ≡ take a ms ++ (slice_range ms a b ++ drop b ms)
  three = sym (take-append-drop a ms) ∙ ap (λ (xs : List MarkedRule). take a ms ++ xs) (drop_split ms a b rising)

  mid : AllByRecursion (λ m. (p ≤ m.rule.key.priority) × (m.rule.key.priority ≤ p)) (slice_range ms a b)
  mid = each_mid (λ m. p ≤ m.rule.key.priority) (λ m. m.rule.key.priority ≤ p) a b ms rising at_least at_most

  -- between them stand those of the priority
  pub between : slice_range ms a b ≡ of_priority p ms
  between =
      let q = λ (m : MarkedRule). m.rule.key.priority == p in
      sym (ap (filter q) three ∙ filter-append q (take a ms) (slice_range ms a b ++ drop b ms)
      ∙ ap (λ (xs : List MarkedRule). xs ++ filter q (slice_range ms a b ++ drop b ms))
      (none_pass q (take a ms) (each_so (λ m. p < m.rule.key.priority) (λ m. q m ≡ false) (λ m less. false_from_ne_true (q m) (λ e. let s = eqb-true m.rule.key.priority p e in omega arith)) (take a ms) above))
      ∙ filter-append q (slice_range ms a b) (drop b ms)
      ∙ ap (λ (xs : List MarkedRule). xs ++ filter q (drop b ms))
      (all_pass q (slice_range ms a b) (each_so (λ m. (p ≤ m.rule.key.priority) × (m.rule.key.priority ≤ p)) (λ m. q m ≡ true) (λ m (low, high). eq-eqb m.rule.key.priority p (omega arith)) (slice_range ms a b) mid))
      ∙ ap (λ (xs : List MarkedRule). slice_range ms a b ++ xs)
      (none_pass q (drop b ms) (each_so (λ m. m.rule.key.priority < p) (λ m. q m ≡ false) (λ m less. false_from_ne_true (q m) (λ e. let s = eqb-true m.rule.key.priority p e in omega arith)) (drop b ms) below))
      ∙ append-nil (slice_range ms a b))

  -- what changes only those of the priority changes only what stands between them
  pub changed_between : (f : MarkedRule → MarkedRule) → ((m : MarkedRule) → ¬ (m.rule.key.priority ≡ p) → f m ≡ m) → take a ms ++ (map f (slice_range ms a b) ++ drop b ms) ≡ map f ms
  changed_between f same =
      sym (ap (map f) three ∙ map-append f (take a ms) (slice_range ms a b ++ drop b ms)
      ∙ ap (λ (xs : List MarkedRule). xs ++ map f (slice_range ms a b ++ drop b ms)) (still (take a ms) (each_so (λ m. p < m.rule.key.priority) (λ m. f m ≡ m) (λ m less. same m (λ e. omega arith)) (take a ms) above))
      ∙ ap (λ (xs : List MarkedRule). take a ms ++ xs)
      (map-append f (slice_range ms a b) (drop b ms)
      ∙ ap (λ (xs : List MarkedRule). map f (slice_range ms a b) ++ xs) (still (drop b ms) (each_so (λ m. m.rule.key.priority < p) (λ m. f m ≡ m) (λ m less. same m (λ e. omega arith)) (drop b ms) below))))
    where
      still : (xs : List MarkedRule) → AllByRecursion (λ m. f m ≡ m) xs → map f xs ≡ xs
      still [] h = refl
      still (x ∷ xs) h = ap (λ (y : MarkedRule). y ∷ map f xs) h.0 ∙ ap (λ (ys : List MarkedRule). x ∷ ys) (still xs h.1)

  -- and those of a key of the priority are all between them
  pub kept_before : (k : Key) → k.priority ≡ p → marks_without k (take a ms) ≡ take a ms
  kept_before k is =
      all_pass (λ m. not (key_eq m.rule.key k)) (take a ms)
      (each_so (λ m. p < m.rule.key.priority) (λ m. not (key_eq m.rule.key k) ≡ true)
      (λ m less. not_from_false (key_eq m.rule.key k) (key_ne m.rule.key k (λ e. let s = ap (λ (x : Key). x.priority) e in omega arith))) (take a ms) above)

  pub kept_behind : (k : Key) → k.priority ≡ p → marks_without k (drop b ms) ≡ drop b ms
  kept_behind k is =
      all_pass (λ m. not (key_eq m.rule.key k)) (drop b ms)
      (each_so (λ m. m.rule.key.priority < p) (λ m. not (key_eq m.rule.key k) ≡ true)
      (λ m less. not_from_false (key_eq m.rule.key k) (key_ne m.rule.key k (λ e. let s = ap (λ (x : Key). x.priority) e in omega arith))) (drop b ms) below)

-- a key clashes with those of its priority alone
pub clash_in_priority : (k : Key) (ms : List MarkedRule) → list_any (λ m. keys_clash m.rule.key k) (of_priority k.priority ms) ≡ clashes_with k ms
clash_in_priority k [] = refl
clash_in_priority k (m ∷ ms) =
    let c = λ (n : MarkedRule). keys_clash n.rule.key k in
    elim (m.rule.key.priority == k.priority) as (λ b. m.rule.key.priority == k.priority ≡ b
    → list_any c (cond b (m ∷ of_priority k.priority ms) (of_priority k.priority ms)) ≡ (c m || clashes_with k ms)) [
      | true ↦ λ e. ap (λ (b : Bool). c m || b) (clash_in_priority k ms)
      | false ↦ λ e.
          clash_in_priority k ms
          ∙ sym (ap (λ (b : Bool). b || clashes_with k ms) (false_from_ne_true (c m) (λ t. both_ways (m.rule.key.priority == k.priority) e (and_parts (m.rule.key.priority == k.priority) (patterns_meet m.rule.key.pattern k.pattern) t).0)))
    ] refl
