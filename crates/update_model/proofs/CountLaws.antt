-- How many items of a list pass a test, after the list changes; and so the counts of packets and of pending changes.
use Rattle.std.proofs.Common.{◌≡◌, ◌↔◌, ◌⊎◌, ℕ, zero, suc, ◌+◌, ◌-◌, ◌<◌, ◌≤◌, Bool, true, false, cond, List, [], ◌∷◌, ◌++◌, set, get_or, refl, sym, ◌∙◌, ap, subst, inl, inr, replicate, arith}
use Rattle.std.specs.Prelude.{count_by, slice_get, Some, None, nat_lt, ◌&&◌}
use Rattle.std.specs.List.{AllByRecursion}
use Rattle.std.specs.Option.{option_map_or}
use Rattle.std.proofs.lemmas.Bool.{cases_Bool, ltb-true, ltb-false, le-ltb, lt-ltb, and_parts, false≢true}
use Rattle.std.proofs.lemmas.List.Sums.{sum_by-cons, sum_by_push}
use Rattle.std.proofs.lemmas.List.Folds.{sum_by-replicate}
use Rattle.net_base.proofs.MemberLaws.{each_weaker, each_append, each_set}
use Rattle.net_base.specs.declared.ids.Place.{Place}
use Rattle.path_walk.specs.declared.Ended.{Ended}
use Rattle.path_walk.specs.declared.Ended.TheVariants.{UnderWay, Left, Dropped, Lost}
use Rattle.update_model.specs.States.{entered_packet, with_packet, IsUnderWay}
use Rattle.update_model.specs.Worlds.{goes_on, is_late, AreCounted}
use Rattle.update_model.specs.declared.Packet.{Packet}

abbrev one : Bool → ℕ
one b = cond b 1 0

one_zero : (b : Bool) → one b ≡ 0 → b ≡ false
one_zero true e = absurd (omega arith)
one_zero false e = refl

module _ {A : Type 0} (p : A → Bool) where
  cons : (x : A) (xs : List A) → count_by p (x ∷ xs) ≡ one (p x) + count_by p xs
  cons x xs = sum_by-cons (λ y. cond (p y) 1 0) x xs

  -- none passes exactly where the count is 0
  pub none_from_zero : (xs : List A) → count_by p xs ≡ 0 → AllByRecursion (λ x. p x ≡ false) xs
  none_from_zero [] e = tt
  none_from_zero (x ∷ xs) e = let c = cons x xs in (one_zero (p x) (omega (arith, c, e)), none_from_zero xs (omega (arith, c, e)))

  pub zero_from_none : (xs : List A) → AllByRecursion (λ x. p x ≡ false) xs → count_by p xs ≡ 0
  zero_from_none [] h = refl
  zero_from_none (x ∷ xs) h = let c = cons x xs in let z : one (p x) ≡ 0 = ap one h.0 in let r = zero_from_none xs h.1 in omega (arith, c, z, r)

  -- another item in the place of one
  pub counted_set : (xs : List A) (i : ℕ) (x y : A) → slice_get xs i ≡ Some x → count_by p (set xs i y) + cond (p x) 1 0 ≡ count_by p xs + cond (p y) 1 0
  counted_set [] i x y e = let f : None ≡ Some x = e in absurd (cc)
  counted_set (z ∷ xs) zero x y e =
      let f : Some z ≡ Some x = e in let g : z ≡ x = cc in
      let a = cons y xs in let b = cons z xs in let same : one (p z) ≡ one (p x) = ap (λ w. one (p w)) g in omega (arith, a, b, same)
  counted_set (z ∷ xs) (suc i) x y e = let a = cons z (set xs i y) in let b = cons z xs in let h = counted_set xs i x y e in omega (arith, a, b, h)

  -- two tests that agree on each item count alike
  pub counted_alike : (q : A → Bool) (xs : List A) → AllByRecursion (λ x. p x ≡ q x) xs → count_by p xs ≡ count_by q xs
  counted_alike q [] h = refl
  counted_alike q (x ∷ xs) h =
      let a = cons x xs in let b = sum_by-cons (λ y. cond (q y) 1 0) x xs in let same : one (p x) ≡ one (q x) = ap one h.0 in
      let r = counted_alike q xs h.1 in omega (arith, a, b, same, r)

-- ---- packets

and_true : (b c : Bool) → c ≡ true → b ≡ b && c
and_true true c e = sym e
and_true false c e = refl

pub goes_from : (e : Ended) → goes_on e ≡ true → e ≡ UnderWay
goes_from UnderWay h = refl
goes_from (Left s p v) h = absurd (false≢true h)
goes_from (Dropped s) h = absurd (false≢true h)
goes_from Lost h = absurd (false≢true h)

not_late : (k : ℕ) (p : Packet) → is_late k p ≡ false → IsUnderWay p → k ≤ p.born
not_late k p e u =
    let goes : goes_on p.ended ≡ true = ap goes_on u in
    let young : nat_lt p.born k ≡ false = sym (ap (λ b. b && nat_lt p.born k) goes) ∙ e in
    elim (cases_Bool (nat_lt p.born k)) [ inl t ↦ absurd (false≢true (sym young ∙ t)) | inr f ↦ omega (arith, ltb-false p.born k f) ]

is_young : (k : ℕ) (p : Packet) → (IsUnderWay p → k ≤ p.born) → is_late k p ≡ false
is_young k p h =
    elim (cases_Bool (is_late k p)) [
      | inl t ↦ (let goes = and_parts (goes_on p.ended) (nat_lt p.born k) t in absurd (omega (arith, h (goes_from p.ended goes.0), ltb-true p.born k goes.1)))
      | inr f ↦ f
    ]

-- no late packet is under way exactly where they are counted as none
pub none_late : (packets : List Packet) (k n m : ℕ) → AreCounted packets k n m → m ≡ 0 → AllByRecursion (λ p. IsUnderWay p → k ≤ p.born) packets
none_late packets k n m c e = each_weaker _ _ (not_late k) packets (none_from_zero (is_late k) packets (sym c.late ∙ e))

pub zero_late : (packets : List Packet) (k n m : ℕ) → AreCounted packets k n m → AllByRecursion (λ p. IsUnderWay p → k ≤ p.born) packets → m ≡ 0
zero_late packets k n m c h = c.late ∙ zero_from_none (is_late k) packets (each_weaker _ _ (is_young k) packets h)

-- one more round is settled: now each packet under way is late
pub counted_settle : (packets : List Packet) (k n m : ℕ) → AreCounted packets k n m → AreCounted packets (suc k) n n
counted_settle packets k n m c = record {
  all = c.all;
  late = c.all ∙ counted_alike (λ p. goes_on p.ended) (is_late (suc k)) packets
      (each_weaker _ _ (λ p h. and_true (goes_on p.ended) (nat_lt p.born (suc k)) (lt-ltb p.born (suc k) (omega (arith, h)))) packets c.born);
  born = each_weaker _ _ (λ p h. omega (arith, h)) packets c.born;
}

-- packet i, where it stands
pub read_at : (packets : List Packet) (i : ℕ) (p d : Packet) → slice_get packets i ≡ Some p → get_or packets i d ≡ p
read_at [] i p d e = let f : None ≡ Some p = e in absurd (cc)
read_at (x ∷ packets) zero p d e = let f : Some x ≡ Some p = e in let g : x ≡ p = cc in g
read_at (x ∷ packets) (suc i) p d e = read_at packets i p d e

pub with_one : (f : Packet → Packet) (i : ℕ) (packets : List Packet) (p : Packet) → slice_get packets i ≡ Some p → with_packet f i packets ≡ set packets i (f p)
with_one f i packets p e = ap (λ o. option_map_or (λ q. set packets i (f q)) o packets) e

at_place : (k : ℕ) (packets : List Packet) → AllByRecursion (λ r. r.born ≤ k) packets → (i : ℕ) (p : Packet) → slice_get packets i ≡ Some p → p.born ≤ k
at_place k [] h i p e = let f : None ≡ Some p = e in absurd (cc)
at_place k (x ∷ packets) h zero p e = let f : Some x ≡ Some p = e in let g : x ≡ p = cc in subst (λ (y : Packet). y.born ≤ k) g h.0
at_place k (x ∷ packets) h (suc i) p e = at_place k packets h.1 i p e

-- a packet that is under way goes on
pub counted_go : (packets : List Packet) (i k n m : ℕ) (p q : Packet) → AreCounted packets k n m → slice_get packets i ≡ Some p → q.ended ≡ p.ended → q.born ≡ p.born
    → AreCounted (set packets i q) k n m
counted_go packets i k n m p q c is ended born = record {
  all = let same : one (goes_on p.ended) ≡ one (goes_on q.ended) = ap (λ e. one (goes_on e)) (sym ended) in
      omega (arith, c.all, same, counted_set (λ r. goes_on r.ended) packets i p q is);
  late = let same : one (is_late k p) ≡ one (is_late k q) = ap (λ e. one (goes_on e && nat_lt p.born k)) (sym ended) ∙ ap (λ b. one (goes_on q.ended && nat_lt b k)) (sym born) in
      omega (arith, c.late, same, counted_set (is_late k) packets i p q is);
  born = each_set (λ r. r.born ≤ k) packets i q c.born (subst (λ b. b ≤ k) (sym born) (at_place k packets c.born i p is));
}

-- a packet that is under way is counted, and is counted as late where it is
pub counted_one : (packets : List Packet) (i k n m : ℕ) (p : Packet) → AreCounted packets k n m → slice_get packets i ≡ Some p → IsUnderWay p
    → (1 ≤ n) × (cond (nat_lt p.born k) 1 0 ≤ m)
counted_one packets i k n m p c is u =
    let goes : goes_on p.ended ≡ true = ap goes_on u in
    let out : Packet = record p { ended = Lost } in
    let yes : one (goes_on p.ended) ≡ 1 = ap one goes in
    let late : one (is_late k p) ≡ one (nat_lt p.born k) = ap (λ b. one (b && nat_lt p.born k)) goes in
    (omega (arith, c.all, yes, counted_set (λ r. goes_on r.ended) packets i p out is), omega (arith, c.late, late, counted_set (is_late k) packets i p out is))

-- a packet that is under way ends
pub counted_end : (packets : List Packet) (i k n m : ℕ) (p : Packet) (ended : Ended) → AreCounted packets k n m → slice_get packets i ≡ Some p → IsUnderWay p → goes_on ended ≡ false
    → AreCounted (set packets i (record p { ended = ended })) k (n - 1) (m - cond (nat_lt p.born k) 1 0)
counted_end packets i k n m p ended c is u over =
    let q : Packet = record p { ended = ended } in
    let goes : goes_on p.ended ≡ true = ap goes_on u in
    let yes : one (goes_on p.ended) ≡ 1 = ap one goes in
    let no : one (goes_on q.ended) ≡ 0 = ap one over in
    let late : one (is_late k p) ≡ one (nat_lt p.born k) = ap (λ b. one (b && nat_lt p.born k)) goes in
    let late_no : one (is_late k q) ≡ 0 = ap (λ b. one (b && nat_lt p.born k)) over in
    record {
      all = omega (arith, c.all, yes, no, counted_set (λ r. goes_on r.ended) packets i p q is);
      late = omega (arith, c.late, late, late_no, counted_set (is_late k) packets i p q is);
      born = each_set (λ r. r.born ≤ k) packets i q c.born (at_place k packets c.born i p is);
    }
