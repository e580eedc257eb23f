-- The number of a key among keys that stand for members.
use Rattle.std.proofs.Common.{◌≡◌, ◌≢◌, ℕ, suc, ◌+◌, Bool, true, false, List, [], ◌∷◌, ◌++◌, length, map, refl, sym, ap, subst, inl, inr, arith}
use Rattle.std.specs.Prelude.{◌||◌, cond, not, if◌then◌else◌, slice_get, Some, MatchBool, ◌==◌, ◌&&◌, nat_eq}
use Rattle.std.specs.List.{list_any, position_or_len}
use Rattle.std.specs.Cmp.Lexicographic.{pointwise, told_text}
use Rattle.std.proofs.lemmas.Bool.{eqb-true, eq-eqb, both_ways}
use Rattle.net_base.specs.Members.{IsIn}
use Rattle.net_base.proofs.MemberLaws.{map-push}
use Rattle.indexmap.specs.IndexSet.{insert_key}
use Rattle.certificates.specs.declared.Shared.{Shared}
use Rattle.evidence_store.specs.Numbers.{IsFound, IsAdded}
use Rattle.certificates.specs.SharedKeys.{shared_of}
use Rattle.certificates.specs.declared.shared_key.SharedKey.{SharedKey}

module _ {K S : Type 0} (f : K → S) (eq : K → K → Bool) (told : (a b : K) → MatchBool (eq a b) (f a ≡ f b) (f a ≢ f b)) where
  -- where a key that is equal stands, or that there is none
  stands : (k : K) (ks : List K)
      → MatchBool (list_any (eq k) ks) (slice_get (map f ks) (position_or_len (eq k) ks) ≡ Some (f k)) ((position_or_len (eq k) ks ≡ length (map f ks)) × ¬ IsIn (f k) (map f ks))
  stands k [] = (refl, λ i. i)
  stands k (x ∷ ks) = by (eq k x) (told k x) (list_any (eq k) ks) (stands k ks)
    where
      place : ℕ
      place = position_or_len (eq k) ks

      by : (b : Bool) → MatchBool b (f k ≡ f x) (f k ≢ f x)
          → (later : Bool) → MatchBool later (slice_get (map f ks) (position_or_len (eq k) ks) ≡ Some (f k)) ((position_or_len (eq k) ks ≡ length (map f ks)) × ¬ IsIn (f k) (map f ks))
          → MatchBool (b || later) (slice_get (f x ∷ map f ks) (cond (not b) (1 + position_or_len (eq k) ks) 0) ≡ Some (f k))
          ((cond (not b) (1 + position_or_len (eq k) ks) 0 ≡ suc (length (map f ks))) × ¬ IsIn (f k) (f x ∷ map f ks))
      by true same later rest = ap Some (sym same)
      by false other true rest =
          let e : 1 + position_or_len (eq k) ks ≡ suc (position_or_len (eq k) ks) = omega arith in
          subst (λ n. slice_get (f x ∷ map f ks) n ≡ Some (f k)) (sym e) rest
      by false other false rest = (let e = rest.0 in omega arith, λ i. elim i [ inl e ↦ other e | inr j ↦ rest.1 j ])

  entered_in : (k : K) (ks : List K) → MatchBool (not (list_any (eq k) ks)) (IsAdded (map f ks) (f k) (position_or_len (eq k) ks) (map f (insert_key eq ks k)))
      (IsFound (map f ks) (f k) (position_or_len (eq k) ks) (map f (insert_key eq ks k)))
  entered_in k ks = by (list_any (eq k) ks) (stands k ks)
    where
      by : (b : Bool) → MatchBool b (slice_get (map f ks) (position_or_len (eq k) ks) ≡ Some (f k)) ((position_or_len (eq k) ks ≡ length (map f ks)) × ¬ IsIn (f k) (map f ks))
          → MatchBool (not b) (IsAdded (map f ks) (f k) (position_or_len (eq k) ks) (map f (if b then ks else ks ++ k ∷ [])))
          (IsFound (map f ks) (f k) (position_or_len (eq k) ks) (map f (if b then ks else ks ++ k ∷ [])))
      by true at = (at, refl)
      by false new = (new.0, map-push f ks k, new.1)

  -- what the insertion of a key answers and leaves
  pub entered : (k : K) (ks after : List K) (old : List S) (x : S) (n : ℕ) (b : Bool) → f k ≡ x → map f ks ≡ old → n ≡ position_or_len (eq k) ks → b ≡ not (list_any (eq k) ks) → after ≡ insert_key eq ks k
      → MatchBool b (IsAdded old x n (map f after)) (IsFound old x n (map f after))
  entered k ks after old x n b stands_for list place new keys =
      rw (new, place, keys, ← stands_for, ← list) (entered_in k ks)

-- lists of numbers are told apart by their members
pub told_lists : (xs ys : List ℕ) → MatchBool (pointwise nat_eq xs ys) (xs ≡ ys) (xs ≢ ys)
told_lists xs ys = told_text xs ys (pointwise nat_eq xs ys) refl

-- uses are told apart by their numberings and before sets
pub told_uses : (a b : SharedKey) → MatchBool (a.numbering == b.numbering && pointwise nat_eq a.befores.items b.befores.items) (shared_of a ≡ shared_of b) (shared_of a ≢ shared_of b)
told_uses a b =
    by (a.numbering == b.numbering) refl (pointwise nat_eq a.befores.items b.befores.items) (told_lists a.befores.items b.befores.items)
  where
    by : (n : Bool) → (a.numbering == b.numbering) ≡ n → (l : Bool) → MatchBool l (a.befores.items ≡ b.befores.items) (a.befores.items ≢ b.befores.items)
        → MatchBool (n && l) (shared_of a ≡ shared_of b) (shared_of a ≢ shared_of b)
    by true is true same = let e = eqb-true a.numbering b.numbering is in cc
    by true is false other = λ e. other (ap (λ (u : Shared). u.befores) e)
    by false is l _ = λ e. both_ways (a.numbering == b.numbering) is (eq-eqb a.numbering b.numbering (ap (λ (u : Shared). u.numbering) e))
