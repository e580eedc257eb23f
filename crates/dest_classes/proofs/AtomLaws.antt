-- The boundaries are the ends of the prefixes, sorted and each once; an atom's addresses lie in the same prefixes.
use Rattle.std.proofs.Common.{◌≡◌, ℕ, ◌+◌, ◌-◌, ◌<◌, ◌≤◌, ◌^◌, true, false, List, [], ◌∷◌, length, get_or, refl, sym, ◌∙◌, subst, ap, arith, inl, inr}
use Rattle.std.specs.Prelude.{◌==◌, nat_lt, nat_le, filter, flat_map, slice_index}
use Rattle.std.specs.List.{dedup}
use Rattle.std.specs.List.Sorted.{IsPermutation, IsSorted, IsPartitionPoint}
use Rattle.std.specs.Ordering.{nat_cmp}
use Rattle.std.proofs.lemmas.Bool.{leb-true, leb-false, ltb-true, cases_lt}
use Rattle.std.proofs.lemmas.Option.{slice_get_within, get_or_from_slice_get}
use Rattle.std.proofs.lemmas.List.Kept.{Contains-dedup_nat, Contains-from_dedup, AllPairs-from_increasing}
use Rattle.std.proofs.lemmas.List.Sorted.{Contains-permutation, IsPermutation-sym}
use Rattle.std.proofs.lemmas.Map.Keys.{IsStrictlyIncreasing-dedup}
use Rattle.net_base.specs.Blocks.{Block, IsSameClass, in_block}
use Rattle.net_base.specs.Members.{IsIn}
use Rattle.net_base.proofs.MemberLaws.{each_at, each_both, each_from_in, in_from_filter}
use Rattle.dest_classes.specs.Classes.{ascending_numbers, boundaries, block_ends}
use Rattle.dest_classes.specs.Atoms.{AreFirsts, IsAtomOf, OneAtomIsOneClass, FirstIsOfTheClass}
use Rattle.dest_classes.proofs.ClassLaws.{in_ascending, each_same}
use Rattle.dest_classes.proofs.RisingLaws.{contains_from_in, in_from_contains, Rises, in_from_ascending, rises_ascending, same_rising, rises_from_increasing, increasing_from_rises}
use Rattle.net_base.proofs.ItemLaws.{get_from_in}

-- a sorted list without repetitions is `ascending_numbers`
pub ascending_is : (xs ys : List ℕ) → IsPermutation xs ys → IsSorted nat_cmp ys → dedup (λ a b. a == b) ys ≡ ascending_numbers xs
ascending_is xs ys moved sorted =
    same_rising (dedup (λ a b. a == b) ys) (ascending_numbers xs) (rises_from_increasing (dedup (λ a b. a == b) ys) (IsStrictlyIncreasing-dedup ys sorted)) (rises_ascending xs)
    (λ z. (
      λ i.
          let c = Contains-from_dedup (λ a b. a == b) ys z (contains_from_in (dedup (λ a b. a == b) ys) z i) in
          in_ascending z xs (in_from_contains xs z (Contains-permutation ys xs z (IsPermutation-sym xs ys moved) c)),
      λ i.
          let c = contains_from_in xs z (in_from_ascending z xs i) in
          in_from_contains (dedup (λ a b. a == b) ys) z (Contains-dedup_nat ys z (Contains-permutation xs ys z moved c)),
    ))

first_is : (xs : List ℕ) → Rises xs → IsIn 0 xs → (0 < length xs) × (slice_index xs 0 ≡ 0)
first_is [] h i = absurd i
first_is (x ∷ xs) h (inl e) = (omega arith, sym e)
first_is (x ∷ xs) h (inr i) = let lt = each_at (λ y. x < y) xs 0 h.0 i in absurd (omega arith)

-- the boundaries begin with 0 and rise
pub are_firsts : (blocks : List Block) → AreFirsts (boundaries blocks)
are_firsts blocks =
    let ends = 0 ∷ filter (λ a. nat_lt a (2 ^ 32)) (flat_map block_ends blocks) in
    let h = first_is (ascending_numbers ends) (rises_ascending ends) (in_ascending 0 ends (inl refl)) in
    record {
      some = h.0;
      begin = h.1;
      rise = increasing_from_rises (ascending_numbers ends) (rises_ascending ends);
      fit = each_from_in (λ a. a < 2 ^ 32) (ascending_numbers ends)
          (λ a i. elim (in_from_ascending a ends i) [
            | inl e ↦ omega arith
            | inr j ↦ ltb-true a (2 ^ 32) (in_from_filter (λ a. nat_lt a (2 ^ 32)) a (flat_map block_ends blocks) j).1
          ]);
    }

-- the place before the first number above an address is that of its atom
pub atom_before : (xs : List ℕ) (address p : ℕ) → AreFirsts xs → IsPartitionPoint (λ y. nat_le y address ≡ true) (λ y. nat_le y address ≡ false) xs p → p ≤ length xs
    → (0 < p) × IsAtomOf xs (p - 1) address × ((p - 1) + 1 < length xs → address < slice_index xs ((p - 1) + 1))
atom_before xs address p firsts parts bound =
    let some = firsts.some in
    let begin = firsts.begin in
    let up = AllPairs-from_increasing xs firsts.rise in
    let past = λ (k : ℕ) (h : p ≤ k) (l : k < length xs). leb-false (get_or xs k 0) address (parts.1 k 0 h l) in
    let held = λ (k : ℕ) (h : k < p). leb-true (get_or xs k 0) address (parts.0 k 0 (omega arith) h) in
    let more : 0 < p = elim (cases_lt 0 p) [ inl h ↦ h | inr h ↦ absurd (let g = past 0 (omega arith) some in omega arith) ] in (
      more,
      record {
        within = omega arith;
        below = held (p - 1) (omega arith);
        greatest = λ k lt le. elim (cases_lt k p) [
          | inl h ↦ elim (cases_lt k (p - 1)) [
            | inl g ↦ (let q = up k (p - 1) 0 g (omega arith) in omega arith)
            | inr g ↦ (let e : k ≡ p - 1 = omega arith in let f = ap (λ n. get_or xs n 0) e in omega arith)
          ]
          | inr h ↦ absurd (let g = past k h lt in omega arith)
        ];
      },
      λ lt. past ((p - 1) + 1) (omega arith) lt,
    )

most_of : (blocks : List Block) (i a : ℕ) → IsAtomOf (boundaries blocks) i a → (y : ℕ) → IsIn y (boundaries blocks) → y ≤ a → y ≤ slice_index (boundaries blocks) i
most_of blocks i a atom y j le =
    let (n, e) = get_from_in (boundaries blocks) y j in
    let at = get_or_from_slice_get (boundaries blocks) n y 0 e in
    let h = atom.greatest n (slice_get_within (boundaries blocks) n y e) (omega arith) in
    omega arith

-- an address lies in the same prefixes as the first one of its atom
pub with_first : (blocks : List Block) (i a : ℕ) → a < 2 ^ 32 → IsAtomOf (boundaries blocks) i a → IsSameClass blocks (slice_index (boundaries blocks) i) a
with_first blocks i a fits atom = each_same blocks a fits (slice_index (boundaries blocks) i) atom.below (most_of blocks i a atom) blocks (λ b j. j)

pub one_atom : (blocks : List Block) → OneAtomIsOneClass blocks
one_atom blocks i a b fits_a fits_b of_a of_b =
    let m = slice_index (boundaries blocks) i in
    each_both (λ block. in_block block m ≡ in_block block a) (λ block. in_block block m ≡ in_block block b) (λ block. in_block block a ≡ in_block block b)
    (λ block h k. sym h ∙ k) blocks (with_first blocks i a fits_a of_a) (with_first blocks i b fits_b of_b)

pub first_of_class : (blocks : List Block) → FirstIsOfTheClass blocks
first_of_class blocks i first a fits at atom =
    subst (λ m. IsSameClass blocks m a) (get_or_from_slice_get (boundaries blocks) i first 0 at) (with_first blocks i a fits atom)
