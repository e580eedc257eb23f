-- How many uses and numberings there may be: no more than picks, and no more of these than rounds times classes.
use Rattle.std.proofs.Common.{◌≡◌, ℕ, suc, ◌+◌, ◌*◌, ◌^◌, ◌<◌, ◌≤◌, List, [], ◌∷◌, length, map, inl, inr, arith}
use Rattle.std.specs.List.{AllByRecursion}
use Rattle.std.proofs.lemmas.List.{length-map}
use Rattle.std.proofs.lemmas.Nat.{mul-le, row_fits}
use Rattle.certificates.specs.Valid.{IsChain, IsPickBefore}
use Rattle.certificates.specs.declared.Shared.{Shared}
use Rattle.certificates.specs.declared.OrderedPick.{OrderedPick}
use Rattle.certificates.specs.declared.OrderedEvidence.{OrderedEvidence}
use Rattle.evidence_store.specs.Stored.{UsesInOrder, IsStored}

-- numbers in the order of first use are no more than their uses
few_in_order : (next : ℕ) (is : List ℕ) (last : ℕ) → UsesInOrder next is last → last ≤ next + length is
few_in_order next [] last h = let e : next ≡ last = h in omega arith
few_in_order next (i ∷ is) last (inl h) = let few = few_in_order next is last h.1 in omega arith
few_in_order next (i ∷ is) last (inr h) = let few = few_in_order (suc next) is last h.1 in omega arith

-- the place of a pick among all picks of so many classes that there may be
abbrev place : ℕ → OrderedPick → ℕ
place classes p = p.round * classes + p.class

place_before : (classes : ℕ) (p q : OrderedPick) → p.class < classes → IsPickBefore p q → place classes p < place classes q
place_before classes p q within (inl less) =
    let above = row_fits p.round classes q.round classes less (omega arith) in
    omega arith
place_before classes p q within (inr (same, less)) = rw same (omega arith)

-- picks in order before another are no more than its place
few_before : (classes : ℕ) (q : OrderedPick) (p : OrderedPick) (picks : List OrderedPick) → AllByRecursion (λ p. p.class < classes) (p ∷ picks) → IsChain IsPickBefore (p ∷ picks)
    → AllByRecursion (λ p. IsPickBefore p q) (p ∷ picks) → place classes p + length (p ∷ picks) ≤ place classes q
few_before classes q p [] within chain before = let less = place_before classes p q within.0 before.0 in omega arith
few_before classes q p (next ∷ picks) within chain before =
    let less = place_before classes p next within.0 chain.0 in
    let few = few_before classes q next picks within.1 chain.1 before.1 in
    omega arith

few_picks : (classes : ℕ) (q : OrderedPick) (picks : List OrderedPick) → AllByRecursion (λ p. p.class < classes) picks → IsChain IsPickBefore picks → AllByRecursion (λ p. IsPickBefore p q) picks
    → length picks ≤ place classes q
few_picks classes q [] within chain before = omega arith
few_picks classes q (p ∷ picks) within chain before = let few = few_before classes q p picks within chain before in omega arith

module _ (e : OrderedEvidence) (stored : IsStored e) (classes : ℕ) (q : OrderedPick) (few_classes : classes ≤ 8192) (within : AllByRecursion (λ p. p.class < classes) e.picks)
    (before : AllByRecursion (λ p. IsPickBefore p q) e.picks) (class : q.class < classes) (round : q.round ≤ 4200) where
  few_places : length e.picks < 2 ^ 32
  few_places =
      let few = few_picks classes q e.picks within stored.ascending before in
      let most : q.round * classes ≤ 4200 * 8192 = mul-le q.round classes 4200 8192 round few_classes in
      omega arith

  -- uses have numbers of 32 bits up to a pick, and numberings too
  pub few_uses : length e.uses < 2 ^ 32
  few_uses =
      let few = few_places in
      let used = few_in_order 0 (map (λ p. p.shared) e.picks) (length e.uses) stored.once.uses_in_order in
      let count = length-map e.picks (λ (p : OrderedPick). p.shared) in
      omega arith

  pub few_numberings : length e.numberings < 2 ^ 32
  few_numberings =
      let few = few_uses in
      let used = few_in_order 0 (map (λ use_. use_.numbering) e.uses) (length e.numberings) stored.once.numberings_in_order in
      let count = length-map e.uses (λ (use_ : Shared). use_.numbering) in
      omega arith
