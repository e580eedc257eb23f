-- One prefix more at the end of a list.
use Rattle.std.proofs.Common.{◌≡◌, ◌⊎◌, ℕ, zero, suc, ◌<◌, true, false, List, [], ◌∷◌, ◌++◌, length, refl, sym, subst, ap, inl, inr}
use Rattle.std.specs.Prelude.{slice_get, Some, None}
use Rattle.std.proofs.lemmas.Bool.{both_ways}
use Rattle.net_base.specs.Blocks.{Block, in_block}
use Rattle.net_base.specs.Members.{IsIn}
use Rattle.net_base.proofs.MemberLaws.{in_append_left, in_append_right, in_append_cases, each_append}
use Rattle.net_base.proofs.ItemLaws.{past_end}
use Rattle.table_index.specs.Candidates.{IsCandidate, IsAscending, AreCandidates}

module _ {A : Type 0} where
  get_old : (xs : List A) (y : A) (i : ℕ) (x : A) → slice_get xs i ≡ Some x → slice_get (xs ++ y ∷ []) i ≡ Some x
  get_old [] y i x e = absurd (let f : None ≡ Some x = e in cc)
  get_old (z ∷ xs) y zero x e = e
  get_old (z ∷ xs) y (suc i) x e = get_old xs y i x e

  get_new : (xs : List A) (y : A) → slice_get (xs ++ y ∷ []) (length xs) ≡ Some y
  get_new [] y = refl
  get_new (z ∷ xs) y = get_new xs y

  get_cases : (xs : List A) (y : A) (i : ℕ) (x : A) → slice_get (xs ++ y ∷ []) i ≡ Some x → (slice_get xs i ≡ Some x) ⊎ ((i ≡ length xs) × (y ≡ x))
  get_cases [] y zero x e = let f : Some y ≡ Some x = e in inr (refl, cc)
  get_cases [] y (suc i) x e = absurd (let f : None ≡ Some x = e in cc)
  get_cases (z ∷ xs) y zero x e = inl e
  get_cases (z ∷ xs) y (suc i) x e = elim (get_cases xs y i x e) [ inl f ↦ inl f | inr (f, g) ↦ inr (ap suc f, g) ]

pub ascending_push : (ps : List ℕ) (n : ℕ) → IsAscending ps → ((j : ℕ) → IsIn j ps → j < n) → IsAscending (ps ++ n ∷ [])
ascending_push [] n up below = (tt, tt)
ascending_push (p ∷ ps) n up below = (
  each_append (λ j. p < j) ps (n ∷ []) up.0 (below p (inl refl), tt),
  ascending_push ps n up.1 (λ j i. below j (inr i)),
)

module _ (blocks : List Block) (b : Block) (dst : ℕ) (ps : List ℕ) (are : AreCandidates blocks dst ps) where
  older : (i : ℕ) → IsCandidate blocks dst i → IsCandidate (blocks ++ b ∷ []) dst i
  older i c = record { block = c.block; at = get_old blocks b i c.block c.at; holds = c.holds }

  -- the last prefix holds the address, or an earlier one does
  last_or : (i : ℕ) → IsCandidate (blocks ++ b ∷ []) dst i → IsCandidate blocks dst i ⊎ ((i ≡ length blocks) × (in_block b dst ≡ true))
  last_or i c =
      elim (get_cases blocks b i c.block c.at) [
        | inl e ↦ inl (record { block = c.block; at = e; holds = c.holds })
        | inr (e, f) ↦ inr (e, subst (λ z. in_block z dst ≡ true) (sym f) c.holds)
      ]

  pub push_held : in_block b dst ≡ true → AreCandidates (blocks ++ b ∷ []) dst (ps ++ length blocks ∷ [])
  push_held held = record {
    ascending = ascending_push ps (length blocks) are.ascending (λ j i. let c = (are.exact j).0 i in past_end blocks j c.block c.at);
    exact = λ i. (
      λ j. elim (in_append_cases i ps (length blocks ∷ []) j) [
        | inl k ↦ older i ((are.exact i).0 k)
        | inr k ↦ elim k [
          | inl e ↦ subst (IsCandidate (blocks ++ b ∷ []) dst) (sym e) (record { block = b; at = get_new blocks b; holds = held })
          | inr none ↦ absurd none
        ]
      ],
      λ c. elim (last_or i c) [
        | inl old ↦ in_append_left i ps (length blocks ∷ []) ((are.exact i).1 old)
        | inr (e, _) ↦ in_append_right i ps (length blocks ∷ []) (inl e)
      ],
    );
  }

  pub push_missed : in_block b dst ≡ false → AreCandidates (blocks ++ b ∷ []) dst ps
  push_missed missed = record {
    ascending = are.ascending;
    exact = λ i. (
      λ j. older i ((are.exact i).0 j),
      λ c. elim (last_or i c) [
        | inl old ↦ (are.exact i).1 old
        | inr (_, held) ↦ absurd (both_ways (in_block b dst) missed held)
      ],
    );
  }

pub none_yet : (dst : ℕ) → AreCandidates [] dst []
none_yet dst = record { ascending = tt; exact = λ i. (λ j. absurd j, λ c. absurd (let f : None ≡ Some c.block = c.at in cc)) }
