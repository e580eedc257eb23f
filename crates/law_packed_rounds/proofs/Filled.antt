-- Rounds that are filled.
use Rattle.std.proofs.Common.{◌≡◌, ◌⊎◌, List, [], ◌∷◌, ◌++◌, refl, sym, ◌∙◌, subst, inl, inr, append_assoc, append-nil}
use Rattle.net_base.specs.Members.{IsIn, IsSubsequence}
use Rattle.net_base.proofs.MemberLaws.{in_append_left, in_append_right, IsSubsequence_refl, IsSubsequence-push}
use Rattle.update_model.specs.declared.Change.{Change}
use Rattle.law_packed_rounds.specs.Packing.{IsFilled}

module _ (can : List Change → Type 0) where
  -- what was taken is part of the round
  pub taken_part : (taken rest round : List Change) → IsFilled can taken rest round → IsSubsequence taken round
  taken_part taken [] round is = subst (IsSubsequence taken) (sym is) (IsSubsequence_refl taken)
  taken_part taken (c ∷ rest) round (inl (stands, filled)) = part_of_more taken c round (taken_part (taken ++ c ∷ []) rest round filled)
    where
      part_of_more : (xs : List Change) (x : Change) (ys : List Change) → IsSubsequence (xs ++ x ∷ []) ys → IsSubsequence xs ys
      part_of_more [] x ys h = tt
      part_of_more (z ∷ xs) x [] h = absurd h
      part_of_more (z ∷ xs) x (y ∷ ys) (inl (e, h)) = inl (e, part_of_more xs x ys h)
      part_of_more (z ∷ xs) x (y ∷ ys) (inr h) = inr (part_of_more (z ∷ xs) x ys h)
  taken_part taken (c ∷ rest) round (inr (left, filled)) = taken_part taken rest round filled

  -- the round has what was taken, and then part of the rest
  pub round_part : (taken rest round : List Change) → IsFilled can taken rest round → (more : List Change) × (round ≡ taken ++ more) × IsSubsequence more rest
  round_part taken [] round is = ([], is ∙ sym (append-nil taken), tt)
  round_part taken (c ∷ rest) round (inl (stands, filled)) =
      let (more, are, part) = round_part (taken ++ c ∷ []) rest round filled in
      (c ∷ more, are ∙ append_assoc taken (c ∷ []) more, inl (refl, part))
  round_part taken (c ∷ rest) round (inr (left, filled)) =
      let (more, are, part) = round_part taken rest round filled in
      (more, are, skip more part)
    where
      skip : (more : List Change) → IsSubsequence more rest → IsSubsequence more (c ∷ rest)
      skip [] h = tt
      skip (x ∷ xs) h = inr h

  -- there is one such round at most
  pub filled_once : (taken rest one other : List Change) → IsFilled can taken rest one → IsFilled can taken rest other → one ≡ other
  filled_once taken [] one other a b = a ∙ sym b
  filled_once taken (c ∷ rest) one other (inl a) (inl b) = filled_once (taken ++ c ∷ []) rest one other a.1 b.1
  filled_once taken (c ∷ rest) one other (inl a) (inr b) = absurd (b.0 a.0)
  filled_once taken (c ∷ rest) one other (inr a) (inl b) = absurd (a.0 b.0)
  filled_once taken (c ∷ rest) one other (inr a) (inr b) = filled_once taken rest one other a.1 b.1

  -- a round to which something was taken can stand
  pub filled_stands : (taken rest round : List Change) → IsFilled can taken rest round → (round ≡ taken) ⊎ can round
  filled_stands taken [] round is = inl is
  filled_stands taken (c ∷ rest) round (inl (stands, filled)) =
      elim (filled_stands (taken ++ c ∷ []) rest round filled) [
        | inl e ↦ inr (subst can (sym e) stands)
        | inr h ↦ inr h
      ]
  filled_stands taken (c ∷ rest) round (inr (left, filled)) = filled_stands taken rest round filled

  -- where fewer changes can stand too
  module _ (fewer : (some changes : List Change) → IsSubsequence some changes → can changes → can some) where
    -- what was left can't stand beside the round
    pub filled_full : (taken rest round : List Change) → IsFilled can taken rest round → (c : Change) → IsIn c rest → ¬ IsIn c round → ¬ can (round ++ c ∷ [])
    filled_full taken [] round is c i out = absurd i
    filled_full taken (d ∷ rest) round (inl (stands, filled)) c (inl e) out =
        let (more, are, part) = round_part (taken ++ d ∷ []) rest round filled in
        absurd (out (subst (IsIn c) (sym are) (in_append_left c (taken ++ d ∷ []) more (in_append_right c taken (d ∷ []) (inl e)))))
    filled_full taken (d ∷ rest) round (inl (stands, filled)) c (inr i) out = filled_full (taken ++ d ∷ []) rest round filled c i out
    filled_full taken (d ∷ rest) round (inr (left, filled)) c (inl e) out = λ stands.
        left (subst (λ x. can (taken ++ x ∷ [])) e (fewer (taken ++ c ∷ []) (round ++ c ∷ []) (IsSubsequence-push taken round c (taken_part taken rest round filled)) stands))
    filled_full taken (d ∷ rest) round (inr (left, filled)) c (inr i) out = filled_full taken rest round filled c i out

    -- where all can stand, all of them are such a round
    pub whole_filled : (taken rest : List Change) → can (taken ++ rest) → IsFilled can taken rest (taken ++ rest)
    whole_filled taken [] stands = append-nil taken
    whole_filled taken (c ∷ rest) stands =
        let same = append_assoc taken (c ∷ []) rest in
        inl (
          fewer (taken ++ c ∷ []) (taken ++ c ∷ rest) (begins taken) stands,
          subst (IsFilled can (taken ++ c ∷ []) rest) same (whole_filled (taken ++ c ∷ []) rest (subst can (sym same) stands)),
        )
      where
        begins : (xs : List Change) → IsSubsequence (xs ++ c ∷ []) (xs ++ c ∷ rest)
        begins [] = inl (refl, tt)
        begins (x ∷ xs) = inl (refl, begins xs)
