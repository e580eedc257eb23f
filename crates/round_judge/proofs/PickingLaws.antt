-- The picks of a round, added one by one.
use Rattle.std.proofs.Common.{◌≡◌, ℕ, ◌<◌, List, [], ◌∷◌, ◌++◌, refl, sym, ◌∙◌, subst, ap, inl, inr, arith}
use Rattle.std.specs.List.{AllByRecursion}
use Rattle.std.specs.Iterator.{Yields}
use Rattle.std.specs.Vec.Iter.{into_iter_items, into_iter_steps}
use Rattle.std.specs.declared.vec.IntoIter.{IntoIter}
use Rattle.net_base.specs.Members.{IsIn}
use Rattle.net_base.proofs.MemberLaws.{each_at, each_from_in, in_append_right}
use Rattle.certificates.specs.Valid.{IsChain, IsPickBefore}
use Rattle.certificates.specs.declared.OrderedPick.{OrderedPick}
use Rattle.certificates.specs.declared.OrderedEvidence.{OrderedEvidence}
use Rattle.evidence_store.specs.Stored.{IsWithPick}
use Rattle.round_judge.specs.declared.judging.FoundEvidence.{FoundEvidence}
use Rattle.round_judge.specs.Judged.{AreWithPicks}
use Rattle.round_judge.proofs.GrowthLaws.{pick_cases}
use Rattle.round_judge.proofs.EvidenceLaws.{found_above, chain_rest}

-- a pick more for what was found next
pub picks_push : (a : OrderedEvidence) (round : ℕ) (xs : List FoundEvidence) (f : FoundEvidence) (b c : OrderedEvidence) → AreWithPicks a round xs b
    → IsWithPick b round f.class f.evidence.numbering f.evidence.befores c → AreWithPicks a round (xs ++ f ∷ []) c
picks_push a round [] f b c same one =
    (c, subst (λ (e : OrderedEvidence). IsWithPick e round f.class f.evidence.numbering f.evidence.befores c) same one, refl)
picks_push a round (x ∷ xs) f b c (mid, first, rest) one = (mid, first, picks_push mid round xs f b c rest one)

-- what was found before is of a lower class
lower_before : (xs ys : List FoundEvidence) (f : FoundEvidence) → IsChain (λ (g h : FoundEvidence). g.class < h.class) (xs ++ f ∷ ys) → (g : FoundEvidence) → IsIn g xs → g.class < f.class
lower_before [] ys f chain g i = absurd i
lower_before (x ∷ xs) ys f chain g (inl e) =
    subst (λ (y : FoundEvidence). y.class < f.class) (sym e) (found_above x (xs ++ f ∷ ys) chain f (in_append_right f xs (f ∷ ys) (inl refl)))
lower_before (x ∷ xs) ys f chain g (inr i) = lower_before xs ys f (chain_rest x (xs ++ f ∷ ys) chain) g i

-- all picks so far, the old ones and those of the round, are before the next one
pub all_before : (a : OrderedEvidence) (round : ℕ) (xs ys : List FoundEvidence) (f : FoundEvidence) (b : OrderedEvidence) → AreWithPicks a round xs b
    → AllByRecursion (λ p. p.round < round) a.picks → IsChain (λ (g h : FoundEvidence). g.class < h.class) (xs ++ f ∷ ys)
    → AllByRecursion (λ p. IsPickBefore p (record { round = round; class = f.class; shared = 0 })) b.picks
all_before a round xs ys f b added behind chain = each_from_in _ b.picks (λ (p : OrderedPick) i.
    elim (pick_cases a round xs b added p i) [
      | inl old ↦ inl (each_at (λ (q : OrderedPick). q.round < round) a.picks p behind old)
      | inr (g, j, is) ↦ inr (is.round_is, (let lower = lower_before xs ys f chain g j in let class = is.class_is in omega arith))
    ])

-- what the iterator of a vector has given is a front of its items
taken_front : {X A : Type 0} (s : IntoIter X A) (xs : List X) (t : IntoIter X A) → Yields into_iter_steps s xs t → into_iter_items s ≡ xs ++ into_iter_items t
taken_front s [] t y = ap into_iter_items y
taken_front s (x ∷ xs) t y = y.1.0 ∙ ap (λ ys. x ∷ ys) (taken_front y.0 xs t y.2)

-- what it has given, the next one and what comes after it are its items
pub taken_next : {X A : Type 0} (s : IntoIter X A) (xs : List X) (t : IntoIter X A) (x : X) (rest : List X) → Yields into_iter_steps s xs t → into_iter_items t ≡ x ∷ rest
    → into_iter_items s ≡ xs ++ x ∷ rest
taken_next s xs t x rest y next = taken_front s xs t y ∙ ap (λ ys. xs ++ ys) next
