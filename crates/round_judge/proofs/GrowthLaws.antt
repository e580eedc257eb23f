-- Evidence that grows: what a pick means stays, and the picks of a round are added behind the others.
use Rattle.std.proofs.Common.{◌≡◌, ◌⊎◌, ℕ, zero, suc, ◌<◌, List, [], ◌∷◌, length, Some, None, refl, sym, ◌∙◌, subst, ap, inl, inr, arith}
use Rattle.std.specs.Prelude.{slice_get}
use Rattle.std.specs.List.{AllByRecursion, AllZip}
use Rattle.net_base.specs.Members.{IsIn, IsPrefix}
use Rattle.net_base.proofs.MemberLaws.{each_at, in_append_left, in_append_right, in_append_cases}
use Rattle.net_base.proofs.ItemLaws.{in_from_get, prefix_refl, prefix_through}
use Rattle.certificates.specs.Ordered.{IsMeant}
use Rattle.certificates.specs.declared.OrderedPick.{OrderedPick}
use Rattle.certificates.specs.declared.OrderedEvidence.{OrderedEvidence}
use Rattle.evidence_store.specs.Stored.{IsStored, IsWithPick}
use Rattle.round_judge.specs.declared.judging.FoundEvidence.{FoundEvidence}
use Rattle.round_judge.specs.Judged.{AreWithPicks}

-- ---- lists that begin with a list

module _ {A : Type 0} where
  pub get_more : (xs ys : List A) → IsPrefix xs ys → (i : ℕ) (x : A) → slice_get xs i ≡ Some x → slice_get ys i ≡ Some x
  get_more [] ys p i x e = absurd (none_is x e)
    where
      none_is : (x : A) → None ≡ Some x → ⊥
      none_is x e = cc
  get_more (x ∷ xs) [] p i y e = absurd p
  get_more (x ∷ xs) (z ∷ ys) p zero y e = ap Some (sym p.0) ∙ e
  get_more (x ∷ xs) (z ∷ ys) p (suc i) y e = get_more xs ys p.1 i y e

  pub get_less : (xs ys : List A) → IsPrefix xs ys → (i : ℕ) (x : A) → i < length xs → slice_get ys i ≡ Some x → slice_get xs i ≡ Some x
  get_less [] ys p i x less e = absurd (let f : i < 0 = less in omega arith)
  get_less (x ∷ xs) [] p i y less e = absurd p
  get_less (x ∷ xs) (z ∷ ys) p zero y less e = ap Some p.0 ∙ e
  get_less (x ∷ xs) (z ∷ ys) p (suc i) y less e = get_less xs ys p.1 i y (omega arith) e

-- ---- what a pick means

-- the second evidence goes on from the first, whatever its picks
pub record Grows (e more : OrderedEvidence) : Type 0 where
  pub numberings : IsPrefix e.numberings more.numberings
  pub befores : IsPrefix e.befores more.befores
  pub uses : IsPrefix e.uses more.uses

pub grows_refl : (e : OrderedEvidence) → Grows e e
grows_refl e = record { numberings = prefix_refl e.numberings; befores = prefix_refl e.befores; uses = prefix_refl e.uses }

pub grows_through : (a b c : OrderedEvidence) → Grows a b → Grows b c → Grows a c
grows_through a b c p q = record {
  numberings = prefix_through a.numberings b.numberings c.numberings p.numberings q.numberings;
  befores = prefix_through a.befores b.befores c.befores p.befores q.befores;
  uses = prefix_through a.uses b.uses c.uses p.uses q.uses;
}

sets_more : (xs ys : List (List ℕ)) → IsPrefix xs ys → (is : List ℕ) (sets : List (List ℕ)) → AllZip (λ i set. slice_get xs i ≡ Some set) is sets → AllZip (λ i set. slice_get ys i ≡ Some set) is sets
sets_more xs ys p [] [] h = tt
sets_more xs ys p [] (set ∷ sets) h = absurd h
sets_more xs ys p (i ∷ is) [] h = absurd h
sets_more xs ys p (i ∷ is) (set ∷ sets) h = (get_more xs ys p i set h.0, sets_more xs ys p is sets h.1)

sets_less : (xs ys : List (List ℕ)) → IsPrefix xs ys → (is : List ℕ) (sets : List (List ℕ)) → AllByRecursion (λ i. i < length xs) is → AllZip (λ i set. slice_get ys i ≡ Some set) is sets
    → AllZip (λ i set. slice_get xs i ≡ Some set) is sets
sets_less xs ys p [] [] within h = tt
sets_less xs ys p [] (set ∷ sets) within h = absurd h
sets_less xs ys p (i ∷ is) [] within h = absurd h
sets_less xs ys p (i ∷ is) (set ∷ sets) within h = (get_less xs ys p i set within.0 h.0, sets_less xs ys p is sets within.1 h.1)

pub meant_more : (e more : OrderedEvidence) → Grows e more → (p : OrderedPick) (numbers : List ℕ) (sets : List (List ℕ)) → IsMeant e p numbers sets → IsMeant more p numbers sets
meant_more e more grows p numbers sets h = record {
  use_ = h.use_;
  use_is = get_more e.uses more.uses grows.uses p.shared h.use_ h.use_is;
  numbers_are = get_more e.numberings more.numberings grows.numberings h.use_.numbering numbers h.numbers_are;
  sets_are = sets_more e.befores more.befores grows.befores h.use_.befores sets h.sets_are;
}

pub meant_less : (e more : OrderedEvidence) → Grows e more → IsStored e → (p : OrderedPick) (numbers : List ℕ) (sets : List (List ℕ)) → IsIn p e.picks → IsMeant more p numbers sets → IsMeant e p numbers sets
meant_less e more grows stored p numbers sets i h =
    let within = each_at _ e.picks p stored.picks i in
    let use_is = get_less e.uses more.uses grows.uses p.shared h.use_ within.0 h.use_is in
    let valid = each_at _ e.uses h.use_ stored.uses (in_from_get e.uses p.shared h.use_ use_is) in
    record {
      use_ = h.use_;
      use_is = use_is;
      numbers_are = get_less e.numberings more.numberings grows.numberings h.use_.numbering numbers valid.0 h.numbers_are;
      sets_are = sets_less e.befores more.befores grows.befores h.use_.befores sets valid.2 h.sets_are;
    }

-- ---- the picks of a round

-- a pick of the round for what was found
pub record IsPickOf (e : OrderedEvidence) (round : ℕ) (f : FoundEvidence) (p : OrderedPick) : Type 0 where
  pub round_is : p.round ≡ round
  pub class_is : p.class ≡ f.class
  pub meant : IsMeant e p f.evidence.numbering f.evidence.befores

pick_of_more : (e more : OrderedEvidence) → Grows e more → (round : ℕ) (f : FoundEvidence) (p : OrderedPick) → IsPickOf e round f p → IsPickOf more round f p
pick_of_more e more grows round f p h = record {
  round_is = h.round_is;
  class_is = h.class_is;
  meant = meant_more e more grows p f.evidence.numbering f.evidence.befores h.meant;
}

one_grows : (old : OrderedEvidence) (round class : ℕ) (numbers : List ℕ) (sets : List (List ℕ)) (new : OrderedEvidence) → IsWithPick old round class numbers sets new → Grows old new
one_grows old round class numbers sets new h = record { numberings = h.numberings; befores = h.befores; uses = h.uses }

pub grown : (old : OrderedEvidence) (round : ℕ) (found : List FoundEvidence) (new : OrderedEvidence) → AreWithPicks old round found new → Grows old new
grown old round [] new h = subst (Grows old) (sym h) (grows_refl old)
grown old round (f ∷ found) new (mid, one, rest) =
    grows_through old mid new (one_grows old round f.class f.evidence.numbering f.evidence.befores mid one) (grown mid round found new rest)

pub old_pick : (old : OrderedEvidence) (round : ℕ) (found : List FoundEvidence) (new : OrderedEvidence) → AreWithPicks old round found new → (p : OrderedPick) → IsIn p old.picks → IsIn p new.picks
old_pick old round [] new h p i = subst (λ (e : OrderedEvidence). IsIn p e.picks) (sym h) i
old_pick old round (f ∷ found) new (mid, one, rest) p i =
    old_pick mid round found new rest p (subst (IsIn p) (sym one.picks) (in_append_left p old.picks (one.pick ∷ []) i))

-- each pick was there, or is one of the round for something that was found
pub pick_cases : (old : OrderedEvidence) (round : ℕ) (found : List FoundEvidence) (new : OrderedEvidence) → AreWithPicks old round found new → (p : OrderedPick) → IsIn p new.picks
    → IsIn p old.picks ⊎ ((f : FoundEvidence) × IsIn f found × IsPickOf new round f p)
pick_cases old round [] new h p i = inl (subst (λ (e : OrderedEvidence). IsIn p e.picks) h i)
pick_cases old round (f ∷ found) new (mid, one, rest) p i =
    elim (pick_cases mid round found new rest p i) [
      | inl j ↦ elim (in_append_cases p old.picks (one.pick ∷ []) (subst (IsIn p) one.picks j)) [
        | inl old_one ↦ inl old_one
        | inr last ↦ inr (f, inl refl, here (elim last [ inl e ↦ e | inr none ↦ absurd none ]))
      ]
      | inr (g, j, is) ↦ inr (g, inr j, is)
    ]
  where
    here : p ≡ one.pick → IsPickOf new round f p
    here e = pick_of_more mid new (grown mid round found new rest) round f p
        (subst (IsPickOf mid round f) (sym e) (record { round_is = one.round_is; class_is = one.class_is; meant = one.meant }))

-- for each thing that was found there is a pick
pub pick_for : (old : OrderedEvidence) (round : ℕ) (found : List FoundEvidence) (new : OrderedEvidence) → AreWithPicks old round found new → (f : FoundEvidence) → IsIn f found
    → (p : OrderedPick) × IsIn p new.picks × IsPickOf new round f p
pick_for old round [] new h f i = absurd i
pick_for old round (g ∷ found) new (mid, one, rest) f (inl e) =
    let grows = grown mid round found new rest in
    let is : IsPickOf mid round g one.pick = record { round_is = one.round_is; class_is = one.class_is; meant = one.meant } in (
      one.pick,
      old_pick mid round found new rest one.pick (subst (IsIn one.pick) (sym one.picks) (in_append_right one.pick old.picks (one.pick ∷ []) (inl refl))),
      subst (λ (x : FoundEvidence). IsPickOf new round x one.pick) (sym e) (pick_of_more mid new grows round g one.pick is),
    )
pick_for old round (g ∷ found) new (mid, one, rest) f (inr i) = pick_for mid round found new rest f i

-- each numbering was there, or was found
pub numbering_cases : (old : OrderedEvidence) (round : ℕ) (found : List FoundEvidence) (new : OrderedEvidence) → AreWithPicks old round found new → (n : List ℕ) → IsIn n new.numberings
    → IsIn n old.numberings ⊎ ((f : FoundEvidence) × IsIn f found × (n ≡ f.evidence.numbering))
numbering_cases old round [] new h n i = inl (subst (λ (e : OrderedEvidence). IsIn n e.numberings) h i)
numbering_cases old round (f ∷ found) new (mid, one, rest) n i =
    elim (numbering_cases mid round found new rest n i) [
      | inl j ↦ elim (one.only_numbers n j) [ inl k ↦ inl k | inr e ↦ inr (f, inl refl, e) ]
      | inr (g, j, e) ↦ inr (g, inr j, e)
    ]

-- each before set was there, or was found
pub before_cases : (old : OrderedEvidence) (round : ℕ) (found : List FoundEvidence) (new : OrderedEvidence) → AreWithPicks old round found new → (set : List ℕ) → IsIn set new.befores
    → IsIn set old.befores ⊎ ((f : FoundEvidence) × IsIn f found × IsIn set f.evidence.befores)
before_cases old round [] new h set i = inl (subst (λ (e : OrderedEvidence). IsIn set e.befores) h i)
before_cases old round (f ∷ found) new (mid, one, rest) set i =
    elim (before_cases mid round found new rest set i) [
      | inl j ↦ elim (one.only_sets set j) [ inl k ↦ inl k | inr e ↦ inr (f, inl refl, e) ]
      | inr (g, j, e) ↦ inr (g, inr j, e)
    ]
