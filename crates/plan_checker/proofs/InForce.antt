-- One pick is in force for a round and a class, and it means one thing.
use Rattle.std.proofs.Common.{◌≡◌, ◌⊎◌, ℕ, ◌<◌, List, [], ◌∷◌, refl, sym, ◌∙◌, subst, ap, inl, inr, arith}
use Rattle.std.specs.Prelude.{slice_get, Some}
use Rattle.std.specs.List.{AllByRecursion, AllZip}
use Rattle.std.proofs.lemmas.Option.{same_Some}
use Rattle.net_base.specs.Members.{IsIn}
use Rattle.net_base.proofs.MemberLaws.{each_weaker, each_at}
use Rattle.certificates.specs.Ordered.{IsPickInForce, IsMeant}
use Rattle.certificates.specs.TwoPhase.{IsLabelPickInForce}
use Rattle.certificates.specs.Valid.{IsChain, IsPickBefore}
use Rattle.certificates.specs.declared.OrderedPick.{OrderedPick}
use Rattle.certificates.specs.declared.OrderedEvidence.{OrderedEvidence}
use Rattle.certificates.specs.declared.LabelPick.{LabelPick}

module _ {A : Type 0} (below : A → A → Type 0) (through : (x y z : A) → below x y → below y z → below x z) where
  chain_head : (x : A) (xs : List A) → IsChain below (x ∷ xs) → AllByRecursion (below x) xs
  chain_head x [] chain = tt
  chain_head x (y ∷ ys) chain = (chain.0, each_weaker (below y) (below x) (λ z h. through x y z chain.0 h) ys (chain_head y ys chain.1))

  chain_tail : (x : A) (xs : List A) → IsChain below (x ∷ xs) → IsChain below xs
  chain_tail x [] chain = tt
  chain_tail x (y ∷ ys) chain = chain.1

  -- of two members of an ascending list one is below the other, or they are the same
  pub chain_order : (xs : List A) → IsChain below xs → (p q : A) → IsIn p xs → IsIn q xs → (p ≡ q) ⊎ (below p q ⊎ below q p)
  chain_order [] chain p q i j = absurd i
  chain_order (x ∷ xs) chain p q (inl a) (inl b) = inl (a ∙ sym b)
  chain_order (x ∷ xs) chain p q (inl a) (inr j) = inr (inl (subst (λ w. below w q) (sym a) (each_at (below x) xs q (chain_head x xs chain) j)))
  chain_order (x ∷ xs) chain p q (inr i) (inl b) = inr (inr (subst (λ w. below w p) (sym b) (each_at (below x) xs p (chain_head x xs chain) i)))
  chain_order (x ∷ xs) chain p q (inr i) (inr j) = chain_order xs (chain_tail x xs chain) p q i j

pick_through : (x y z : OrderedPick) → IsPickBefore x y → IsPickBefore y z → IsPickBefore x z
pick_through x y z (inl a) (inl b) = inl (omega arith)
pick_through x y z (inl a) (inr b) = let e = b.0 in inl (omega arith)
pick_through x y z (inr a) (inl b) = let e = a.0 in inl (omega arith)
pick_through x y z (inr a) (inr b) = let f = a.1 in let g = b.1 in inr (a.0 ∙ b.0, omega arith)

not_before : (x y : OrderedPick) → x.round ≡ y.round → x.class ≡ y.class → ¬ IsPickBefore x y
not_before x y round class (inl h) = omega arith
not_before x y round class (inr h) = let f = h.1 in omega arith

-- one pick is in force for a round and a class
pub one_pick : (picks : List OrderedPick) → IsChain IsPickBefore picks → (round n : ℕ) (p q : OrderedPick)
    → IsPickInForce picks round n p → IsPickInForce picks round n q → p ≡ q
one_pick picks chain round n p q first second =
    let le = first.latest q second.stands second.of_class second.begun in
    let ge = second.latest p first.stands first.of_class first.begun in
    let rounds : p.round ≡ q.round = omega arith in
    let classes : p.class ≡ q.class = first.of_class ∙ sym second.of_class in
    elim (chain_order IsPickBefore pick_through picks chain p q first.stands second.stands) [
      | inl e ↦ e
      | inr (inl h) ↦ absurd (not_before p q rounds classes h)
      | inr (inr h) ↦ absurd (not_before q p (sym rounds) (sym classes) h)
    ]

-- one pick of a label table is in force for a round
pub one_label_pick : (picks : List LabelPick) → IsChain (λ p q. p.round < q.round) picks → (round : ℕ) (p q : LabelPick)
    → IsLabelPickInForce picks round p → IsLabelPickInForce picks round q → p ≡ q
one_label_pick picks chain round p q first second =
    let le = first.latest q second.stands second.begun in
    let ge = second.latest p first.stands first.begun in
    elim (chain_order (λ (x y : LabelPick). x.round < y.round) (λ x y z a b. omega arith) picks chain p q first.stands second.stands) [
      | inl e ↦ e
      | inr (inl h) ↦ absurd (omega arith)
      | inr (inr h) ↦ absurd (omega arith)
    ]

-- lists of what indices mean are one
zip_one : {A : Type 0} (all : List A) (is : List ℕ) (xs ys : List A) → AllZip (λ i x. slice_get all i ≡ Some x) is xs → AllZip (λ i x. slice_get all i ≡ Some x) is ys → xs ≡ ys
zip_one all [] [] [] h k = refl
zip_one all [] [] (y ∷ ys) h k = absurd k
zip_one all [] (x ∷ xs) ys h k = absurd h
zip_one all (i ∷ is) [] ys h k = absurd h
zip_one all (i ∷ is) (x ∷ xs) [] h k = absurd k
zip_one all (i ∷ is) (x ∷ xs) (y ∷ ys) h k =
    let first : x ≡ y = same_Some x y (sym h.0 ∙ k.0) in
    let rest : xs ≡ ys = zip_one all is xs ys h.1 k.1 in
    cc

-- a pick means one thing
pub one_meaning : (e : OrderedEvidence) (pick : OrderedPick) (numbers others : List ℕ) (sets sets_too : List (List ℕ))
    → IsMeant e pick numbers sets → IsMeant e pick others sets_too → (numbers ≡ others) × (sets ≡ sets_too)
one_meaning e pick numbers others sets sets_too first second =
    let uses = same_Some first.use_ second.use_ (sym first.use_is ∙ second.use_is) in (
      same_Some numbers others (sym first.numbers_are ∙ ap (λ u. slice_get e.numberings u.numbering) uses ∙ second.numbers_are),
      zip_one e.befores second.use_.befores sets sets_too (subst (λ u. AllZip (λ i set. slice_get e.befores i ≡ Some set) u.befores sets) uses first.sets_are) second.sets_are,
    )
