-- The pick in force for a class is one, and it means one numbering and one list of before sets.
use Rattle.std.proofs.Common.{◌≡◌, ℕ, zero, suc, List, [], ◌∷◌, Some, refl, sym, ap, ◌∙◌, subst, inl, inr, arith, ◌++◌}
use Rattle.std.specs.Prelude.{slice_get}
use Rattle.std.specs.List.{AllByRecursion, AllZip}
use Rattle.std.proofs.lemmas.Option.{same_Some, none-some}
use Rattle.net_base.specs.Members.{IsIn}
use Rattle.net_base.proofs.MemberLaws.{in_append_cases}
use Rattle.certificates.specs.Ordered.{IsPickInForce, IsMeant}
use Rattle.certificates.specs.Valid.{IsChain, IsPickBefore}
use Rattle.certificates.specs.declared.OrderedPick.{OrderedPick}
use Rattle.certificates.specs.declared.OrderedEvidence.{OrderedEvidence}
use Rattle.certificates.specs.declared.Shared.{Shared}

-- what is in order is so behind its first member
pub chain_rest : (p : OrderedPick) (picks : List OrderedPick) → IsChain IsPickBefore (p ∷ picks) → IsChain IsPickBefore picks
chain_rest p [] h = tt
chain_rest p (q ∷ picks) h = h.1

before_through : (p q r : OrderedPick) → IsPickBefore p q → IsPickBefore q r → IsPickBefore p r
before_through p q r (inl a) (inl b) = inl (omega arith)
before_through p q r (inl a) (inr b) = let e = b.0 in inl (omega arith)
before_through p q r (inr a) (inl b) = let e = a.0 in inl (omega arith)
before_through p q r (inr a) (inr b) = let e = a.0 in let f = b.0 in let g = a.1 in let h = b.1 in inr (omega arith, omega arith)

-- the first pick comes before all others
before_all : (p : OrderedPick) (picks : List OrderedPick) → IsChain IsPickBefore (p ∷ picks) → (q : OrderedPick) → IsIn q picks → IsPickBefore p q
before_all p [] h q i = absurd i
before_all p (x ∷ picks) h q (inl e) = subst (IsPickBefore p) (sym e) h.0
before_all p (x ∷ picks) h q (inr i) = before_through p x q h.0 (before_all x picks h.1 q i)

apart : (p q : OrderedPick) → IsPickBefore p q → p.round ≡ q.round → p.class ≡ q.class → ⊥
apart p q (inl less) round class = absurd (omega arith)
apart p q (inr same) round class = absurd (let less = same.1 in omega arith)

-- a round and a class have one pick
pub one_pick : (picks : List OrderedPick) → IsChain IsPickBefore picks → (p q : OrderedPick) → IsIn p picks → IsIn q picks → p.round ≡ q.round → p.class ≡ q.class → p ≡ q
one_pick [] h p q i j round class = absurd i
one_pick (x ∷ picks) h p q (inl e) (inl f) round class = e ∙ sym f
one_pick (x ∷ picks) h p q (inl e) (inr j) round class = absurd (apart p q (subst (λ (y : OrderedPick). IsPickBefore y q) (sym e) (before_all x picks h q j)) round class)
one_pick (x ∷ picks) h p q (inr i) (inl f) round class =
    absurd (apart q p (subst (λ (y : OrderedPick). IsPickBefore y p) (sym f) (before_all x picks h p i)) (sym round) (sym class))
one_pick (x ∷ picks) h p q (inr i) (inr j) round class = one_pick picks (chain_rest x picks h) p q i j round class

-- one pick is in force
pub one_in_force : (picks : List OrderedPick) → IsChain IsPickBefore picks → (round n : ℕ) (p q : OrderedPick) → IsPickInForce picks round n p → IsPickInForce picks round n q → p ≡ q
one_in_force picks h round n p q a b =
    let le = a.latest q b.stands b.of_class b.begun in
    let ge = b.latest p a.stands a.of_class a.begun in
    one_pick picks h p q a.stands b.stands (omega arith) (a.of_class ∙ sym b.of_class)

same_sets : (befores : List (List ℕ)) (indices : List ℕ) (xs ys : List (List ℕ)) → AllZip (λ i set. slice_get befores i ≡ Some set) indices xs → AllZip (λ i set. slice_get befores i ≡ Some set) indices ys → xs ≡ ys
same_sets befores [] [] [] a b = refl
same_sets befores [] [] (y ∷ ys) a b = absurd b
same_sets befores [] (x ∷ xs) ys a b = absurd a
same_sets befores (i ∷ indices) [] ys a b = absurd a
same_sets befores (i ∷ indices) (x ∷ xs) [] a b = absurd b
same_sets befores (i ∷ indices) (x ∷ xs) (y ∷ ys) a b =
    let e : x ≡ y = same_Some x y (sym a.0 ∙ b.0) in
    ap (λ (z : List ℕ). z ∷ xs) e ∙ ap (λ (zs : List (List ℕ)). y ∷ zs) (same_sets befores indices xs ys a.1 b.1)

-- a pick means one numbering and one list of sets
pub one_meaning : (e : OrderedEvidence) (p : OrderedPick) (xs ys : List ℕ) (us vs : List (List ℕ)) → IsMeant e p xs us → IsMeant e p ys vs → (xs ≡ ys) × (us ≡ vs)
one_meaning e p xs ys us vs a b =
    let used : a.use_ ≡ b.use_ = same_Some a.use_ b.use_ (sym a.use_is ∙ b.use_is) in (
      same_Some xs ys (sym a.numbers_are ∙ ap (λ (u : Shared). slice_get e.numberings u.numbering) used ∙ b.numbers_are),
      same_sets e.befores b.use_.befores us vs (subst (λ (u : Shared). AllZip (λ i set. slice_get e.befores i ≡ Some set) u.befores us) used a.sets_are) b.sets_are,
    )

-- what holds of each member holds of the one at a place
pub at_place : {A : Type 0} (P : A → Type 0) (xs : List A) (i : ℕ) (x : A) → AllByRecursion P xs → slice_get xs i ≡ Some x → P x
at_place P [] i x h is = absurd (none-some x is)
at_place P (y ∷ xs) zero x h is = subst P (same_Some y x is) h.0
at_place P (y ∷ xs) (suc i) x h is = at_place P xs i x h.1 is

-- one more pick is of its class alone
pub other_class : (front : List OrderedPick) (p other : OrderedPick) (n : ℕ) → ¬ (n ≡ p.class) → other.class ≡ n → IsIn other (front ++ p ∷ []) → IsIn other front
other_class front p other n ne of_class i =
    elim (in_append_cases other front (p ∷ []) i) [
      | inl j ↦ j
      | inr j ↦ absurd (elim j [ inl e ↦ ne (sym of_class ∙ ap (λ (q : OrderedPick). q.class) e) | inr none ↦ none ])
    ]
