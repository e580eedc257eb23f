-- The use in force of each class, and one pick more.
use Rattle.std.proofs.Common.{◌≡◌, ◌≢◌, ℕ, ◌<◌, ◌≤◌, List, [], ◌∷◌, ◌++◌, length, get_or, set, replicate, Option, Some, None, refl, sym, ap, ◌∙◌, subst, inl, inr, arith}
use Rattle.std.specs.Prelude.{slice_get, IfSome, IfNone}
use Rattle.std.specs.List.{AllByRecursion}
use Rattle.std.proofs.lemmas.Bool.{cases_eq}
use Rattle.std.proofs.lemmas.Option.{slice_get_read}
use Rattle.net_base.specs.Members.{IsIn}
use Rattle.net_base.proofs.MemberLaws.{each_at, each_weaker, in_append_left, in_append_right, in_append_cases}
use Rattle.certificates.specs.Ordered.{IsPickInForce}
use Rattle.certificates.specs.Valid.{IsPickBefore}
use Rattle.certificates.specs.declared.OrderedPick.{OrderedPick}
use Rattle.certificates.proofs.PickLaws.{other_class}
use Rattle.check_reasons.proofs.PositionLaws.{get_replicate, get_set_same, get_set_other}
use Rattle.evidence_store.specs.State.{IsLatest, IsUseInForce, AreInForce}

module _ (front : List OrderedPick) (p : OrderedPick) where
  here_latest : AllByRecursion (λ q. q.round ≤ p.round) front → IsLatest (front ++ p ∷ []) p.class p.shared
  here_latest begun = record {
    pick = p;
    stands = in_append_right p front (p ∷ []) (inl refl);
    of_class = refl;
    latest = λ other i same.
        elim (in_append_cases other front (p ∷ []) i) [
          | inl j ↦ each_at (λ (q : OrderedPick). q.round ≤ p.round) front other begun j
          | inr j ↦ last_one other j
        ];
    shared_is = refl;
  }
    where
      last_one : (other : OrderedPick) → IsIn other (p ∷ []) → other.round ≤ p.round
      last_one other (inl e) = let f : other.round ≡ p.round = ap (λ (q : OrderedPick). q.round) e in omega arith
      last_one other (inr none) = absurd none

  -- a pick of another class changes nothing
  still_in_force : (n : ℕ) (use_ : Option ℕ) → ¬ (n ≡ p.class) → IsUseInForce front n use_ → IsUseInForce (front ++ p ∷ []) n use_
  still_in_force n None ne h = λ pick i of_class. h pick (other_class front p pick n ne of_class i) of_class
  still_in_force n (Some use_) ne h = record {
    pick = h.pick;
    stands = in_append_left h.pick front (p ∷ []) h.stands;
    of_class = h.of_class;
    latest = λ other i same. h.latest other (other_class front p other n ne same i) same;
    shared_is = h.shared_is;
  }

  noted : (uses : List (Option ℕ)) → AllByRecursion (λ q. q.round ≤ p.round) front → AreInForce front uses → AreInForce (front ++ p ∷ []) (set uses p.class (Some p.shared))
  noted uses begun h n use_ is =
      elim (cases_eq n p.class) [
        | inl same ↦ subst (λ (m : ℕ). IsUseInForce (front ++ p ∷ []) m use_) (sym same)
            (subst (IsUseInForce (front ++ p ∷ []) p.class) (get_set_same uses p.class (Some p.shared) use_ (subst (λ (m : ℕ). slice_get (set uses p.class (Some p.shared)) m ≡ Some use_) same is)) (here_latest begun))
        | inr ne ↦ still_in_force n use_ ne (h n use_ (sym (get_set_other uses p.class n (Some p.shared) ne) ∙ is))
      ]

no_later : (p q : OrderedPick) → IsPickBefore q p → q.round ≤ p.round
no_later p q (inl less) = omega arith
no_later p q (inr same) = let e = same.0 in omega arith

-- one more pick behind all others, noted for its class
pub in_force_more : (front picks : List OrderedPick) (p : OrderedPick) (uses : List (Option ℕ)) → picks ≡ front ++ p ∷ [] → AllByRecursion (λ q. IsPickBefore q p) front → AreInForce front uses
    → AreInForce picks (set uses p.class (Some p.shared))
in_force_more front picks p uses more behind h =
    subst (λ (ps : List OrderedPick). AreInForce ps (set uses p.class (Some p.shared))) (sym more)
    (noted front p uses (each_weaker (λ (q : OrderedPick). IsPickBefore q p) (λ (q : OrderedPick). q.round ≤ p.round) (no_later p) front behind) h)

-- without picks no use is in force
pub none_in_force : (count : ℕ) → AreInForce [] (replicate count None)
none_in_force count n use_ is = subst (IsUseInForce [] n) (get_replicate count n None use_ is) (λ pick i _. i)

-- what a use in force says of the picks
pub no_pick : (picks : List OrderedPick) (class : ℕ) (use_ : Option ℕ) → IsUseInForce picks class use_ → IfNone use_ ((pick : OrderedPick) → IsIn pick picks → pick.class ≢ class)
no_pick picks class None h = h
no_pick picks class (Some use_) h = tt

pub pick_in_force : (picks : List OrderedPick) (class : ℕ) (use_ : Option ℕ) → IsUseInForce picks class use_
    → IfSome use_ (λ use_. (round : ℕ) → AllByRecursion (λ p. p.round ≤ round) picks → (pick : OrderedPick) × IsPickInForce picks round class pick × (pick.shared ≡ use_))
pick_in_force picks class None h = tt
pick_in_force picks class (Some use_) h = λ round begun. (
  h.pick,
  record {
    stands = h.stands;
    of_class = h.of_class;
    begun = each_at (λ (p : OrderedPick). p.round ≤ round) picks h.pick begun h.stands;
    latest = λ other i same _. h.latest other i same;
  },
  h.shared_is,
)

-- the use in force of a class, by its place
pub in_force_at : (picks : List OrderedPick) (uses : List (Option ℕ)) (class : ℕ) (use_ : Option ℕ) → class < length uses → use_ ≡ get_or uses class use_ → AreInForce picks uses → IsUseInForce picks class use_
in_force_at picks uses class use_ within is h = h class use_ (slice_get_read uses (length uses) class use_ refl within is)
