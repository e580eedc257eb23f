-- Whether picks stand at waits.
use Rattle.std.proofs.Common.{◌≡◌, ◌⊎◌, ℕ, ◌+◌, ◌≤◌, Bool, true, false, cond, List, [], ◌∷◌, Some, None, refl, sym, ap, ◌∙◌, inl, inr}
use Rattle.std.specs.Prelude.{◌==◌, ◌||◌, not, nat_le}
use Rattle.std.specs.List.{AllByRecursion, list_any, position_from}
use Rattle.std.proofs.lemmas.Bool.{eqb-true, eq-eqb, leb-true, le-leb, or_left, or_right}
use Rattle.std.proofs.lemmas.Iterator.Adapters.{position_from-zero}
use Rattle.net_base.specs.Members.{IsIn}
use Rattle.net_base.proofs.MemberLaws.{each_weaker}
use Rattle.certificates.specs.declared.OrderedPick.{OrderedPick}
use Rattle.certificates.specs.declared.Evidence.{Evidence}
use Rattle.certificates.specs.declared.Evidence.TheVariants.{Ordered, TwoPhase}
use Rattle.plan_waits.specs.Waits.{is_astray, first_astray}
use Rattle.plan_waits.specs.PlanWaits.{PicksAreAtWaits}

-- ---- numbers

in_from_any : (x : ℕ) (ws : List ℕ) → list_any (λ w. w == x) ws ≡ true → IsIn x ws
in_from_any x [] e = absurd cc
in_from_any x (w ∷ ws) e = by (w == x) refl e (in_from_any x ws)
  where
    by : (b : Bool) → (w == x) ≡ b → (b || list_any (λ w. w == x) ws) ≡ true → (list_any (λ w. w == x) ws ≡ true → IsIn x ws) → IsIn x (w ∷ ws)
    by true is e rest = inl (sym (eqb-true w x is))
    by false is e rest = inr (rest e)

any_from_in : (x : ℕ) (ws : List ℕ) → IsIn x ws → list_any (λ w. w == x) ws ≡ true
any_from_in x [] i = absurd i
any_from_in x (w ∷ ws) (inl e) = or_left (w == x) (list_any (λ w. w == x) ws) (eq-eqb w x (sym e))
any_from_in x (w ∷ ws) (inr i) = or_right (w == x) (list_any (λ w. w == x) ws) (any_from_in x ws i)

-- ---- one pick

abbrev IsAtWait : List ℕ → OrderedPick → Type 0
IsAtWait waits p = (p.round ≤ 1) ⊎ IsIn p.round waits

not_astray : (waits : List ℕ) (p : OrderedPick) → is_astray waits p ≡ false → IsAtWait waits p
not_astray waits p e = by (nat_le p.round 1) (list_any (λ w. w == p.round) waits) refl refl e
  where
    by : (a b : Bool) → nat_le p.round 1 ≡ a → list_any (λ w. w == p.round) waits ≡ b → not (a || b) ≡ false → IsAtWait waits p
    by true b first wait e = inl (leb-true p.round 1 first)
    by false true first wait e = inr (in_from_any p.round waits wait)
    by false false first wait e = absurd cc

at_wait : (waits : List ℕ) (p : OrderedPick) → IsAtWait waits p → is_astray waits p ≡ false
at_wait waits p (inl first) = ap not (or_left (nat_le p.round 1) (list_any (λ w. w == p.round) waits) (le-leb p.round 1 first))
at_wait waits p (inr wait) = ap not (or_right (nat_le p.round 1) (list_any (λ w. w == p.round) waits) (any_from_in p.round waits wait))

-- ---- all picks

module _ {X : Type 0} (p : X → Bool) where
  none_passes : (i : ℕ) (xs : List X) → position_from p i xs ≡ None → AllByRecursion (λ x. p x ≡ false) xs
  none_passes i [] e = tt
  none_passes i (x ∷ xs) e = by (p x) refl e (none_passes (i + 1) xs)
    where
      by : (b : Bool) → p x ≡ b → cond b (Some i) (position_from p (i + 1) xs) ≡ None → (position_from p (i + 1) xs ≡ None → AllByRecursion (λ y. p y ≡ false) xs) → AllByRecursion (λ y. p y ≡ false) (x ∷ xs)
      by true is e rest = absurd cc
      by false is e rest = (is, rest e)

  no_place : (i : ℕ) (xs : List X) → AllByRecursion (λ x. p x ≡ false) xs → position_from p i xs ≡ None
  no_place i [] h = refl
  no_place i (x ∷ xs) h = rw h.0 (no_place (i + 1) xs h.1)

-- where no pick stands astray, each stands at a wait
pub stand_at_waits : (waits : List ℕ) (e : Evidence) → first_astray waits e ≡ None → PicksAreAtWaits waits e
stand_at_waits waits (Ordered e) none =
    let each = none_passes (is_astray waits) 0 e.picks (sym (position_from-zero (is_astray waits) e.picks) ∙ none) in
    each_weaker (λ p. is_astray waits p ≡ false) (IsAtWait waits) (not_astray waits) e.picks each
stand_at_waits waits (TwoPhase e) none = tt

pub none_astray : (waits : List ℕ) (e : Evidence) → PicksAreAtWaits waits e → first_astray waits e ≡ None
none_astray waits (Ordered e) each =
    position_from-zero (is_astray waits) e.picks ∙ no_place (is_astray waits) 0 e.picks (each_weaker (IsAtWait waits) (λ p. is_astray waits p ≡ false) (at_wait waits) e.picks each)
none_astray waits (TwoPhase e) each = refl
