-- The picks that were taken up, and the one that is in force for a class.
use Rattle.std.proofs.Common.{◌≡◌, ℕ, zero, suc, ◌+◌, ◌<◌, ◌≤◌, List, [], ◌∷◌, ◌++◌, length, get_or, set, take, drop, replicate, Option, Some, None, refl, sym, ap, ◌∙◌, subst, inl, inr, arith}
use Rattle.std.specs.Prelude.{slice_get}
use Rattle.std.specs.List.{AllByRecursion}
use Rattle.std.proofs.lemmas.Bool.{cases_eq}
use Rattle.std.proofs.lemmas.List.{take_more, take-append-drop}
use Rattle.net_base.specs.Members.{IsIn}
use Rattle.net_base.proofs.MemberLaws.{each_at, each_weaker, each_append, in_append_left, in_append_right, in_append_cases}
use Rattle.certificates.proofs.Chains.{all_at}
use Rattle.certificates.specs.Valid.{IsChain, IsPickBefore}
use Rattle.certificates.specs.declared.OrderedPick.{OrderedPick}
use Rattle.certificates.proofs.PickLaws.{chain_rest, other_class}
use Rattle.check_reasons.proofs.PositionLaws.{get_replicate, get_set_same, get_set_other}
use Rattle.ordered_check.specs.Picks.{PicksState, PicksStand, IsKeptPick}

-- ---- picks in order

no_later : (p q : OrderedPick) → IsPickBefore p q → p.round ≤ q.round
no_later p q (inl less) = omega arith
no_later p q (inr same) = let e = same.0 in omega arith

-- no pick after the first has a lower round
rounds_up : (p : OrderedPick) (picks : List OrderedPick) → IsChain IsPickBefore (p ∷ picks) → AllByRecursion (λ q. p.round ≤ q.round) picks
rounds_up p [] h = tt
rounds_up p (q ∷ picks) h =
    let le : p.round ≤ q.round = no_later p q h.0 in
    (le, each_weaker (λ (x : OrderedPick). q.round ≤ x.round) (λ (x : OrderedPick). p.round ≤ x.round) (λ x less. omega arith) picks (rounds_up q picks h.1))

pub front_begun : (picks : List OrderedPick) (i : ℕ) (d : OrderedPick) → i < length picks → IsChain IsPickBefore picks → AllByRecursion (λ q. q.round ≤ (get_or picks i d).round) (take i picks)
front_begun [] i d lt h = absurd (omega arith)
front_begun (p ∷ picks) zero d lt h = tt
front_begun (p ∷ picks) (suc i) d lt h =
    (all_at (λ (q : OrderedPick). p.round ≤ q.round) picks i d (omega arith) (rounds_up p picks h), front_begun picks i d (omega arith) (chain_rest p picks h))

pub back_later : (round : ℕ) (picks : List OrderedPick) (i : ℕ) (d : OrderedPick) → i < length picks → IsChain IsPickBefore picks → round < (get_or picks i d).round → AllByRecursion (λ q. round < q.round) (drop i picks)
back_later round [] i d lt h late = absurd (omega arith)
back_later round (p ∷ picks) zero d lt h late =
    (late, each_weaker (λ (q : OrderedPick). p.round ≤ q.round) (λ (q : OrderedPick). round < q.round) (λ q le. omega arith) picks (rounds_up p picks h))
back_later round (p ∷ picks) (suc i) d lt h late = back_later round picks i d (omega arith) (chain_rest p picks h) late

-- ---- the last pick of a class

pub record IsLatest (picks : List OrderedPick) (n : ℕ) (pick : OrderedPick) : Type 0 where
  pub stands : IsIn pick picks
  pub of_class : pick.class ≡ n
  pub latest : (other : OrderedPick) → IsIn other picks → other.class ≡ n → other.round ≤ pick.round

-- the pick of a class that has the greatest round; none where the class has no pick
abbrev pub IsLatestPick : List OrderedPick → ℕ → Option OrderedPick → Type 0
IsLatestPick picks n None = (pick : OrderedPick) → IsIn pick picks → ¬ (pick.class ≡ n)
IsLatestPick picks n (Some pick) = IsLatest picks n pick

-- each class has its own
abbrev pub AreKept : List OrderedPick → List (Option OrderedPick) → Type 0
AreKept picks of_class = (n : ℕ) (kept : Option OrderedPick) → slice_get of_class n ≡ Some kept → IsLatestPick picks n kept

module _ (front : List OrderedPick) (p : OrderedPick) where
  here_latest : AllByRecursion (λ q. q.round ≤ p.round) front → IsLatest (front ++ p ∷ []) p.class p
  here_latest begun = record {
    stands = in_append_right p front (p ∷ []) (inl refl);
    of_class = refl;
    latest = λ other i same.
        elim (in_append_cases other front (p ∷ []) i) [
          | inl j ↦ each_at (λ (q : OrderedPick). q.round ≤ p.round) front other begun j
          | inr j ↦ last_one other j
        ];
  }
    where
      last_one : (other : OrderedPick) → IsIn other (p ∷ []) → other.round ≤ p.round
      last_one other (inl e) = let f : other.round ≡ p.round = ap (λ (q : OrderedPick). q.round) e in omega arith
      last_one other (inr none) = absurd none

  -- a pick of another class changes nothing
  still_latest : (n : ℕ) (kept : Option OrderedPick) → ¬ (n ≡ p.class) → IsLatestPick front n kept → IsLatestPick (front ++ p ∷ []) n kept
  still_latest n None ne h = λ pick i of_class. h pick (other_class front p pick n ne of_class i) of_class
  still_latest n (Some pick) ne h = record {
    stands = in_append_left pick front (p ∷ []) h.stands;
    of_class = h.of_class;
    latest = λ other i same. h.latest other (other_class front p other n ne same i) same;
  }

  -- one more pick, noted for its class
  pub kept_more : (of_class : List (Option OrderedPick)) → AllByRecursion (λ q. q.round ≤ p.round) front → AreKept front of_class → AreKept (front ++ p ∷ []) (set of_class p.class (Some p))
  kept_more of_class begun h n kept is =
      elim (cases_eq n p.class) [
        | inl same ↦ subst (λ (m : ℕ). IsLatestPick (front ++ p ∷ []) m kept) (sym same)
            (subst (IsLatestPick (front ++ p ∷ []) p.class) (get_set_same of_class p.class (Some p) kept (subst (λ (m : ℕ). slice_get (set of_class p.class (Some p)) m ≡ Some kept) same is)) (here_latest begun))
        | inr ne ↦ still_latest n kept ne (h n kept (sym (get_set_other of_class p.class n (Some p) ne) ∙ is))
      ]

-- ---- the pick in force

module _ (round : ℕ) (front back : List OrderedPick) (begun : AllByRecursion (λ p. p.round ≤ round) front) (later : AllByRecursion (λ p. round < p.round) back) where
  in_front : (pick : OrderedPick) → pick.round ≤ round → IsIn pick (front ++ back) → IsIn pick front
  in_front pick le i =
      elim (in_append_cases pick front back i) [
        | inl j ↦ j
        | inr j ↦ absurd (let less = each_at (λ (p : OrderedPick). round < p.round) back pick later j in omega arith)
      ]

  begun_at : (pick : OrderedPick) → IsIn pick front → pick.round ≤ round
  begun_at pick i = each_at (λ (p : OrderedPick). p.round ≤ round) front pick begun i

  kept_from_latest_in : (n : ℕ) (kept : Option OrderedPick) → IsLatestPick front n kept → IsKeptPick (front ++ back) round n kept
  kept_from_latest_in n None h = λ pick i of_class le. h pick (in_front pick le i) of_class
  kept_from_latest_in n (Some pick) h = record {
    stands = in_append_left pick front back h.stands;
    of_class = h.of_class;
    begun = begun_at pick h.stands;
    latest = λ other i same le. h.latest other (in_front other le i) same;
  }

  latest_from_kept_in : (n : ℕ) (kept : Option OrderedPick) → IsKeptPick (front ++ back) round n kept → IsLatestPick front n kept
  latest_from_kept_in n None h = λ pick i of_class. h pick (in_append_left pick front back i) of_class (begun_at pick i)
  latest_from_kept_in n (Some pick) force = record {
    stands = in_front pick force.begun force.stands;
    of_class = force.of_class;
    latest = λ other i same. force.latest other (in_append_left other front back i) same (begun_at other i);
  }

module _ (picks : List OrderedPick) (round next : ℕ) (begun : AllByRecursion (λ p. p.round ≤ round) (take next picks)) (later : AllByRecursion (λ p. round < p.round) (drop next picks)) where
  pub kept_from_latest : (n : ℕ) (kept : Option OrderedPick) → IsLatestPick (take next picks) n kept → IsKeptPick picks round n kept
  kept_from_latest n kept h =
      subst (λ (ps : List OrderedPick). IsKeptPick ps round n kept) (take-append-drop next picks) (kept_from_latest_in round (take next picks) (drop next picks) begun later n kept h)

  pub latest_from_kept : (n : ℕ) (kept : Option OrderedPick) → IsKeptPick picks round n kept → IsLatestPick (take next picks) n kept
  latest_from_kept n kept h =
      latest_from_kept_in round (take next picks) (drop next picks) begun later n kept (subst (λ (ps : List OrderedPick). IsKeptPick ps round n kept) (sym (take-append-drop next picks)) h)

-- the picks taken up, with one more
pub record AreTaken (picks : List OrderedPick) (round next : ℕ) (of_class : List (Option OrderedPick)) : Type 0 where
  pub within : next ≤ length picks
  pub begun : AllByRecursion (λ p. p.round ≤ round) (take next picks)
  pub kept : AreKept (take next picks) of_class

pub taken_more : (picks : List OrderedPick) (round next : ℕ) (of_class : List (Option OrderedPick)) (p d : OrderedPick) → IsChain IsPickBefore picks → next < length picks → p ≡ get_or picks next d → p.round ≤ round
    → AreTaken picks round next of_class → AreTaken picks round (next + 1) (set of_class p.class (Some p))
taken_more picks round next of_class p d chain lt is le taken =
    let more : take (next + 1) picks ≡ take next picks ++ p ∷ [] = take_more picks next d lt ∙ ap (λ (x : OrderedPick). take next picks ++ x ∷ []) (sym is) in
    let front = subst (λ (x : OrderedPick). AllByRecursion (λ (q : OrderedPick). q.round ≤ x.round) (take next picks)) (sym is) (front_begun picks next d lt chain) in
    record {
      within = omega arith;
      begun = subst (AllByRecursion (λ (q : OrderedPick). q.round ≤ round)) (sym more) (each_append (λ (q : OrderedPick). q.round ≤ round) (take next picks) (p ∷ []) taken.begun (le, tt));
      kept = subst (λ (ps : List OrderedPick). AreKept ps (set of_class p.class (Some p))) (sym more) (kept_more (take next picks) p of_class front taken.kept);
    }

-- before the first round no pick is in force
pub none_begun : (picks : List OrderedPick) (state : PicksState) (count : ℕ) → AllByRecursion (λ p. 1 ≤ p.round) picks → state.next ≡ 0 → state.of_class ≡ replicate count None → PicksStand picks 0 state
none_begun picks state count positive next none = record {
  within = omega arith;
  begun = subst (λ (n : ℕ). AllByRecursion (λ p. p.round ≤ 0) (take n picks)) (sym next) tt;
  later = subst (λ (n : ℕ). AllByRecursion (λ p. 0 < p.round) (drop n picks)) (sym next)
      (each_weaker (λ (p : OrderedPick). 1 ≤ p.round) (λ (p : OrderedPick). 0 < p.round) (λ p h. omega arith) picks positive);
  each = λ n kept is.
      subst (IsKeptPick picks 0 n) (get_replicate count n None kept (ap (λ (xs : List (Option OrderedPick)). slice_get xs n) (sym none) ∙ is))
      (λ pick i of_class. let some = each_at (λ (p : OrderedPick). 1 ≤ p.round) picks pick positive i in λ le. omega arith);
}
