-- There is no more evidence than picks may stand.
use Rattle.std.proofs.Common.{◌≡◌, ℕ, ◌+◌, ◌*◌, ◌≤◌, Bool, true, false, List, [], ◌∷◌, ◌++◌, length, Result, Ok, Err, refl, sym, ap, ◌∙◌, arith, length-append}
use Rattle.std.specs.Prelude.{min, not, ◌||◌, ◌&&◌, ◌==◌, nat_lt, MatchResult, OnOk, if◌then◌else◌, ⊤}
use Rattle.std.specs.List.{list_any}
use Rattle.std.proofs.lemmas.Bool.{and_parts, ltb-true, eqb-true}
use Rattle.std.proofs.lemmas.List.Sums.{prefix_len-le-length}
use Rattle.net_base.specs.Reading.{◌>>=◌, check, Fails}
use Rattle.net_base.proofs.Turns.{ok_is}
use Rattle.certificates.specs.declared.Shared.{Shared}
use Rattle.certificates.specs.declared.OrderedPick.{OrderedPick}
use Rattle.plan_format.specs.Evidence.{follows, pick_before, picks_with, shared_eq, with_shared, number_of_shared}
use Rattle.plan_format.specs.FewPicks.{rank_of, HasFew}
use Rattle.plan_format.specs.declared.picks.PickTable.{PickTable}
use Rattle.plan_format.specs.declared.fault.PlanFault.{PlanFault}
use Rattle.plan_format.specs.declared.fault.PlanFault.TheVariants.{Memory, BadIndex}

rank_push : (ps : List OrderedPick) (p : OrderedPick) → rank_of (ps ++ p ∷ []) ≡ p.round * 8192 + min p.class 8191 + 1
rank_push [] p = refl
rank_push (q ∷ []) p = refl
rank_push (q ∷ r ∷ ps) p = rank_push (r ∷ ps) p

later : (q p : OrderedPick) → p.class ≤ 8191 → pick_before q p ≡ true → q.round * 8192 + min q.class 8191 + 1 ≤ p.round * 8192 + p.class
later q p low is = by (nat_lt q.round p.round) refl is
  where
    by : (b : Bool) → nat_lt q.round p.round ≡ b → (b || (q.round == p.round && nat_lt q.class p.class)) ≡ true → q.round * 8192 + min q.class 8191 + 1 ≤ p.round * 8192 + p.class
    by true lt h = let r = ltb-true q.round p.round lt in omega (arith, r)
    by false ge h =
        let parts = and_parts (q.round == p.round) (nat_lt q.class p.class) h in
        let same = eqb-true q.round p.round parts.0 in
        let less = ltb-true q.class p.class parts.1 in
        omega (arith, same, less, low)

rank_before : (ps : List OrderedPick) (p : OrderedPick) → p.class ≤ 8191 → follows pick_before ps p ≡ true → rank_of ps ≤ p.round * 8192 + p.class
rank_before [] p low is = omega arith
rank_before (q ∷ []) p low is = later q p low is
rank_before (q ∷ r ∷ ps) p low is = rank_before (r ∷ ps) p low is

one_more : (uses : List Shared) (s : Shared) → length (with_shared uses s) ≤ length uses + 1
one_more uses s = by (list_any (shared_eq s) uses)
  where
    by : (b : Bool) → length (if b then uses else uses ++ s ∷ []) ≤ length uses + 1
    by true = omega arith
    by false = omega (arith, length-append uses (s ∷ []))

-- the number of evidence has room in 32 bits
pub number_fits : (t : PickTable) (s : Shared) → HasFew t → number_of_shared t.uses s ≤ 34414592
number_fits t s few = let within = prefix_len-le-length (λ x. not (shared_eq s x)) t.uses in omega (arith, within, few.uses, few.picks)

picks_follow : (place : ℕ) (ps qs : List OrderedPick) (p : OrderedPick) → picks_with place ps p ≡ Ok qs → (follows pick_before ps p ≡ true) × (ps ++ p ∷ [] ≡ qs)
unfolding picks_with
picks_follow place ps qs p e = by (follows pick_before ps p) refl e
  where
    by : (b : Bool) → follows pick_before ps p ≡ b → (check b (BadIndex place) >>= λ _. Ok (ps ++ p ∷ [])) ≡ Ok qs → (follows pick_before ps p ≡ true) × (ps ++ p ∷ [] ≡ qs)
    by true is e = (is, ok_is {E = PlanFault} (ps ++ p ∷ []) qs e)
    by false is e = absurd cc

-- what a pick with its evidence keeps
pub few_still : (place : ℕ) (t : PickTable) (s : Shared) (uses : List Shared) (picks : List OrderedPick) (p : OrderedPick) (r : Result ⊤ PlanFault)
    → HasFew t → p.round ≤ 4200 → p.class ≤ 8191 → uses ≡ with_shared t.uses s
    → MatchResult r (λ _. picks_with place t.picks p ≡ Ok picks) (λ e. Fails Memory e (picks_with place t.picks p)) → OnOk r (HasFew (record { uses = uses; picks = picks }))
few_still place t s uses picks p (Err e) few round class is read = tt
few_still place t s uses picks p (Ok x) few round class is read =
    let (next, made) = picks_follow place t.picks picks p read in
    let before = rank_before t.picks p class next in
    let now : rank_of picks ≡ p.round * 8192 + min p.class 8191 + 1 = ap rank_of (sym made) ∙ rank_push t.picks p in
    let more = one_more t.uses s in
    let count : length uses ≡ length (with_shared t.uses s) = ap length is in
    record { uses = omega (arith, now, more, count, before, few.uses, class); picks = omega (arith, now, round, class) }
