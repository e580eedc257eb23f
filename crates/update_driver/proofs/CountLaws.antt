-- At most as many switches have a change in a round as it has changes: so xids never begin again.
use Rattle.std.proofs.Common.{◌≡◌, ℕ, zero, suc, ◌+◌, ◌<◌, ◌≤◌, Bool, true, false, cond, eqb, ◌||◌, List, [], ◌∷◌, ◌++◌, length, map, take, refl, sym, ap, ◌∙◌, subst, inl, inr, length-append, arith}
use Rattle.std.specs.Prelude.{filter, sum_by}
use Rattle.std.specs.List.{range_with_len}
use Rattle.std.proofs.lemmas.Bool.{cases_Bool, eqb-true, ne_eqb}
use Rattle.std.proofs.lemmas.List.{length-map, length-take-le, take_more}
use Rattle.std.proofs.lemmas.List.Sums.{sum_by-cons}
use Rattle.net_base.specs.declared.ids.SwitchId.{SwitchId}
use Rattle.topology.specs.Networks.{Network, switch_count}
use Rattle.update_model.specs.Changes.{switch_of, round_after}
use Rattle.update_model.specs.declared.Change.{Change}
use Rattle.round_messages.specs.Requests.{is_changed, switch_numbered, switches_changed, change_request, barrier_request, round_requests, requests_from, first_xid}
use Rattle.round_messages.proofs.Requests.{requests_from-push}

-- the switches from number n on, so many
abbrev numbered : ℕ → ℕ → List SwitchId
numbered n m = map switch_numbered (range_with_len n m)

none_behind : (t n m : ℕ) → t < n → length (filter (λ (s : SwitchId). eqb t s.0) (numbered n m)) ≡ 0
none_behind t n zero lt = refl
none_behind t n (suc m) lt =
    let rest = filter (λ (s : SwitchId). eqb t s.0) (numbered (n + 1) m) in
    ap (λ b. length (cond b (switch_numbered n ∷ rest) rest)) (ne_eqb t n (λ e. omega arith)) ∙ none_behind t (n + 1) m (omega arith)

at_most_one : (t n m : ℕ) → length (filter (λ (s : SwitchId). eqb t s.0) (numbered n m)) ≤ 1
at_most_one t n zero = omega arith
at_most_one t n (suc m) =
    let rest = filter (λ (s : SwitchId). eqb t s.0) (numbered (n + 1) m) in
    let AtMost : Bool → Type 0 = λ b. length (cond b (switch_numbered n ∷ rest) rest) ≤ 1 in
    elim (cases_Bool (eqb t n)) [
      | inl here ↦ (let same = eqb-true t n here in let none = none_behind t (n + 1) m (omega arith) in subst AtMost (sym here) (omega arith))
      | inr away ↦ (let later = at_most_one t (n + 1) m in subst AtMost (sym away) later)
    ]

-- what passes one of two tests
either_few : (p q : SwitchId → Bool) (xs : List SwitchId) → length (filter (λ x. p x || q x) xs) ≤ length (filter p xs) + length (filter q xs)
either_few p q [] = omega arith
either_few p q (x ∷ xs) = by (filter (λ y. p y || q y) xs) (filter p xs) (filter q xs) (either_few p q xs) (p x) (q x)
  where
    by : (f g h : List SwitchId) → length f ≤ length g + length h → (a b : Bool) → length (cond (a || b) (x ∷ f) f) ≤ length (cond a (x ∷ g) g) + length (cond b (x ∷ h) h)
    by f g h rest true true = omega arith
    by f g h rest true false = omega arith
    by f g h rest false true = omega arith
    by f g h rest false false = rest

none_changed : (n m : ℕ) → length (filter (is_changed []) (numbered n m)) ≡ 0
none_changed n zero = refl
none_changed n (suc m) = none_changed (n + 1) m

changed_few : (round : List Change) (n m : ℕ) → length (filter (is_changed round) (numbered n m)) ≤ length round
changed_few [] n m = let none = none_changed n m in omega arith
changed_few (c ∷ round) n m =
    let both = either_few (λ (s : SwitchId). eqb (switch_of c).0 s.0) (is_changed round) (numbered n m) in
    let one = at_most_one (switch_of c).0 n m in
    let rest = changed_few round n m in
    omega (arith, both, one, rest)

-- the messages of a round, and of rounds
pub round_parts : (net : Network) (k : ℕ) (round : List Change) → length (round_requests net k round) ≡ length round + length (switches_changed net round)
round_parts net k round =
    let a = length-append (map (change_request k) round) (map (barrier_request k) (switches_changed net round)) in
    let b = length-map round (change_request k) in
    let c = length-map (switches_changed net round) (barrier_request k) in
    omega (arith, a, b, c)

pub round_few : (net : Network) (k : ℕ) (round : List Change) → length (round_requests net k round) ≤ length round + length round
round_few net k round =
    let parts = round_parts net k round in
    let few = changed_few round 0 (switch_count net) in
    omega (arith, parts, few)

pub requests_few : (net : Network) (k : ℕ) (rounds : List (List Change)) → length (requests_from net k rounds) ≤ sum_by length rounds + sum_by length rounds
requests_few net k [] = omega arith
requests_few net k (round ∷ rounds) =
    let a = length-append (round_requests net k round) (requests_from net (suc k) rounds) in
    let b = round_few net k round in
    let c = requests_few net (suc k) rounds in
    let d = sum_by-cons length round rounds in
    omega (arith, a, b, c, d)

-- the xids of a round go on with those of the next one
pub next_first : (net : Network) (rounds : List (List Change)) (k : ℕ) → k < length rounds → first_xid net rounds k + length (round_requests net k (round_after k rounds)) ≡ first_xid net rounds (suc k)
next_first net rounds k less =
    let round = round_after k rounds in
    let step : suc k ≡ k + 1 = omega arith in
    let place : 0 + length (take k rounds) ≡ k = omega (arith, length-take-le k rounds (omega arith)) in
    let all : take (suc k) rounds ≡ take k rounds ++ round ∷ [] = ap (λ (n : ℕ). take n rounds) step ∙ take_more rounds k [] less in
    let whole : requests_from net 0 (take (suc k) rounds) ≡ requests_from net 0 (take k rounds) ++ round_requests net k round =
    ap (requests_from net 0) all ∙ requests_from-push net 0 (take k rounds) round ∙ ap (λ (n : ℕ). requests_from net 0 (take k rounds) ++ round_requests net n round) place in
    let count = ap length whole ∙ length-append (requests_from net 0 (take k rounds)) (round_requests net k round) in
    omega (arith, count)
