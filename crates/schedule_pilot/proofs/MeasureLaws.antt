-- What is left to be done, as a number that each offered event lowers.
use Rattle.std.proofs.Common.{◌≡◌, ℕ, zero, suc, ◌+◌, ◌-◌, ◌*◌, ◌<◌, ◌≤◌, Bool, true, false, List, [], ◌∷◌, ◌++◌, length, set, replicate, refl, sym, subst, ap, arith, length-append}
use Rattle.std.specs.Prelude.{slice_get, Some, None, sum_by}
use Rattle.std.proofs.lemmas.List.Sums.{sum_by-cons}
use Rattle.std.specs.Option.{option_map_or}
use Rattle.std.specs.List.{AllByRecursion}
use Rattle.net_base.specs.Places.{stop_of}
use Rattle.net_base.specs.declared.ids.Stop.{Stop}
use Rattle.net_base.specs.declared.ids.Place.{Place}
use Rattle.path_walk.specs.declared.Outcome.{Outcome}
use Rattle.path_walk.specs.declared.Outcome.TheVariants.{Discard, Leave, Go}
use Rattle.path_walk.specs.declared.Ended.{Ended}
use Rattle.path_walk.specs.declared.Ended.TheVariants.{UnderWay, Left, Dropped, Lost}
use Rattle.update_model.specs.Changes.{round_after}
use Rattle.update_model.specs.States.{State, IsUnderWay, settled_count, entered_packet, hopped_packet, with_packet, phase_after_settle}
use Rattle.update_model.specs.declared.Change.{Change}
use Rattle.update_model.specs.declared.Packet.{Packet}
use Rattle.update_model.specs.declared.Phase.{Phase}
use Rattle.update_model.specs.declared.Phase.TheVariants.{Settled, Running}
use Rattle.schedule_pilot.specs.declared.Entry.{Entry}

-- the hops that a packet may still make, where there are n switches
abbrev pub hops_left : ℕ → Ended → List Stop → ℕ
hops_left n UnderWay visits = suc n - length visits
hops_left n (Left s p v) visits = 0
hops_left n (Dropped s) visits = 0
hops_left n Lost visits = 0

-- the hops of all packets
abbrev pub all_hops : ℕ → List Packet → ℕ
all_hops n [] = 0
all_hops n (p ∷ packets) = hops_left n p.ended p.visits + all_hops n packets

-- the entries with their hops
abbrev pub entry_cost : ℕ → List Entry → ℕ
entry_cost n [] = 0
entry_cost n (e ∷ es) = suc n + entry_cost n es

-- the rounds with their changes, starts and ends
abbrev pub round_cost : List (List Change) → ℕ
round_cost [] = 0
round_cost (r ∷ rs) = length r + 2 + round_cost rs

-- the pending changes
abbrev pub count_on : List Bool → ℕ
count_on [] = 0
count_on (true ∷ bs) = suc (count_on bs)
count_on (false ∷ bs) = count_on bs

-- the rounds after the first k
abbrev pub rounds_from : ℕ → List (List Change) → List (List Change)
rounds_from zero rs = rs
rounds_from (suc k) [] = []
rounds_from (suc k) (r ∷ rs) = rounds_from k rs

-- what is left of the rounds
abbrev pub rounds_left : Phase → List Bool → List (List Change) → ℕ
rounds_left (Settled k) flags rounds = round_cost (rounds_from k rounds)
rounds_left (Running zero) flags rounds = 0
rounds_left (Running (suc k)) flags rounds = count_on flags + 1 + round_cost (rounds_from (suc k) rounds)

-- all that is left
abbrev pub left : ℕ → List (List Change) → State → List Entry → ℕ
left n rounds st entries = entry_cost n entries + all_hops n st.packets + rounds_left st.phase st.pending rounds

count_all : (n : ℕ) → count_on (replicate n true) ≡ n
count_all zero = refl
count_all (suc n) = ap suc (count_all n)

count_less : (flags : List Bool) (i : ℕ) → slice_get flags i ≡ Some true → suc (count_on (set flags i false)) ≡ count_on flags
count_less [] i e = absurd (let f : None ≡ Some true = e in cc)
count_less (true ∷ flags) zero e = refl
count_less (false ∷ flags) zero e = absurd (let f : Some false ≡ Some true = e in let g : false ≡ true = cc in cc)
count_less (true ∷ flags) (suc i) e = ap suc (count_less flags i e)
count_less (false ∷ flags) (suc i) e = count_less flags i e

next_round : (k : ℕ) (rounds : List (List Change)) → k < length rounds
    → round_cost (rounds_from k rounds) ≡ length (round_after k rounds) + 2 + round_cost (rounds_from (suc k) rounds)
next_round k [] less = absurd (omega arith)
next_round zero (r ∷ []) less = refl
next_round zero (r ∷ s ∷ rounds) less = refl
next_round (suc k) (r ∷ rounds) less = next_round k rounds (omega arith)

pub start_lowers : (phase : Phase) (flags : List Bool) (rounds : List (List Change)) (k : ℕ) → phase ≡ Settled k → k < length rounds
    → rounds_left (Running (suc (settled_count phase))) (replicate (length (round_after (settled_count phase) rounds)) true) rounds < rounds_left phase flags rounds
start_lowers (Settled j) flags rounds k is less =
    let same : j ≡ k = cc in
    let next = next_round j rounds (omega arith) in
    let count = count_all (length (round_after j rounds)) in
    omega arith
start_lowers (Running j) flags rounds k is less = absurd (let e : Running j ≡ Settled k = is in cc)

pub change_lowers : (phase : Phase) (flags : List Bool) (rounds : List (List Change)) (k i : ℕ) → phase ≡ Running (suc k) → slice_get flags i ≡ Some true
    → rounds_left phase (set flags i false) rounds < rounds_left phase flags rounds
change_lowers (Settled j) flags rounds k i is flag = absurd (let e : Settled j ≡ Running (suc k) = is in cc)
change_lowers (Running zero) flags rounds k i is flag = absurd (let e : Running zero ≡ Running (suc k) = is in let f : zero ≡ suc k = cc in omega arith)
change_lowers (Running (suc j)) flags rounds k i is flag = let count = count_less flags i flag in omega arith

pub settle_lowers : (phase : Phase) (flags : List Bool) (rounds : List (List Change)) (k : ℕ) → phase ≡ Running (suc k) → AllByRecursion (λ b. b ≡ false) flags
    → rounds_left (phase_after_settle phase) flags rounds < rounds_left phase flags rounds
settle_lowers (Settled j) flags rounds k is off = absurd (let e : Settled j ≡ Running (suc k) = is in cc)
settle_lowers (Running zero) flags rounds k is off = absurd (let e : Running zero ≡ Running (suc k) = is in let f : zero ≡ suc k = cc in omega arith)
settle_lowers (Running (suc j)) flags rounds k is off = omega arith

pub hops_append : (n : ℕ) (packets more : List Packet) → all_hops n (packets ++ more) ≡ all_hops n packets + all_hops n more
hops_append n [] more = omega arith
hops_append n (p ∷ packets) more = let rest = hops_append n packets more in omega arith

pub hops_entered : (n : ℕ) (place : Place) (dst k : ℕ) → all_hops n (entered_packet place dst k ∷ []) ≡ n
hops_entered n place dst k = omega arith

hops_less : (n : ℕ) (p : Packet) (o : Outcome) → IsUnderWay p → length p.visits ≤ n → hops_left n (hopped_packet p o).ended (hopped_packet p o).visits < hops_left n p.ended p.visits
hops_less n p (Go next) under few =
    rw (under) (let more = length-append p.visits (stop_of next ∷ []) in omega arith)
hops_less n p Discard under few = rw under (omega arith)
hops_less n p (Leave port v) under few = rw under (omega arith)

hops_set : (n : ℕ) (packets : List Packet) (i : ℕ) (p q : Packet) → slice_get packets i ≡ Some p → hops_left n q.ended q.visits < hops_left n p.ended p.visits
    → all_hops n (set packets i q) < all_hops n packets
hops_set n [] i p q e less = absurd (let f : None ≡ Some p = e in cc)
hops_set n (x ∷ packets) zero p q e less =
    let f : Some x ≡ Some p = e in
    let g : x ≡ p = cc in
    let h : hops_left n x.ended x.visits ≡ hops_left n p.ended p.visits = ap (λ (y : Packet). hops_left n y.ended y.visits) g in
    omega arith
hops_set n (x ∷ packets) (suc i) p q e less = let rest = hops_set n packets i p q e less in omega arith

pub hop_lowers : (n : ℕ) (packets : List Packet) (i : ℕ) (p : Packet) (found : Packet → Outcome) → slice_get packets i ≡ Some p → IsUnderWay p → length p.visits ≤ n
    → all_hops n (with_packet (λ q. hopped_packet q (found q)) i packets) < all_hops n packets
hop_lowers n packets i p found at under few =
    subst (λ o. all_hops n (option_map_or (λ q. set packets i (hopped_packet q (found q))) o packets) < all_hops n packets) (sym at)
    (hops_set n packets i p (hopped_packet p (found p)) at (hops_less n p (found p) under few))

-- what is left at the beginning is the full budget
sum_two : (rounds : List (List Change)) → round_cost rounds ≡ sum_by length rounds + 2 * length rounds
sum_two [] = refl
sum_two (r ∷ rounds) = let rest = sum_two rounds in let first = sum_by-cons (λ (x : List Change). length x) r rounds in omega arith

cost_product : (n : ℕ) (entries : List Entry) → entry_cost n entries ≡ length entries * (n + 1)
cost_product n [] = omega arith
cost_product n (e ∷ es) = let rest = cost_product n es in omega arith

pub left_first : (n : ℕ) (rounds : List (List Change)) (entries : List Entry) (flags : List Bool) → entry_cost n entries + 0 + rounds_left (Settled 0) flags rounds ≡ length entries * (n + 1) + sum_by length rounds + 2 * length rounds
left_first n rounds entries flags = let a = sum_two rounds in let b = cost_product n entries in omega arith
