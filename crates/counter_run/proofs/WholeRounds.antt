-- Rounds that are carried out whole, one after the other: a run without packets, which leads to the tables before the next round.
use Rattle.std.proofs.Common.{◌≡◌, ℕ, zero, suc, ◌+◌, ◌*◌, ◌<◌, ◌≤◌, Bool, true, false, List, [], ◌∷◌, ◌++◌, map, length, replicate, set, take, refl, sym, ◌∙◌, subst, ap, arith, length-append}
use Rattle.std.specs.Prelude.{slice_get, Option, Some, sum_by}
use Rattle.std.specs.Option.{option_map_or}
use Rattle.std.specs.List.{AllByRecursion}
use Rattle.std.proofs.Math.Seq.{take-suc}
use Rattle.std.proofs.lemmas.List.{append-nil, length-map, length-take-le}
use Rattle.std.proofs.lemmas.List.Sums.{sum_by-cons}
use Rattle.std.proofs.lemmas.Grind.{flat_map-append}
use Rattle.net_base.proofs.MemberLaws.{each_append}
use Rattle.topology.specs.Networks.{Network}
use Rattle.flow_rules.specs.declared.rules.Rule.{Rule}
use Rattle.update_model.specs.Changes.{tables_after_change, tables_after, round_after, IsGoodRound}
use Rattle.update_model.specs.Mixtures.{Rollout, tables_before, AreGoodRounds}
use Rattle.update_model.specs.States.{State, first_state, state_after_event}
use Rattle.update_model.specs.Runs.{AreEnabled, state_after}
use Rattle.update_model.specs.declared.Change.{Change}
use Rattle.update_model.specs.declared.Event.{Event}
use Rattle.update_model.specs.declared.Event.TheVariants as event
use Rattle.update_model.specs.declared.Phase.TheVariants.{Settled, Running}
use Rattle.update_model.proofs.RoundLaws.{settled_start, settled_next}
use Rattle.net_base.specs.Numbers.{numbers_from}
use Rattle.counter_run.specs.Showing.{whole_round, whole_rounds}
use Rattle.update_model.proofs.RestLaws.{good_rest}

-- a state without packets in which so many rounds are settled
abbrev resting : ℕ → List (List Rule) → List Bool → State
resting k tables flags = record { phase = Settled k; tables = tables; pending = flags; packets = [] }

-- a state without packets in which the next round is running
abbrev running : ℕ → List (List Rule) → List Bool → State
running k tables flags = record { phase = Running (suc k); tables = tables; pending = flags; packets = [] }

-- an item behind others
get_seam : {A : Type 0} (xs : List A) (y : A) (ys : List A) (n : ℕ) → length xs ≡ n → slice_get (xs ++ y ∷ ys) n ≡ Some y
get_seam [] y ys zero e = refl
get_seam [] y ys (suc n) e = absurd (omega arith)
get_seam (x ∷ xs) y ys zero e = absurd (omega arith)
get_seam (x ∷ xs) y ys (suc n) e = get_seam xs y ys n (omega arith)

set_seam : {A : Type 0} (xs : List A) (y z : A) (ys : List A) (n : ℕ) → length xs ≡ n → set (xs ++ y ∷ ys) n z ≡ (xs ++ z ∷ []) ++ ys
set_seam [] y z ys zero e = refl
set_seam [] y z ys (suc n) e = absurd (omega arith)
set_seam (x ∷ xs) y z ys zero e = absurd (omega arith)
set_seam (x ∷ xs) y z ys (suc n) e = ap (λ ws. x ∷ ws) (set_seam xs y z ys n (omega arith))

module _ (net : Network) (rounds : List (List Change)) where
  pub state_append : (st : State) (es fs : List Event) → state_after net rounds st (es ++ fs) ≡ state_after net rounds (state_after net rounds st es) fs
  state_append st [] fs = refl
  state_append st (e ∷ es) fs = state_append (state_after_event net rounds st e) es fs

  pub enabled_append : (st : State) (es fs : List Event) → AreEnabled net rounds st es → AreEnabled net rounds (state_after net rounds st es) fs
      → AreEnabled net rounds st (es ++ fs)
  enabled_append st [] fs first second = second
  enabled_append st (e ∷ es) fs first second = (first.0, enabled_append (state_after_event net rounds st e) es fs first.1 second)

  -- the events are enabled from a state on, and lead to one without packets in which so many rounds are settled
  abbrev LeadsTo : State → List Event → ℕ → List (List Rule) → Type 0
  LeadsTo st events k tables = AreEnabled net rounds st events × ((flags : List Bool) × (state_after net rounds st events ≡ resting k tables flags))

  leads_on : (st : State) (es fs : List Event) (j k : ℕ) (before tables : List (List Rule)) → LeadsTo st es j before
      → ((flags : List Bool) → LeadsTo (resting j before flags) fs k tables) → LeadsTo st (es ++ fs) k tables
  leads_on st es fs j k before tables first then =
      let second : LeadsTo (state_after net rounds st es) fs k tables = subst (λ (s : State). LeadsTo s fs k tables) (sym first.1.1) (then first.1.0) in
      (enabled_append st es fs first.0 second.0, (second.1.0, state_append st es fs ∙ second.1.1))

  -- the changes that are left of a running round, ascending, and its end
  changes_run : (k : ℕ) (cs : List Change) (n : ℕ) (tables : List (List Rule)) (done : List Bool)
      → ((i : ℕ) → slice_get (round_after k rounds) (n + i) ≡ slice_get cs i) → length done ≡ n → AllByRecursion (λ b. b ≡ false) done → IsGoodRound tables cs
      → LeadsTo (running k tables (done ++ replicate (length cs) true)) (map event.Change (numbers_from n (length cs)) ++ event.Settle ∷ []) (suc k) (tables_after cs tables)
  changes_run k [] n tables done there same off good =
      ((record { k = suc k; running = refl; none_pending = each_append (λ b. b ≡ false) done [] off tt }, tt), (done ++ [], refl))
  changes_run k (c ∷ cs) n tables done there same off good =
      let flags = done ++ true ∷ replicate (length cs) true in
      let next = tables_after_change c tables in
      let on = done ++ false ∷ [] in
      let here : slice_get (round_after k rounds) n ≡ Some c = ap (slice_get (round_after k rounds)) (omega arith) ∙ there zero in
      let step : state_after_event net rounds (running k tables flags) (event.Change n) ≡ running k next (on ++ replicate (length cs) true) =
      ap (λ (o : Option Change). running k (option_map_or (λ d. tables_after_change d tables) o tables) (set flags n false)) here
      ∙ ap (λ (bs : List Bool). running k next bs) (set_seam done true false (replicate (length cs) true) n same) in
      let rest = changes_run k cs (suc n) next on
      (λ i. let e : suc n + i ≡ n + suc i = omega arith in ap (slice_get (round_after k rounds)) e ∙ there (suc i))
      (let l = length-append done (false ∷ []) in omega arith) (each_append (λ b. b ≡ false) done (false ∷ []) off (refl, tt)) (good_rest tables c cs good) in
      let after : LeadsTo (state_after_event net rounds (running k tables flags) (event.Change n)) (map event.Change (numbers_from (suc n) (length cs)) ++ event.Settle ∷ []) (suc k) (tables_after cs next) =
      subst (λ (s : State). LeadsTo s (map event.Change (numbers_from (suc n) (length cs)) ++ event.Settle ∷ []) (suc k) (tables_after cs next)) (sym step) rest in (
        (record { k = k; running = refl; change = c; is = here; pending = get_seam done true (replicate (length cs) true) n same; applies = good.applies.0 }, after.0),
        after.1,
      )

  -- a round that is carried out whole
  round_run : (k : ℕ) → k < length rounds → (tables : List (List Rule)) (flags : List Bool) → IsGoodRound tables (round_after k rounds)
      → LeadsTo (resting k tables flags) (whole_round (round_after k rounds)) (suc k) (tables_after (round_after k rounds) tables)
  round_run k less tables flags good =
      let rest = changes_run k (round_after k rounds) 0 tables [] (λ i. ap (slice_get (round_after k rounds)) (omega arith)) refl tt good in
      ((record { k = k; settled = refl; more = less; none_older = tt }, rest.0), rest.1)

-- one more round behind others
more_rounds : (rounds : List (List Change)) (k : ℕ) → k < length rounds → whole_rounds (take (suc k) rounds) ≡ whole_rounds (take k rounds) ++ whole_round (round_after k rounds)
more_rounds rounds k less =
    ap whole_rounds (take-suc rounds k [] less) ∙ flat_map-append whole_round (take k rounds) (round_after k rounds ∷ [])
    ∙ ap (λ es. whole_rounds (take k rounds) ++ es) (append-nil (whole_round (round_after k rounds)))

-- good rounds can be carried out whole, so many of them
pub whole_rounds_run : (u : Rollout) → AreGoodRounds u → (k : ℕ) → k ≤ length u.rounds
    → AreEnabled u.net u.rounds (first_state u.old) (whole_rounds (take k u.rounds))
    × ((flags : List Bool)
    × (state_after u.net u.rounds (first_state u.old) (whole_rounds (take k u.rounds)) ≡ record { phase = Settled k; tables = tables_before u k; pending = flags; packets = [] }))
whole_rounds_run u good zero within = (tt, ([], ap (λ (ts : List (List Rule)). resting 0 ts []) (sym (settled_start u.rounds u.old))))
whole_rounds_run u good (suc k) within =
    let less : k < length u.rounds = omega arith in
    let before = tables_before u k in
    let round = round_after k u.rounds in
    subst (λ (es : List Event). LeadsTo u.net u.rounds (first_state u.old) es (suc k) (tables_before u (suc k))) (sym (more_rounds u.rounds k less))
    (subst (λ (ts : List (List Rule)). LeadsTo u.net u.rounds (first_state u.old) (whole_rounds (take k u.rounds) ++ whole_round round) (suc k) ts) (sym (settled_next u.rounds k u.old less))
    (leads_on u.net u.rounds (first_state u.old) (whole_rounds (take k u.rounds)) (whole_round round) k (suc k) before (tables_after round before)
    (whole_rounds_run u good k (omega arith)) (λ flags. round_run u.net u.rounds k less before flags (good k less))))

-- how many events there are in them
pub length-counted : (n count : ℕ) → length (numbers_from n count) ≡ count
length-counted n zero = refl
length-counted n (suc count) = ap suc (length-counted (suc n) count)

length-whole_round : (round : List Change) → length (whole_round round) ≡ length round + 2
length-whole_round round =
    let a = length-append (map event.Change (numbers_from 0 (length round))) (event.Settle ∷ []) in
    let b = length-map (numbers_from 0 (length round)) event.Change in
    let d = length-counted 0 (length round) in
    omega arith

pub length-whole_rounds : (rounds : List (List Change)) → length (whole_rounds rounds) ≡ sum_by length rounds + 2 * length rounds
length-whole_rounds [] = refl
length-whole_rounds (round ∷ rounds) =
    let a = length-append (whole_round round) (whole_rounds rounds) in
    let b = length-whole_round round in
    let d = length-whole_rounds rounds in
    let e = sum_by-cons {X = List Change} length round rounds in
    omega arith

pub length-first_rounds : (rounds : List (List Change)) (k : ℕ) → k ≤ length rounds → length (whole_rounds (take k rounds)) ≡ sum_by length (take k rounds) + 2 * k
length-first_rounds rounds k within = length-whole_rounds (take k rounds) ∙ ap (λ n. sum_by length (take k rounds) + 2 * n) (length-take-le k rounds within)

-- an event of no packet
abbrev pub IsOfNoPacket : Event → Type 0
IsOfNoPacket event.Start = Unit {0}
IsOfNoPacket event.Settle = Unit {0}
IsOfNoPacket (event.Change i) = Unit {0}
IsOfNoPacket (event.Enter place dst) = ⊥
IsOfNoPacket (event.Hop i) = ⊥
IsOfNoPacket (event.Lose i) = ⊥

changes_of_none : (numbers : List ℕ) → AllByRecursion IsOfNoPacket (map event.Change numbers)
changes_of_none [] = tt
changes_of_none (n ∷ numbers) = (tt, changes_of_none numbers)

pub rounds_of_none : (rounds : List (List Change)) → AllByRecursion IsOfNoPacket (whole_rounds rounds)
rounds_of_none [] = tt
rounds_of_none (round ∷ rounds) =
    each_append IsOfNoPacket (whole_round round) (whole_rounds rounds)
    (tt, each_append IsOfNoPacket (map event.Change (numbers_from 0 (length round))) (event.Settle ∷ []) (changes_of_none (numbers_from 0 (length round))) (tt, tt)) (rounds_of_none rounds)
