-- A driven run of a plan is short, so that each of its events has a line, and a chooser is asked in its range.
use Rattle.std.proofs.Common.{◌≡◌, ℕ, zero, suc, ◌+◌, ◌^◌, ◌<◌, ◌≤◌, true, false, List, [], ◌∷◌, ◌++◌, map, length, set, refl, sym, subst, ap, inl, inr, arith, length-append}
use Rattle.std.specs.Prelude.{slice_get, Some, None, sum_by, Ok, Err}
use Rattle.std.specs.declared.result.Result.{Result}
use Rattle.std.specs.Option.{option_map_or}
use Rattle.std.specs.Result.{IfOk}
use Rattle.std.specs.List.{AllByRecursion}
use Rattle.std.proofs.lemmas.List.{length-set, length-replicate}
use Rattle.std.proofs.lemmas.List.Sums.{sum_by-cons}
use Rattle.std.proofs.lemmas.Option.{slice_get_within}
use Rattle.net_base.specs.Places.{stop_of}
use Rattle.net_base.proofs.MemberLaws.{each_at, in_append_left}
use Rattle.topology.specs.Networks.{IsNetwork, IsPortNumber, IsVlan, used_ports}
use Rattle.path_walk.specs.Paths.{outcome_in}
use Rattle.update_model.specs.Changes.{round_after}
use Rattle.update_model.specs.Mixtures.{Rollout}
use Rattle.update_model.specs.Runs.{AreEnabled}
use Rattle.update_model.specs.States.{State, first_state, IsEnabled, settled_count, entered_packet, hopped_packet, lost_packet, with_packet, state_after_event}
use Rattle.update_model.specs.Worlds.{WorldState}
use Rattle.update_model.specs.declared.Change.{Change}
use Rattle.update_model.specs.declared.Packet.{Packet}
use Rattle.update_model.specs.declared.Event.{Event}
use Rattle.update_model.specs.declared.Event.TheVariants as event
use Rattle.schedule_pilot.specs.Driving.{IsRunFrom, world_rollout}
use Rattle.net_base.specs.Numbers.{numbers_from}
use Rattle.schedule_pilot.specs.Offered.{next_entry, candidates, AreThose, entries_after, IsDriven}
use Rattle.schedule_pilot.specs.declared.Entry.{Entry}
use Rattle.schedule_replay.specs.EventTexts.{HasLine}

-- what holds of two facts of a value in its place
pub both : {T E : Type 0} (r : Result T E) (P Q R : T → Type 0) → IfOk r P → IfOk r Q → ((v : T) → P v → Q v → R v) → IfOk r R
both (Ok v) P Q R p q f = f v p q
both (Err e) P Q R p q f = tt

-- a round has no more changes than all
pub round_within : (rounds : List (List Change)) (k : ℕ) → length (round_after k rounds) ≤ sum_by length rounds
round_within [] zero = omega arith
round_within [] (suc k) = omega arith
round_within (r ∷ rounds) zero = let first = sum_by-cons (λ (x : List Change). length x) r rounds in omega arith
round_within (r ∷ rounds) (suc k) = let rest = round_within rounds k in let first = sum_by-cons (λ (x : List Change). length x) r rounds in omega arith

-- there are at most so many packets, and so many flags of changes
pub record IsShort (most n : ℕ) (st : State) : Type 0 where
  pub packets : length st.packets ≤ n
  pub flags : length st.pending ≤ most

pub short_first : (most : ℕ) (st : State) → st ≡ first_state st.tables → IsShort most 0 st
short_first most st begun = record {
  packets = subst (λ (s : State). length s.packets ≤ 0) (sym begun) (omega arith);
  flags = subst (λ (s : State). length s.pending ≤ most) (sym begun) (omega arith);
}

with_length : (f : Packet → Packet) (i : ℕ) (packets : List Packet) → length (with_packet f i packets) ≡ length packets
with_length f i packets = elim (slice_get packets i) as (λ o. length (option_map_or (λ p. set packets i (f p)) o packets) ≡ length packets) [
  | Some p ↦ length-set packets i (f p)
  | None ↦ refl
]

-- what holds of some members of a list in order, holds of no more than there are
those_few : {A : Type 0} (P : A → Type 0) (xs ys : List A) → AreThose P xs ys → length ys ≤ length xs
those_few P [] [] those = omega arith
those_few P [] (y ∷ ys) those = absurd those
those_few P (x ∷ xs) [] those = omega arith
those_few P (x ∷ xs) (y ∷ ys) (inl h) = let rest : length ys ≤ length xs = those_few P xs ys h.2 in omega arith
those_few P (x ∷ xs) (y ∷ ys) (inr h) = let rest : length (y ∷ ys) ≤ length xs = those_few P xs (y ∷ ys) h.1 in omega arith

counted_length : (f : ℕ → Event) (n count : ℕ) → length (map f (numbers_from n count)) ≡ count
counted_length f n zero = refl
counted_length f n (suc count) = ap suc (counted_length f (suc n) count)

next_few : (entries : List Entry) → length (next_entry entries) ≤ 1
next_few [] = omega arith
next_few (e ∷ entries) = omega arith

parts_length : (a b c : List Event) → length ((event.Start ∷ event.Settle ∷ a) ++ b ++ c) ≡ length a + length b + length c + 2
parts_length a b c =
    let all = length-append ((event.Start ∷ event.Settle ∷ a) ++ b) c in
    let front = length-append (event.Start ∷ event.Settle ∷ a) b in
    omega arith

candidates_few : (st : State) (entries : List Entry) → length (candidates st entries) ≤ length st.pending + length st.packets + 3
candidates_few st entries =
    let all = parts_length (map event.Change (numbers_from 0 (length st.pending))) (next_entry entries) (map event.Hop (numbers_from 0 (length st.packets))) in
    let changes = counted_length event.Change 0 (length st.pending) in
    let hops = counted_length event.Hop 0 (length st.packets) in
    let next = next_few entries in
    omega arith

-- the number of a change or a packet is small
change_line : (round : List Change) (i : ℕ) (change : Change) → slice_get round i ≡ Some change → length round ≤ 2200000 → i < 2 ^ 32
change_line round i change at few = let within : i < length round = slice_get_within round i change at in omega arith

packet_line : (packets : List Packet) (i : ℕ) (p : Packet) → slice_get packets i ≡ Some p → length packets ≤ 4000000 → i < 2 ^ 32
packet_line packets i p at few = let within : i < length packets = slice_get_within packets i p at in omega arith

module _ (u : Rollout) (few : sum_by length u.rounds ≤ 2200000) where
  within : (k : ℕ) → length (round_after k u.rounds) ≤ 2200000
  within k = let round = round_within u.rounds k in omega arith

  short_next : (n : ℕ) (st : State) (e : Event) → IsShort 2200000 n st → IsShort 2200000 (suc n) (state_after_event u.net u.rounds st e)
  short_next n st event.Start short = record {
    packets = omega arith;
    flags = subst (λ k. k ≤ 2200000) (sym (length-replicate (length (round_after (settled_count st.phase) u.rounds)) true)) (within (settled_count st.phase));
  }
  short_next n st event.Settle short = record { packets = omega arith; flags = short.flags }
  short_next n st (event.Change i) short = record {
    packets = omega arith;
    flags = subst (λ k. k ≤ 2200000) (sym (length-set st.pending i false)) short.flags;
  }
  short_next n st (event.Enter place dst) short = record {
    packets = let more = length-append st.packets (entered_packet place dst (settled_count st.phase) ∷ []) in omega arith;
    flags = short.flags;
  }
  short_next n st (event.Hop i) short = record {
    packets = let same = with_length (λ p. hopped_packet p (outcome_in u.net st.tables p.at p.dst)) i st.packets in omega arith;
    flags = short.flags;
  }
  short_next n st (event.Lose i) short = record {
    packets = let same = with_length lost_packet i st.packets in omega arith;
    flags = short.flags;
  }

  line : (n : ℕ) (st : State) (e : Event) → IsNetwork u.net → IsShort 2200000 n st → n ≤ 4000000 → IsEnabled u.net u.rounds st e → HasLine u.net e
  line n st event.Start net short small may = tt
  line n st event.Settle net short small may = tt
  line n st (event.Change i) net short small may = change_line (round_after may.k u.rounds) i may.change may.is (within may.k)
  line n st (event.Enter place dst) net short small may =
      let port = each_at (λ stop. (stop.switch.0 < length u.net.names) × IsPortNumber stop.port.0) (used_ports u.net) (stop_of place) net.ports (in_append_left (stop_of place) u.net.hosts _ may.0.host) in
      (port.0, port.1, each_at IsVlan u.net.vlans place.vlan net.vlans may.0.declared, may.1)
  line n st (event.Hop i) net short small may = let (p, at, under) = may in packet_line st.packets i p at (omega arith)
  line n st (event.Lose i) net short small may = let (p, at, under) = may in packet_line st.packets i p at (omega arith)

  -- each event of a short run has a line
  lines : (n : ℕ) (st : State) (events : List Event) → IsNetwork u.net → IsShort 2200000 n st → n + length events ≤ 4000000 → AreEnabled u.net u.rounds st events → AllByRecursion (HasLine u.net) events
  lines n st [] net short small enabled = tt
  lines n st (e ∷ events) net short small enabled =
      (line n st e net short (omega arith) enabled.0, lines (suc n) (state_after_event u.net u.rounds st e) events net (short_next n st e short) (omega arith) enabled.1)

  -- a short run that one chooser drives is driven by another that agrees in the range of 64 bits
  driven_as : (c d : ℕ → ℕ → ℕ → Type 0) → ((m k i : ℕ) → m < 2 ^ 64 → 1 ≤ k → k < 2 ^ 64 → c m k i → d m k i)
      → (n : ℕ) (st : State) (entries : List Entry) (events : List Event) → IsShort 2200000 n st → n + length events ≤ 4000000 → IsDriven u c n st entries events → IsDriven u d n st entries events
  driven_as c d agree n st entries [] short small driven = tt
  driven_as c d agree n st entries (e ∷ events) short small driven =
      let (offered, i, are, named, at) = driven.0 in
      let less : length offered ≤ length (candidates st entries) = those_few (IsEnabled u.net u.rounds st) (candidates st entries) offered are in
      let most = candidates_few st entries in
      let some : i < length offered = slice_get_within offered i e at in (
        (offered, i, are, agree n (length offered) i (omega arith) (omega arith) (omega arith) named, at),
        driven_as c d agree (suc n) (state_after_event u.net u.rounds st e) (entries_after e entries) events (short_next n st e short) (omega arith) driven.1,
      )

-- of a driven run of a world that is just begun
module _ (w : WorldState) (begun : w.state ≡ first_state w.state.tables) (few : sum_by length w.rounds ≤ 2200000) (c : ℕ → ℕ → ℕ → Type 0) (entries : List Entry) (events : List Event) (after : WorldState)
    (run : IsRunFrom w c entries events after) (short : length events ≤ 4000000) where
  pub run_lines : IsNetwork w.net → AllByRecursion (HasLine w.net) events
  run_lines net = lines (world_rollout w) few 0 w.state events net (short_first 2200000 w.state begun) (omega arith) run.enabled

  pub run_as : (d : ℕ → ℕ → ℕ → Type 0) → ((m k i : ℕ) → m < 2 ^ 64 → 1 ≤ k → k < 2 ^ 64 → c m k i → d m k i) → IsRunFrom w d entries events after
  run_as d agree = record {
    driven = driven_as (world_rollout w) few c d agree 0 w.state entries events (short_first 2200000 w.state begun) (omega arith) run.driven;
    enabled = run.enabled;
    world = run.world;
  }
