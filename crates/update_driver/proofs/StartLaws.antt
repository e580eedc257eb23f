-- The steps of a start.
use Rattle.std.proofs.Common.{◌≡◌, ℕ, zero, suc, ◌+◌, ◌<◌, ◌≤◌, Bool, true, false, eqb, not, ◌&&◌, List, [], ◌∷◌, ◌++◌, length, map, take, set, get_or, get_or-set_same, get_or-set_other, refl, sym, ap, ◌∙◌, subst, inl, inr, length-set, arith}
use Rattle.std.specs.Prelude.{flat_map, filter, find, Option, Some, is_some, is_none}
use Rattle.std.specs.List.{list_all, range_with_len}
use Rattle.std.specs.Option.{option_map, option_map_or}
use Rattle.std.proofs.lemmas.Bool.{cases_eq, cond-true, cond-false, ne_eqb}
use Rattle.std.proofs.lemmas.List.{map-set, length-map, get_or_default}
use Rattle.net_base.specs.declared.ids.SwitchId.{SwitchId}
use Rattle.net_base.specs.Switches.{has}
use Rattle.topology.specs.Networks.{Network, switch_count}
use Rattle.update_model.specs.Changes.{round_after}
use Rattle.update_model.specs.Worlds.{running_round}
use Rattle.update_model.specs.declared.Change.{Change}
use Rattle.update_model.specs.declared.Event.{Event}
use Rattle.update_model.specs.declared.Phase.{Phase}
use Rattle.update_model.specs.declared.Phase.TheVariants.{Settled}
use Rattle.openflow10.specs.Messages.{wire_text}
use Rattle.openflow10.specs.declared.Message.{Message}
use Rattle.round_messages.proofs.Marking.{HasChanged, same_passed, found_from}
use Rattle.round_messages.specs.Requests.{is_changed, switches_changed, switch_numbered, first_xid, round_requests, sent_from}
use Rattle.round_messages.specs.ToSwitch.{messages_to}
use Rattle.round_messages.proofs.BySwitch.{round_alone}
use Rattle.switch_session.specs.Channels.{ChannelState, first_channel, is_open, after_request, after_bytes}
use Rattle.switch_session.specs.Seen.{ChannelView}
use Rattle.update_driver.specs.Drivers.{DriverState, channel_at, none_outstanding, settled_if_answered, change_events, is_answered, driver_after_bytes, first_not_open, start_fault_in, messages_for, barrier_in, told_channel, told_all}
use Rattle.update_driver.specs.Inside.{states_of, with_states, HoldMessages, HasRoomFrom, told_by_turn, told_by_turns}
use Rattle.update_driver.specs.declared.StartFault.TheVariants as fault
use Rattle.update_driver.specs.declared.turns.SwitchStart.{SwitchStart}

-- ---- channels and their states

pub none_outstanding-states : (vs : List ChannelView) → list_all (λ v. is_none v.state.outstanding) vs ≡ none_outstanding (states_of vs)
none_outstanding-states [] = refl
none_outstanding-states (v ∷ vs) = ap (λ b. is_none v.state.outstanding && b) (none_outstanding-states vs)

-- the state at a place
pub state_at : (vs : List ChannelView) (i : ℕ) (v : ChannelView) (c : ChannelState) → i < length vs → get_or (states_of vs) i c ≡ (get_or vs i v).state
state_at [] i v c lt = absurd (omega arith)
state_at (x ∷ vs) zero v c lt = refl
state_at (x ∷ vs) (suc i) v c lt = state_at vs i v c (omega arith)

pub states_set : (vs : List ChannelView) (i : ℕ) (v : ChannelView) → states_of (set vs i v) ≡ set (states_of vs) i v.state
states_set vs i v = map-set (λ (x : ChannelView). x.state) vs i v

-- a channel with the same state in its place
pub states_kept : (vs : List ChannelView) (i : ℕ) (v d : ChannelView) → v.state ≡ (get_or vs i d).state → states_of (set vs i v) ≡ states_of vs
states_kept [] i v d e = refl
states_kept (x ∷ vs) zero v d e = ap (λ s. s ∷ states_of vs) e
states_kept (x ∷ vs) (suc i) v d e = ap (λ l. x.state ∷ l) (states_kept vs i v d e)

pub length-states : (vs : List ChannelView) → length (states_of vs) ≡ length vs
length-states vs = length-map vs (λ (x : ChannelView). x.state)

-- ---- turns are sent

pub told_ahead : (turns : List SwitchStart) (channels : List ChannelState) (n : ℕ) (d : ChannelState) → get_or (told_by_turns (take n turns) channels) n d ≡ get_or channels n d
told_ahead turns channels zero d = refl
told_ahead [] channels (suc n) d = refl
told_ahead (t ∷ turns) [] (suc n) d = refl
told_ahead (t ∷ turns) (c ∷ channels) (suc n) d = told_ahead turns channels n d

told_next : (turns : List SwitchStart) (channels : List ChannelState) (n : ℕ) (t : SwitchStart) (d : ChannelState) → n < length turns → n < length channels
    → told_by_turns (take (suc n) turns) channels ≡ set (told_by_turns (take n turns) channels) n (told_by_turn (get_or turns n t) (get_or channels n d))
told_next [] channels n t d lt less = absurd (omega arith)
told_next (x ∷ turns) [] n t d lt less = absurd (omega arith)
told_next (x ∷ turns) (c ∷ channels) zero t d lt less = refl
told_next (x ∷ turns) (c ∷ channels) (suc n) t d lt less = ap (λ l. told_by_turn x c ∷ l) (told_next turns channels n t d (omega arith) (omega arith))

-- the first turns are sent
pub record ToldBelow (n : ℕ) (turns : List SwitchStart) (first now : List ChannelView) : Type 0 where
  pub count : length now ≡ length first
  pub states : states_of now ≡ told_by_turns (take n turns) (states_of first)
  pub room : HasRoomFrom n turns now

module _ (n : ℕ) (turns : List SwitchStart) (first now : List ChannelView) (so_far : ToldBelow n turns first now) (lt : n < length turns) (less : n < length first) (t : SwitchStart) (at : get_or turns n t ≡ t) where
  next_states : (d : ChannelState) → told_by_turns (take (n + 1) turns) (states_of first) ≡ set (states_of now) n (told_by_turn t (get_or (states_of now) n d))
  next_states d =
      let step : n + 1 ≡ suc n = omega arith in
      let count = length-states first in
      let whole = told_next turns (states_of first) n t d lt (omega arith) in
      let here : get_or (states_of now) n d ≡ get_or (states_of first) n d = ap (λ l. get_or l n d) so_far.states ∙ told_ahead turns (states_of first) n d in
      ap (λ (k : ℕ). told_by_turns (take k turns) (states_of first)) step ∙ whole
      ∙ ap (λ x. set (told_by_turns (take n turns) (states_of first)) n (told_by_turn x (get_or (states_of first) n d))) at
      ∙ ap (λ c. set (told_by_turns (take n turns) (states_of first)) n (told_by_turn t c)) (sym here) ∙ ap (λ l. set l n (told_by_turn t (get_or (states_of now) n d))) (sym so_far.states)

  later_room : (v : ChannelView) → HasRoomFrom (n + 1) turns (set now n v)
  later_room v = record { room = λ i x w le within. subst (λ (y : ChannelView). length (get_or turns i x).text.items ≤ y.room) (sym (get_or-set_other now n i v w (λ e. omega arith))) (so_far.room.room i x w (omega arith) within) }

  pub turn_sent : (v old : ChannelView) → old ≡ get_or now n old → v.state ≡ told_by_turn t old.state → ToldBelow (n + 1) turns first (set now n v)
  turn_sent v old at_old state =
      let count = so_far.count in
      let here : get_or (states_of now) n old.state ≡ old.state = state_at now n old old.state (omega arith) ∙ ap (λ (x : ChannelView). x.state) (sym at_old) in
      record {
        count = length-set now n v ∙ so_far.count;
        states = states_set now n v ∙ ap (set (states_of now) n) (state ∙ ap (told_by_turn t) (sym here)) ∙ sym (next_states old.state);
        room = later_room v;
      }

-- ---- room

-- there is room in the first channels
pub record ReservedBelow (n : ℕ) (turns : List SwitchStart) (first now : List ChannelView) : Type 0 where
  pub count : length now ≡ length first
  pub states : states_of now ≡ states_of first
  pub room : (i : ℕ) (t : SwitchStart) (v : ChannelView) → i < n → length (get_or turns i t).text.items ≤ (get_or now i v).room

-- a channel that keeps its state
pub reserved_kept : (n : ℕ) (turns : List SwitchStart) (first now : List ChannelView) (v old : ChannelView) → ReservedBelow n turns first now → old ≡ get_or now n old → v.state ≡ old.state → states_of (set now n v) ≡ states_of first
reserved_kept n turns first now v old so_far at_old state = states_kept now n v old (state ∙ ap (λ (x : ChannelView). x.state) at_old) ∙ so_far.states

pub reserved_more : (n : ℕ) (turns : List SwitchStart) (first now : List ChannelView) (t : SwitchStart) (v old : ChannelView) → ReservedBelow n turns first now → n < length turns → n < length now → t ≡ get_or turns n t
    → old ≡ get_or now n old → v.state ≡ old.state → length t.text.items ≤ v.room → ReservedBelow (n + 1) turns first (set now n v)
reserved_more n turns first now t v old so_far lt less at at_old state room = record {
  count = length-set now n v ∙ so_far.count;
  states = reserved_kept n turns first now v old so_far at_old state;
  room = λ i x w below. elim (cases_eq i n) [
    | inl same ↦
        let Room : ℕ → Type 0 = λ j. length (get_or turns j x).text.items ≤ (get_or (set now n v) j w).room in
        let here : get_or turns n x ≡ t = get_or_default turns n x t lt ∙ sym at in
        subst Room (sym same) (subst (λ (y : SwitchStart). length y.text.items ≤ (get_or (set now n v) n w).room) (sym here)
        (subst (λ (y : ChannelView). length t.text.items ≤ y.room) (sym (get_or-set_same now n v w less)) room))
    | inr differs ↦ subst (λ (y : ChannelView). length (get_or turns i x).text.items ≤ y.room) (sym (get_or-set_other now n i v w differs)) (so_far.room i x w (omega arith))
  ];
}

-- ---- what is sent are the messages of `emit`

told_same : (ms : List Message) (t : SwitchStart) (c : ChannelState) → t.text.items ≡ flat_map wire_text ms → t.barrier ≡ barrier_in ms → told_by_turn t c ≡ told_channel ms c
told_same ms t c text barrier =
    ap (λ x. option_map_or (λ xid. after_request x xid c) t.barrier c) text ∙ ap (λ o. option_map_or (λ xid. after_request (flat_map wire_text ms) xid c) o c) barrier

told_as : (net : Network) (rounds : List (List Change)) (k n : ℕ) (turns : List SwitchStart) (channels : List ChannelState) → length turns ≡ length channels
    → ((i : ℕ) (d : SwitchStart) → i < length turns → (get_or turns i d).text.items ≡ flat_map wire_text (messages_for net rounds k (switch_numbered (n + i))))
    → ((i : ℕ) (d : SwitchStart) → i < length turns → (get_or turns i d).barrier ≡ barrier_in (messages_for net rounds k (switch_numbered (n + i)))) → told_by_turns turns channels ≡ told_all net rounds k n channels
told_as net rounds k n [] [] e text barrier = refl
told_as net rounds k n [] (c ∷ channels) e text barrier = absurd (omega arith)
told_as net rounds k n (t ∷ turns) [] e text barrier = absurd (omega arith)
told_as net rounds k n (t ∷ turns) (c ∷ channels) e text barrier =
    let here : n + 0 ≡ n = omega arith in
    let Text : ℕ → Type 0 = λ j. t.text.items ≡ flat_map wire_text (messages_for net rounds k (switch_numbered j)) in
    let Barrier : ℕ → Type 0 = λ j. t.barrier ≡ barrier_in (messages_for net rounds k (switch_numbered j)) in
    let first = told_same (messages_for net rounds k (switch_numbered n)) t c (subst Text here (text 0 t (omega arith))) (subst Barrier here (barrier 0 t (omega arith))) in
    let rest = told_as net rounds k (suc n) turns channels (omega arith)
    (λ i d lt. let place : n + suc i ≡ suc n + i = omega arith in subst (λ (j : ℕ). (get_or turns i d).text.items ≡ flat_map wire_text (messages_for net rounds k (switch_numbered j))) place (text (suc i) d (omega arith)))
    (λ i d lt. let place : n + suc i ≡ suc n + i = omega arith in subst (λ (j : ℕ). (get_or turns i d).barrier ≡ barrier_in (messages_for net rounds k (switch_numbered j))) place (barrier (suc i) d (omega arith))) in
    ap (λ x. x ∷ told_by_turns turns channels) first ∙ ap (λ l. told_channel (messages_for net rounds k (switch_numbered n)) c ∷ l) rest

pub told_round : (net : Network) (rounds : List (List Change)) (k : ℕ) (turns : List SwitchStart) (channels : List ChannelState) → k < length rounds → length turns ≡ length channels
    → HoldMessages k (sent_from (first_xid net rounds k) (round_requests net k (round_after k rounds))) turns → told_by_turns turns channels ≡ told_all net rounds k 0 channels
told_round net rounds k turns channels less count hold =
    let alone : (i : ℕ) → messages_to k (switch_numbered i) (sent_from (first_xid net rounds k) (round_requests net k (round_after k rounds))) ≡ messages_for net rounds k (switch_numbered (0 + i)) =
    λ i. let place : i ≡ 0 + i = omega arith in sym (round_alone net rounds k (switch_numbered i) less) ∙ ap (λ (j : ℕ). messages_for net rounds k (switch_numbered j)) place in
    told_as net rounds k 0 turns channels count (λ i d lt. hold.text i d lt ∙ ap (flat_map wire_text) (alone i)) (λ i d lt. hold.barrier i d lt ∙ ap barrier_in (alone i))

-- ---- bytes come

-- the log and the channels stay where the bytes aren't taken
pub hear_err : (phase : Phase) (log now : List Event) (channels : List ChannelView) (n : ℕ) (v old : ChannelView) → now ≡ log → old ≡ get_or channels n old → v.state ≡ old.state
    → with_states phase now (set channels n v) ≡ with_states phase log channels
hear_err phase log now channels n v old same at state =
    ap (λ l. with_states phase l (set channels n v)) same
    ∙ ap (λ l. let d : DriverState = record { phase = phase; log = log; channels = l } in d) (states_kept channels n v old (state ∙ ap (λ (x : ChannelView). x.state) at))

module _ (rounds : List (List Change)) (phase : Phase) (log : List Event) (channels : List ChannelView) (n : ℕ) (lt : n < length channels) (bytes : List ℕ) (v old : ChannelView) (at : old ≡ get_or channels n old)
    (state : v.state ≡ after_bytes bytes old.state) where
  abbrev before : ChannelState
  before = channel_at (with_states phase log channels) (switch_numbered n)

  abbrev after : ChannelState
  after = after_bytes bytes before

  abbrev events : List Event
  events = change_events (switch_numbered n) 0 (running_round phase rounds)

  before_is : before ≡ old.state
  before_is = state_at channels n old first_channel lt ∙ ap (λ (x : ChannelView). x.state) (sym at)

  after_is : after ≡ v.state
  after_is = ap (after_bytes bytes) before_is ∙ sym state

  states_are : states_of (set channels n v) ≡ set (states_of channels) n after
  states_are = states_set channels n v ∙ ap (set (states_of channels) n) (sym after_is)

  abbrev with_log : List Event → List ChannelState → DriverState
  with_log l cs = record { phase = phase; log = l; channels = cs }

  pub hear_not : (now : List Event) → now ≡ log → (is_some old.state.outstanding && is_none v.state.outstanding) ≡ false → with_states phase now (set channels n v) ≡ driver_after_bytes rounds (switch_numbered n) bytes (with_states phase log channels)
  hear_not now same fails =
      let test : is_answered before.outstanding after.outstanding ≡ false =
      ap (λ (c : ChannelState). is_answered c.outstanding after.outstanding) before_is ∙ ap (λ (c : ChannelState). is_answered old.state.outstanding c.outstanding) after_is ∙ fails in
      ap (λ l. with_log l (states_of (set channels n v))) same ∙ ap (with_log log) states_are
      ∙ sym (cond-false (is_answered before.outstanding after.outstanding) (settled_if_answered (with_log (log ++ events) (set (states_of channels) n after))) (with_log log (set (states_of channels) n after)) test)

  pub hear_answered : (next : Phase) (more last : List Event) (now : List ChannelView) → now ≡ set channels n v → with_states next last now ≡ settled_if_answered (with_states phase more now) → more ≡ log ++ events
      → is_some old.state.outstanding ≡ true → is_none v.state.outstanding ≡ true → with_states next last (set channels n v) ≡ driver_after_bytes rounds (switch_numbered n) bytes (with_states phase log channels)
  hear_answered next more last now is settles more_is some none =
      let test : is_answered before.outstanding after.outstanding ≡ true =
      ap (λ (c : ChannelState). is_answered c.outstanding after.outstanding) before_is ∙ ap (λ (c : ChannelState). is_answered old.state.outstanding c.outstanding) after_is
      ∙ ap (λ b. b && is_none v.state.outstanding) some ∙ none in
      ap (with_states next last) (sym is) ∙ settles ∙ ap (λ l. settled_if_answered (with_states phase more l)) is
      ∙ ap (λ l. settled_if_answered (with_log l (states_of (set channels n v)))) more_is ∙ ap (λ cs. settled_if_answered (with_log (log ++ events) cs)) states_are
      ∙ sym (cond-true (is_answered before.outstanding after.outstanding) (settled_if_answered (with_log (log ++ events) (set (states_of channels) n after))) (with_log log (set (states_of channels) n after)) test)

  -- what was seen of the channel before and after
  pub seen_before : (first : ChannelView) (b : Bool) → first ≡ get_or channels n first → is_some first.state.outstanding ≡ b → is_some old.state.outstanding ≡ b
  seen_before first b is e = ap (λ (x : ChannelView). is_some x.state.outstanding) (at ∙ get_or_default channels n old first lt ∙ sym is) ∙ e

  pub seen_after : (last : ChannelView) (b : Bool) → last ≡ get_or (set channels n v) n last → is_none last.state.outstanding ≡ b → is_none v.state.outstanding ≡ b
  seen_after last b is e = ap (λ (x : ChannelView). is_none x.state.outstanding) (sym (get_or-set_same channels n v last lt) ∙ sym is) ∙ e

pub not_none : (a : Bool) (b : Bool) → b ≡ false → (a && b) ≡ false
not_none true b e = e
not_none false b e = refl

pub not_waited : (a : Bool) (b : Bool) → a ≡ false → (a && b) ≡ false
not_waited a b e = ap (λ x. x && b) e

-- ---- whether a round may start

module _ (net : Network) (rounds : List (List Change)) (channels : List ChannelView) (phase : Phase) (k : ℕ) (settled : phase ≡ Settled k) (differs : k ≡ length rounds → ⊥) (round : List Change) (round_is : round ≡ round_after k rounds)
    (changed : ℕ) (are : HasChanged changed round) (count : length channels ≡ switch_count net) (log : List Event) where
  abbrev driver : DriverState
  driver = record { phase = phase; log = log; channels = states_of channels }

  abbrev missing : SwitchId → Bool
  missing s = not (is_open (get_or (states_of channels) s.0 first_channel).session)

  pub start_is : (found : Option SwitchId) → found ≡ found_from missing (has changed) 0 (length channels) → start_fault_in net rounds driver phase ≡ option_map fault.NotOpen found
  start_is found is =
      let passed : filter (has changed) (map switch_numbered (range_with_len 0 (length channels))) ≡ switches_changed net round =
      ap (λ (n : ℕ). filter (has changed) (map switch_numbered (range_with_len 0 n))) count
      ∙ same_passed (has changed) (is_changed round) 0 (switch_count net) (λ s ge lt. are (switch_numbered s)) in
      let found_is : first_not_open driver (switches_changed net (round_after k rounds)) ≡ found = ap (λ r. find missing (switches_changed net r)) (sym round_is) ∙ ap (find missing) (sym passed) ∙ sym is in
      ap (start_fault_in net rounds driver) settled
      ∙ cond-false (eqb k (length rounds)) (Some fault.Finished) (option_map fault.NotOpen (first_not_open driver (switches_changed net (round_after k rounds)))) (ne_eqb k (length rounds) differs)
      ∙ ap (option_map fault.NotOpen) found_is

pub less_from : (a b : ℕ) → a ≤ b → (a ≡ b → ⊥) → a < b
less_from a b le differs = elim (cases_eq a b) [ inl same ↦ absurd (differs same) | inr ne ↦ omega arith ]
