-- Which way an update goes, when it turns, and why a round isn't begun.
use Rattle.std.proofs.Common.{◌≡◌, ◌⊎◌, ◌↔◌, ℕ, zero, suc, ◌+◌, ◌<◌, ◌≤◌, Bool, true, false, cond, not, eqb, ◌&&◌, ◌||◌, List, [], ◌∷◌, ◌++◌, length, map, get_or, refl, sym, ap, ◌∙◌, subst, inl, inr, append_assoc, append-nil, arith}
use Rattle.std.specs.Prelude.{filter, find, Option, Some, None, is_some, is_none}
use Rattle.std.specs.List.{AllByRecursion, range_with_len}
use Rattle.std.specs.Option.{option_map}
use Rattle.std.proofs.lemmas.Bool.{cases_Bool, cases_eq, cond-true, cond-false, cond_both, eqb-true, eq-eqb}
use Rattle.std.proofs.lemmas.List.Elements.{filter_map-append}
use Rattle.net_base.specs.declared.ids.SwitchId.{SwitchId}
use Rattle.topology.specs.Networks.{Network, switch_count}
use Rattle.flow_rules.specs.declared.rules.Rule.{Rule}
use Rattle.update_model.specs.Changes.{round_after}
use Rattle.update_model.specs.Mixtures.{AreGoodRounds}
use Rattle.update_model.specs.declared.Change.{Change}
use Rattle.update_model.specs.declared.Phase.{Phase}
use Rattle.update_model.specs.declared.Phase.TheVariants as phase
use Rattle.law_two_way_runs.specs.States.{TwoWayEvent}
use Rattle.law_two_way_runs.specs.States as two_way
use Rattle.law_two_way_runs.specs.Runs.{state_after_two_way}
use Rattle.round_messages.specs.Requests.{is_changed, switch_numbered, switches_changed}
use Rattle.switch_session.specs.Channels.{is_open, after_request}
use Rattle.turned_rounds.specs.Batches.{next_if, xid_behind, batch_of}
use Rattle.turned_rounds.specs.declared.outgoing.Outgoing.{Outgoing}
use Rattle.two_way_driver.specs.PeerStates.{PeerState}
use Rattle.two_way_driver.specs.Peers.{first_peer, queued_peer, asks}
use Rattle.two_way_driver.specs.Drivers.{DriverState, peer_at, with_said, send_if, sends, is_to_open, asks_if, asked_from, sent_out, settled_in, all_answered, settled_if_answered, first_driver, flagged_state, is_open_or_dead, first_not_open, start_fault_in, back_fault_in}
use Rattle.two_way_driver.specs.Calls.{AreTurnable, DriverView, silent_view, back_fault}
use Rattle.two_way_driver.specs.Laws.{Call, Start, Back, Reopen, Feed, Dead, IsCall, after_calls, event_in, events_in, phase_of, rollout_of}
use Rattle.two_way_driver.specs.Words.{after_call_anew, after_calls_anew}
use Rattle.two_way_driver.specs.declared.Stage.{Stage}
use Rattle.two_way_driver.specs.declared.Stage.TheVariants.{Settled, Onward, Undone}
use Rattle.two_way_driver.specs.declared.DriverEvent.TheVariants as logged
use Rattle.two_way_driver.specs.declared.DriverOutput.TheVariants.{Log}
use Rattle.two_way_driver.specs.declared.faults.CallFault.{CallFault}
use Rattle.two_way_driver.specs.declared.faults.CallFault.TheVariants as fault
use Rattle.two_way_driver.proofs.RunLaws.{says_run}
use Rattle.law_wire_answers.specs.Exchanges.{Exchange, exchange_of, exchanges_from, begins_way, is_between_rounds, SwitchTalk, traffic_behind}
use Rattle.law_wire_answers.specs.Answering.{HasAnswered}
use Rattle.law_wire_answers.specs.Turning.{is_back, goes_back_then, goes_back_from, goes_back, stage_going, IsFirstClosed, StartCause, BackCause, TurnsRound, BeginsBack, TurnsAsAsked}
use Rattle.law_wire_answers.proofs.TrafficLaws.{exchanges_push}
use Rattle.law_wire_answers.proofs.KnowingLaws.{Known}
use Rattle.law_wire_answers.proofs.CallLaws.{made, OnCalls, on_next, done_call, on_none, silent_is}

-- ---- the first of the switches that are closed

module _ (changes : List Change) (is_closed : SwitchId → Bool) where
  abbrev from : ℕ → ℕ → List SwitchId
  from n count = filter (is_changed changes) (map switch_numbered (range_with_len n count))

  abbrev found : ℕ → ℕ → Option SwitchId
  found n count = find is_closed (from n count)

  step : (n count : ℕ) (changed closed : Bool) → is_changed changes (switch_numbered n) ≡ changed → is_closed (switch_numbered n) ≡ closed
      → found n (suc count) ≡ cond (changed && closed) (Some (switch_numbered n)) (found (n + 1) count)
  step n count true closed e f =
      ap (λ b. find is_closed (cond b (switch_numbered n ∷ from (n + 1) count) (from (n + 1) count))) e ∙ ap (λ b. cond b (Some (switch_numbered n)) (found (n + 1) count)) f
  step n count false closed e f = ap (λ b. find is_closed (cond b (switch_numbered n ∷ from (n + 1) count) (from (n + 1) count))) e

  record IsFirst (n count : ℕ) (s : SwitchId) : Type 0 where
    least : n ≤ s.0
    within : s.0 < n + count
    changed : is_changed changes s ≡ true
    closed : is_closed s ≡ true
    first : (r : SwitchId) → n ≤ r.0 → r.0 < s.0 → is_changed changes r ≡ true → is_closed r ≡ false

  none_some : {A : Type 0} (x : A) → None ≡ Some x → ⊥
  none_some x e = let f : None ≡ Some x = e in cc

  past : (n count : ℕ) (s : SwitchId) → (is_changed changes (switch_numbered n) ≡ true → is_closed (switch_numbered n) ≡ false) → IsFirst (n + 1) count s → IsFirst n (suc count) s
  past n count s here rest =
      let least = rest.least in
      let within = rest.within in
      record {
        least = omega arith;
        within = omega arith;
        changed = rest.changed;
        closed = rest.closed;
        first = λ r le lt changed. elim (cases_eq n r.0) [
          | inl same ↦ (let is : switch_numbered n ≡ r = ap switch_numbered same in subst (λ (x : SwitchId). is_closed x ≡ false) is (here (ap (is_changed changes) is ∙ changed)))
          | inr differs ↦ rest.first r (omega (arith, differs)) lt changed
        ];
      }

  first_found : (n count : ℕ) (s : SwitchId) → found n count ≡ Some s → IsFirst n count s
  first_found n zero s e = absurd (none_some s e)
  first_found n (suc count) s e =
      elim (cases_Bool (is_changed changes (switch_numbered n))) [
        | inl on ↦ elim (cases_Bool (is_closed (switch_numbered n))) [
          | inl shut ↦ (
              let f : Some (switch_numbered n) ≡ Some s = sym (step n count true true on shut) ∙ e in
              let g : switch_numbered n ≡ s = cc in
              let h : n ≡ s.0 = ap (λ (r : SwitchId). r.0) g in
              record {
                least = omega arith;
                within = omega arith;
                changed = ap (is_changed changes) (sym g) ∙ on;
                closed = ap is_closed (sym g) ∙ shut;
                first = λ r le lt changed. absurd (omega arith);
              })
          | inr open_here ↦ past n count s (λ _. open_here) (first_found (n + 1) count s (sym (step n count true false on open_here) ∙ e))
        ]
        | inr off ↦ past n count s (λ on. absurd (let f : false ≡ true = sym off ∙ on in cc)) (first_found (n + 1) count s (sym (step n count false (is_closed (switch_numbered n)) off refl) ∙ e))
      ]

  found_first : (n count : ℕ) (s : SwitchId) → IsFirst n count s → found n count ≡ Some s
  found_first n zero s h = absurd (let least = h.least in let within = h.within in omega arith)
  found_first n (suc count) s h =
      elim (cases_eq n s.0) [
        | inl same ↦ (let is : switch_numbered n ≡ s = ap switch_numbered same in step n count true true (ap (is_changed changes) is ∙ h.changed) (ap is_closed is ∙ h.closed) ∙ ap Some is)
        | inr differs ↦ (
            let least = h.least in
            let within = h.within in
            let rest : IsFirst (n + 1) count s = record {
              least = omega (arith, differs);
              within = omega arith;
              changed = h.changed;
              closed = h.closed;
              first = λ r le lt changed. h.first r (omega arith) lt changed;
            } in
            elim (cases_Bool (is_changed changes (switch_numbered n))) [
              | inl on ↦ step n count true false on (h.first (switch_numbered n) (omega arith) (omega (arith, differs)) on) ∙ found_first (n + 1) count s rest
              | inr off ↦ step n count false (is_closed (switch_numbered n)) off refl ∙ found_first (n + 1) count s rest
            ])
      ]

  found_none : (n count : ℕ) → ((r : SwitchId) → n ≤ r.0 → r.0 < n + count → is_changed changes r ≡ true → is_closed r ≡ false) → found n count ≡ None
  found_none n zero h = refl
  found_none n (suc count) h =
      let rest = found_none (n + 1) count (λ r le lt on. h r (omega arith) (omega arith) on) in
      elim (cases_Bool (is_changed changes (switch_numbered n))) [
        | inl on ↦ step n count true false on (h (switch_numbered n) (omega arith) (omega arith) on) ∙ rest
        | inr off ↦ step n count false (is_closed (switch_numbered n)) off refl ∙ rest
      ]

-- ---- refusals

not_open : (b : Bool) → not b ≡ true → b ≡ false
not_open true e = absurd (let f : false ≡ true = e in cc)
not_open false e = refl

is_shut : (b : Bool) → not b ≡ false → b ≡ true
is_shut true e = refl
is_shut false e = absurd (let f : true ≡ false = e in cc)

module _ (v : DriverView) (changes : List Change) where
  abbrev closed_at : SwitchId → Bool
  closed_at r = not (is_open_or_dead (get_or v.state.peers r.0 first_peer))

  abbrev first_closed : Option SwitchId
  first_closed = first_not_open v.state.peers (switches_changed v.net changes)

  closed_first : (s : SwitchId) → first_closed ≡ Some s → IsFirstClosed v changes s
  closed_first s e =
      let h = first_found changes closed_at 0 (switch_count v.net) s e in
      record {
        within = (let w = h.within in omega arith);
        changed = h.changed;
        closed = not_open (is_open_or_dead (get_or v.state.peers s.0 first_peer)) h.closed;
        first = λ r lt on. is_shut (is_open_or_dead (get_or v.state.peers r.0 first_peer)) (h.first r (omega arith) lt on);
      }

  first_is_closed : (s : SwitchId) → IsFirstClosed v changes s → first_closed ≡ Some s
  first_is_closed s h = found_first changes closed_at 0 (switch_count v.net) s (record {
    least = omega arith;
    within = (let w = h.within in omega arith);
    changed = h.changed;
    closed = ap not h.closed;
    first = λ r le lt on. ap not (h.first r lt on);
  })

  all_open : ((s : SwitchId) → s.0 < switch_count v.net → is_changed changes s ≡ true → is_open_or_dead (get_or v.state.peers s.0 first_peer) ≡ true) → first_closed ≡ None
  all_open h = found_none changes closed_at 0 (switch_count v.net) (λ r le lt on. ap not (h r (omega arith) on))

refused_by : (s : SwitchId) (o : Option SwitchId) → option_map fault.NotOpen o ≡ Some (fault.NotOpen s) → o ≡ Some s
refused_by s None e = absurd (let f : None ≡ Some (fault.NotOpen s) = e in cc)
refused_by s (Some r) e = let f : Some (fault.NotOpen r) ≡ Some (fault.NotOpen s) = e in let g : r ≡ s = cc in ap Some g

-- a refusal for a closed switch is no other one
refused_only : (o : Option SwitchId) (f : CallFault) → option_map fault.NotOpen o ≡ Some f → (s : SwitchId) × (f ≡ fault.NotOpen s)
refused_only None f e = absurd (let g : None ≡ Some f = e in cc)
refused_only (Some r) f e = (r, (let g : Some (fault.NotOpen r) ≡ Some f = e in let h : fault.NotOpen r ≡ f = cc in sym h))

none_behind : (rounds : List (List Change)) (k : ℕ) → k ≡ length rounds → round_after k rounds ≡ []
none_behind [] k e = refl
none_behind (r ∷ rounds) zero e = absurd (omega arith)
none_behind (r ∷ rounds) (suc k) e = none_behind rounds k (omega arith)

module _ (v : DriverView) where
  abbrev closed_in : ℕ → Option SwitchId
  closed_in k = first_closed v (round_after k v.rounds)

  abbrev at_start : ℕ → Option CallFault
  at_start k = cond (eqb k (length v.rounds)) (Some fault.Finished) (option_map fault.NotOpen (closed_in k))

  not_changed : (k : ℕ) (s : SwitchId) → eqb k (length v.rounds) ≡ true → is_changed (round_after k v.rounds) s ≡ true → ⊥
  not_changed k s e on = let f : is_changed [] s ≡ true = ap (λ (l : List Change). is_changed l s) (sym (none_behind v.rounds k (eqb-true k (length v.rounds) e))) ∙ on in let g : false ≡ true = f in cc

  start_then : (k : ℕ) (f : CallFault) → at_start k ≡ Some f → StartCause v (phase.Settled k) f
  start_then k f e =
      elim (cases_Bool (eqb k (length v.rounds))) [
        | inl last ↦ (
            let g : Some fault.Finished ≡ Some f = sym (cond-true (eqb k (length v.rounds)) (Some fault.Finished) (option_map fault.NotOpen (closed_in k)) last) ∙ e in
            let h : fault.Finished ≡ f = cc in
            subst (StartCause v (phase.Settled k)) h (ap phase.Settled (eqb-true k (length v.rounds) last)))
        | inr more ↦ (
            let g : option_map fault.NotOpen (closed_in k) ≡ Some f = sym (cond-false (eqb k (length v.rounds)) (Some fault.Finished) (option_map fault.NotOpen (closed_in k)) more) ∙ e in
            let (s, is) = refused_only (closed_in k) f g in
            subst (StartCause v (phase.Settled k)) (sym is) (k, refl, closed_first v (round_after k v.rounds) s (refused_by s (closed_in k) (g ∙ ap Some is))))
      ]

  start_for : (k : ℕ) (f : CallFault) → StartCause v (phase.Settled k) f → at_start k ≡ Some f
  start_for k fault.Running (j, e) = absurd (let g : phase.Settled k ≡ phase.Running (suc j) = e in cc)
  start_for k fault.Finished e =
      let g : phase.Settled k ≡ phase.Settled (length v.rounds) = e in
      let h : k ≡ length v.rounds = cc in
      cond-true (eqb k (length v.rounds)) (Some fault.Finished) (option_map fault.NotOpen (closed_in k)) (eq-eqb k (length v.rounds) h)
  start_for k fault.NotBegun e = absurd e
  start_for k (fault.NotOpen s) (j, e, h) =
      let g : phase.Settled k ≡ phase.Settled j = e in
      let is : j ≡ k = cc in
      let here : IsFirstClosed v (round_after k v.rounds) s = subst (λ n. IsFirstClosed v (round_after n v.rounds) s) is h in
      elim (cases_Bool (eqb k (length v.rounds))) [
        | inl last ↦ absurd (not_changed k s last here.changed)
        | inr more ↦ cond-false (eqb k (length v.rounds)) (Some fault.Finished) (option_map fault.NotOpen (closed_in k)) more ∙ ap (option_map fault.NotOpen) (first_is_closed v (round_after k v.rounds) s here)
      ]
  start_for k fault.Memory e = absurd e

  running_for : (k : ℕ) (f : CallFault) → StartCause v (phase.Running (suc k)) f → Some fault.Running ≡ Some f
  running_for k fault.Running e = refl
  running_for k fault.Finished e = absurd (let g : phase.Running (suc k) ≡ phase.Settled (length v.rounds) = e in cc)
  running_for k fault.NotBegun e = absurd e
  running_for k (fault.NotOpen s) (j, e, h) = absurd (let g : phase.Running (suc k) ≡ phase.Settled j = e in cc)
  running_for k fault.Memory e = absurd e

  running_then : (k : ℕ) (f : CallFault) → Some fault.Running ≡ Some f → StartCause v (phase.Running (suc k)) f
  running_then k f e = let g : Some fault.Running ≡ Some f = e in let h : fault.Running ≡ f = cc in subst (StartCause v (phase.Running (suc k))) h (k, refl)

  undone_for : (k : ℕ) (f : CallFault) → BackCause v (phase.Running (suc k)) true f → Some fault.Running ≡ Some f
  undone_for k fault.Running e = refl
  undone_for k fault.Finished e = absurd e
  undone_for k fault.NotBegun e = absurd (let g : phase.Running (suc k) ≡ phase.Settled 0 = e in cc)
  undone_for k (fault.NotOpen s) (j, e, h) = absurd (let g : phase.Running (suc k) ≡ phase.Settled (suc j) = e in cc)
  undone_for k fault.Memory e = absurd e

  undone_then : (k : ℕ) (f : CallFault) → Some fault.Running ≡ Some f → BackCause v (phase.Running (suc k)) true f
  undone_then k f e = let g : Some fault.Running ≡ Some f = e in let h : fault.Running ≡ f = cc in subst (BackCause v (phase.Running (suc k)) true) h (k, refl, refl)

  turning_for : (k : ℕ) (f : CallFault) → BackCause v (phase.Running (suc k)) false f → None ≡ Some f
  turning_for k fault.Running (j, e, h) = absurd (let g : false ≡ true = h in cc)
  turning_for k fault.Finished e = absurd e
  turning_for k fault.NotBegun e = absurd (let g : phase.Running (suc k) ≡ phase.Settled 0 = e in cc)
  turning_for k (fault.NotOpen s) (j, e, h) = absurd (let g : phase.Running (suc k) ≡ phase.Settled (suc j) = e in cc)
  turning_for k fault.Memory e = absurd e

  first_for : (back : Bool) (f : CallFault) → BackCause v (phase.Settled 0) back f → Some fault.NotBegun ≡ Some f
  first_for back fault.Running (j, e, h) = absurd (let g : phase.Settled 0 ≡ phase.Running (suc j) = e in cc)
  first_for back fault.Finished e = absurd e
  first_for back fault.NotBegun e = refl
  first_for back (fault.NotOpen s) (j, e, h) = absurd (let g : phase.Settled 0 ≡ phase.Settled (suc j) = e in let i : 0 ≡ suc j = cc in omega arith)
  first_for back fault.Memory e = absurd e

  first_then : (back : Bool) (f : CallFault) → Some fault.NotBegun ≡ Some f → BackCause v (phase.Settled 0) back f
  first_then back f e = let g : Some fault.NotBegun ≡ Some f = e in let h : fault.NotBegun ≡ f = cc in subst (BackCause v (phase.Settled 0) back) h refl

  back_then : (k : ℕ) (back : Bool) (f : CallFault) → option_map fault.NotOpen (closed_in k) ≡ Some f → BackCause v (phase.Settled (suc k)) back f
  back_then k back f e =
      let (s, is) = refused_only (closed_in k) f e in
      subst (BackCause v (phase.Settled (suc k)) back) (sym is) (k, refl, closed_first v (round_after k v.rounds) s (refused_by s (closed_in k) (e ∙ ap Some is)))

  back_for : (k : ℕ) (back : Bool) (f : CallFault) → BackCause v (phase.Settled (suc k)) back f → option_map fault.NotOpen (closed_in k) ≡ Some f
  back_for k back fault.Running (j, e, h) = absurd (let g : phase.Settled (suc k) ≡ phase.Running (suc j) = e in cc)
  back_for k back fault.Finished e = absurd e
  back_for k back fault.NotBegun e = absurd (let g : phase.Settled (suc k) ≡ phase.Settled 0 = e in let i : suc k ≡ 0 = cc in omega arith)
  back_for k back (fault.NotOpen s) (j, e, h) =
      let g : phase.Settled (suc k) ≡ phase.Settled (suc j) = e in
      let i : suc k ≡ suc j = cc in
      let is : j ≡ k = omega arith in
      ap (option_map fault.NotOpen) (first_is_closed v (round_after k v.rounds) s (subst (λ n. IsFirstClosed v (round_after n v.rounds) s) is h))
  back_for k back fault.Memory e = absurd e

  -- by stage
  start_causes : (stage : Stage) (now : Phase) (f : CallFault) → now ≡ phase_of stage → (start_fault_in v.net v.rounds v.state.peers stage ≡ Some f) ↔ StartCause v now f
  start_causes (Settled k) now f is = subst (λ (p : Phase). (at_start k ≡ Some f) ↔ StartCause v p f) (sym is) (start_then k f, start_for k f)
  start_causes (Onward k) now f is = subst (λ (p : Phase). (Some fault.Running ≡ Some f) ↔ StartCause v p f) (sym is) (running_then k f, running_for k f)
  start_causes (Undone k) now f is = subst (λ (p : Phase). (Some fault.Running ≡ Some f) ↔ StartCause v p f) (sym is) (running_then k f, running_for k f)

-- ---- the way

-- while a round runs the driver goes the way that was asked last
abbrev IsOnWay : Stage → Bool → Type 0
IsOnWay (Settled k) back = Unit {0}
IsOnWay (Onward k) back = back ≡ false
IsOnWay (Undone k) back = back ≡ true

pub stage_is : (stage : Stage) (back : Bool) (now : Phase) → now ≡ phase_of stage → IsOnWay stage back → stage ≡ stage_going now back
stage_is (Settled k) back now is on = ap (λ (p : Phase). stage_going p back) (sym is)
stage_is (Onward k) back now is on = ap (λ b. cond b (Undone k) (Onward k)) (sym on) ∙ ap (λ (p : Phase). stage_going p back) (sym is)
stage_is (Undone k) back now is on = ap (λ b. cond b (Undone k) (Onward k)) (sym on) ∙ ap (λ (p : Phase). stage_going p back) (sym is)

back_causes : (v : DriverView) (stage : Stage) (back : Bool) (now : Phase) (f : CallFault) → now ≡ phase_of stage → IsOnWay stage back
    → (back_fault_in v.net v.rounds v.state.peers stage ≡ Some f) ↔ BackCause v now back f
back_causes v (Settled zero) back now f is on = subst (λ (p : Phase). (Some fault.NotBegun ≡ Some f) ↔ BackCause v p back f) (sym is) (first_then v back f, first_for v back f)
back_causes v (Settled (suc k)) back now f is on = subst (λ (p : Phase). (option_map fault.NotOpen (closed_in v k) ≡ Some f) ↔ BackCause v p back f) (sym is) (back_then v k back f, back_for v k back f)
back_causes v (Onward k) back now f is on =
    subst (λ (p : Phase). (None ≡ Some f) ↔ BackCause v p back f) (sym is)
    (subst (λ b. (None ≡ Some f) ↔ BackCause v (phase.Running (suc k)) b f) (sym on) ((λ e. absurd (let g : None ≡ Some f = e in cc)), turning_for v k f))
back_causes v (Undone k) back now f is on =
    subst (λ (p : Phase). (Some fault.Running ≡ Some f) ↔ BackCause v p back f) (sym is)
    (subst (λ b. (Some fault.Running ≡ Some f) ↔ BackCause v (phase.Running (suc k)) b f) (sym on) (undone_then v k f, undone_for v k f))

between_on_way : (stage : Stage) (back : Bool) → is_between_rounds stage ≡ true → IsOnWay stage back
between_on_way (Settled k) back e = tt
between_on_way (Onward k) back e = absurd (let f : false ≡ true = e in cc)
between_on_way (Undone k) back e = absurd (let f : false ≡ true = e in cc)

still_on_way : (before after : Stage) (back : Bool) → (after ≡ before) ⊎ (is_between_rounds after ≡ true) → IsOnWay before back → IsOnWay after back
still_on_way before after back (inl same) on = subst (λ (x : Stage). IsOnWay x back) (sym same) on
still_on_way before after back (inr between) on = between_on_way after back between

goes_push : (before : Bool) (es : List Exchange) (e : Exchange) → goes_back_from before (es ++ e ∷ []) ≡ goes_back_then e (goes_back_from before es)
goes_push before [] e = refl
goes_push before (f ∷ es) e = goes_push (goes_back_then f before) es e

-- a round is settled, or not
settle_stage : (round : List Change) (d : DriverState) → ((settled_if_answered round d).stage ≡ d.stage) ⊎ (is_between_rounds (settled_if_answered round d).stage ≡ true)
unfolding settled_if_answered settled_in
settle_stage round d = cond_both (all_answered d.peers) (settled_in round d.stage d) d (λ (e : DriverState). (e.stage ≡ d.stage) ⊎ (is_between_rounds e.stage ≡ true)) (λ _. of_stage d.stage d refl) (λ _. inl refl)
  where
    of_stage : (stage : Stage) (d : DriverState) → d.stage ≡ stage → ((settled_in round stage d).stage ≡ d.stage) ⊎ (is_between_rounds (settled_in round stage d).stage ≡ true)
    of_stage (Settled k) d is = inl refl
    of_stage (Onward k) d is = inr refl
    of_stage (Undone k) d is = inr refl

-- messages are no events
quiet_sends : (wanted : Outgoing → Bool) (ms : List Outgoing) → events_in (sends wanted ms) ≡ []
quiet_sends wanted [] = refl
quiet_sends wanted (m ∷ ms) = filter_map-append event_in (send_if (wanted m) m) (sends wanted ms) ∙ one (wanted m) ∙ quiet_sends wanted ms
  where
    one : (b : Bool) → events_in (send_if b m) ++ events_in (sends wanted ms) ≡ events_in (sends wanted ms)
    one true = refl
    one false = refl

-- one that waits is asked again, so that it waits on
and_false : (a b : Bool) → b ≡ false → (a && b) ≡ false
and_false true b e = e
and_false false b e = refl

rest_waits : (o : Option ℕ) (gone b : Bool) → (o ≡ None) ⊎ (gone ≡ true) → ((is_none o || gone) && b) ≡ false → b ≡ false
rest_waits None gone b e f = f
rest_waits (Some x) true b e f = f
rest_waits (Some x) false b (inl e) f = absurd (let g : Some x ≡ None = e in cc)
rest_waits (Some x) false b (inr e) f = absurd (let g : false ≡ true = e in cc)

asks_waits : (x : ℕ) (p : PeerState) → (is_none (asks x p).asked || (asks x p).is_dead) ≡ p.is_dead
unfolding asks
asks_waits x p =
    let q : PeerState = record p { asked = Some x } in
    let r : PeerState = record q { channel = after_request [] x q.channel } in
    let So : PeerState → Type 0 = λ (r : PeerState). (is_none r.asked || r.is_dead) ≡ p.is_dead in
    cond_both (is_open p.channel.session) (queued_peer x q) q So (λ _. cond_both (is_some p.channel.outstanding) (record q { behind = Some x }) r So (λ _. refl) (λ _. refl)) (λ _. refl)

still_waits : (changes : List Change) (x n : ℕ) (peers : List PeerState) → ((i : ℕ) → i < length peers → is_changed changes (switch_numbered (n + i)) ≡ false → (get_or peers i first_peer).asked ≡ None)
    → all_answered peers ≡ false → all_answered (asked_from x changes n peers) ≡ false
still_waits changes x n [] h e = absurd (let f : true ≡ false = e in cc)
still_waits changes x n (p ∷ peers) h e =
    let changed = is_changed changes (switch_numbered n) in
    let rest = all_answered (asked_from (next_if changed x) changes (suc n) peers) in
    let head : PeerState → Bool = λ q. is_none q.asked || q.is_dead in
    let later : (p.asked ≡ None) ⊎ (p.is_dead ≡ true) → rest ≡ false = λ why.
    still_waits changes (next_if changed x) (suc n) peers
    (λ i less away. h (suc i) (omega arith) (ap (λ k. is_changed changes (switch_numbered k)) (let z : n + suc i ≡ suc n + i = omega arith in z) ∙ away)) (rest_waits p.asked p.is_dead (all_answered peers) why e) in
    elim (cases_Bool changed) [
      | inl on ↦ elim (cases_Bool p.is_dead) [
        | inl gone ↦ and_false (head (asks_if changed x p)) rest (later (inr gone))
        | inr alive ↦ ap (λ b. head (asks_if b x p) && rest) on ∙ ap (λ b. b && rest) (asks_waits x p ∙ alive)
      ]
      | inr off ↦ (
          let none : p.asked ≡ None = h 0 (omega arith) (ap (λ k. is_changed changes (switch_numbered k)) (let z : n + 0 ≡ n = omega arith in z) ∙ off) in
          and_false (head (asks_if changed x p)) rest (later (inl none)))
    ]

module _ (net : Network) (rounds inverses : List (List Change)) (turnable : AreTurnable net rounds inverses) where
  abbrev on_calls : List Call → DriverState → Type 0
  on_calls calls d = OnCalls net rounds inverses turnable calls d

  abbrev sight : DriverState → DriverView
  sight d = record { net = net; rounds = rounds; inverses = inverses; state = d }

  abbrev Turns : ℕ → DriverState → Type 0
  Turns k e = (events_in e.said ≡ []) × (e.stage ≡ Undone k)

  turn_round : (T : SwitchId → SwitchTalk) (D : SwitchId → List Change → Type 0) (k : ℕ) (d : DriverState) → Known net rounds inverses T D (record d { stage = Onward k })
      → TurnsRound (sight (record d { stage = Onward k; said = [] })) k
  unfolding sent_out settled_if_answered
  turn_round T D k d known =
      let changes = round_after k inverses in
      let e : DriverState = sent_out net changes (Undone k) (record d { stage = Onward k; said = [] }) in
      let waits : all_answered e.peers ≡ false = still_waits changes (xid_behind d.next (length changes)) 0 d.peers
      (λ i less off. (known.all (switch_numbered i) (let c = known.count in omega arith)).unasked
      (sym (turnable.same k (switch_numbered i)) ∙ ap (λ n. is_changed changes (switch_numbered n)) (let z : i ≡ 0 + i = omega arith in z) ∙ off)) (known.running refl) in
      let h : Turns k (settled_if_answered (round_after k rounds) e) = subst (λ b. Turns k (cond b (settled_in (round_after k rounds) (Undone k) e) e)) (sym waits) (quiet_sends (is_to_open d.peers) (batch_of net d.next changes), refl) in
      record { taken = refl; quiet = h.0; stage = h.1 }

  abbrev SaysBack : DriverState → Type 0
  SaysBack e = (rest : List TwoWayEvent) × (events_in e.said ≡ two_way.Back ∷ rest)

  begin_back : (k : ℕ) (d : DriverState)
      → ((s : SwitchId) → s.0 < switch_count net → is_changed (round_after k rounds) s ≡ true → is_open_or_dead (get_or d.peers s.0 first_peer) ≡ true)
      → BeginsBack (sight (record d { stage = Settled (suc k); said = [] }))
  unfolding sent_out settled_if_answered settled_in
  begin_back k d open_all =
      let v = sight (record d { stage = Settled (suc k); said = [] }) in
      let none : first_closed v (round_after k rounds) ≡ None = all_open v (round_after k rounds) open_all in
      let taken : back_fault v ≡ None = ap (option_map fault.NotOpen) none in
      let changes = round_after k inverses in
      let e : DriverState = sent_out net changes (Undone k) (flagged_state true (with_said (Log logged.Back ∷ []) (record d { stage = Settled (suc k); said = [] }))) in
      let says : SaysBack (settled_if_answered (round_after k rounds) e) = cond_both (all_answered e.peers) (settled_in (round_after k rounds) (Undone k) e) e SaysBack (λ _. (_, refl)) (λ _. (_, refl)) in
      let after : SaysBack (after_call_anew v Back).state = subst (λ (o : Option CallFault). SaysBack (cond (is_none o) (sight (settled_if_answered (round_after k rounds) e)) (silent_view v)).state) (sym taken) says in
      record { taken = taken; behind = after.0; says = after.1 }

  -- ---- each call keeps to the way

  way_then : (calls : List Call) (d : DriverState) (c : Call) (back : Bool) → (on : on_calls calls d) → IsCall net c → IsOnWay d.stage back → IsOnWay (after_call_anew (sight d) c).state.stage (goes_back_then (exchange_of (sight d) c) back)
  unfolding sent_out
  way_then calls d c back on ok way =
      elim (cases_Bool (begins_way (exchange_of (sight d) c))) [
        | inl begins ↦ subst (λ b. IsOnWay (after_call_anew (sight d) c).state.stage (cond b (is_back c) back)) (sym begins) (new_way c d.stage d begins)
        | inr same ↦ (
            let done = done_call net rounds inverses turnable calls d c ok on in
            subst (λ b. IsOnWay (after_call_anew (sight d) c).state.stage (cond b (is_back c) back)) (sym same)
            (subst (λ (v : DriverView). IsOnWay v.state.stage back) (sym done.is) (still_on_way d.stage done.state.stage back (done.now same) way)))
      ]
    where
      began : (round : List Change) (e : DriverState) (stage : Stage) (goes : Bool) → e.stage ≡ stage → IsOnWay stage goes → IsOnWay (settled_if_answered round e).stage goes
      began round e stage goes is way = still_on_way e.stage (settled_if_answered round e).stage goes (settle_stage round e) (subst (λ (x : Stage). IsOnWay x goes) (sym is) way)

      new_way : (c : Call) (stage : Stage) (d : DriverState) → begins_way (exchange_of (sight (record d { stage = stage })) c) ≡ true → IsOnWay (after_call_anew (sight (record d { stage = stage })) c).state.stage (is_back c)
      new_way (Reopen t) stage d e = absurd (let f : false ≡ true = e in cc)
      new_way (Feed t bytes) stage d e = absurd (let f : false ≡ true = e in cc)
      new_way (Dead t) stage d e = absurd (let f : false ≡ true = e in cc)
      new_way Start (Settled k) d e =
          let v = sight (record d { stage = Settled k; said = [] }) in
          let f : DriverState = sent_out net (round_after k rounds) (Onward k) (flagged_state false (with_said (Log logged.Start ∷ []) (record d { stage = Settled k; said = [] }))) in
          subst (λ b. IsOnWay (cond b (sight (settled_if_answered (round_after k rounds) f)) v).state.stage false) (sym e) (began (round_after k rounds) f (Onward k) false refl refl)
      new_way Start (Onward k) d e = absurd (let f : false ≡ true = e in cc)
      new_way Start (Undone k) d e = absurd (let f : false ≡ true = e in cc)
      new_way Back (Settled zero) d e = absurd (let f : false ≡ true = e in cc)
      new_way Back (Settled (suc k)) d e =
          let v = sight (record d { stage = Settled (suc k); said = [] }) in
          let f : DriverState = sent_out net (round_after k inverses) (Undone k) (flagged_state true (with_said (Log logged.Back ∷ []) (record d { stage = Settled (suc k); said = [] }))) in
          subst (λ b. IsOnWay (cond b (sight (settled_if_answered (round_after k rounds) f)) v).state.stage true) (sym e) (began (round_after k rounds) f (Undone k) true refl refl)
      new_way Back (Onward k) d e = began (round_after k rounds) (sent_out net (round_after k inverses) (Undone k) (record d { stage = Onward k; said = [] })) (Undone k) true refl refl
      new_way Back (Undone k) d e = absurd (let f : false ≡ true = e in cc)

  -- ---- behind all calls

  abbrev begun : DriverView
  begun = made net rounds inverses turnable

  record OnWayBehind (calls : List Call) : Type 0 where
    state : DriverState
    on : on_calls calls state
    way : IsOnWay state.stage (goes_back begun calls)

  way_calls : (more calls : List Call) (d : DriverState) → AllByRecursion (IsCall net) more → on_calls calls d → IsOnWay d.stage (goes_back begun calls) → OnWayBehind (calls ++ more)
  way_calls [] calls d ok on way = subst OnWayBehind (sym (append-nil calls)) (record { state = d; on = on; way = way })
  way_calls (c ∷ more) calls d ok on way =
      let done = done_call net rounds inverses turnable calls d c ok.0 on in
      let back : goes_back begun (calls ++ c ∷ []) ≡ goes_back_then (exchange_of (sight d) c) (goes_back begun calls) =
      ap (goes_back_from false) (exchanges_push begun calls c) ∙ goes_push false (exchanges_from begun calls) (exchange_of (after_calls_anew begun calls) c)
      ∙ ap (λ (v : DriverView). goes_back_then (exchange_of v c) (goes_back begun calls)) on.is in
      let now : IsOnWay done.state.stage (goes_back begun (calls ++ c ∷ [])) =
      subst (IsOnWay done.state.stage) (sym back)
      (subst (λ (v : DriverView). IsOnWay v.state.stage (goes_back_then (exchange_of (sight d) c) (goes_back begun calls))) done.is (way_then calls d c (goes_back begun calls) on ok.0 way)) in
      subst OnWayBehind (append_assoc calls (c ∷ []) more) (way_calls more (calls ++ c ∷ []) done.state ok.1 (on_next net rounds inverses turnable calls d c on done) now)

  turns_at : (T : SwitchId → SwitchTalk) (D : SwitchId → List Change → Type 0) (stage : Stage) (d : DriverState) (now : Phase) (back : Bool) → Known net rounds inverses T D (record d { stage = stage }) → now ≡ phase_of stage → IsOnWay stage back
      → TurnsAsAsked (sight (record d { stage = stage; said = [] })) now back
  turns_at T D stage d now back known is on = record {
    stage = stage_is stage back now is on;
    turns = λ k running onward. turning stage known is on k running onward;
    undoes = λ k settled open_all. undoing stage is k settled open_all;
    start_refused = λ f. start_causes (sight (record d { stage = stage; said = [] })) stage now f is;
    back_refused = λ f. back_causes (sight (record d { stage = stage; said = [] })) stage back now f is on;
  }
    where
      turning : (stage : Stage) → Known net rounds inverses T D (record d { stage = stage }) → now ≡ phase_of stage → IsOnWay stage back → (k : ℕ) → now ≡ phase.Running (suc k) → back ≡ false
          → TurnsRound (sight (record d { stage = stage; said = [] })) k
      turning (Settled j) known is on k running onward = absurd (let f : phase.Settled j ≡ phase.Running (suc k) = sym is ∙ running in cc)
      turning (Onward j) known is on k running onward =
          let f : phase.Running (suc j) ≡ phase.Running (suc k) = sym is ∙ running in
          let g : suc j ≡ suc k = cc in
          let same : j ≡ k = omega arith in
          subst (λ n. TurnsRound (sight (record d { stage = Onward j; said = [] })) n) same (turn_round T D j d known)
      turning (Undone j) known is on k running onward = absurd (let f : true ≡ false = sym on ∙ onward in cc)

      undoing : (stage : Stage) → now ≡ phase_of stage → (k : ℕ) → now ≡ phase.Settled (suc k)
          → ((s : SwitchId) → s.0 < switch_count net → is_changed (round_after k rounds) s ≡ true → is_open_or_dead (get_or d.peers s.0 first_peer) ≡ true)
          → BeginsBack (sight (record d { stage = stage; said = [] }))
      undoing (Settled j) is k settled open_all =
          let f : phase.Settled j ≡ phase.Settled (suc k) = sym is ∙ settled in
          let same : j ≡ suc k = cc in
          subst (λ n. BeginsBack (sight (record d { stage = Settled n; said = [] }))) (sym same) (begin_back k d open_all)
      undoing (Onward j) is k settled open_all = absurd (let f : phase.Running (suc j) ≡ phase.Settled (suc k) = sym is ∙ settled in cc)
      undoing (Undone j) is k settled open_all = absurd (let f : phase.Running (suc j) ≡ phase.Settled (suc k) = sym is ∙ settled in cc)

  pub turns_as_asked : (old : List (List Rule)) (calls : List Call) → AreGoodRounds (rollout_of net old rounds) → AllByRecursion (IsCall net) calls
      → TurnsAsAsked (silent_view (after_calls begun calls)) (state_after_two_way (rollout_of net old rounds) (events_in (after_calls begun calls).state.said)).phase (goes_back begun calls)
  turns_as_asked old calls good ok =
      let at = way_calls calls [] (first_driver net) ok (on_none net rounds inverses turnable) tt in
      let run = says_run net rounds inverses old good turnable calls ok in
      let now : Phase = (state_after_two_way (rollout_of net old rounds) (events_in (after_calls begun calls).state.said)).phase in
      let same = silent_is net rounds inverses turnable calls at.state at.on in
      let stage : (after_calls begun calls).state.stage ≡ at.state.stage = ap (λ (v : DriverView). v.state.stage) same in
      subst (λ (v : DriverView). TurnsAsAsked v now (goes_back begun calls)) (sym same)
      (turns_at (λ s. traffic_behind begun s calls) (λ s changes. HasAnswered begun calls s changes) at.state.stage at.state now (goes_back begun calls) at.on.known (run.phase ∙ ap phase_of stage) at.way)

  -- a switch is dead where the calls say so
  pub dead_as_told : (calls : List Call) (s : SwitchId) → AllByRecursion (IsCall net) calls → s.0 < switch_count net → (peer_at (after_calls begun calls).state s).is_dead ≡ (traffic_behind begun s calls).dead
  dead_as_told calls s ok less =
      let at = way_calls calls [] (first_driver net) ok (on_none net rounds inverses turnable) tt in
      let same = silent_is net rounds inverses turnable calls at.state at.on in
      ap (λ (v : DriverView). (peer_at v.state s).is_dead) same ∙ sym (at.on.known.all s less).dead
