-- The two drivers do the same: byte by byte, and when a round starts.
use Rattle.std.proofs.Common.{◌≡◌, ◌≢◌, ℕ, zero, suc, ◌+◌, ◌<◌, ◌≤◌, Bool, true, false, cond, eqb, ltb, not, ◌&&◌, List, [], ◌∷◌, ◌++◌, length, map, take, drop, replicate, set, get_or, get_or-set_same, get_or-set_other, refl, sym, ap, ◌∙◌, subst, inl, inr, append-nil, length-set, arith}
use Rattle.std.specs.Prelude.{Option, Some, None, is_some, is_none, flat_map}
use Rattle.std.specs.List.{AllByRecursion, concat, cons_option}
use Rattle.std.specs.Option.{option_map, option_map_or}
use Rattle.std.proofs.lemmas.Bool.{cases_Bool, cases_eq, cond-true, cond-false, cond_both, eq-eqb, ne_eqb, ltb-true, ltb-false}
use Rattle.std.proofs.lemmas.List.{length-replicate, map-append, drop_at, set-set, get_or_past}
use Rattle.std.proofs.lemmas.List.Elements.{filter_map-append}
use Rattle.std.proofs.lemmas.List.Folds.{concat-append}
use Rattle.std.proofs.lemmas.List.Sums.{sum_by_more_le}
use Rattle.net_base.specs.declared.ids.SwitchId.{SwitchId}
use Rattle.topology.specs.Networks.{Network, switch_count}
use Rattle.update_model.specs.Changes.{switch_of, changes_at, round_after}
use Rattle.update_model.specs.States.{phase_after_settle, settled_count}
use Rattle.update_model.specs.Worlds as worlds
use Rattle.update_model.specs.declared.Change.{Change}
use Rattle.update_model.specs.declared.Event.{Event}
use Rattle.update_model.specs.declared.Event.TheVariants as event
use Rattle.update_model.specs.declared.Phase.{Phase}
use Rattle.update_model.specs.declared.Phase.TheVariants as phase
use Rattle.openflow10.specs.Messages.{wire_text}
use Rattle.openflow10.specs.declared.Message.{Message}
use Rattle.round_messages.specs.Requests.{is_changed, switch_numbered, switches_changed, round_requests, sent_from, first_xid}
use Rattle.round_messages.specs.ToSwitch.{messages_to, AreFor}
use Rattle.round_messages.proofs.BySwitch.{each_round, round_alone}
use Rattle.switch_session.specs.Channels.{ChannelState, first_channel, hello, is_open, is_failed, after_request, after_byte}
use Rattle.switch_session.specs.declared.Session.{Session}
use Rattle.switch_session.specs.declared.Session.TheVariants.{Waiting, Open, Failed}
use Rattle.switch_session.proofs.TalkLaws.{front_nil}
use Rattle.turned_rounds.specs.Batches.{xid_behind, batch_of}
use Rattle.turned_rounds.specs.declared.outgoing.Outgoing.{Outgoing}
use Rattle.turned_rounds.proofs.NumberLaws.{xid_is}
use Rattle.law_two_way_runs.specs.States as two_way
use Rattle.law_two_way_runs.specs.Laws.{onward_events}
use Rattle.update_driver.specs.Drivers as one
use Rattle.update_driver.specs.Drivers.{DriverState as OnwardState, channel_at, with_channel, none_outstanding, change_events, is_answered, messages_for, barrier_in, told_channel, told_all}
use Rattle.update_driver.specs.Calls as onward
use Rattle.update_driver.specs.Laws.{begun_count}
use Rattle.update_driver.proofs.ListLaws.{get_replicated, none_is}
use Rattle.update_driver.proofs.CountLaws.{round_parts, round_few, requests_few, next_first}
use Rattle.update_driver.proofs.SoundLaws.{IsSound, MayBegin, length-told_all, sound_first, sound_fed, sound_call, may_begin, begun}
use Rattle.update_driver.proofs.AskedLaws.{barrier_for, told_at}
use Rattle.update_driver.proofs.PieceLaws.{parts, fed-append, fed-nil}
use Rattle.two_way_driver.specs.PeerStates.{PeerState}
use Rattle.two_way_driver.specs.Peers.{first_peer, failure_in, peer_after, asks, answers}
use Rattle.two_way_driver.specs.Drivers.{DriverState, peer_at, with_peer, with_said, sends, is_to_open, asked_from, sent_out, settled_in, all_answered, settled_if_answered, log_if, change_notes, is_change_at, is_dead_unmade, made_state, carried_out, answered_state, sent_again, opened_state, running_round, asked_round, heard_state, heard_byte, fed_byte, state_after_bytes, first_words, first_driver, flagged_state, is_open_or_dead, first_not_open, started_with, start_fault_in, started_in}
use Rattle.two_way_driver.specs.Calls.{DriverView, with_state, start_fault}
use Rattle.two_way_driver.specs.Laws.{after_call, after_calls, driver_after, event_in, events_in, phase_of}
use Rattle.two_way_driver.specs.Sending.{texts_to, texts_for}
use Rattle.two_way_driver.specs.declared.faults.CallFault.TheVariants as fault
use Rattle.update_driver.specs.declared.StartFault.TheVariants as onward_fault
use Rattle.two_way_driver.specs.declared.Stage.{Stage}
use Rattle.two_way_driver.specs.declared.Stage.TheVariants.{Settled, Onward, Undone}
use Rattle.two_way_driver.specs.declared.DriverEvent.TheVariants as logged
use Rattle.two_way_driver.specs.declared.DriverOutput.{DriverOutput}
use Rattle.two_way_driver.specs.declared.DriverOutput.TheVariants.{Send, Failed as Fails, Log}
use Rattle.two_way_driver.specs.declared.peers.ByteOutcome.{ByteOutcome}
use Rattle.two_way_driver.specs.declared.peers.ByteOutcome.TheVariants.{Nothing, Opened, Answered, Replied}
use Rattle.two_way_driver.proofs.ServingLaws.{length-asked}
use Rattle.two_way_driver.proofs.QuietLaws.{texts-append, quiet, texts_open, changes_quiet}
use Rattle.two_way_driver.proofs.SendingLaws.{hello_first}
use Rattle.update_driver.specs.Agreement.{two_way_call, Agree}
use Rattle.update_driver.proofs.SwitchLaws.{AllLive, same_waits, open_if_live, settled_live, no_dead_notes, none_at, open_session, PeerAs, IsOnward, x, g, unanswered_heard, heard_is, more_none, peer_unanswered, peer_answered, opened_none}
use Rattle.update_driver.proofs.MessageLaws.{concat_texts, none_passes, find_alike, none_found, barriers_to, changed_from, asks_so, asked_barrier, batch_behind, batch_texts, barrier_is}

-- ---- events

notes_are : (s : SwitchId) (i : ℕ) (round : List Change) → events_in (change_notes (is_change_at s) i round) ≡ onward_events (change_events s i round)
notes_are s i [] = refl
notes_are s i (c ∷ round) =
    filter_map-append event_in (log_if (eqb (switch_of c).0 s.0) (logged.Change i)) (change_notes (is_change_at s) (suc i) round)
    ∙ ap (λ l. events_in (log_if (eqb (switch_of c).0 s.0) (logged.Change i)) ++ l) (notes_are s (suc i) round)
    ∙ chosen (eqb (switch_of c).0 s.0)
  where
    chosen : (t : Bool) → events_in (log_if t (logged.Change i)) ++ onward_events (change_events s (suc i) round) ≡ onward_events (cond t (event.Change i ∷ change_events s (suc i) round) (change_events s (suc i) round))
    chosen true = refl
    chosen false = refl

more_events : (said words : List DriverOutput) (log more : List Event) → events_in said ≡ onward_events log → events_in words ≡ onward_events more → events_in (said ++ words) ≡ onward_events (log ++ more)
more_events said words log more e f =
    filter_map-append event_in said words ∙ ap (λ l. l ++ events_in words) e ∙ ap (λ l. onward_events log ++ l) f ∙ sym (map-append two_way.Onward log more)

silent_words : (said words : List DriverOutput) (log : List Event) → events_in said ≡ onward_events log → events_in words ≡ [] → events_in (said ++ words) ≡ onward_events log
silent_words said words log e f = filter_map-append event_in said words ∙ ap (λ l. events_in said ++ l) f ∙ append-nil (events_in said) ∙ e

sends_silent : (wanted : Outgoing → Bool) (ms : List Outgoing) → events_in (sends wanted ms) ≡ []
sends_silent wanted [] = refl
sends_silent wanted (m ∷ ms) =
    elim (wanted m) as (λ t. events_in (cond t (Send m.switch m.text ∷ []) [] ++ sends wanted ms) ≡ []) [
      | true ↦ sends_silent wanted ms
      | false ↦ sends_silent wanted ms
    ]

-- ---- all switches

module _ (net : Network) (rounds inverses : List (List Change)) where
  record Follows (d : OnwardState) (e : DriverState) : Type 0 where
    channels : length d.channels ≡ switch_count net
    peers : length e.peers ≡ switch_count net
    onward : IsOnward e.stage
    phase : phase_of e.stage ≡ d.phase
    each : (s : SwitchId) → s.0 < switch_count net → PeerAs (channel_at d s) (peer_at e s) (texts_to s e.said)
    events : events_in e.said ≡ onward_events d.log
    next : e.next ≡ first_xid net rounds (begun_count d.phase)

  -- no switch is dead
  live : (d : OnwardState) (e : DriverState) → Follows d e → AllLive e.peers
  live d e f i =
      elim (cases_Bool (ltb i (switch_count net))) [
        | inl t ↦ (f.each (switch_numbered i) (ltb-true i (switch_count net) t)).live
        | inr over ↦ (let beyond = ltb-false i (switch_count net) over in let count = f.peers in ap (λ (p : PeerState). p.is_dead) (get_or_past e.peers i first_peer (omega arith)))
      ]

  -- the running round is settled by both or by none
  module _ (d : OnwardState) (e : DriverState) (k : ℕ) (runs : e.stage ≡ Onward k) (f : Follows d e) where
    phase_is : d.phase ≡ phase.Running (suc k)
    phase_is = sym f.phase ∙ ap phase_of runs

    all_same : all_answered e.peers ≡ none_outstanding d.channels
    all_same = same_waits e.peers d.channels (f.peers ∙ sym f.channels) (live d e f) (λ i less. (let count = f.peers in (f.each (switch_numbered i) (omega arith)).asked))

    abbrev done : DriverState
    done = with_said (Log logged.Settle ∷ []) (record e { stage = Settled (suc k) })

    follows_done : Follows (record d { phase = phase_after_settle d.phase; log = d.log ++ event.Settle ∷ [] }) done
    follows_done = record {
      channels = f.channels;
      peers = f.peers;
      onward = tt;
      phase = ap phase_after_settle (sym phase_is);
      each = λ s less. (let h = f.each s less in
          subst (PeerAs (channel_at d s) (peer_at e s)) (sym (quiet s e.said (Log logged.Settle ∷ []) refl)) h);
      events = more_events e.said (Log logged.Settle ∷ []) d.log (event.Settle ∷ []) f.events refl;
      next = f.next ∙ ap (first_xid net rounds) (ap begun_count phase_is ∙ sym (ap (λ (p : Phase). begun_count (phase_after_settle p)) phase_is));
    }

    done_is : (round : List Change) → settled_in round (Onward k) e ≡ done
    unfolding settled_in
    done_is round =
        let As : List DriverOutput → List PeerState → DriverState = λ said peers. record e { stage = Settled (suc k); peers = peers; said = said ++ Log logged.Settle ∷ [] } in
        let notes = change_notes (is_dead_unmade e.peers e.in_force) 0 round in
        ap (λ l. As (e.said ++ notes) l) (settled_live e.peers (live d e f)) ∙ ap (λ l. As (e.said ++ l) e.peers) (no_dead_notes e.peers e.in_force (live d e f) 0 round) ∙ ap (λ l. As l e.peers) (append-nil e.said)

    follows_settled : (round : List Change) → Follows (one.settled_if_answered d) (settled_if_answered round e)
    unfolding settled_if_answered
    follows_settled round =
        let Both : Bool → Bool → Stage → Type 0 = λ s t stage. Follows (cond s (record d { phase = phase_after_settle d.phase; log = d.log ++ event.Settle ∷ [] }) d) (cond t (settled_in round stage e) e) in
        let by : (t : Bool) → Both t t (Onward k) = λ t. elim t as (λ t. Both t t (Onward k)) [
          | true ↦ subst (Follows (record d { phase = phase_after_settle d.phase; log = d.log ++ event.Settle ∷ [] })) (sym (done_is round)) follows_done
          | false ↦ f
        ] in
        subst (Both (none_outstanding d.channels) (all_answered e.peers)) (sym runs) (subst (λ t. Both t (all_answered e.peers) (Onward k)) all_same (by (all_answered e.peers)))

  -- what is kept of one switch changes
  module _ (d : OnwardState) (e : DriverState) (f : Follows d e) (s : SwitchId) (within : s.0 < switch_count net) (a : ChannelState) (q : PeerState) where
    follows_put : (d2 : OnwardState) (e2 : DriverState) → d2.channels ≡ set d.channels s.0 a → e2.peers ≡ set e.peers s.0 q → PeerAs a q (texts_to s e2.said)
        → ((t : SwitchId) → s.0 ≢ t.0 → texts_to t e2.said ≡ texts_to t e.said) → events_in e2.said ≡ onward_events d2.log → e2.stage ≡ e.stage → d2.phase ≡ d.phase → e2.next ≡ e.next → Follows d2 e2
    follows_put d2 e2 channels peers here others events stage phase next = record {
      channels = ap length channels ∙ length-set d.channels s.0 a ∙ f.channels;
      peers = ap length peers ∙ length-set e.peers s.0 q ∙ f.peers;
      onward = subst IsOnward (sym stage) f.onward;
      phase = ap phase_of stage ∙ f.phase ∙ sym phase;
      each = λ t less. elim (cases_eq t.0 s.0) [
        | inl same ↦ (
            let there = f.channels in
            let here_too = f.peers in
            let is : s ≡ t = ap switch_numbered (sym same) in
            let c_is : channel_at d2 s ≡ a = ap (λ (l : List ChannelState). get_or l s.0 first_channel) channels ∙ get_or-set_same d.channels s.0 a first_channel (omega arith) in
            let p_is : peer_at e2 s ≡ q = ap (λ (l : List PeerState). get_or l s.0 first_peer) peers ∙ get_or-set_same e.peers s.0 q first_peer (omega arith) in
            subst (λ (r : SwitchId). PeerAs (channel_at d2 r) (peer_at e2 r) (texts_to r e2.said)) is
            (subst (λ (c : ChannelState). PeerAs c (peer_at e2 s) (texts_to s e2.said)) (sym c_is) (subst (λ (p : PeerState). PeerAs a p (texts_to s e2.said)) (sym p_is) here)))
        | inr differs ↦ (
            let c_is : channel_at d2 t ≡ channel_at d t = ap (λ (l : List ChannelState). get_or l t.0 first_channel) channels ∙ get_or-set_other d.channels s.0 t.0 a first_channel differs in
            let p_is : peer_at e2 t ≡ peer_at e t = ap (λ (l : List PeerState). get_or l t.0 first_peer) peers ∙ get_or-set_other e.peers s.0 t.0 q first_peer differs in
            subst (λ (c : ChannelState). PeerAs c (peer_at e2 t) (texts_to t e2.said)) (sym c_is)
            (subst (λ (p : PeerState). PeerAs (channel_at d t) p (texts_to t e2.said)) (sym p_is)
            (subst (PeerAs (channel_at d t) (peer_at e t)) (sym (others t (λ x. differs (sym x)))) (f.each t less))))
      ];
      events = events;
      next = next ∙ f.next ∙ ap (λ (p : Phase). first_xid net rounds (begun_count p)) (sym phase);
    }

  -- ---- a byte comes

  module _ (s : SwitchId) (within : s.0 < switch_count net) (b : ℕ) (d : OnwardState) (e : DriverState) (sound : IsSound net rounds d) (f : Follows d e) where
    abbrev c : ChannelState
    c = channel_at d s

    abbrev p : PeerState
    p = peer_at e s

    h : PeerAs c p (texts_to s e.said)
    h = f.each s within

    abbrev after : ChannelState
    after = after_byte b c

    abbrev q : PeerState
    q = peer_after b p

    abbrev put : DriverState
    put = with_peer s q e

    put_is : peer_at put s ≡ q
    put_is = get_or-set_same e.peers s.0 q first_peer (let count = f.peers in omega arith)

    came_is : fed_byte net rounds inverses s b e ≡ heard_state net rounds inverses s (cond (is_answered c.outstanding after.outstanding) Answered (unanswered_heard b c p (texts_to s e.said) h)) put
    unfolding fed_byte
    came_is = cond-false p.is_dead e (heard_byte net rounds inverses s b e) h.live ∙ ap (λ (x : ByteOutcome). heard_state net rounds inverses s x put) (heard_is b c p (texts_to s e.said) h)

    abbrev more : List ℕ
    more = (g b c p (texts_to s e.said) h).more

    -- no answer
    module _ (none : is_answered c.outstanding after.outstanding ≡ false) where
      abbrev d_next : OnwardState
      d_next = with_channel s after d

      d_is : one.driver_after_bytes rounds s (b ∷ []) d ≡ d_next
      d_is = cond-false (is_answered c.outstanding after.outstanding) (one.made_driver rounds s (with_channel s after d)) (with_channel s after d) none

      -- these words are said
      worded : (words : List DriverOutput) (texts : List (List ℕ)) → texts_to s words ≡ texts → concat texts ≡ more → ((t : SwitchId) → s.0 ≢ t.0 → texts_to t words ≡ []) → events_in words ≡ []
          → Follows d_next (record put { said = e.said ++ words })
      worded words texts are is others events =
          follows_put d e f s within after q (with_channel s after d) (record put { said = e.said ++ words }) refl refl
          (subst (PeerAs after q) (sym (texts-append s e.said words ∙ ap (λ (l : List (List ℕ)). texts_to s e.said ++ l) are)) (peer_unanswered b c p (texts_to s e.said) h texts none is))
          (λ t ne. quiet t e.said words (others t ne)) (silent_words e.said words d.log f.events events) refl refl refl

      unworded : more ≡ [] → Follows d_next put
      unworded empty = subst (λ (l : List DriverOutput). Follows d_next (record put { said = l })) (append-nil e.said) (worded [] [] refl (sym empty) (λ t ne. refl) refl)

      broken : (x : Session) → more ≡ [] → Follows d_next (heard_state net rounds inverses s (failure_in x) put)
      broken Waiting empty = unworded empty
      broken Open empty = unworded empty
      broken (Failed why) empty = worded (Fails s why ∷ []) [] refl (sym empty) (λ t ne. refl) refl

      opening : (is_open after.session && not (is_open c.session)) ≡ true → Follows d_next (opened_state net (asked_round rounds inverses e.stage) s put)
      unfolding opened_state peer_after
      opening t =
          let (unasked, empty) = opened_none b c p (texts_to s e.said) h t in
          let none_asked : (peer_at put s).asked ≡ None = ap (λ (r : PeerState). r.asked) put_is ∙ unasked in
          subst (λ (o : Option ℕ). Follows d_next (option_map_or (λ x. sent_again net (asked_round rounds inverses e.stage) s x put) o put)) (sym none_asked) (unworded empty)

      hears : Follows d_next (heard_state net rounds inverses s (unanswered_heard b c p (texts_to s e.said) h) put)
      hears =
          let x = p.channel.sent in
          let text = drop (length x) (x ++ more) in
          let Hears : ByteOutcome → Type 0 = λ y. Follows d_next (heard_state net rounds inverses s y put) in
          let quiet_heard = cond (is_failed c.session) Nothing (failure_in after.session) in
          let none_more = more_none b c p (texts_to s e.said) h in
          cond_both (is_open after.session && not (is_open c.session)) Opened (cond (ltb (length x) (length (x ++ more))) (Replied text) quiet_heard) Hears opening
          (λ _. cond_both (ltb (length x) (length (x ++ more))) (Replied text) quiet_heard Hears
          (λ _. worded (Send s text ∷ []) (text ∷ []) (ap (λ t. cons_option (cond t (Some text) None) []) (eq-eqb s.0 s.0 refl)) (append-nil text ∙ drop_at x more (length x) refl)
          (λ t ne. ap (λ y. cons_option (cond y (Some text) None) []) (ne_eqb s.0 t.0 ne)) refl)
          (λ f. cond_both (is_failed c.session) Nothing (failure_in after.session) Hears (λ _. unworded (none_more f)) (λ _. broken after.session (none_more f))))

    -- the barrier request is answered
    module _ (hit : is_answered c.outstanding after.outstanding ≡ true) where
      abbrev free : PeerState
      free = record q { asked = None }

      abbrev freed : DriverState
      freed = record e { peers = set e.peers s.0 free }

      answered_is : (round : List Change) → answered_state round s put ≡ settled_if_answered round (carried_out round s e.stage freed)
      unfolding answered_state answers peer_after
      answered_is round =
          let More : ℕ → PeerState = λ x. record q { channel = after_request [] x q.channel; behind = None } in
          let End : Option ℕ → PeerState → DriverState = λ o r. cond (is_some o) (made_state round s (with_peer s r put)) (settled_if_answered round (carried_out round s e.stage (with_peer s r put))) in
          ap (λ (r : PeerState). End r.behind (option_map_or (λ x. record r { channel = after_request [] x r.channel; behind = None }) r.behind (record r { asked = None }))) put_is
          ∙ ap (λ (o : Option ℕ). End o (option_map_or More o free)) h.behind
          ∙ ap (λ (l : List PeerState). settled_if_answered round (carried_out round s e.stage (record e { peers = l }))) (set-set e.peers s.0 q free)

      abbrev logged_too : List Change → OnwardState
      logged_too round = record (with_channel s after d) { log = d.log ++ change_events s 0 round }

      follows_made : (round : List Change) → Follows (logged_too round) (made_state round s freed)
      unfolding made_state
      follows_made round =
          let notes = change_notes (is_change_at s) 0 round in
          follows_put d e f s within after free (logged_too round) (record freed { in_force = set e.in_force s.0 true; said = e.said ++ notes }) refl refl
          (subst (PeerAs after free) (sym (quiet s e.said notes (changes_quiet s (is_change_at s) 0 round))) (peer_answered b c p (texts_to s e.said) h hit))
          (λ t ne. quiet t e.said notes (changes_quiet t (is_change_at s) 0 round)) (more_events e.said notes d.log (change_events s 0 round) f.events (notes_are s 0 round)) refl refl refl

      made_stage : (round : List Change) → (made_state round s freed).stage ≡ e.stage
      unfolding made_state
      made_stage round = refl

      by_stage : (stage : Stage) → e.stage ≡ stage → Follows (one.made_driver rounds s (with_channel s after d)) (answered_state (running_round rounds e.stage) s put)
      by_stage (Settled k) is =
          let (some, gone) = parts (is_some c.outstanding) after.outstanding hit in
          let none : c.outstanding ≡ None = none_at d.channels s.0 (sound.waits k (sym f.phase ∙ ap phase_of is)) in
          absurd (let t : true ≡ false = sym some ∙ ap is_some none in cc)
      by_stage (Onward k) is =
          let round = round_after k rounds in
          let runs : worlds.running_round d.phase rounds ≡ round = ap (λ (y : Phase). worlds.running_round y rounds) (sym f.phase ∙ ap phase_of is) in
          let to : answered_state (running_round rounds e.stage) s put ≡ settled_if_answered round (made_state round s freed) =
          ap (λ (y : Stage). answered_state (running_round rounds y) s put) is ∙ answered_is round ∙ ap (λ (y : Stage). settled_if_answered round (carried_out round s y freed)) is in
          let from : one.made_driver rounds s (with_channel s after d) ≡ one.settled_if_answered (logged_too round) =
          ap (λ l. one.settled_if_answered (logged_too l)) runs in
          subst (λ (y : OnwardState). Follows y (answered_state (running_round rounds e.stage) s put)) (sym from)
          (subst (Follows (one.settled_if_answered (logged_too round))) (sym to) (follows_settled (logged_too round) (made_state round s freed) k (made_stage round ∙ is) (follows_made round) round))
      by_stage (Undone k) is = absurd (subst IsOnward is f.onward)

    byte_follows : Follows (one.driver_after_bytes rounds s (b ∷ []) d) (fed_byte net rounds inverses s b e)
    byte_follows =
        let Came : Bool → DriverState = λ t. heard_state net rounds inverses s (cond t Answered (unanswered_heard b c p (texts_to s e.said) h)) put in
        elim (cases_Bool (is_answered c.outstanding after.outstanding)) [
          | inl hit ↦ (
              let d_is_made : one.driver_after_bytes rounds s (b ∷ []) d ≡ one.made_driver rounds s (with_channel s after d) = cond-true (is_answered c.outstanding after.outstanding) (one.made_driver rounds s (with_channel s after d)) (with_channel s after d) hit in
              subst (λ (y : OnwardState). Follows y (fed_byte net rounds inverses s b e)) (sym d_is_made)
              (subst (Follows (one.made_driver rounds s (with_channel s after d))) (sym (came_is ∙ ap Came hit)) (by_stage hit e.stage refl)))
          | inr none ↦
              subst (λ (y : OnwardState). Follows y (fed_byte net rounds inverses s b e)) (sym (d_is none))
              (subst (Follows (with_channel s after d)) (sym (came_is ∙ ap Came none)) (hears none))
        ]

  -- ---- bytes come

  fed_follows : (s : SwitchId) (bytes : List ℕ) (d : OnwardState) (e : DriverState) → s.0 < switch_count net → IsSound net rounds d → Follows d e → Follows (one.driver_after_bytes rounds s bytes d) (state_after_bytes net rounds inverses s bytes e)
  fed_follows s [] d e within sound f = subst (λ (y : OnwardState). Follows y e) (sym (fed-nil rounds s d)) f
  fed_follows s (b ∷ bytes) d e within sound f =
      let count = f.channels in
      let first = byte_follows s within b d e sound f in
      subst (λ (y : OnwardState). Follows y (state_after_bytes net rounds inverses s bytes (fed_byte net rounds inverses s b e))) (sym (fed-append rounds s (b ∷ []) bytes d (omega arith)))
      (fed_follows s bytes (one.driver_after_bytes rounds s (b ∷ []) d) (fed_byte net rounds inverses s b e) within (sound_fed net rounds d s (b ∷ []) sound) first)

-- ---- a round starts

module _ (net : Network) (rounds inverses : List (List Change)) (drivable : onward.AreDrivable net rounds) where
  module _ (k : ℕ) (less : k < length rounds) where
    abbrev round : List Change
    round = round_after k rounds

    abbrev first : ℕ
    first = first_xid net rounds k

    few_xids : first + length (round_requests net k round) ≤ 4294967295
    few_xids =
        let before = requests_few net 0 (take k rounds) in
        let here = round_few net k round in
        let this = sum_by_more_le length rounds k [] less in
        omega (arith, before, here, this, drivable.few_changes)

    few_first : first + length round ≤ 4294967295
    few_first = let all = few_xids in let parts = round_parts net k round in omega arith

    batch_xid : xid_behind first (length (batch_of net first round)) ≡ first_xid net rounds (suc k)
    batch_xid = batch_behind net k first round few_xids ∙ next_first net rounds k less

    -- the messages to a switch
    abbrev messages : SwitchId → List Message
    messages s = messages_to k s (sent_from first (round_requests net k round))

    messages_are : (s : SwitchId) → messages_for net rounds k s ≡ messages s
    messages_are s = round_alone net rounds k s less

    -- the xid of the first barrier request
    abbrev first_barrier : ℕ
    first_barrier = xid_behind first (length round)

    asked_is : (peers : List PeerState) (s : SwitchId) → length peers ≡ switch_count net → s.0 < switch_count net
        → get_or (asked_from first_barrier round 0 peers) s.0 first_peer ≡ option_map_or (λ x. asks x (get_or peers s.0 first_peer)) (barrier_in (messages s)) (get_or peers s.0 first_peer)
    asked_is peers s count within =
        let p = get_or peers s.0 first_peer in
        let place : 0 + s.0 ≡ s.0 = omega arith in
        let at : first_barrier ≡ first + length round = xid_is first (length round) few_first in
        let asked : length (changed_from k round 0 (length peers)) ≡ length (switches_changed net round) = ap (λ (m : ℕ). length (changed_from k round 0 m)) count in
        let all = few_xids in
        let parts = round_parts net k round in
        asked_barrier k round first_barrier 0 peers s.0 (omega arith) (omega arith)
        ∙ ap (λ (j : ℕ). asks_so k round p (barrier_in (barriers_to k round (switch_numbered j) first_barrier (changed_from k round 0 (length peers))))) place
        ∙ ap (λ (m : ℕ). asks_so k round p (barrier_in (barriers_to k round s first_barrier (changed_from k round 0 m)))) count
        ∙ ap (λ (y : ℕ). asks_so k round p (barrier_in (barriers_to k round s y (changed_from k round 0 (switch_count net))))) at
        ∙ ap (asks_so k round p) (sym (barrier_is net k first round few_xids s))

    -- one switch, to which its messages are sent
    module _ (s : SwitchId) (c : ChannelState) (p : PeerState) (texts : List (List ℕ)) (seen : PeerAs c p texts) (free : c.outstanding ≡ None) where
      abbrev told_so : List Message → PeerState → List (List ℕ) → Type 0
      told_so ms q more = PeerAs (told_channel ms c) q (texts ++ more)

      unasked : (t : Bool) → told_so [] p (cond t [] [])
      unasked true = subst (PeerAs c p) (sym (append-nil texts)) seen
      unasked false = subst (PeerAs c p) (sym (append-nil texts)) seen

      asked_so : (ms : List Message) (x : ℕ) → c.session ≡ Open → PeerAs (after_request (flat_map wire_text ms) x c) (asks x p) (texts ++ map wire_text ms)
      unfolding asks
      asked_so ms x is =
          let q : PeerState = record p { asked = Some x } in
          let open_now : is_open p.channel.session ≡ true = ap (λ (y : ChannelState). is_open y.session) seen.channel ∙ ap is_open is in
          let none : is_some p.channel.outstanding ≡ false = ap (λ (y : ChannelState). is_some y.outstanding) seen.channel ∙ ap is_some free in
          let last : PeerState = record q { channel = after_request [] x p.channel } in
          let is_last : cond (is_open p.channel.session) (cond (is_some p.channel.outstanding) (record q { behind = Some x }) last) q ≡ last =
          cond-true (is_open p.channel.session) (cond (is_some p.channel.outstanding) (record q { behind = Some x }) last) q open_now ∙ cond-false (is_some p.channel.outstanding) (record q { behind = Some x }) last none in
          subst (λ (r : PeerState). PeerAs (after_request (flat_map wire_text ms) x c) r (texts ++ map wire_text ms)) (sym is_last) (record {
            channel = ap (λ (y : ChannelState). let r : ChannelState = record { session = y.session; unread = y.unread; sent = p.channel.sent ++ []; outstanding = Some x } in r) seen.channel;
            behind = seen.behind;
            asked = refl;
            sent = concat-append texts (map wire_text ms) ∙ ap (λ (l : List ℕ). l ++ concat (map wire_text ms)) seen.sent ∙ ap (λ (l : List ℕ). c.sent ++ l) (concat_texts ms);
            waits = λ w. (let f : Waiting ≡ Open = sym w ∙ is in absurd (cc));
            reads = seen.reads;
            live = seen.live;
          })

      is_told : (cs : List Change) (ms : List Message) → AreFor cs ms → ((d : Change) (ds : List Change) → cs ≡ d ∷ ds → c.session ≡ Open)
          → told_so ms (option_map_or (λ x. asks x p) (barrier_in ms) p) (cond (is_open c.session) (map wire_text ms) [])
      is_told [] ms are opens = subst (λ l. told_so l (option_map_or (λ x. asks x p) (barrier_in l) p) (cond (is_open c.session) (map wire_text l) [])) (sym are) (unasked (is_open c.session))
      is_told (d ∷ ds) ms are opens =
          let (x, is) = barrier_for (d ∷ ds) d ms (inl refl) are in
          let open_now = opens d ds refl in
          let Told : Option ℕ → Session → Type 0 = λ o y. PeerAs (option_map_or (λ z. after_request (flat_map wire_text ms) z c) o c) (option_map_or (λ z. asks z p) o p) (texts ++ cond (is_open y) (map wire_text ms) []) in
          subst (λ (o : Option ℕ). Told o c.session) (sym is) (subst (Told (Some x)) (sym open_now) (asked_so ms x open_now))

  -- a start is refused by both or by none
  same_sessions : (d : OnwardState) (e : DriverState) → Follows net rounds inverses d e → (s : SwitchId) → is_open (peer_at e s).channel.session ≡ is_open (channel_at d s).session
  same_sessions d e f s =
      elim (cases_Bool (ltb s.0 (switch_count net))) [
        | inl t ↦ ap (λ (c : ChannelState). is_open c.session) (f.each s (ltb-true s.0 (switch_count net) t)).channel
        | inr over ↦ (
            let beyond = ltb-false s.0 (switch_count net) over in
            let c_count = f.channels in
            let p_count = f.peers in
            ap (λ (p : PeerState). is_open p.channel.session) (get_or_past e.peers s.0 first_peer (omega arith)) ∙ sym (ap (λ (c : ChannelState). is_open c.session) (get_or_past d.channels s.0 first_channel (omega arith))))
      ]

  same_ready : (d : OnwardState) (e : DriverState) → Follows net rounds inverses d e → (s : SwitchId) → is_open_or_dead (peer_at e s) ≡ is_open (channel_at d s).session
  same_ready d e f s = open_if_live (peer_at e s) (live net rounds inverses d e f s.0) ∙ same_sessions d e f s

  same_missing : (d : OnwardState) (e : DriverState) → Follows net rounds inverses d e → (switches : List SwitchId) → first_not_open e.peers switches ≡ one.first_not_open d switches
  same_missing d e f switches =
      find_alike (λ (s : SwitchId). not (is_open_or_dead (get_or e.peers s.0 first_peer))) (λ (s : SwitchId). not (is_open (channel_at d s).session)) (λ s. ap not (same_ready d e f s)) switches

  abbrev view : DriverState → DriverView
  view e = record { net = net; rounds = rounds; inverses = inverses; state = e }

  mapped_none : {A B : Type 0} (g : A → B) (o : Option A) → is_none (option_map g o) ≡ is_none o
  mapped_none g None = refl
  mapped_none g (Some x) = refl

  same_fault : (d : OnwardState) (e : DriverState) → Follows net rounds inverses d e → is_none (start_fault (view e)) ≡ is_none (one.start_fault net rounds d)
  same_fault d e f =
      by e.stage f.onward
      ∙ ap (λ (p : Phase). is_none (one.start_fault_in net rounds d p)) f.phase
    where
      by : (stage : Stage) → IsOnward stage → is_none (start_fault_in net rounds e.peers stage) ≡ is_none (one.start_fault_in net rounds d (phase_of stage))
      by (Settled k) on =
          let switches = switches_changed net (round_after k rounds) in
          let missing = one.first_not_open d switches in
          ap (λ o. is_none (cond (eqb k (length rounds)) (Some fault.Finished) (option_map fault.NotOpen o))) (same_missing d e f switches)
          ∙ elim (eqb k (length rounds)) as (λ t. is_none (cond t (Some fault.Finished) (option_map fault.NotOpen missing)) ≡ is_none (cond t (Some onward_fault.Finished) (option_map onward_fault.NotOpen missing))) [
            | true ↦ refl
            | false ↦ mapped_none fault.NotOpen missing ∙ sym (mapped_none onward_fault.NotOpen missing)
          ]
      by (Onward k) on = refl
      by (Undone k) on = absurd on

  -- both start
  module _ (k : ℕ) (d : OnwardState) (e : DriverState) (sound : IsSound net rounds d) (f : Follows net rounds inverses d e) (runs : e.stage ≡ Settled k) (less : k < length rounds)
      (no_fault : one.start_fault net rounds d ≡ None) where
    abbrev changes : List Change
    changes = round_after k rounds

    settled_is : d.phase ≡ phase.Settled k
    settled_is = sym f.phase ∙ ap phase_of runs

    none_missing : one.first_not_open d (switches_changed net changes) ≡ None
    none_missing =
        let differs : ¬ (k ≡ length rounds) = λ e. omega arith in
        let missing = one.first_not_open d (switches_changed net changes) in
        let here : option_map onward_fault.NotOpen missing ≡ None =
        sym (cond-false (eqb k (length rounds)) (Some onward_fault.Finished) (option_map onward_fault.NotOpen missing) (ne_eqb k (length rounds) differs))
        ∙ ap (one.start_fault_in net rounds d) (sym settled_is) ∙ no_fault in
        by missing here
      where
        by : (o : Option SwitchId) → option_map onward_fault.NotOpen o ≡ None → o ≡ None
        by None e = refl
        by (Some t) e = absurd (let g : Some (onward_fault.NotOpen t) ≡ None = e in cc)

    opens : (s : SwitchId) → s.0 < switch_count net → (c : Change) (cs : List Change) → changes_at s changes ≡ c ∷ cs → (channel_at d s).session ≡ Open
    opens s within c cs is =
        elim (cases_Bool (is_changed changes s)) [
          | inl on ↦ (
              let unopened : SwitchId → Bool = λ t. not (is_open (channel_at d t).session) in
              let closed : unopened s ≡ false = none_found unopened (is_changed changes) 0 (switch_count net) s.0 none_missing (omega arith) (omega arith) on in
              open_session (channel_at d s).session (not_false (is_open (channel_at d s).session) closed))
          | inr off ↦ (
              let g : c ∷ cs ≡ [] = sym is ∙ none_passes (λ (x : Change). eqb (switch_of x).0 s.0) changes off in
              absurd (cc))
        ]
      where
        not_false : (t : Bool) → not t ≡ false → t ≡ true
        not_false true e = refl
        not_false false e = absurd (let g : true ≡ false = e in cc)

    abbrev noted : DriverState
    noted = flagged_state false (with_said (Log logged.Start ∷ []) e)

    next_is_first : e.next ≡ first_xid net rounds k
    next_is_first = f.next ∙ ap (λ (p : Phase). first_xid net rounds (begun_count p)) settled_is

    abbrev sent : DriverState
    sent = sent_out net changes (Onward k) noted

    sent_follows : Follows net rounds inverses (begun net rounds d) (sent_out net changes (Onward k) (flagged_state false (with_said (Log logged.Start ∷ []) e)))
    unfolding sent_out
    sent_follows = record {
      channels = length-told_all net rounds (settled_count d.phase) 0 d.channels ∙ f.channels;
      peers = length-asked (xid_behind e.next (length changes)) changes 0 e.peers ∙ f.peers;
      onward = tt;
      phase = sym (ap one.started_phase settled_is);
      each = λ s within. (
          let c = channel_at d s in
          let p = peer_at e s in
          let seen = f.each s within in
          let c_count = f.channels in
          let ms = messages k less s in
          let ms_are = messages_are k less s in
          let place : 0 + s.0 ≡ s.0 = omega arith in
          let free : c.outstanding ≡ None = none_at d.channels s.0 (sound.waits k settled_is) in
          let c_is : get_or (told_all net rounds (settled_count d.phase) 0 d.channels) s.0 first_channel ≡ told_channel ms c =
          ap (λ (q : Phase). get_or (told_all net rounds (settled_count q) 0 d.channels) s.0 first_channel) settled_is ∙ told_at net rounds k 0 d.channels s.0 first_channel (omega arith)
          ∙ ap (λ (j : ℕ). told_channel (messages_for net rounds k (switch_numbered j)) c) place ∙ ap (λ (l : List Message). told_channel l c) ms_are in
          let p_is : get_or (asked_from (xid_behind e.next (length changes)) changes 0 e.peers) s.0 first_peer ≡ option_map_or (λ x. asks x p) (barrier_in ms) p =
          ap (λ (y : ℕ). get_or (asked_from (xid_behind y (length changes)) changes 0 e.peers) s.0 first_peer) next_is_first ∙ asked_is k less e.peers s f.peers within in
          let words = (e.said ++ Log logged.Start ∷ []) ++ sends (is_to_open e.peers) (batch_of net e.next changes) in
          let texts_is : texts_to s words ≡ texts_to s e.said ++ cond (is_open c.session) (map wire_text ms) [] =
          texts-append s (e.said ++ Log logged.Start ∷ []) (sends (is_to_open e.peers) (batch_of net e.next changes))
          ∙ ap (λ (l : List (List ℕ)). l ++ texts_to s (sends (is_to_open e.peers) (batch_of net e.next changes))) (quiet s e.said (Log logged.Start ∷ []) refl)
          ∙ ap (λ (l : List (List ℕ)). texts_to s e.said ++ l) (texts_open s e.peers (batch_of net e.next changes)
          ∙ ap (λ t. cond t (texts_for s (batch_of net e.next changes)) []) (same_sessions d e f s)
          ∙ ap (λ (y : ℕ). cond (is_open c.session) (texts_for s (batch_of net y changes)) []) next_is_first
          ∙ ap (λ (l : List (List ℕ)). cond (is_open c.session) l []) (batch_texts net k (first_xid net rounds k) changes (few_xids k less) s)) in
          let told_too = is_told k less s c p (texts_to s e.said) seen free (changes_at s changes) ms (subst (AreFor (changes_at s changes)) ms_are (each_round net rounds k s drivable.plan)) (opens s within) in
          subst (λ (x : ChannelState). PeerAs x (get_or (asked_from (xid_behind e.next (length changes)) changes 0 e.peers) s.0 first_peer) (texts_to s words)) (sym c_is)
          (subst (λ (x : PeerState). PeerAs (told_channel ms c) x (texts_to s words)) (sym p_is)
          (subst (PeerAs (told_channel ms c) (option_map_or (λ x. asks x p) (barrier_in ms) p)) (sym texts_is) told_too)));
      events = silent_words (e.said ++ Log logged.Start ∷ []) (sends (is_to_open e.peers) (batch_of net e.next changes)) (d.log ++ event.Start ∷ [])
          (more_events e.said (Log logged.Start ∷ []) d.log (event.Start ∷ []) f.events refl) (sends_silent (is_to_open e.peers) (batch_of net e.next changes));
      next = ap (λ (y : ℕ). xid_behind y (length (batch_of net y changes))) next_is_first ∙ batch_xid k less ∙ ap (first_xid net rounds) (sym (ap (λ (q : Phase). begun_count (one.started_phase q)) settled_is));
    }

    sent_stage : (sent_out net changes (Onward k) (flagged_state false (with_said (Log logged.Start ∷ []) e))).stage ≡ Onward k
    unfolding sent_out
    sent_stage = refl

    start_follows : Follows net rounds inverses (one.started_driver net rounds d) (started_with net changes k e)
    start_follows = follows_settled net rounds inverses (begun net rounds d) sent k sent_stage sent_follows changes

  -- ---- all calls

  abbrev FollowsView : OnwardState → DriverView → Type 0
  FollowsView d w = (e : DriverState) × (w ≡ view e) × Follows net rounds inverses d e

  starts : (d : OnwardState) (e : DriverState) → IsSound net rounds d → Follows net rounds inverses d e → one.start_fault net rounds d ≡ None → Follows net rounds inverses (one.started_driver net rounds d) (started_in net rounds e.stage e)
  starts d e sound f no_fault =
      let may = may_begin net rounds d sound no_fault in
      by e.stage refl may
    where
      by : (stage : Stage) → e.stage ≡ stage → MayBegin net rounds d → Follows net rounds inverses (one.started_driver net rounds d) (started_in net rounds stage e)
      by (Settled k) is may =
          let g : phase.Settled may.k ≡ phase.Settled k = sym may.settled ∙ sym f.phase ∙ ap phase_of is in
          let same : may.k ≡ k = cc in
          let more = may.more in
          start_follows k d e sound f is (omega arith) no_fault
      by (Onward k) is may = absurd (let g : phase.Settled may.k ≡ phase.Running (suc k) = sym may.settled ∙ sym f.phase ∙ ap phase_of is in cc)
      by (Undone k) is may = absurd (subst IsOnward is f.onward)

  call_follows : (d : OnwardState) (e : DriverState) (c : onward.Call) → onward.IsCall net c → IsSound net rounds d → Follows net rounds inverses d e
      → FollowsView (onward.after_call net rounds d c) (after_call (view e) (two_way_call c))
  call_follows d e onward.Start ok sound f =
      let Both : Bool → Bool → Type 0 = λ s t. FollowsView (cond s (one.started_driver net rounds d) d) (cond t (with_state (started_in net rounds e.stage e) (view e)) (view e)) in
      let allowed = is_none (one.start_fault net rounds d) in
      subst (Both allowed) (sym (same_fault d e f))
      (elim (cases_Bool allowed) [
        | inl granted ↦ subst (λ t. Both t t) (sym granted) (started_in net rounds e.stage e, refl, starts d e sound f (none_is (one.start_fault net rounds d) granted))
        | inr refused ↦ subst (λ t. Both t t) (sym refused) (e, refl, f)
      ])
  call_follows d e (onward.Feed s bytes) ok sound f = (state_after_bytes net rounds inverses s bytes e, refl, fed_follows net rounds inverses s bytes d e ok sound f)

  calls_follow : (d : OnwardState) (w : DriverView) (calls : List onward.Call) → AllByRecursion (onward.IsCall net) calls → IsSound net rounds d → FollowsView d w
      → FollowsView (onward.after_calls net rounds d calls) (after_calls w (map two_way_call calls))
  calls_follow d w [] ok sound h = h
  calls_follow d w (c ∷ calls) ok sound (e, is, f) =
      calls_follow (onward.after_call net rounds d c) (after_call w (two_way_call c)) calls ok.1 (sound_call net rounds d c sound)
      (subst (λ (x : DriverView). FollowsView (onward.after_call net rounds d c) (after_call x (two_way_call c))) (sym is) (call_follows d e c ok.0 sound f))

  words_silent : (n count : ℕ) → events_in (first_words n count) ≡ []
  words_silent n zero = refl
  words_silent n (suc count) = words_silent (suc n) count

  follows_first : Follows net rounds inverses (one.first_driver net) (first_driver net)
  follows_first = record {
    channels = length-replicate (switch_count net) first_channel;
    peers = length-replicate (switch_count net) first_peer;
    onward = tt;
    phase = refl;
    each = λ s within. (
        let first_words_are : texts_to s (first_words 0 (switch_count net)) ≡ hello ∷ [] = hello_first s 0 (switch_count net) (omega arith) (omega arith) in
        let here : PeerAs first_channel first_peer (hello ∷ []) = record { channel = refl; behind = refl; asked = refl; sent = append-nil hello; waits = λ w. refl; reads = λ going. front_nil; live = refl } in
        subst (λ (c : ChannelState). PeerAs c (get_or (replicate (switch_count net) first_peer) s.0 first_peer) (texts_to s (first_words 0 (switch_count net)))) (sym (get_replicated (switch_count net) s.0 first_channel))
        (subst (λ (p : PeerState). PeerAs first_channel p (texts_to s (first_words 0 (switch_count net)))) (sym (get_replicated (switch_count net) s.0 first_peer)) (subst (PeerAs first_channel first_peer) (sym first_words_are) here)));
    events = words_silent 0 (switch_count net);
    next = refl;
  }

  agrees : (d : OnwardState) (e : DriverState) → Follows net rounds inverses d e → Agree net rounds d (view e)
  agrees d e f = record {
    sent = λ s within. (f.each s within).sent;
    sessions = λ s within. ap (λ (c : ChannelState). c.session) (f.each s within).channel;
    events = f.events;
    phase = f.phase;
    refused = same_fault d e f;
  }

  pub both_agree : (calls : List onward.Call) → AllByRecursion (onward.IsCall net) calls → Agree net rounds (onward.driver_after net rounds calls) (driver_after net rounds inverses (map two_way_call calls))
  both_agree calls ok =
      let (e, is, f) = calls_follow (one.first_driver net) (view (first_driver net)) calls ok (sound_first net rounds) (first_driver net, refl, follows_first) in
      subst (Agree net rounds (onward.driver_after net rounds calls)) (sym is) (agrees (onward.driver_after net rounds calls) e f)
