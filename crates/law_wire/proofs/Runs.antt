-- What holds of the first state on the wire still holds behind each event.
use Rattle.std.proofs.Common.{◌≡◌, ◌⊎◌, ℕ, zero, suc, ◌<◌, true, List, [], ◌∷◌, ◌++◌, length, drop, replicate, get_or, refl, sym, ◌∙◌, subst, ap, inl, inr, arith, eqb, set, get_or-set_other, append-nil, cond, ◌+◌, Bool, false}
use Rattle.std.specs.Prelude.{◌↔◌, Some, None, is_none, filter_map, Option}
use Rattle.std.specs.List.{AllByRecursion, cons_option}
use Rattle.std.proofs.lemmas.Bool.{cases_eq, cond_both, cases_Bool, both_ways, cond-false}
use Rattle.std.proofs.lemmas.List.{drop_at, length-replicate}
use Rattle.net_base.specs.Members.{IsIn, IsSameSet}
use Rattle.net_base.specs.declared.ids.SwitchId.{SwitchId}
use Rattle.topology.specs.Networks.{switch_count}
use Rattle.flow_rules.specs.Tables.{IsTable, rules_at}
use Rattle.update_model.specs.Mixtures.{Rollout, AreGoodRounds}
use Rattle.update_model.specs.declared.Event.TheVariants as event
use Rattle.update_model.specs.declared.Packet.{Packet}
use Rattle.update_model.proofs.RoundLaws.{settled_start}
use Rattle.openflow10.specs.declared.Message.{Message}
use Rattle.openflow10.specs.declared.Message.TheVariants.{BarrierRequest}
use Rattle.law_two_way_runs.specs.States.{Onward as onward}
use Rattle.law_two_way_runs.proofs.Turning.{IsSound, sound_after}
use Rattle.round_inverses.specs.Rounds.{inverse_rounds}
use Rattle.two_way_driver.specs.PeerStates.{PeerState}
use Rattle.two_way_driver.specs.Peers.{first_peer, reopened_peer, dead_peer}
use Rattle.two_way_driver.specs.Drivers.{DriverState, peer_at, with_peer, running_round, settled_if_answered, reopened_driver}
use Rattle.two_way_driver.specs.Calls.{AreTurnable, DriverView, start_fault, back_fault, started_view, turned_view}
use Rattle.two_way_driver.specs.Laws.{phase_of}
use Rattle.two_way_driver.specs.Laws as call
use Rattle.two_way_driver.specs.Words.{after_call_anew}
use Rattle.two_way_driver.specs.declared.Stage.{Stage}
use Rattle.two_way_driver.specs.declared.Stage.TheVariants.{Settled, Onward, Undone}
use Rattle.law_wire.specs.Network.{WireState, WireEvent, Carry, Refuse, Answer, Say, Feed, Begin, Back, Reopen, Enter, Hop, Lose, first_wire, driver_at, stage_at, with_box, given, without, cut_off, reply_to, NoneEarlier, IsUnderWayIn, IsWireEnabled, wire_after, AreWireEnabled, wire_behind, IsWireRun, state_on_wire, Dead, Repair, MayReopen, MayHop, MayDeal, IsError, MaySay, is_gone, logged_state, arriving, inbox_message}
use Rattle.law_wire.proofs.Bytes.{stream_first, hello_stays}
use Rattle.law_wire.proofs.Link.{Link, refuse_link, answer_link, say_link}
use Rattle.law_wire.proofs.Asks.{link_idle}
use Rattle.law_wire.proofs.Sides.{sides, named_at, way_of}
use Rattle.law_wire.proofs.Keeps.{Around, Keeps, IsSettledStage, as_two_way, sound_of, Beside, beside_alive, keeps_said}
use Rattle.law_wire.proofs.Feeds.{box_here, box_away, Serves, bytes_serve, reopen_serves, outboxes_are, if_answered}
use Rattle.law_wire.proofs.Starts.{start_call, back_call}
use Rattle.law_wire.proofs.Steps.{OnWire, base, serves_of, called, call_on, relinked, carries, boxes_are, held_at, none_is, silent_around, reopens_dead, dies, repairs, holding_alive, asked_alive}
use Rattle.law_wire.proofs.Logged.{logged_at}
use Rattle.two_way_driver.specs.declared.DriverOutput.TheVariants.{Send}
use Rattle.switch_session.specs.Channels.{hello}
use Rattle.std.specs.Option.{option_map_or}
use Rattle.path_walk.specs.Paths.{outcome_in}
use Rattle.path_walk.specs.Outcomes.{outcome}
use Rattle.update_model.specs.States.{hopped_packet, with_packet}
use Rattle.flow_rules.specs.declared.rules.Rule.{Rule}

module _ (u : Rollout) (good : AreGoodRounds u) (old : AllByRecursion IsTable u.old) (turnable : AreTurnable u.net u.rounds (inverse_rounds u.old u.rounds)) (sized : length u.old ≡ switch_count u.net) where
  module _ (st : WireState) (h : OnWire u good old turnable sized st) where
    abbrev d : DriverState
    d = record (driver_at u st.calls).state { said = [] }

    abbrev b : Around
    b = base u good old turnable sized st

    served : Serves u good old turnable sized (base u good old turnable sized st) (record (driver_at u st.calls).state { said = [] })
    served = serves_of u good old turnable sized (base u good old turnable sized st) (driver_at u st.calls).state h.keeps h.waits

    -- a call on a silent driver
    by_call : (st2 : WireState) (c : call.Call) → st2.calls ≡ st.calls → call.IsCall u.net c
        → Serves u good old turnable sized (base u good old turnable sized st2) (call.after_call (record { net = u.net; rounds = u.rounds; inverses = inverse_rounds u.old u.rounds; state = record (driver_at u st.calls).state { said = [] } }) c).state
        → OnWire u good old turnable sized (given u c st2)
    by_call st2 c same ok serves =
        let calls : AllByRecursion (call.IsCall u.net) st2.calls = subst (AllByRecursion (call.IsCall u.net)) (sym same) h.calls in
        called u good old turnable sized st2 c calls ok
        (subst (λ l. Serves u good old turnable sized (base u good old turnable sized st2) (after_call_anew (driver_at u l) c).state) (sym same)
        (subst (Serves u good old turnable sized (base u good old turnable sized st2)) (sym (call_on u good old turnable sized st.calls c)) serves))

    starts : NoneEarlier u st → OnWire u good old turnable sized (given u call.Start st)
    starts older =
        let v : DriverView = record { net = u.net; rounds = u.rounds; inverses = inverse_rounds u.old u.rounds; state = d } in
        by_call st call.Start refl tt
        (cond_both (is_none (start_fault v)) (started_view v) v (λ (w : DriverView). Serves u good old turnable sized b w.state)
        (λ e. start_call u good old turnable sized d.stage b d (none_is (start_fault v) e) served refl older) (λ e. served))

    settled_older : (stage : Stage) → IsUnderWayIn stage ⊎ NoneEarlier u st → IsSettledStage u good old turnable sized stage → NoneEarlier u st
    settled_older (Settled k) (inl under) settled = absurd under
    settled_older (Onward k) (inl under) settled = absurd settled
    settled_older (Undone k) (inl under) settled = absurd settled
    settled_older stage (inr older) settled = older

    turns : IsUnderWayIn (stage_at u st.calls) ⊎ NoneEarlier u st → OnWire u good old turnable sized (given u call.Back st)
    turns may =
        let v : DriverView = record { net = u.net; rounds = u.rounds; inverses = inverse_rounds u.old u.rounds; state = d } in
        by_call st call.Back refl tt
        (cond_both (is_none (back_fault v)) (turned_view v) v (λ (w : DriverView). Serves u good old turnable sized b w.state)
        (λ e. back_call u good old turnable sized d.stage b d served refl (settled_older d.stage may)) (λ e. served))

    hello_quiet : (s t : SwitchId) → arriving t (Send s hello ∷ []) ≡ []
    hello_quiet s t = elim (eqb s.0 t.0) as (λ (c : Bool). filter_map inbox_message (cons_option (cond c (Some hello) None) []) ≡ []) [ true ↦ ap (λ (o : Option Message). cons_option o []) hello_stays | false ↦ refl ]

    reopens_gone : (s : SwitchId) → s.0 < switch_count u.net → (peer_at d s).is_dead ≡ true → IsSameSet (rules_at st.tables s) (rules_at (logged_state u st.calls).tables s)
        → Serves u good old turnable sized (base u good old turnable sized (cut_off s st)) (reopened_driver s d)
    reopens_gone s here dead same =
        let logged = logged_at u good turnable st.calls h.calls s in
        let b2 : Around = base u good old turnable sized (cut_off s st) in
        let k = reopens_dead u good old turnable sized d b h.keeps s here (λ r. ((λ i. (logged r).0 ((same r).0 i)), (λ i. (same r).1 ((logged r).1 i)))) in
        let e : DriverState = record d { peers = set d.peers s.0 (reopened_peer (peer_at d s)); said = [] ++ Send s hello ∷ [] } in
        let settles : b.settles ≡ b.settles + 0 = omega arith in
        let said : Keeps u good old turnable sized e (record b2 { inbox = λ t. b2.inbox t ++ arriving t (Send s hello ∷ []) }) =
        keeps_said u good old turnable sized e b2 (Send s hello ∷ []) (λ t. b2.inbox t ++ arriving t (Send s hello ∷ [])) k (λ t. ap (λ l. b2.inbox t ++ l) (hello_quiet s t) ∙ append-nil (b2.inbox t)) in
        let peers = h.keeps.peers in
        record {
          keeps = subst (λ n. Keeps u good old turnable sized e (record b2 { inbox = λ t. b2.inbox t ++ arriving t (Send s hello ∷ []); settles = n })) settles said;
          waits = λ none. h.waits (λ t within alive. elim (cases_eq t.0 s.0) [
            | inl e2 ↦ absurd (both_ways (peer_at d s).is_dead (sym (ap (λ (n : ℕ). (get_or d.peers n first_peer).is_dead) e2) ∙ alive) dead)
            | inr differs ↦ (
                let at = get_or-set_other d.peers s.0 t.0 (reopened_peer (peer_at d s)) first_peer differs in
                sym (ap (λ (p : PeerState). p.asked) at) ∙ none t within (ap (λ (p : PeerState). p.is_dead) at ∙ alive))
          ]);
        }

    reopens : (s : SwitchId) → MayReopen u st s → OnWire u good old turnable sized (given u (call.Reopen s) (cut_off s st))
    reopens s may =
        by_call (cut_off s st) (call.Reopen s) refl may.within
        (elim (cases_Bool (peer_at d s).is_dead) [
          | inl dead ↦ reopens_gone s may.within dead (may.kept dead)
          | inr alive ↦ reopen_serves u good old turnable sized b d s may.within alive (with_box s [] st.inbox) (with_box s [] st.outbox) refl (box_here s [] st.inbox) (box_here s [] st.outbox)
              (λ t differs. box_away s [] st.inbox t differs) (λ t differs. box_away s [] st.outbox t differs) served
        ])

    dies_now : (s : SwitchId) → s.0 < switch_count u.net → is_gone u st s ≡ false → OnWire u good old turnable sized (given u (call.Dead s) (cut_off s st))
    dies_now s here alive =
        let b2 : Around = base u good old turnable sized (cut_off s st) in
        let e : DriverState = with_peer s (dead_peer (peer_at d s)) d in
        let round = running_round u.rounds d.stage in
        by_call (cut_off s st) (call.Dead s) refl here
        (subst (Serves u good old turnable sized b2) (sym (cond-false (peer_at d s).is_dead d (settled_if_answered round e) alive))
        (if_answered u good old turnable sized b2 round e (silent_around u good old turnable sized b2 e (dies u good old turnable sized d b h.keeps s here))))

    feeds : (s : SwitchId) → s.0 < switch_count u.net → (bytes rest : List ℕ) → st.outbox s ≡ bytes ++ rest
        → OnWire u good old turnable sized (given u (call.Feed s bytes) (record st { outbox = with_box s (drop (length bytes) (st.outbox s)) st.outbox }))
    feeds s here bytes rest is =
        let st2 : WireState = record st { outbox = with_box s (drop (length bytes) (st.outbox s)) st.outbox } in
        let (f, serves, at, away) = bytes_serve u good old turnable sized b d s here bytes rest is served in
        let left : drop (length bytes) (st.outbox s) ≡ rest = ap (drop (length bytes)) is ∙ drop_at bytes rest (length bytes) refl in
        let same : (t : SwitchId) → with_box s (drop (length bytes) (st.outbox s)) st.outbox t ≡ f t = λ t.
        elim (cases_eq t.0 s.0) [
          | inl e ↦ (
              let here_is : t ≡ s = ap (λ (n : ℕ). let x : SwitchId = record { 0 = n } in x) e in
              subst (λ (x : SwitchId). with_box s (drop (length bytes) (st.outbox s)) st.outbox x ≡ f x) (sym here_is) (box_here s (drop (length bytes) (st.outbox s)) st.outbox ∙ left ∙ sym at))
          | inr differs ↦ box_away s (drop (length bytes) (st.outbox s)) st.outbox t differs ∙ sym (away t differs)
        ] in
        by_call st2 (call.Feed s bytes) refl here
        (record { keeps = outboxes_are u good old turnable sized _ _ (with_box s (drop (length bytes) (st.outbox s)) st.outbox) serves.keeps (λ t alive. same t); waits = serves.waits })

    answers : (s : SwitchId) → s.0 < switch_count u.net → (x : ℕ) (rest : List Message) → st.inbox s ≡ BarrierRequest x ∷ rest
        → Keeps u good old turnable sized d (record b { inbox = with_box s (drop 1 (st.inbox s)) st.inbox; outbox = with_box s (st.outbox s ++ reply_to (st.inbox s)) st.outbox })
    answers s here x rest is =
        let alive = asked_alive u good old turnable sized d b h.keeps s here x rest is in
        let link = answer_link (sides u d.stage s) (named_at u d.stage s) (way_of d.stage) (h.keeps.on s) (peer_at d s) x rest (st.outbox s)
        (subst (λ l. Link (sides u d.stage s) (named_at u d.stage s) (way_of d.stage) (h.keeps.on s) (peer_at d s) l (st.outbox s)) is ((h.keeps.links s here).alive alive)) in
        boxes_are u good old turnable sized d b h.keeps s here (drop 1 (st.inbox s)) (st.outbox s ++ reply_to (st.inbox s))
        (beside_alive u good old turnable sized d.stage h.keeps.on s (peer_at d s) (drop 1 (st.inbox s)) (st.outbox s ++ reply_to (st.inbox s)) alive
        (subst (λ l. Link (sides u d.stage s) (named_at u d.stage s) (way_of d.stage) (h.keeps.on s) (peer_at d s) (drop 1 l) (st.outbox s ++ reply_to l)) (sym is) link))

    refuses : (s : SwitchId) → s.0 < switch_count u.net → (i : ℕ) (error : List ℕ) (may : MayDeal (st.inbox s) i) → IsError error
        → Keeps u good old turnable sized d (record b { inbox = with_box s (without i (st.inbox s)) st.inbox; outbox = with_box s (st.outbox s ++ error) st.outbox })
    refuses s here i error may is =
        let held = held_at (st.inbox s) i may in
        let alive = holding_alive u good old turnable sized d b h.keeps s here (without i (st.inbox s)) may.flow held in
        let link = refuse_link (sides u d.stage s) (named_at u d.stage s) (way_of d.stage) (h.keeps.on s) (peer_at d s) (st.inbox s) (without i (st.inbox s)) (st.outbox s) error may.flow
        ((h.keeps.links s here).alive alive) held is in
        boxes_are u good old turnable sized d b h.keeps s here (without i (st.inbox s)) (st.outbox s ++ error)
        (beside_alive u good old turnable sized d.stage h.keeps.on s (peer_at d s) (without i (st.inbox s)) (st.outbox s ++ error) alive link)

    speaks : (s : SwitchId) → s.0 < switch_count u.net → (bytes : List ℕ) → MaySay bytes → Keeps u good old turnable sized d (record b { outbox = with_box s (st.outbox s ++ bytes) st.outbox })
    speaks s here bytes may =
        let link = h.keeps.links s here in
        relinked u good old turnable sized d b h.keeps s here st.inbox (with_box s (st.outbox s ++ bytes) st.outbox) (λ t differs. refl) (λ t differs. box_away s (st.outbox s ++ bytes) st.outbox t differs)
        h.keeps.on (λ t differs. refl) h.keeps.seen st.tables refl refl h.keeps.like h.keeps.holds
        (subst (Beside u good old turnable sized d.stage h.keeps.on s (peer_at d s) (st.inbox s)) (sym (box_here s (st.outbox s ++ bytes) st.outbox)) (record {
          alive = λ alive. say_link (sides u d.stage s) (named_at u d.stage s) (way_of d.stage) (h.keeps.on s) (peer_at d s) (st.inbox s) (st.outbox s) bytes (link.alive alive) may;
          gone = link.gone;
        }))

    -- a packet at a switch that isn't dead hops by the table that is seen there
    hopped_same : (i : ℕ) (may : MayHop u st i)
        → with_packet (λ p. hopped_packet p (outcome_in u.net h.keeps.seen p.at p.dst)) i st.packets ≡ with_packet (λ p. hopped_packet p (outcome_in u.net st.tables p.at p.dst)) i st.packets
    hopped_same i may =
        let p = may.packet in
        let By : Option Packet → (Packet → Packet) → List Packet = λ o f. option_map_or (λ q. set st.packets i (f q)) o st.packets in
        let seen : Packet → Packet = λ q. hopped_packet q (outcome_in u.net h.keeps.seen q.at q.dst) in
        let now : Packet → Packet = λ q. hopped_packet q (outcome_in u.net st.tables q.at q.dst) in
        ap (λ o. By o seen) may.is ∙ ap (λ (rules : List Rule). set st.packets i (hopped_packet p (outcome u.net rules p.at p.dst))) (h.keeps.like p.at.switch may.alive) ∙ sym (ap (λ o. By o now) may.is)

    -- other packets, as sound
    with_packets : (packets : List Packet) → AllByRecursion (IsSound u (phase_of (stage_at u st.calls)) b.settles) packets → Keeps u good old turnable sized d (record b { packets = packets })
    with_packets packets sound = record {
      on = h.keeps.on;
      seen = h.keeps.seen;
      like = h.keeps.like;
      holds = h.keeps.holds;
      count = h.keeps.count;
      counted = h.keeps.counted;
      packets = sound;
      links = h.keeps.links;
      logs = h.keeps.logs;
      peers = h.keeps.peers;
      flags = h.keeps.flags;
      first = h.keeps.first;
      next = h.keeps.next;
      within = h.keeps.within;
      asks = h.keeps.asks;
    }

    pub on_wire_after : (e : WireEvent) → IsWireEnabled u st e → OnWire u good old turnable sized (wire_after u st e)
    on_wire_after (Carry s i) may = record { keeps = carries u good old turnable sized d b h.keeps s may.0 i may.1; waits = h.waits; calls = h.calls }
    on_wire_after (Refuse s i error) may = record { keeps = refuses s may.0 i error may.1 may.2; waits = h.waits; calls = h.calls }
    on_wire_after (Answer s) may = record { keeps = answers s may.0 may.1.xid may.1.rest may.1.is; waits = h.waits; calls = h.calls }
    on_wire_after (Say s bytes) may = record { keeps = speaks s may.0 bytes may.1; waits = h.waits; calls = h.calls }
    on_wire_after (Feed s bytes) may = feeds s may.0 bytes may.1.0 may.1.1
    on_wire_after Begin may = starts may
    on_wire_after Back may = turns may
    on_wire_after (Reopen s) may = reopens s may
    on_wire_after (Enter place dst) may =
        let next = sound_after u good (as_two_way u good old turnable sized d.stage h.keeps.on h.keeps.seen b) (onward (event.Enter place dst)) (sound_of u good old turnable sized d b h.keeps) may in
        record { keeps = with_packets _ next.packets; waits = h.waits; calls = h.calls }
    on_wire_after (Hop i) may =
        let next = sound_after u good (as_two_way u good old turnable sized d.stage h.keeps.on h.keeps.seen b) (onward (event.Hop i)) (sound_of u good old turnable sized d b h.keeps) (may.packet, may.is, may.under_way) in
        let packets = with_packet (λ p. hopped_packet p (outcome_in u.net h.keeps.seen p.at p.dst)) i st.packets in
        record {
          keeps = with_packets _ (subst (AllByRecursion (IsSound u (phase_of (stage_at u st.calls)) b.settles)) (hopped_same i may) next.packets);
          waits = h.waits;
          calls = h.calls;
        }
    on_wire_after (Lose i) may =
        let next = sound_after u good (as_two_way u good old turnable sized d.stage h.keeps.on h.keeps.seen b) (onward (event.Lose i)) (sound_of u good old turnable sized d b h.keeps) may in
        record { keeps = with_packets _ next.packets; waits = h.waits; calls = h.calls }
    on_wire_after (Dead s) may = dies_now s may.0 may.1
    on_wire_after (Repair s rules) may = record { keeps = repairs u good old turnable sized d b h.keeps s may.0 rules may.1; waits = h.waits; calls = h.calls }

  -- ---- the first state

  first_at : (n i : ℕ) → get_or (replicate n first_peer) i first_peer ≡ first_peer
  first_at zero i = refl
  first_at (suc n) zero = refl
  first_at (suc n) (suc i) = first_at n i

  first_on_wire : OnWire u good old turnable sized (first_wire u.old)
  first_on_wire = record {
    keeps = record {
      on = λ s key. true;
      seen = u.old;
      like = λ s alive. refl;
      holds = λ s r. subst (λ t. IsIn r (rules_at u.old s) ↔ IsIn r (rules_at t s)) (sym (settled_start u.rounds u.old)) ((λ i. i), (λ i. i));
      count = refl;
      counted = refl;
      packets = tt;
      links = λ s within. subst (λ p. Beside u good old turnable sized (Settled 0) (λ t key. true) s p [] []) (sym (first_at (switch_count u.net) s.0))
          (beside_alive u good old turnable sized (Settled 0) (λ t key. true) s first_peer [] [] refl
          (link_idle (sides u (Settled 0) s) [] true (λ key. true) first_peer [] [] (record { empty = refl; outstanding = refl; behind = refl; live = λ _. ([], stream_first, refl) }) refl (λ key i. absurd i)));
      logs = λ s within. record { done = λ none changed. absurd (let f : false ≡ true = changed in cc); firm = λ onward some. absurd onward };
      peers = length-replicate (switch_count u.net) first_peer;
      flags = length-replicate (switch_count u.net) false;
      first = record { least = omega arith; most = omega arith };
      next = record { least = omega arith; most = omega arith };
      within = omega arith;
      asks = λ s within x is. absurd (let f : None ≡ Some x = sym (ap (λ (p : PeerState). p.asked) (first_at (switch_count u.net) s.0)) ∙ is in cc);
    };
    waits = λ none. tt;
    calls = tt;
  }

  on_wire_behind : (st : WireState) (events : List WireEvent) → OnWire u good old turnable sized st → AreWireEnabled u st events → OnWire u good old turnable sized (wire_behind u st events)
  on_wire_behind st [] h enabled = h
  on_wire_behind st (e ∷ events) h enabled = on_wire_behind (wire_after u st e) events (on_wire_after st h e enabled.0) enabled.1

  pub on_wire : (events : List WireEvent) → IsWireRun u events → OnWire u good old turnable sized (state_on_wire u events)
  on_wire events run = on_wire_behind (first_wire u.old) events first_on_wire run
