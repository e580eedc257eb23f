-- What holds on the wire still holds behind a call by which a round begins, in either way, or is turned.
use Rattle.std.proofs.Common.{◌≡◌, ℕ, zero, suc, ◌+◌, ◌<◌, ◌≤◌, ◌^◌, Bool, true, false, cond, eqb, List, [], ◌∷◌, ◌++◌, length, map, replicate, get_or, refl, sym, ◌∙◌, subst, ap, inl, inr, append-nil, arith}
use Rattle.std.specs.Prelude.{Option, Some, None, is_some}
use Rattle.std.specs.List.{AllByRecursion}
use Rattle.std.proofs.lemmas.Bool.{cases_Bool, cond-true, eq-eqb, eqb-true, cond-false, cond_both}
use Rattle.net_base.specs.Members.{IsIn}
use Rattle.net_base.specs.declared.ids.SwitchId.{SwitchId}
use Rattle.topology.specs.Networks.{switch_count}
use Rattle.flow_rules.specs.Tables.{IsTable, rules_at}
use Rattle.flow_rules.specs.declared.rules.Key.{Key}
use Rattle.path_walk.specs.declared.Ended.TheVariants.{UnderWay}
use Rattle.update_model.specs.Changes.{changes_at, round_after}
use Rattle.update_model.specs.Mixtures.{Rollout, AreGoodRounds}
use Rattle.update_model.specs.Ranges.{IsPlanChange}
use Rattle.update_model.specs.declared.Change.{Change}
use Rattle.update_model.specs.declared.Event.TheVariants as event
use Rattle.update_model.specs.declared.Packet.{Packet}
use Rattle.update_model.proofs.ChangeLaws.{key_named}
use Rattle.openflow10.specs.declared.FlowMod.{FlowMod}
use Rattle.openflow10.specs.declared.Message.{Message}
use Rattle.openflow10.specs.declared.Message.TheVariants.{Flow, BarrierRequest}
use Rattle.round_messages.specs.Requests.{is_changed, switch_numbered}
use Rattle.switch_session.specs.Channels.{is_open, ChannelState}
use Rattle.turned_rounds.specs.Batches.{xid_behind, batch_of, next_if}
use Rattle.turned_rounds.specs.declared.outgoing.Outgoing.{Outgoing}
use Rattle.law_two_way_runs.specs.States.{Onward as onward, Back as back}
use Rattle.law_two_way_runs.proofs.Turning.{IsSound, sound_after}
use Rattle.round_inverses.specs.Rounds.{inverse_rounds}
use Rattle.two_way_driver.specs.PeerStates.{PeerState}
use Rattle.two_way_driver.specs.Peers.{first_peer, asks}
use Rattle.two_way_driver.specs.Drivers.{DriverState, peer_at, with_said, sends, is_to_open, asks_if, asked_from, sent_out, flagged_state, asked_round, started_with, undone_with, turned_with, start_fault_in, started_in, turned_in, running_round}
use Rattle.two_way_driver.specs.Calls.{AreTurnable, IsStageWithin}
use Rattle.two_way_driver.specs.Laws.{phase_of}
use Rattle.two_way_driver.specs.declared.Stage.{Stage}
use Rattle.two_way_driver.specs.declared.Stage.TheVariants.{Settled, Onward, Undone}
use Rattle.two_way_driver.specs.declared.DriverEvent.TheVariants as logged
use Rattle.two_way_driver.specs.declared.DriverOutput.{DriverOutput}
use Rattle.two_way_driver.specs.declared.DriverOutput.TheVariants.{Log}
use Rattle.two_way_driver.specs.declared.faults.CallFault.TheVariants as fault
use Rattle.two_way_driver.proofs.ServingLaws.{length-asked}
use Rattle.law_wire.specs.Network.{arriving, settles_in}
use Rattle.law_wire.proofs.Entries.{HoldsBy}
use Rattle.law_wire.proofs.Batch.{IsXid, in_range, barrier_xid, barrier_ok, behind_ok, asked_exact, flows_at, flow_keys, batch_comes, none_changed}
use Rattle.law_wire.proofs.Asks.{Idle, idle_of, link_idle, fresh_link, turned_link, asks_asked, asks_closed, asks_dead}
use Rattle.law_wire.proofs.Sides.{sides, named_at, way_of}
use Rattle.law_wire.proofs.Words.{IsQuiet, arriving-append, settles-append, sends_come, no_settle}
use Rattle.law_wire.proofs.Keeps.{Around, IsAsked, LinkAt, Keeps, IsSettledStage, as_two_way, sound_of, Gone, Beside, LogsAt, beside_alive, beside_gone, IsOnward}
use Rattle.law_wire.proofs.Feeds.{around, Serves, if_answered, onward_lead, back_lead, onward_all, back_all}
use Rattle.two_way_driver.proofs.PeerLaws.{each_round, get_replicate}
use Rattle.std.proofs.lemmas.List.{length-replicate}

module _ (u : Rollout) (good : AreGoodRounds u) (old : AllByRecursion IsTable u.old) (turnable : AreTurnable u.net u.rounds (inverse_rounds u.old u.rounds)) (sized : length u.old ≡ switch_count u.net) where
  asked_dead : (round : List Change) (x n : ℕ) (peers : List PeerState) (i : ℕ) → (get_or (asked_from x round n peers) i first_peer).is_dead ≡ (get_or peers i first_peer).is_dead
  asked_dead round x n [] i = refl
  asked_dead round x n (p ∷ peers) zero = cond_both (is_changed round (switch_numbered n)) (asks x p) p (λ (q : PeerState). q.is_dead ≡ p.is_dead) (λ e. asks_dead x p) (λ e. refl)
  asked_dead round x n (p ∷ peers) (suc i) = asked_dead round (next_if (is_changed round (switch_numbered n)) x) (suc n) peers i

  -- a call that asks all switches with a change for it
  module _ (b : Around) (d : DriverState) (h : Keeps u good old turnable sized d (around u good old turnable sized b d)) (silent : d.said ≡ []) (stage : Stage) (changes : List Change) (flags : List Bool) (word : List DriverOutput)
      (quiet : IsQuiet word) (plan : AllByRecursion (IsPlanChange u.net) changes) (is : asked_round u.rounds (inverse_rounds u.old u.rounds) stage ≡ changes)
      (on : SwitchId → Key → Bool) (holds : (s : SwitchId) → HoldsBy (sides u stage s) (on s) (rules_at h.seen s))
      (packets : AllByRecursion (IsSound u (phase_of stage) b.settles) b.packets) (within : IsStageWithin u.rounds stage)
      (count : length flags ≡ switch_count u.net) (off : IsOnward u good old turnable sized stage → (s : SwitchId) → s.0 < switch_count u.net → get_or flags s.0 false ≡ false) (alike : (s : SwitchId) → is_changed (running_round u.rounds stage) s ≡ is_changed changes s)
      (asked : (s : SwitchId) → s.0 < switch_count u.net → (peer_at d s).is_dead ≡ false → is_changed changes s ≡ true → (x : ℕ) → x < 2 ^ 32
      → LinkAt u good old turnable sized stage on s (asks x (peer_at d s)) (b.inbox s ++ cond (is_open (peer_at d s).channel.session) (map Flow (flows_at s d.next changes) ++ BarrierRequest x ∷ []) []) (b.outbox s))
      (unasked : (s : SwitchId) → s.0 < switch_count u.net → is_changed changes s ≡ false
      → ((peer_at d s).asked ≡ None) × ((peer_at d s).is_dead ≡ false → LinkAt u good old turnable sized stage on s (peer_at d s) (b.inbox s) (b.outbox s))) where
    abbrev ms : List Outgoing
    ms = batch_of u.net d.next changes

    xid_ok : (s : SwitchId) → IsXid (barrier_xid (xid_behind d.next (length changes)) changes 0 s.0)
    xid_ok s = barrier_ok (xid_behind d.next (length changes)) changes 0 s.0 (behind_ok (length changes) d.next h.next)

    peer_now : (s : SwitchId) → s.0 < switch_count u.net
        → get_or (asked_from (xid_behind d.next (length changes)) changes 0 d.peers) s.0 first_peer ≡ asks_if (is_changed changes s) (barrier_xid (xid_behind d.next (length changes)) changes 0 s.0) (peer_at d s)
    peer_now s less =
        let count = h.peers in
        let place : 0 + s.0 ≡ s.0 = omega arith in
        asked_exact changes (xid_behind d.next (length changes)) 0 d.peers s.0 (omega arith)
        ∙ ap (λ (n : ℕ). asks_if (is_changed changes (switch_numbered n)) (barrier_xid (xid_behind d.next (length changes)) changes 0 s.0) (peer_at d s)) place

    comes_to : (s : SwitchId) → s.0 < switch_count u.net
        → arriving s ((d.said ++ word) ++ sends (is_to_open d.peers) (batch_of u.net d.next changes))
        ≡ cond (is_open (peer_at d s).channel.session) (map Flow (flows_at s d.next changes) ++ cond (is_changed changes s) (BarrierRequest (barrier_xid (xid_behind d.next (length changes)) changes 0 s.0) ∷ []) []) []
    comes_to s less =
        let open_now = is_open (peer_at d s).channel.session in
        arriving-append s (d.said ++ word) (sends (is_to_open d.peers) (batch_of u.net d.next changes))
        ∙ ap (λ l. l ++ arriving s (sends (is_to_open d.peers) (batch_of u.net d.next changes))) (arriving-append s d.said word ∙ ap (λ l. arriving s l ++ arriving s word) silent ∙ quiet.none_come s)
        ∙ sends_come s (is_to_open d.peers) open_now (batch_of u.net d.next changes) (λ m at. ap (λ (n : ℕ). is_open (get_or d.peers n first_peer).channel.session) (eqb-true m.switch.0 s.0 at))
        ∙ ap (λ l. cond open_now l []) (batch_comes u.net s d.next changes less plan h.next)

    settles_not : b.settles + settles_in ((d.said ++ word) ++ sends (is_to_open d.peers) (batch_of u.net d.next changes)) ≡ b.settles
    settles_not =
        let one = settles-append (d.said ++ word) (sends (is_to_open d.peers) (batch_of u.net d.next changes)) in
        let two = settles-append d.said word in
        let none : settles_in d.said ≡ 0 = ap settles_in silent in
        let zero_word = quiet.none_settle in
        let zero_sent = no_settle (is_to_open d.peers) (batch_of u.net d.next changes) in
        omega arith

    gone_now : (s : SwitchId) → s.0 < switch_count u.net → (peer_at d s).is_dead ≡ true → Gone (peer_at d s) (b.inbox s)
    gone_now s less dead = subst (Gone (peer_at d s)) (ap (λ l. b.inbox s ++ arriving s l) silent ∙ append-nil (b.inbox s)) ((h.links s less).gone dead)

    beside_asked : (s : SwitchId) → s.0 < switch_count u.net → is_changed changes s ≡ true → (x : ℕ) → x < 2 ^ 32
        → Beside u good old turnable sized stage on s (asks x (peer_at d s)) (b.inbox s ++ cond (is_open (peer_at d s).channel.session) (map Flow (flows_at s d.next changes) ++ BarrierRequest x ∷ []) []) (b.outbox s)
    beside_asked s less e x ok =
        let p = peer_at d s in
        let sent = map Flow (flows_at s d.next changes) ++ BarrierRequest x ∷ [] in
        let box = b.inbox s ++ cond (is_open p.channel.session) sent [] in
        elim (cases_Bool p.is_dead) [
          | inl dead ↦ (
              let g = gone_now s less dead in
              let closed : is_open p.channel.session ≡ false = ap (λ (c : ChannelState). is_open c.session) g.channel in
              let now : asks x p ≡ record p { asked = Some x } = asks_closed x p closed in
              beside_gone u good old turnable sized stage on s (asks x p) box (b.outbox s) (ap (λ (r : PeerState). r.is_dead) now ∙ dead)
              (subst (λ (r : PeerState). Gone r box) (sym now) (record {
                empty = ap (λ l. b.inbox s ++ l) (cond-false (is_open p.channel.session) sent [] closed) ∙ append-nil (b.inbox s) ∙ g.empty;
                channel = g.channel;
                behind = g.behind;
              })))
          | inr alive ↦ beside_alive u good old turnable sized stage on s (asks x p) box (b.outbox s) (asks_dead x p ∙ alive) (asked s less alive e x ok)
        ]

    beside_unasked : (s : SwitchId) → s.0 < switch_count u.net → is_changed changes s ≡ false → Beside u good old turnable sized stage on s (peer_at d s) (b.inbox s) (b.outbox s)
    beside_unasked s less e = record { alive = (unasked s less e).1; gone = gone_now s less }

    link_now : (s : SwitchId) → s.0 < switch_count u.net
        → Beside u good old turnable sized stage on s (get_or (asked_from (xid_behind d.next (length changes)) changes 0 d.peers) s.0 first_peer)
        (b.inbox s ++ arriving s ((d.said ++ word) ++ sends (is_to_open d.peers) (batch_of u.net d.next changes))) (b.outbox s)
    link_now s less =
        let x = barrier_xid (xid_behind d.next (length changes)) changes 0 s.0 in
        let open_now = is_open (peer_at d s).channel.session in
        let Box : Bool → List Message = λ c. b.inbox s ++ cond open_now (map Flow (flows_at s d.next changes) ++ cond c (BarrierRequest x ∷ []) []) [] in
        let At : PeerState → List Message → Type 0 = λ r l. Beside u good old turnable sized stage on s r l (b.outbox s) in
        subst (λ r. At r (b.inbox s ++ arriving s ((d.said ++ word) ++ sends (is_to_open d.peers) (batch_of u.net d.next changes)))) (sym (peer_now s less))
        (subst (At (asks_if (is_changed changes s) x (peer_at d s))) (sym (ap (λ l. b.inbox s ++ l) (comes_to s less)))
        (elim (cases_Bool (is_changed changes s)) [
          | inl e ↦ subst (λ c. At (asks_if c x (peer_at d s)) (Box c)) (sym e) (beside_asked s less e x (in_range x (xid_ok s)))
          | inr e ↦ subst (λ c. At (asks_if c x (peer_at d s)) (Box c)) (sym e)
              (subst (At (peer_at d s)) (sym (ap (λ l. b.inbox s ++ l) (nothing e open_now) ∙ append-nil (b.inbox s))) (beside_unasked s less e))
        ]))
      where
        no_flows : (cs : List Change) (x : ℕ) → is_changed cs s ≡ false → flows_at s x cs ≡ []
        no_flows cs x e = nil_keys (flows_at s x cs) (flow_keys s x cs ∙ ap (map key_named) (none_changed cs s e))
          where
            nil_keys : (ms : List FlowMod) → map (λ (m : FlowMod). m.key) ms ≡ [] → ms ≡ []
            nil_keys [] f = refl
            nil_keys (m ∷ ms) f = absurd (let g : m.key ∷ map (λ (m : FlowMod). m.key) ms ≡ [] = f in cc)

        nothing : is_changed changes s ≡ false → (c : Bool) → cond c (map Flow (flows_at s d.next changes) ++ []) [] ≡ []
        nothing e true = ap (λ (l : List FlowMod). map Flow l ++ []) (no_flows changes d.next e)
        nothing e false = refl

    asks_now : (s : SwitchId) → s.0 < switch_count u.net → (x : ℕ) → (get_or (asked_from (xid_behind d.next (length changes)) changes 0 d.peers) s.0 first_peer).asked ≡ Some x → IsAsked u good old turnable sized stage d.next s x
    asks_now s less x at =
        let y = barrier_xid (xid_behind d.next (length changes)) changes 0 s.0 in
        elim (cases_Bool (is_changed changes s)) [
          | inl e ↦ (
              let now : get_or (asked_from (xid_behind d.next (length changes)) changes 0 d.peers) s.0 first_peer ≡ asks y (peer_at d s) = peer_now s less ∙ ap (λ c. asks_if c y (peer_at d s)) e in
              let same : Some y ≡ Some x = sym (asks_asked y (peer_at d s)) ∙ sym (ap (λ (r : PeerState). r.asked) now) ∙ at in
              let xid : y ≡ x = cc in
              record {
                changed = ap (λ cs. is_changed cs s) is ∙ e;
                xid = sym xid ∙ ap (λ cs. barrier_xid (xid_behind d.next (length cs)) cs 0 s.0) (sym is);
              })
          | inr e ↦ absurd (
              let now : get_or (asked_from (xid_behind d.next (length changes)) changes 0 d.peers) s.0 first_peer ≡ peer_at d s = peer_now s less ∙ ap (λ c. asks_if c y (peer_at d s)) e in
              let f : None ≡ Some x = sym (unasked s less e).0 ∙ sym (ap (λ (r : PeerState). r.asked) now) ∙ at in
              cc)
        ]

    logs_done : (s : SwitchId) → s.0 < switch_count u.net → (get_or (asked_from (xid_behind d.next (length changes)) changes 0 d.peers) s.0 first_peer).asked ≡ None → is_changed (running_round u.rounds stage) s ≡ true
        → get_or flags s.0 false ≡ way_of stage
    logs_done s less none changed =
        let y = barrier_xid (xid_behind d.next (length changes)) changes 0 s.0 in
        let e : is_changed changes s ≡ true = sym (alike s) ∙ changed in
        let now : get_or (asked_from (xid_behind d.next (length changes)) changes 0 d.peers) s.0 first_peer ≡ asks y (peer_at d s) = peer_now s less ∙ ap (λ c. asks_if c y (peer_at d s)) e in
        absurd (let f : Some y ≡ None = sym (asks_asked y (peer_at d s)) ∙ sym (ap (λ (r : PeerState). r.asked) now) ∙ none in cc)

    logs_now : (s : SwitchId) → s.0 < switch_count u.net → LogsAt u good old turnable sized stage s (get_or (asked_from (xid_behind d.next (length changes)) changes 0 d.peers) s.0 first_peer) (get_or flags s.0 false)
    logs_now s less = record { done = logs_done s less; firm = λ onward some. off onward s less }

    -- a switch is dead as before
    dead_now : (s : SwitchId) → (get_or (asked_from (xid_behind d.next (length changes)) changes 0 d.peers) s.0 first_peer).is_dead ≡ (peer_at d s).is_dead
    dead_now s = asked_dead changes (xid_behind d.next (length changes)) 0 d.peers s.0

    pub sent_keeps : Keeps u good old turnable sized (sent_out u.net changes stage (record d { in_force = flags; said = d.said ++ word })) (around u good old turnable sized b (sent_out u.net changes stage (record d { in_force = flags; said = d.said ++ word })))
    unfolding sent_out
    sent_keeps = record {
      on = on;
      seen = h.seen;
      like = λ s alive. h.like s (sym (dead_now s) ∙ alive);
      holds = holds;
      count = h.count;
      counted = h.counted;
      packets = subst (λ n. AllByRecursion (IsSound u (phase_of stage) n) b.packets) (sym settles_not) packets;
      links = link_now;
      logs = logs_now;
      peers = length-asked (xid_behind d.next (length changes)) changes 0 d.peers ∙ h.peers;
      flags = count;
      first = h.next;
      next = behind_ok (length (batch_of u.net d.next changes)) d.next h.next;
      within = within;
      asks = asks_now;
    }

  -- ---- a round begins, in either way, or is turned

  abbrev NoOlder : Around → Type 0
  NoOlder b = AllByRecursion (λ (p : Packet). p.ended ≡ UnderWay → b.settles ≤ p.born) b.packets

  settles_now : (b : Around) (d : DriverState) → d.said ≡ [] → b.settles + settles_in d.said ≡ b.settles
  settles_now b d silent = let none : settles_in d.said ≡ 0 = ap settles_in silent in omega arith

  inbox_now : (b : Around) (d : DriverState) (s : SwitchId) → d.said ≡ [] → b.inbox s ++ arriving s d.said ≡ b.inbox s
  inbox_now b d s silent = ap (λ l. b.inbox s ++ arriving s l) silent ∙ append-nil (b.inbox s)

  is_idle : (b : Around) (d : DriverState) (h : Keeps u good old turnable sized d (around u good old turnable sized b d)) → d.said ≡ [] → (s : SwitchId) → s.0 < switch_count u.net → (peer_at d s).is_dead ≡ false → (peer_at d s).asked ≡ None → Idle (peer_at d s) (b.inbox s) (b.outbox s)
  is_idle b d h silent s less alive none =
      subst (λ l. Idle (peer_at d s) l (b.outbox s)) (inbox_now b d s silent)
      (idle_of (sides u d.stage s) (named_at u d.stage s) (way_of d.stage) (h.on s) (peer_at d s) (b.inbox s ++ arriving s d.said) (b.outbox s) ((h.links s less).alive alive) none)

  settled_asks_none : (j : ℕ) (b : Around) (d : DriverState) (h : Keeps u good old turnable sized (record d { stage = Settled j }) (around u good old turnable sized b d)) → (s : SwitchId) → s.0 < switch_count u.net → (peer_at d s).asked ≡ None
  settled_asks_none j b d h s less = go (peer_at d s).asked refl
    where
      go : (o : Option ℕ) → (peer_at d s).asked ≡ o → (peer_at d s).asked ≡ None
      go None e = e
      go (Some x) e = absurd (let f : false ≡ true = (h.asks s less x e).changed in cc)

  -- a switch without a change in the round
  none_named : (k : ℕ) (s : SwitchId) (key : Key) → is_changed (round_after k u.rounds) s ≡ false → IsIn key (map key_named (changes_at s (round_after k u.rounds))) → ⊥
  none_named k s key e i = let j : IsIn key [] = subst (λ cs. IsIn key (map key_named cs)) (none_changed (round_after k u.rounds) s e) i in j

  start_serves : (k : ℕ) (b : Around) (d : DriverState) → k < length u.rounds → (h : Keeps u good old turnable sized (record d { stage = Settled k }) (around u good old turnable sized b d)) → d.said ≡ [] → NoOlder b
      → Serves u good old turnable sized b (started_with u.net (round_after k u.rounds) k (record d { stage = Settled k }))
  start_serves k b d less h silent older =
      let e : DriverState = record d { stage = Settled k } in
      let w = around u good old turnable sized b d in
      let same = settles_now b d silent in
      let sound = sound_of u good old turnable sized e w h in
      let st = as_two_way u good old turnable sized (Settled k) h.on h.seen w in
      let next = sound_after u good st (onward event.Start) sound
      (record { k = k; settled = refl; more = less; none_older = subst (λ n. AllByRecursion (λ (p : Packet). p.ended ≡ UnderWay → n ≤ p.born) b.packets) (sym same) older }) in
      let none = settled_asks_none k b d h in
      let changes = round_after k u.rounds in
      let keeps = sent_keeps b e h silent (Onward k) changes (replicate (length d.peers) false) (Log logged.Start ∷ []) (record { none_come = λ s. refl; none_settle = refl })
      (each_round (IsPlanChange u.net) u.rounds k turnable.plan) refl (λ s key. false) (λ s. h.holds s)
      (subst (λ n. AllByRecursion (IsSound u (phase_of (Onward k)) n) b.packets) same next.packets) less (length-replicate (length d.peers) false ∙ h.peers) (λ onward s within. get_replicate (length d.peers) s.0 false (let count = h.peers in omega arith)) (λ s. refl)
      (λ s within alive changed x ok. fresh_link (sides u (Onward k) s) (named_at u (Onward k) s) true (λ key. false) (peer_at d s) x (flows_at s d.next changes) (b.inbox s) (b.outbox s) ok (is_idle b e h silent s within alive (none s within))
      (onward_lead u good old turnable sized k less s d.next) (onward_all u good old turnable sized k s d.next))
      (λ s within off. (
        none s within,
        λ alive. link_idle (sides u (Onward k) s) (named_at u (Onward k) s) true (λ key. false) (peer_at d s) (b.inbox s) (b.outbox s) (is_idle b e h silent s within alive (none s within)) (none s within)
            (λ key i. absurd (none_named k s key off i)),
      )) in
      if_answered u good old turnable sized b (round_after k u.rounds) (sent_out u.net changes (Onward k) (flagged_state false (with_said (Log logged.Start ∷ []) e))) keeps

  undo_serves : (k : ℕ) (b : Around) (d : DriverState) → k < length u.rounds → (h : Keeps u good old turnable sized (record d { stage = Settled (suc k) }) (around u good old turnable sized b d)) → d.said ≡ [] → NoOlder b
      → Serves u good old turnable sized b (undone_with u.net (round_after k u.rounds) (round_after k (inverse_rounds u.old u.rounds)) k (record d { stage = Settled (suc k) }))
  undo_serves k b d less h silent older =
      let e : DriverState = record d { stage = Settled (suc k) } in
      let w = around u good old turnable sized b d in
      let same = settles_now b d silent in
      let sound = sound_of u good old turnable sized e w h in
      let st = as_two_way u good old turnable sized (Settled (suc k)) h.on h.seen w in
      let next = sound_after u good st back sound
      (record { k = k; settled = refl; none_older = subst (λ n. AllByRecursion (λ (p : Packet). p.ended ≡ UnderWay → n ≤ p.born) b.packets) (sym same) older }) in
      let none = settled_asks_none (suc k) b d h in
      let changes = round_after k (inverse_rounds u.old u.rounds) in
      let keeps = sent_keeps b e h silent (Undone k) changes (replicate (length d.peers) true) (Log logged.Back ∷ []) (record { none_come = λ s. refl; none_settle = refl })
      (each_round (IsPlanChange u.net) (inverse_rounds u.old u.rounds) k turnable.back_plan) refl (λ s key. true) (λ s. h.holds s)
      (subst (λ n. AllByRecursion (IsSound u (phase_of (Undone k)) n) b.packets) same next.packets) less (length-replicate (length d.peers) true ∙ h.peers) (λ onward. absurd onward) (λ s. sym (turnable.same k s))
      (λ s within alive changed x ok. fresh_link (sides u (Undone k) s) (named_at u (Undone k) s) false (λ key. true) (peer_at d s) x (flows_at s d.next changes) (b.inbox s) (b.outbox s) ok (is_idle b e h silent s within alive (none s within))
      (back_lead u good old turnable sized k less s d.next) (back_all u good old turnable sized k less s d.next))
      (λ s within off. (
        none s within,
        λ alive. link_idle (sides u (Undone k) s) (named_at u (Undone k) s) false (λ key. true) (peer_at d s) (b.inbox s) (b.outbox s) (is_idle b e h silent s within alive (none s within)) (none s within)
            (λ key i. absurd (none_named k s key (sym (turnable.same k s) ∙ off) i)),
      )) in
      if_answered u good old turnable sized b (round_after k u.rounds) (sent_out u.net changes (Undone k) (flagged_state true (with_said (Log logged.Back ∷ []) e))) keeps

  turn_serves : (k : ℕ) (b : Around) (d : DriverState) → (h : Keeps u good old turnable sized (record d { stage = Onward k }) (around u good old turnable sized b d)) → d.said ≡ []
      → Serves u good old turnable sized b (turned_with u.net (round_after k u.rounds) (round_after k (inverse_rounds u.old u.rounds)) k (record d { stage = Onward k }))
  turn_serves k b d h silent =
      let e : DriverState = record d { stage = Onward k } in
      let less : k < length u.rounds = h.within in
      let same = settles_now b d silent in
      let changes = round_after k (inverse_rounds u.old u.rounds) in
      let keeps = sent_keeps b e h silent (Undone k) changes d.in_force [] (record { none_come = λ s. refl; none_settle = refl })
      (each_round (IsPlanChange u.net) (inverse_rounds u.old u.rounds) k turnable.back_plan) refl h.on h.holds
      (subst (λ n. AllByRecursion (IsSound u (phase_of (Undone k)) n) b.packets) same h.packets) less h.flags (λ onward. absurd onward) (λ s. sym (turnable.same k s))
      (λ s within alive changed x ok. by_asked s within alive x ok (peer_at d s).asked refl)
      (λ s within off. let none = unasked_none s within off (peer_at d s).asked refl in
      (none, λ alive. link_idle (sides u (Undone k) s) (named_at u (Undone k) s) false (h.on s) (peer_at d s) (b.inbox s) (b.outbox s) (is_idle b e h silent s within alive none) none (λ key i. absurd (none_named k s key (sym (turnable.same k s) ∙ off) i)))) in
      let spoken : Keeps u good old turnable sized (sent_out u.net changes (Undone k) e) (around u good old turnable sized b (sent_out u.net changes (Undone k) e)) =
      subst (λ l. Keeps u good old turnable sized (sent_out u.net changes (Undone k) (record e { said = l })) (around u good old turnable sized b (sent_out u.net changes (Undone k) (record e { said = l })))) (append-nil d.said) keeps in
      if_answered u good old turnable sized b (round_after k u.rounds) (sent_out u.net changes (Undone k) e) spoken
    where
      by_asked : (s : SwitchId) → s.0 < switch_count u.net → (peer_at d s).is_dead ≡ false → (x : ℕ) → x < 2 ^ 32 → (o : Option ℕ) → (peer_at d s).asked ≡ o
          → LinkAt u good old turnable sized (Undone k) h.on s (asks x (peer_at d s)) (b.inbox s ++ cond (is_open (peer_at d s).channel.session) (map Flow (flows_at s d.next (round_after k (inverse_rounds u.old u.rounds))) ++ BarrierRequest x ∷ []) []) (b.outbox s)
      by_asked s within alive x ok None none =
          fresh_link (sides u (Undone k) s) (named_at u (Undone k) s) false (h.on s) (peer_at d s) x (flows_at s d.next (round_after k (inverse_rounds u.old u.rounds))) (b.inbox s) (b.outbox s) ok
          (is_idle b (record d { stage = Onward k }) h silent s within alive none) (back_lead u good old turnable sized k h.within s d.next) (back_all u good old turnable sized k h.within s d.next)
      by_asked s within alive x ok (Some y) some =
          let link : LinkAt u good old turnable sized (Onward k) h.on s (peer_at d s) (b.inbox s) (b.outbox s) = subst (λ l. LinkAt u good old turnable sized (Onward k) h.on s (peer_at d s) l (b.outbox s)) (inbox_now b d s silent) ((h.links s within).alive alive) in
          turned_link (sides u (Onward k) s) (named_at u (Onward k) s) (h.on s) (peer_at d s) x (flows_at s d.next (round_after k (inverse_rounds u.old u.rounds))) (b.inbox s) (b.outbox s) ok link (ap is_some some)
          (back_lead u good old turnable sized k h.within s d.next) (back_all u good old turnable sized k h.within s d.next)

      unasked_none : (s : SwitchId) → s.0 < switch_count u.net → is_changed (round_after k (inverse_rounds u.old u.rounds)) s ≡ false → (o : Option ℕ) → (peer_at d s).asked ≡ o → (peer_at d s).asked ≡ None
      unasked_none s within off None none = none
      unasked_none s within off (Some y) some =
          absurd (let f : false ≡ true = sym off ∙ turnable.same k s ∙ (h.asks s within y some).changed in cc)

  -- ---- the calls

  pub start_call : (stage : Stage) (b : Around) (d : DriverState) → start_fault_in u.net u.rounds d.peers stage ≡ None → Serves u good old turnable sized b (record d { stage = stage }) → d.said ≡ [] → NoOlder b
      → Serves u good old turnable sized b (started_in u.net u.rounds stage (record d { stage = stage }))
  start_call (Settled k) b d none h silent older =
      let differs : ¬ (k ≡ length u.rounds) = λ e. let g : Some fault.Finished ≡ None = sym (cond-true (eqb k (length u.rounds)) (Some fault.Finished) _ (eq-eqb k (length u.rounds) e)) ∙ none in cc in
      let le : k ≤ length u.rounds = h.keeps.within in
      start_serves k b d (omega (arith, differs)) h.keeps silent older
  start_call (Onward k) b d none h silent older = h
  start_call (Undone k) b d none h silent older = h

  pub back_call : (stage : Stage) (b : Around) (d : DriverState) → Serves u good old turnable sized b (record d { stage = stage }) → d.said ≡ [] → (IsSettledStage u good old turnable sized stage → NoOlder b)
      → Serves u good old turnable sized b (turned_in u.net u.rounds (inverse_rounds u.old u.rounds) stage (record d { stage = stage }))
  back_call (Settled zero) b d h silent older = h
  back_call (Settled (suc k)) b d h silent older = undo_serves k b d (let le : suc k ≤ length u.rounds = h.keeps.within in omega arith) h.keeps silent (older tt)
  back_call (Onward k) b d h silent older = turn_serves k b d h.keeps silent
  back_call (Undone k) b d h silent older = h
