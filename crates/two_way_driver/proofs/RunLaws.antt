-- What a driver says is a run.
use Rattle.std.proofs.Common.{◌≡◌, ◌≢◌, ◌⊎◌, ℕ, zero, suc, ◌+◌, ◌<◌, ◌≤◌, Bool, true, false, cond, not, eqb, ltb, ◌&&◌, map, List, [], ◌∷◌, ◌++◌, length, drop, replicate, set, get_or, get_or-set_same, get_or-set_other, refl, sym, ap, ◌∙◌, subst, inl, inr, length-set, arith}
use Rattle.std.specs.Prelude.{slice_get, Option, Some, None, is_some, is_none}
use Rattle.std.specs.List.{AllByRecursion}
use Rattle.std.specs.Option.{option_map_or}
use Rattle.std.proofs.lemmas.Bool.{cases_Bool, cases_eq, cond-true, cond_both, eqb-true, eq-eqb}
use Rattle.std.proofs.lemmas.List.{length-replicate, length-map}
use Rattle.net_base.specs.declared.ids.SwitchId.{SwitchId}
use Rattle.topology.specs.Networks.{Network, switch_count}
use Rattle.flow_rules.specs.declared.rules.Rule.{Rule}
use Rattle.path_walk.specs.declared.Ended.TheVariants.{UnderWay}
use Rattle.update_model.specs.Changes.{switch_of, round_after}
use Rattle.update_model.specs.Mixtures.{Rollout, AreGoodRounds}
use Rattle.update_model.specs.Ranges.{IsPlanChange}
use Rattle.update_model.specs.States.{settled_count}
use Rattle.update_model.specs.declared.Change.{Change}
use Rattle.update_model.specs.declared.Event.TheVariants as event
use Rattle.update_model.specs.declared.Phase.TheVariants as phase
use Rattle.round_messages.specs.Requests.{is_changed, switch_numbered}
use Rattle.switch_session.specs.declared.Session.{Session}
use Rattle.switch_session.specs.declared.Session.TheVariants.{Waiting, Open}
use Rattle.switch_session.specs.declared.Session.TheVariants as session
use Rattle.switch_session.specs.Channels.{ChannelState, hello, is_open, is_failed, after_request, after_byte}
use Rattle.switch_session.proofs.ByteLaws.{keeps_barrier}
use Rattle.turned_rounds.specs.Batches.{xid_behind, batch_of}
use Rattle.law_two_way_runs.specs.States.{TwoWayEvent, TwoWayState, first_two_way, IsTwoWayEnabled, two_way_after, turned_back}
use Rattle.law_two_way_runs.specs.States as two_way
use Rattle.law_two_way_runs.specs.Runs.{IsTwoWayRun, state_after_two_way}
use Rattle.law_two_way_runs.proofs.Turning.{TablesAre}
use Rattle.two_way_driver.specs.PeerStates.{PeerState}
use Rattle.two_way_driver.specs.Peers.{first_peer, failure_in, heard_of, kept_of, peer_after, asks, asks_again, answers, reopened_peer, dead_peer, settled_peer}
use Rattle.two_way_driver.specs.Drivers.{DriverState, peer_at, with_peer, with_said, sends, is_to_open, is_to, asks_if, asked_from, sent_out, settled_in, all_answered, settled_if_answered, change_notes, undo_notes, is_change_at, is_dead_made, is_dead_unmade, made_state, undone_state, carried_out, answered_state, sent_again, opened_state, running_round, asked_round, heard_state, heard_byte, fed_byte, state_after_bytes, first_driver, flagged_state, started_with, undone_with, turned_with, start_fault_in, back_fault_in, started_in, turned_in, reopened_driver, dead_driver}
use Rattle.two_way_driver.specs.Calls.{AreTurnable, DriverView, with_state, IsStageWithin, start_fault, back_fault}
use Rattle.two_way_driver.specs.Laws.{Call, Start, Back, Reopen, Feed, Dead, IsCall, after_call, after_calls, driver_after, events_in, phase_of, InForceBySwitch, InForceAs, rollout_of, SaysRun, AllAreFree, BeginsAnswered}
use Rattle.two_way_driver.specs.declared.Stage.{Stage}
use Rattle.two_way_driver.specs.declared.Stage.TheVariants.{Settled, Onward, Undone}
use Rattle.two_way_driver.specs.declared.DriverEvent.TheVariants as logged
use Rattle.two_way_driver.specs.declared.DriverOutput.{DriverOutput}
use Rattle.two_way_driver.specs.declared.DriverOutput.TheVariants.{Send, Failed, Log}
use Rattle.two_way_driver.specs.declared.peers.ByteOutcome.{ByteOutcome}
use Rattle.two_way_driver.specs.declared.peers.ByteOutcome.TheVariants.{Nothing, Opened, Answered, Replied}
use Rattle.two_way_driver.specs.declared.faults.CallFault.TheVariants as fault
use Rattle.two_way_driver.proofs.EventLaws.{Reaches, sound_at, logs, says, AreSet, changes_made, changes_undone}
use Rattle.two_way_driver.proofs.ServingLaws.{length-asked}
use Rattle.two_way_driver.proofs.PeerLaws.{all_at, all_alike, changed_at, each_got, each_round, get_replicate, got_replicate, sends_no_event, words_no_event, asked_at, and_off, and_second, not_off, not_on, none_some, outstanding_waits, asks_behind, fits_asked, settled_at, fits_settled, never, fits_reopened, fits_dead, fits_again, alone_behind, not_asked, PeerWaits, PeerFits}

-- ---- all switches

module _ (net : Network) (rounds inverses : List (List Change)) (old : List (List Rule)) (good : AreGoodRounds (rollout_of net old rounds)) (turnable : AreTurnable net rounds inverses) where
  abbrev u : Rollout
  u = rollout_of net old rounds

  abbrev changed_in : Stage → SwitchId → Bool
  changed_in stage s = is_changed (running_round rounds stage) s

  abbrev AllFit : Stage → List PeerState → List Bool → Type 0
  AllFit stage peers flags = (s : SwitchId) → s.0 < switch_count net → PeerFits stage (changed_in stage s) (get_or peers s.0 first_peer) (get_or flags s.0 false)

  -- the events that were said lead to a state that the driver keeps
  pub record Follows (d : DriverState) : Type 0 where
    pub state : TwoWayState
    pub reaches : Reaches net rounds old good d.said state
    pub phase : state.phase ≡ phase_of d.stage
    pub packets : state.packets ≡ []
    pub in_force : InForceAs rounds d.stage d.in_force state.in_force
    pub fits : AllFit d.stage d.peers d.in_force
    pub peers : length d.peers ≡ switch_count net
    pub flags : length d.in_force ≡ switch_count net
    pub within : IsStageWithin rounds d.stage

  fits_set : (stage : Stage) (peers : List PeerState) (flags : List Bool) (s : SwitchId) (p : PeerState) → s.0 < length peers → PeerFits stage (changed_in stage s) p (get_or flags s.0 false)
      → AllFit stage peers flags → AllFit stage (set peers s.0 p) flags
  fits_set stage peers flags s p less fit all t within =
      elim (cases_eq t.0 s.0) [
        | inl same ↦ (
            let here : get_or (set peers s.0 p) t.0 first_peer ≡ p = ap (λ (n : ℕ). get_or (set peers s.0 p) n first_peer) same ∙ get_or-set_same peers s.0 p first_peer less in
            let back : get_or (set peers s.0 p) s.0 first_peer ≡ p = get_or-set_same peers s.0 p first_peer less in
            let At : ℕ → Type 0 = λ n. PeerFits stage (changed_in stage (record { 0 = n })) (get_or (set peers s.0 p) n first_peer) (get_or flags n false) in
            subst At (sym same) (subst (λ q. PeerFits stage (changed_in stage s) q (get_or flags s.0 false)) (sym back) fit))
        | inr differs ↦ subst (λ q. PeerFits stage (changed_in stage t) q (get_or flags t.0 false)) (sym (get_or-set_other peers s.0 t.0 p first_peer differs)) (all t within)
      ]

  flags_set : (stage : Stage) (peers : List PeerState) (flags : List Bool) (s : SwitchId) (f : Bool) → s.0 < length flags → PeerFits stage (changed_in stage s) (get_or peers s.0 first_peer) f
      → ((t : SwitchId) → t.0 ≢ s.0 → t.0 < switch_count net → PeerFits stage (changed_in stage t) (get_or peers t.0 first_peer) (get_or flags t.0 false)) → AllFit stage peers (set flags s.0 f)
  flags_set stage peers flags s f less fit all t within =
      elim (cases_eq t.0 s.0) [
        | inl same ↦ (
            let back : get_or (set flags s.0 f) s.0 false ≡ f = get_or-set_same flags s.0 f false less in
            let At : ℕ → Type 0 = λ n. PeerFits stage (changed_in stage (record { 0 = n })) (get_or peers n first_peer) (get_or (set flags s.0 f) n false) in
            subst At (sym same) (subst (λ q. PeerFits stage (changed_in stage s) (get_or peers s.0 first_peer) q) (sym back) fit))
        | inr differs ↦ subst (λ q. PeerFits stage (changed_in stage t) (get_or peers t.0 first_peer) q) (sym (get_or-set_other flags s.0 t.0 f false differs)) (all t differs within)
      ]

  -- the switch of another peer and another flag
  both_set : (stage : Stage) (peers : List PeerState) (flags : List Bool) (s : SwitchId) (p : PeerState) (f : Bool) → s.0 < length peers → s.0 < length flags → PeerFits stage (changed_in stage s) p f
      → AllFit stage peers flags → AllFit stage (set peers s.0 p) (set flags s.0 f)
  both_set stage peers flags s p f less short fit all =
      flags_set stage (set peers s.0 p) flags s f short (subst (λ q. PeerFits stage (changed_in stage s) q f) (sym (get_or-set_same peers s.0 p first_peer less)) fit)
      (λ t differs within. subst (λ q. PeerFits stage (changed_in stage t) q (get_or flags t.0 false)) (sym (get_or-set_other peers s.0 t.0 p first_peer differs)) (all t within))

  -- ---- words and peers

  follows_says : (d : DriverState) (words : List DriverOutput) → events_in words ≡ [] → Follows d → Follows (with_said words d)
  follows_says d words none f = record {
    state = f.state;
    reaches = says net rounds old good d.said words f.state none f.reaches;
    phase = f.phase;
    packets = f.packets;
    in_force = f.in_force;
    fits = f.fits;
    peers = f.peers;
    flags = f.flags;
    within = f.within;
  }

  follows_peer : (d : DriverState) (s : SwitchId) (p : PeerState) → s.0 < switch_count net → PeerFits d.stage (changed_in d.stage s) p (get_or d.in_force s.0 false) → Follows d → Follows (with_peer s p d)
  follows_peer d s p less fit f = record {
    state = f.state;
    reaches = f.reaches;
    phase = f.phase;
    packets = f.packets;
    in_force = f.in_force;
    fits = (let count = f.peers in fits_set d.stage d.peers d.in_force s p (omega arith) fit f.fits);
    peers = length-set d.peers s.0 p ∙ f.peers;
    flags = f.flags;
    within = f.within;
  }

  -- ---- a round is settled

  in_net : (k i : ℕ) (c : Change) → slice_get (round_after k rounds) i ≡ Some c → (switch_of c).0 < switch_count net
  in_net k i c at = (each_got (IsPlanChange net) (round_after k rounds) i c (each_round (IsPlanChange net) rounds k turnable.plan) at).switch

  -- a change of the round at a switch that isn't asked, in a round that is carried out
  made_at : (k : ℕ) (d : DriverState) → all_answered d.peers ≡ true → Follows (record d { stage = Onward k }) → (i : ℕ) (c : Change) → slice_get (round_after k rounds) i ≡ Some c
      → is_dead_unmade d.peers d.in_force c ≡ false → get_or d.in_force (switch_of c).0 false ≡ true
  made_at k d all f i c at left =
      elim (and_off (get_or d.peers (switch_of c).0 first_peer).is_dead (not (get_or d.in_force (switch_of c).0 false)) left) [
        | inl alive ↦ (f.fits (switch_of c) (in_net k i c at)).waits.2 (changed_at (round_after k rounds) i c at) (all_at d.peers (switch_of c).0 all alive)
        | inr off ↦ not_off (get_or d.in_force (switch_of c).0 false) off
      ]

  -- and in one that is being taken back
  unmade_at : (k : ℕ) (d : DriverState) → all_answered d.peers ≡ true → Follows (record d { stage = Undone k }) → (i : ℕ) (c : Change) → slice_get (round_after k rounds) i ≡ Some c
      → is_dead_made d.peers d.in_force c ≡ false → get_or d.in_force (switch_of c).0 false ≡ false
  unmade_at k d all f i c at left =
      elim (and_off (get_or d.peers (switch_of c).0 first_peer).is_dead (get_or d.in_force (switch_of c).0 false) left) [
        | inl alive ↦ (f.fits (switch_of c) (in_net k i c at)).waits.1 (changed_at (round_after k rounds) i c at) (all_at d.peers (switch_of c).0 all alive)
        | inr off ↦ off
      ]

  all_fit_settled : (k : ℕ) (d : DriverState) → all_answered d.peers ≡ true → AllFit d.stage d.peers d.in_force → AllFit (Settled k) (map settled_peer d.peers) d.in_force
  all_fit_settled k d all fits s within =
      subst (λ q. PeerFits (Settled k) (changed_in (Settled k) s) q (get_or d.in_force s.0 false)) (sym (settled_at d.peers s.0))
      (fits_settled d.stage k (changed_in d.stage s) (get_or d.in_force s.0 false) (get_or d.peers s.0 first_peer) (all_at d.peers s.0 all) (fits s within) (changed_in (Settled k) s))

  settled_still : (k : ℕ) (d : DriverState) → Follows (record d { stage = Settled k }) → Follows (settled_in [] (Settled k) (record d { stage = Settled k }))
  unfolding settled_in
  settled_still k d f = f

  settled_onward : (k : ℕ) (d : DriverState) → all_answered d.peers ≡ true → Follows (record d { stage = Onward k }) → Follows (settled_in (round_after k rounds) (Onward k) (record d { stage = Onward k }))
  unfolding settled_in
  settled_onward k d all f =
      let less : k < length rounds = f.within in
      let round = round_after k rounds in
      let left = is_dead_unmade d.peers d.in_force in
      let notes = change_notes left 0 round in
      let lead = changes_made net rounds old good left k less round 0 d.said f.state refl f.reaches f.phase
      (λ n c le at hit. f.in_force n c at ∙ ap Some (not_on (get_or d.in_force (switch_of c).0 false) (and_second (get_or d.peers (switch_of c).0 first_peer).is_dead (not (get_or d.in_force (switch_of c).0 false)) hit))) in
      let running : lead.state.phase ≡ phase.Running (suc k) = lead.set.phase ∙ f.phase in
      let sound = sound_at net rounds old good (d.said ++ notes) lead.state lead.reaches in
      let are : TablesAre u (phase.Running (suc k)) lead.state.tables lead.state.in_force = subst (λ p. TablesAre u p lead.state.tables lead.state.in_force) running sound.tables in
      let on : AllByRecursion (λ b. b ≡ true) lead.state.in_force = all_alike true lead.state.in_force round are.1
      (λ i c at. elim (cases_Bool (left c)) [
        | inl here ↦ lead.set.here i c (omega arith) at here
        | inr away ↦ lead.set.others i c (inr away) at ∙ f.in_force i c at ∙ ap Some (made_at k d all f i c at away)
      ]) in
      let may : IsTwoWayEnabled u lead.state (two_way.Onward event.Settle) = record { k = suc k; running = running; all_in_force = on } in
      let next : TwoWayState = two_way_after u lead.state (two_way.Onward event.Settle) in
      record {
        state = next;
        reaches = logs net rounds old good (d.said ++ notes) lead.state logged.Settle lead.reaches may;
        phase = ap (λ p. (two_way_after u (record lead.state { phase = p }) (two_way.Onward event.Settle)).phase) running;
        packets = lead.set.packets ∙ f.packets;
        in_force = tt;
        fits = all_fit_settled (suc k) (record d { stage = Onward k }) all f.fits;
        peers = length-map d.peers settled_peer ∙ f.peers;
        flags = f.flags;
        within = omega arith;
      }

  settled_undone : (k : ℕ) (d : DriverState) → all_answered d.peers ≡ true → Follows (record d { stage = Undone k }) → Follows (settled_in (round_after k rounds) (Undone k) (record d { stage = Undone k }))
  unfolding settled_in
  settled_undone k d all f =
      let less : k < length rounds = f.within in
      let round = round_after k rounds in
      let left = is_dead_made d.peers d.in_force in
      let notes = undo_notes left 0 round in
      let lead = changes_undone net rounds old good left k less round 0 d.said f.state refl f.reaches f.phase
      (λ n c le at hit. f.in_force n c at ∙ ap Some (and_second (get_or d.peers (switch_of c).0 first_peer).is_dead (get_or d.in_force (switch_of c).0 false) hit)) in
      let running : lead.state.phase ≡ phase.Running (suc k) = lead.set.phase ∙ f.phase in
      let sound = sound_at net rounds old good (d.said ++ notes) lead.state lead.reaches in
      let are : TablesAre u (phase.Running (suc k)) lead.state.tables lead.state.in_force = subst (λ p. TablesAre u p lead.state.tables lead.state.in_force) running sound.tables in
      let off : AllByRecursion (λ b. b ≡ false) lead.state.in_force = all_alike false lead.state.in_force round are.1
      (λ i c at. elim (cases_Bool (left c)) [
        | inl here ↦ lead.set.here i c (omega arith) at here
        | inr away ↦ lead.set.others i c (inr away) at ∙ f.in_force i c at ∙ ap Some (unmade_at k d all f i c at away)
      ]) in
      let may : IsTwoWayEnabled u lead.state two_way.SettleBack = record { k = k; running = running; none_in_force = off } in
      let next : TwoWayState = two_way_after u lead.state two_way.SettleBack in
      record {
        state = next;
        reaches = logs net rounds old good (d.said ++ notes) lead.state logged.SettleBack lead.reaches may;
        phase = ap (λ p. (two_way_after u (record lead.state { phase = p }) two_way.SettleBack).phase) running;
        packets = lead.set.packets ∙ f.packets;
        in_force = tt;
        fits = all_fit_settled k (record d { stage = Undone k }) all f.fits;
        peers = length-map d.peers settled_peer ∙ f.peers;
        flags = f.flags;
        within = omega arith;
      }

  follows_settled : (round : List Change) (stage : Stage) (d : DriverState) → d.stage ≡ stage → round ≡ running_round rounds stage → all_answered d.peers ≡ true → Follows (record d { stage = stage })
      → Follows (settled_in round stage (record d { stage = stage }))
  follows_settled round (Settled k) d is these all f = subst (λ l. Follows (settled_in l (Settled k) (record d { stage = Settled k }))) (sym these) (settled_still k d f)
  follows_settled round (Onward k) d is these all f = subst (λ l. Follows (settled_in l (Onward k) (record d { stage = Onward k }))) (sym these) (settled_onward k d all f)
  follows_settled round (Undone k) d is these all f = subst (λ l. Follows (settled_in l (Undone k) (record d { stage = Undone k }))) (sym these) (settled_undone k d all f)

  follows_if_answered : (round : List Change) (d : DriverState) → round ≡ running_round rounds d.stage → Follows d → Follows (settled_if_answered round d)
  unfolding settled_if_answered
  follows_if_answered round d these f =
      cond_both (all_answered d.peers) (settled_in round d.stage d) d Follows (λ all. follows_settled round d.stage d refl these all f) (λ e. f)

  -- ---- the changes of a switch get a flag

  module _ (stage : Stage) (k : ℕ) (less : k < length rounds) (d : DriverState) (s : SwitchId) (here : s.0 < switch_count net) (f : Follows d) where
    abbrev round : List Change
    round = round_after k rounds

    -- the flags before
    still_from : (value : Bool) → InForceBySwitch round d.in_force f.state.in_force → get_or d.in_force s.0 false ≡ value
        → (n : ℕ) (c : Change) → 0 ≤ n → slice_get round n ≡ Some c → eqb (switch_of c).0 s.0 ≡ true → slice_get f.state.in_force n ≡ Some value
    still_from value are flag n c le at hit = are n c at ∙ ap (λ (j : ℕ). Some (get_or d.in_force j false)) (eqb-true (switch_of c).0 s.0 hit) ∙ ap Some flag

    -- and behind
    by_switch : (value : Bool) (b : TwoWayState) → InForceBySwitch round d.in_force f.state.in_force → AreSet net rounds old good (is_change_at s) k less value 0 f.state b → InForceBySwitch round (set d.in_force s.0 value) b.in_force
    by_switch value b are set_now n c at =
        let count = f.flags in
        elim (cases_Bool (eqb (switch_of c).0 s.0)) [
          | inl hit ↦ set_now.here n c (omega arith) at hit
              ∙ ap Some (sym (ap (λ (j : ℕ). get_or (set d.in_force s.0 value) j false) (eqb-true (switch_of c).0 s.0 hit) ∙ get_or-set_same d.in_force s.0 value false (omega arith)))
          | inr miss ↦ set_now.others n c (inr miss) at ∙ are n c at
              ∙ ap Some (sym (get_or-set_other d.in_force s.0 (switch_of c).0 value false (λ e. let g : true ≡ false = sym (eq-eqb (switch_of c).0 s.0 e) ∙ miss in cc)))
        ]

  -- the last barrier request of a switch was answered, so nothing of it is outstanding
  abbrev without_request : PeerState → PeerState
  without_request p = record p { asked = None }

  -- the changes of a switch of a round that is carried out are made
  made_onward : (k : ℕ) (d : DriverState) (s : SwitchId) (p : PeerState) → d.stage ≡ Onward k → s.0 < switch_count net → get_or d.in_force s.0 false ≡ false
      → PeerFits (Onward k) (changed_in (Onward k) s) p true → Follows (record d { stage = Onward k }) → Follows (made_state (round_after k rounds) s (with_peer s p (record d { stage = Onward k })))
  unfolding made_state
  made_onward k d s p is here off fit f =
      let less : k < length rounds = f.within in
      let e : DriverState = record d { stage = Onward k } in
      let lead = changes_made net rounds old good (is_change_at s) k less (round_after k rounds) 0 d.said f.state refl f.reaches f.phase (still_from (Onward k) k less e s here f false f.in_force off) in
      let peers = f.peers in
      let flags = f.flags in
      record {
        state = lead.state;
        reaches = lead.reaches;
        phase = lead.set.phase ∙ f.phase;
        packets = lead.set.packets ∙ f.packets;
        in_force = by_switch (Onward k) k less e s here f true lead.state f.in_force lead.set;
        fits = both_set (Onward k) d.peers d.in_force s p true (omega arith) (omega arith) fit f.fits;
        peers = length-set d.peers s.0 p ∙ f.peers;
        flags = length-set d.in_force s.0 true ∙ f.flags;
        within = f.within;
      }

  -- and of one that is being taken back, where the request of the round itself was answered
  made_undone : (k : ℕ) (d : DriverState) (s : SwitchId) (p : PeerState) → d.stage ≡ Undone k → s.0 < switch_count net → get_or d.in_force s.0 false ≡ false
      → PeerFits (Undone k) (changed_in (Undone k) s) p true → Follows (record d { stage = Undone k }) → Follows (made_state (round_after k rounds) s (with_peer s p (record d { stage = Undone k })))
  unfolding made_state
  made_undone k d s p is here off fit f =
      let less : k < length rounds = f.within in
      let e : DriverState = record d { stage = Undone k } in
      let lead = changes_made net rounds old good (is_change_at s) k less (round_after k rounds) 0 d.said f.state refl f.reaches f.phase (still_from (Undone k) k less e s here f false f.in_force off) in
      let peers = f.peers in
      let flags = f.flags in
      record {
        state = lead.state;
        reaches = lead.reaches;
        phase = lead.set.phase ∙ f.phase;
        packets = lead.set.packets ∙ f.packets;
        in_force = by_switch (Undone k) k less e s here f true lead.state f.in_force lead.set;
        fits = both_set (Undone k) d.peers d.in_force s p true (omega arith) (omega arith) fit f.fits;
        peers = length-set d.peers s.0 p ∙ f.peers;
        flags = length-set d.in_force s.0 true ∙ f.flags;
        within = f.within;
      }

  -- the changes of a switch are taken back
  taken_back : (k : ℕ) (d : DriverState) (s : SwitchId) (p : PeerState) → s.0 < switch_count net
      → PeerFits (Undone k) (changed_in (Undone k) s) p false → Follows (record d { stage = Undone k }) → Follows (undone_state (round_after k rounds) s (with_peer s p (record d { stage = Undone k })))
  unfolding undone_state
  taken_back k d s p here fit f =
      let less : k < length rounds = f.within in
      let e : DriverState = record d { stage = Undone k } in
      let g = with_peer s p e in
      let peers = f.peers in
      let flags = f.flags in
      cond_both (get_or d.in_force s.0 false) (record g { in_force = set d.in_force s.0 false; said = d.said ++ undo_notes (is_change_at s) 0 (round_after k rounds) }) g Follows
      (λ on.
      let lead = changes_undone net rounds old good (is_change_at s) k less (round_after k rounds) 0 d.said f.state refl f.reaches f.phase (still_from (Undone k) k less e s here f true f.in_force on) in
      record {
        state = lead.state;
        reaches = lead.reaches;
        phase = lead.set.phase ∙ f.phase;
        packets = lead.set.packets ∙ f.packets;
        in_force = by_switch (Undone k) k less e s here f false lead.state f.in_force lead.set;
        fits = both_set (Undone k) d.peers d.in_force s p false (omega arith) (omega arith) fit f.fits;
        peers = length-set d.peers s.0 p ∙ f.peers;
        flags = length-set d.in_force s.0 false ∙ f.flags;
        within = f.within;
      })
      (λ off. follows_peer e s p here (subst (PeerFits (Undone k) (changed_in (Undone k) s) p) (sym off) fit) f)

  -- ---- an answer

  answers_last : (p : PeerState) → p.behind ≡ None → answers p ≡ without_request p
  unfolding answers
  answers_last p e = ap (λ (o : Option ℕ). let r : PeerState = option_map_or (λ x. record p { channel = after_request [] x p.channel; behind = None }) o (record p { asked = None }) in r) e

  answers_more : (p : PeerState) (x : ℕ) → p.behind ≡ Some x → answers p ≡ record p { channel = after_request [] x p.channel; behind = None }
  unfolding answers
  answers_more p x e = ap (λ (o : Option ℕ). let r : PeerState = option_map_or (λ y. record p { channel = after_request [] y p.channel; behind = None }) o (record p { asked = None }) in r) e

  carried_stage : (changes : List Change) (s : SwitchId) (stage : Stage) (d : DriverState) → d.stage ≡ stage → (carried_out changes s stage d).stage ≡ stage
  unfolding made_state undone_state
  carried_stage changes s (Settled k) d is = is
  carried_stage changes s (Onward k) d is = is
  carried_stage changes s (Undone k) d is =
      cond_both (get_or d.in_force s.0 false) (record d { in_force = set d.in_force s.0 false; said = d.said ++ undo_notes (is_change_at s) 0 changes }) d (λ (e : DriverState). e.stage ≡ Undone k) (λ _. is) (λ _. is)

  module _ (d : DriverState) (s : SwitchId) (here : s.0 < switch_count net) where
    abbrev peer : PeerState
    peer = peer_at d s

    -- the last request was answered
    last_answer : (stage : Stage) → d.stage ≡ stage → is_some (peer_at d s).asked ≡ true → (peer_at d s).channel.outstanding ≡ None → (peer_at d s).behind ≡ None → Follows (record d { stage = stage })
        → Follows (carried_out (running_round rounds stage) s stage (with_peer s (without_request (peer_at d s)) (record d { stage = stage })))
    last_answer (Settled k) is some none alone f = absurd (none_some (peer_at d s).asked some (f.fits s here).waits)
    last_answer (Onward k) is some none alone f =
        let w = (f.fits s here).waits in
        made_onward k d s (without_request (peer_at d s)) is here (w.1 some)
        (record { free = λ e. (none, alone); waits = (alone, (λ t. absurd (never t)), (λ c e. refl)); gone = (f.fits s here).gone }) f
    last_answer (Undone k) is some none alone f =
        taken_back k d s (without_request (peer_at d s)) here
        (record { free = λ e. (none, alone); waits = ((λ t. refl), (λ c e. refl)); gone = (f.fits s here).gone }) f

    -- behind it stands the request of the turning
    more_answer : (stage : Stage) (x : ℕ) → d.stage ≡ stage → is_some (peer_at d s).asked ≡ true → (peer_at d s).behind ≡ Some x → Follows (record d { stage = stage })
        → Follows (made_state (running_round rounds stage) s (with_peer s (record (peer_at d s) { channel = after_request [] x (peer_at d s).channel; behind = None }) (record d { stage = stage })))
    more_answer (Settled k) x is some more f = absurd (none_some (peer_at d s).asked some (f.fits s here).waits)
    more_answer (Onward k) x is some more f = absurd (let g : Some x ≡ None = sym more ∙ (f.fits s here).waits.0 in cc)
    more_answer (Undone k) x is some more f =
        let w = (f.fits s here).waits in
        made_undone k d s (record (peer_at d s) { channel = after_request [] x (peer_at d s).channel; behind = None }) is here (w.0 (ap is_some more))
        (record {
          free = λ e. absurd (none_some (peer_at d s).asked some e);
          waits = ((λ t. absurd (never t)), (λ c e. absurd (none_some (peer_at d s).asked some e)));
          gone = λ dead. (let g : Some x ≡ None = sym more ∙ ((f.fits s here).gone dead).1 in absurd (cc));
        }) f

    follows_answered : is_some (peer_at d s).asked ≡ true → (peer_at d s).channel.outstanding ≡ None → Follows d → Follows (answered_state (running_round rounds d.stage) s d)
    unfolding answered_state
    follows_answered some none f =
        let p = peer_at d s in
        let round = running_round rounds d.stage in
        let e = with_peer s (answers p) d in
        let End : Bool → PeerState → DriverState = λ b q. cond b (made_state round s (with_peer s q d)) (settled_if_answered round (carried_out round s d.stage (with_peer s q d))) in
        go p.behind refl some none f
      where
        go : (o : Option ℕ) → (peer_at d s).behind ≡ o → is_some (peer_at d s).asked ≡ true → (peer_at d s).channel.outstanding ≡ None → Follows d
            → Follows (cond (is_some (peer_at d s).behind) (made_state (running_round rounds d.stage) s (with_peer s (answers (peer_at d s)) d))
            (settled_if_answered (running_round rounds d.stage) (carried_out (running_round rounds d.stage) s d.stage (with_peer s (answers (peer_at d s)) d))))
        go None alone some none f =
            let q = without_request (peer_at d s) in
            let E : Bool → PeerState → DriverState = λ b r. cond b (made_state (running_round rounds d.stage) s (with_peer s r d)) (settled_if_answered (running_round rounds d.stage) (carried_out (running_round rounds d.stage) s d.stage (with_peer s r d))) in
            let same : E (is_some (peer_at d s).behind) (answers (peer_at d s)) ≡ E false q = ap (λ b. E b (answers (peer_at d s))) (ap is_some alone) ∙ ap (E false) (answers_last (peer_at d s) alone) in
            subst Follows (sym same) (follows_if_answered (running_round rounds d.stage) (carried_out (running_round rounds d.stage) s d.stage (with_peer s q d))
            (ap (running_round rounds) (sym (carried_stage (running_round rounds d.stage) s d.stage (with_peer s q d) refl))) (last_answer d.stage refl some none alone f))
        go (Some x) more some none f =
            let q : PeerState = record (peer_at d s) { channel = after_request [] x (peer_at d s).channel; behind = None } in
            let E : Bool → PeerState → DriverState = λ b r. cond b (made_state (running_round rounds d.stage) s (with_peer s r d)) (settled_if_answered (running_round rounds d.stage) (carried_out (running_round rounds d.stage) s d.stage (with_peer s r d))) in
            let same : E (is_some (peer_at d s).behind) (answers (peer_at d s)) ≡ E true q = ap (λ b. E b (answers (peer_at d s))) (ap is_some more) ∙ ap (E true) (answers_more (peer_at d s) x more) in
            subst Follows (sym same) (more_answer d.stage x refl some more f)

  -- ---- a session opens

  follows_opened : (changes : List Change) (s : SwitchId) (d : DriverState) → s.0 < switch_count net → (peer_at d s).is_dead ≡ false → Follows d → Follows (opened_state net changes s d)
  unfolding opened_state
  follows_opened changes s d here alive f = go (peer_at d s).asked refl
    where
      go : (o : Option ℕ) → (peer_at d s).asked ≡ o → Follows (option_map_or (λ x. sent_again net changes s x d) o d)
      go None e = f
      go (Some x) e =
          follows_says (with_peer s (asks_again x (peer_at d s)) d) (sends (is_to s) (batch_of net d.first changes)) (sends_no_event (is_to s) (batch_of net d.first changes))
          (follows_peer d s (asks_again x (peer_at d s)) here (fits_again d.stage (changed_in d.stage s) (get_or d.in_force s.0 false) x (peer_at d s) e alive (f.fits s here)) f)

  -- ---- a byte

  kept_outstanding : (before after : ChannelState) → (kept_of before after).outstanding ≡ after.outstanding
  kept_outstanding before after =
      cond_both (ltb (length before.sent) (length after.sent)) _ after (λ (c : ChannelState). c.outstanding ≡ after.outstanding) (λ e. refl) (λ e. refl)

  module _ (d : DriverState) (s : SwitchId) (here : s.0 < switch_count net) (b : ℕ) (f : Follows d) (alive : (peer_at d s).is_dead ≡ false) where
    abbrev p : PeerState
    p = peer_at d s

    abbrev a : ChannelState
    a = after_byte b (peer_at d s).channel

    q_outstanding : (peer_after b (peer_at d s)).channel.outstanding ≡ (after_byte b (peer_at d s).channel).outstanding
    unfolding peer_after
    q_outstanding = kept_outstanding (peer_at d s).channel (after_byte b (peer_at d s).channel)

    fits_q : (stage : Stage) (changed flag : Bool) → PeerFits stage changed (peer_at d s) flag → PeerFits stage changed (peer_after b (peer_at d s)) flag
    unfolding peer_after
    fits_q stage changed flag fit = record {
      free = λ e.
          let (none, alone) = fit.free e in
          (kept_outstanding (peer_at d s).channel (after_byte b (peer_at d s).channel) ∙ elim (keeps_barrier (b ∷ []) (peer_at d s).channel) [ inl same ↦ same ∙ none | inr gone ↦ gone ], alone);
      waits = waits_q stage changed flag fit.waits;
      gone = λ t. absurd (never (sym alive ∙ t));
    }
      where
        waits_q : (stage : Stage) (changed flag : Bool) → PeerWaits stage changed (peer_at d s) flag → PeerWaits stage changed (record (peer_at d s) { channel = kept_of (peer_at d s).channel (after_byte b (peer_at d s).channel) }) flag
        waits_q (Settled k) changed flag w = w
        waits_q (Onward k) changed flag w = w
        waits_q (Undone k) changed flag w = w

    abbrev e : DriverState
    e = with_peer s (peer_after b (peer_at d s)) d

    follows_e : Follows (with_peer s (peer_after b (peer_at d s)) d)
    follows_e = follows_peer d s (peer_after b (peer_at d s)) here (fits_q d.stage (changed_in d.stage s) (get_or d.in_force s.0 false) (f.fits s here)) f

    seen : peer_at (with_peer s (peer_after b (peer_at d s)) d) s ≡ peer_after b (peer_at d s)
    seen = let count = f.peers in get_or-set_same d.peers s.0 (peer_after b (peer_at d s)) first_peer (omega arith)

    q_asked : (peer_after b (peer_at d s)).asked ≡ (peer_at d s).asked
    unfolding peer_after
    q_asked = refl

    -- the outstanding request was answered
    hit : (is_some (peer_at d s).channel.outstanding && is_none (after_byte b (peer_at d s).channel).outstanding) ≡ true → Follows (heard_state net rounds inverses s Answered (with_peer s (peer_after b (peer_at d s)) d))
    hit t =
        let (some, none) = both_of (is_some (peer_at d s).channel.outstanding) (after_byte b (peer_at d s).channel).outstanding t in
        let waits = outstanding_waits (peer_at d s) (f.fits s here).free some in
        follows_answered (with_peer s (peer_after b (peer_at d s)) d) s here
        (ap (λ (r : PeerState). is_some r.asked) seen ∙ ap is_some q_asked ∙ waits)
        (ap (λ (r : PeerState). r.channel.outstanding) seen ∙ q_outstanding ∙ none) follows_e
      where
        both_of : (x : Bool) (o : Option ℕ) → (x && is_none o) ≡ true → (x ≡ true) × (o ≡ None)
        both_of true None e = (refl, refl)
        both_of true (Some n) e = absurd (let g : false ≡ true = e in cc)
        both_of false o e = absurd (let g : false ≡ true = e in cc)

    abbrev Hears : ByteOutcome → Type 0
    Hears came = Follows (heard_state net rounds inverses s came (with_peer s (peer_after b (peer_at d s)) d))

    broke : (session : Session) → Hears (failure_in session)
    broke Waiting = follows_e
    broke Open = follows_e
    broke (session.Failed c) = follows_says (with_peer s (peer_after b (peer_at d s)) d) (Failed s c ∷ []) refl follows_e

    q_alive : (peer_at (with_peer s (peer_after b (peer_at d s)) d) s).is_dead ≡ false
    unfolding peer_after
    q_alive = ap (λ (r : PeerState). r.is_dead) seen ∙ alive

    pub follows_heard : Follows (heard_byte net rounds inverses s b d)
    unfolding heard_of
    follows_heard =
        let ch = (peer_at d s).channel in
        let after = after_byte b ch in
        let e = with_peer s (peer_after b (peer_at d s)) d in
        let failure = failure_in after.session in
        let quiet = cond (is_failed ch.session) Nothing failure in
        let reply = cond (ltb (length ch.sent) (length after.sent)) (Replied (drop (length ch.sent) after.sent)) quiet in
        let opening = cond (is_open after.session && not (is_open ch.session)) Opened reply in
        cond_both (is_some ch.outstanding && is_none after.outstanding) Answered opening Hears hit
        (λ _. cond_both (is_open after.session && not (is_open ch.session)) Opened reply Hears (λ _. follows_opened (asked_round rounds inverses d.stage) s e here q_alive follows_e)
        (λ _. cond_both (ltb (length ch.sent) (length after.sent)) (Replied (drop (length ch.sent) after.sent)) quiet Hears (λ _. follows_says e (Send s (drop (length ch.sent) after.sent) ∷ []) refl follows_e)
        (λ _. cond_both (is_failed ch.session) Nothing failure Hears (λ _. follows_e) (λ _. broke after.session))))

  follows_byte : (s : SwitchId) (b : ℕ) (d : DriverState) → s.0 < switch_count net → Follows d → Follows (fed_byte net rounds inverses s b d)
  unfolding fed_byte
  follows_byte s b d here f = cond_both (peer_at d s).is_dead d (heard_byte net rounds inverses s b d) Follows (λ _. f) (λ alive. follows_heard d s here b f alive)

  follows_fed : (s : SwitchId) (bytes : List ℕ) (d : DriverState) → s.0 < switch_count net → Follows d → Follows (state_after_bytes net rounds inverses s bytes d)
  follows_fed s [] d here f = f
  follows_fed s (b ∷ bytes) d here f = follows_fed s bytes (fed_byte net rounds inverses s b d) here (follows_byte s b d here f)

  -- ---- a session is opened again

  follows_reopened : (s : SwitchId) (d : DriverState) → s.0 < switch_count net → Follows d → Follows (reopened_driver s d)
  follows_reopened s d here f =
      follows_says (with_peer s (reopened_peer (peer_at d s)) d) (Send s hello ∷ []) refl
      (follows_peer d s (reopened_peer (peer_at d s)) here (fits_reopened d.stage (changed_in d.stage s) (get_or d.in_force s.0 false) (peer_at d s) (f.fits s here)) f)

  -- ---- a switch died

  follows_dead : (s : SwitchId) (d : DriverState) → s.0 < switch_count net → Follows d → Follows (dead_driver rounds s d)
  follows_dead s d here f =
      let e = with_peer s (dead_peer (peer_at d s)) d in
      cond_both (peer_at d s).is_dead d (settled_if_answered (running_round rounds d.stage) e) Follows (λ _. f)
      (λ _. follows_if_answered (running_round rounds d.stage) e refl
      (follows_peer d s (dead_peer (peer_at d s)) here (fits_dead d.stage (changed_in d.stage s) (get_or d.in_force s.0 false) (peer_at d s) (f.fits s here)) f))

  -- ---- a round begins to run in a way

  asked_fits : (stage : Stage) (changes : List Change) (x : ℕ) (peers : List PeerState) (flags : List Bool) → length peers ≡ switch_count net → ((s : SwitchId) → is_changed changes s ≡ changed_in stage s)
      → ((s : SwitchId) → s.0 < switch_count net → (y : ℕ) → changed_in stage s ≡ true → PeerFits stage true (asks y (get_or peers s.0 first_peer)) (get_or flags s.0 false))
      → ((s : SwitchId) → s.0 < switch_count net → changed_in stage s ≡ false → PeerFits stage false (get_or peers s.0 first_peer) (get_or flags s.0 false))
      → AllFit stage (asked_from x changes 0 peers) flags
  asked_fits stage changes x peers flags count same with_change without s within =
      let less : s.0 < length peers = omega arith in
      let (y, at) = asked_at changes x 0 peers s.0 less in
      let p = get_or peers s.0 first_peer in
      let place : 0 + s.0 ≡ s.0 = omega arith in
      let is : get_or (asked_from x changes 0 peers) s.0 first_peer ≡ asks_if (changed_in stage s) y p =
      at ∙ ap (λ (n : ℕ). asks_if (is_changed changes (switch_numbered n)) y p) place ∙ ap (λ b. asks_if b y p) (same s) in
      let Fit : Bool → PeerState → Type 0 = λ b q. PeerFits stage b q (get_or flags s.0 false) in
      elim (cases_Bool (changed_in stage s)) [
        | inl on ↦ subst (Fit (changed_in stage s)) (sym (is ∙ ap (λ b. asks_if b y p) on)) (subst (λ b. Fit b (asks y p)) (sym on) (with_change s within y on))
        | inr off ↦ subst (Fit (changed_in stage s)) (sym (is ∙ ap (λ b. asks_if b y p) off)) (subst (λ b. Fit b p) (sym off) (without s within off))
      ]

  follows_start : (k : ℕ) (d : DriverState) → k < length rounds → Follows (record d { stage = Settled k }) → Follows (started_with net (round_after k rounds) k (record d { stage = Settled k }))
  unfolding sent_out
  follows_start k d less f =
      let round = round_after k rounds in
      let st = f.state in
      let may : IsTwoWayEnabled u st (two_way.Onward event.Start) = record {
        k = k;
        settled = f.phase;
        more = less;
        none_older = subst (AllByRecursion (λ p. p.ended ≡ UnderWay → st.settles ≤ p.born)) (sym f.packets) tt;
      } in
      let next : TwoWayState = two_way_after u st (two_way.Onward event.Start) in
      let count : ℕ = length d.peers in
      let peers = f.peers in
      let off : (n : ℕ) → n < switch_count net → get_or (replicate count false) n false ≡ false = λ n lt. get_replicate count n false (omega arith) in
      let e = sent_out net round (Onward k) (flagged_state false (with_said (Log logged.Start ∷ []) (record d { stage = Settled k }))) in
      follows_if_answered round e refl (record {
        state = next;
        reaches = says net rounds old good (d.said ++ Log logged.Start ∷ []) (sends (is_to_open d.peers) (batch_of net d.next round)) next (sends_no_event (is_to_open d.peers) (batch_of net d.next round))
            (logs net rounds old good d.said st logged.Start f.reaches may);
        phase = ap (λ p. phase.Running (suc (settled_count p))) f.phase;
        packets = f.packets;
        in_force = λ i c at. subst (λ p. slice_get (replicate (length (round_after (settled_count p) rounds)) false) i ≡ Some (get_or (replicate count false) (switch_of c).0 false)) (sym f.phase)
            (got_replicate round i c false at ∙ ap Some (sym (off (switch_of c).0 (in_net k i c at))));
        fits = asked_fits (Onward k) round (xid_behind d.next (length round)) d.peers (replicate count false) f.peers (λ s. refl)
            (λ s within y on. let fit = f.fits s within in let (none, alone) = fit.free fit.waits in
            fits_asked (Onward k) true (get_or (replicate count false) s.0 false) y (get_or d.peers s.0 first_peer) fit.gone
            (alone_behind y (get_or d.peers s.0 first_peer) none alone, (λ t. off s.0 within), (λ t g. absurd (not_asked y (get_or d.peers s.0 first_peer) g))))
            (λ s within off_here. let fit = f.fits s within in let (none, alone) = fit.free fit.waits in record { free = fit.free; waits = (alone, (λ t. off s.0 within), (λ t g. absurd (never t))); gone = fit.gone });
        peers = length-asked (xid_behind d.next (length round)) round 0 d.peers ∙ f.peers;
        flags = length-replicate count false ∙ f.peers;
        within = less;
      })

  same_switches : (k : ℕ) (s : SwitchId) → is_changed (round_after k inverses) s ≡ is_changed (round_after k rounds) s
  same_switches k s = turnable.same k s

  follows_undo : (k : ℕ) (d : DriverState) → k < length rounds → Follows (record d { stage = Settled (suc k) }) → Follows (undone_with net (round_after k rounds) (round_after k inverses) k (record d { stage = Settled (suc k) }))
  unfolding sent_out
  follows_undo k d less f =
      let round = round_after k rounds in
      let changes = round_after k inverses in
      let st = f.state in
      let may : IsTwoWayEnabled u st two_way.Back = record {
        k = k;
        settled = f.phase;
        none_older = subst (AllByRecursion (λ p. p.ended ≡ UnderWay → st.settles ≤ p.born)) (sym f.packets) tt;
      } in
      let next : TwoWayState = two_way_after u st two_way.Back in
      let count : ℕ = length d.peers in
      let peers = f.peers in
      let on : (n : ℕ) → n < switch_count net → get_or (replicate count true) n false ≡ true = λ n lt. get_replicate count n true (omega arith) in
      let e = sent_out net changes (Undone k) (flagged_state true (with_said (Log logged.Back ∷ []) (record d { stage = Settled (suc k) }))) in
      follows_if_answered round e refl (record {
        state = next;
        reaches = says net rounds old good (d.said ++ Log logged.Back ∷ []) (sends (is_to_open d.peers) (batch_of net d.next changes)) next (sends_no_event (is_to_open d.peers) (batch_of net d.next changes))
            (logs net rounds old good d.said st logged.Back f.reaches may);
        phase = ap turned_back f.phase;
        packets = f.packets;
        in_force = λ i c at. subst (λ p. slice_get (replicate (length (round_after (settled_count (turned_back p)) rounds)) true) i ≡ Some (get_or (replicate count true) (switch_of c).0 false)) (sym f.phase)
            (got_replicate round i c true at ∙ ap Some (sym (on (switch_of c).0 (in_net k i c at))));
        fits = asked_fits (Undone k) changes (xid_behind d.next (length changes)) d.peers (replicate count true) f.peers (same_switches k)
            (λ s within y t. let fit = f.fits s within in let (none, alone) = fit.free fit.waits in
            fits_asked (Undone k) true (get_or (replicate count true) s.0 false) y (get_or d.peers s.0 first_peer) fit.gone
            ((λ g. absurd (none_some (asks y (get_or d.peers s.0 first_peer)).behind g (alone_behind y (get_or d.peers s.0 first_peer) none alone))), (λ h g. absurd (not_asked y (get_or d.peers s.0 first_peer) g))))
            (λ s within off_here. let fit = f.fits s within in let (none, alone) = fit.free fit.waits in
            record { free = fit.free; waits = ((λ g. absurd (none_some (get_or d.peers s.0 first_peer).behind g alone)), (λ t g. absurd (never t))); gone = fit.gone });
        peers = length-asked (xid_behind d.next (length changes)) changes 0 d.peers ∙ f.peers;
        flags = length-replicate count true ∙ f.peers;
        within = less;
      })

  follows_turn : (k : ℕ) (d : DriverState) → Follows (record d { stage = Onward k }) → Follows (turned_with net (round_after k rounds) (round_after k inverses) k (record d { stage = Onward k }))
  unfolding sent_out
  follows_turn k d f =
      let changes = round_after k inverses in
      let e = sent_out net changes (Undone k) (record d { stage = Onward k }) in
      follows_if_answered (round_after k rounds) e refl (record {
        state = f.state;
        reaches = says net rounds old good d.said (sends (is_to_open d.peers) (batch_of net d.next changes)) f.state (sends_no_event (is_to_open d.peers) (batch_of net d.next changes)) f.reaches;
        phase = f.phase;
        packets = f.packets;
        in_force = f.in_force;
        fits = asked_fits (Undone k) changes (xid_behind d.next (length changes)) d.peers d.in_force f.peers (same_switches k)
            (λ s within y t. let fit = f.fits s within in
            fits_asked (Undone k) true (get_or d.in_force s.0 false) y (get_or d.peers s.0 first_peer) fit.gone (
              (λ g. elim (asks_behind y (get_or d.peers s.0 first_peer) fit.waits.0) [
                | inl none ↦ absurd (none_some (asks y (get_or d.peers s.0 first_peer)).behind g none)
                | inr out ↦ fit.waits.1 (outstanding_waits (get_or d.peers s.0 first_peer) fit.free out)
              ]),
              (λ h g. absurd (not_asked y (get_or d.peers s.0 first_peer) g)),
            ))
            (λ s within off_here. let fit = f.fits s within in
            record { free = fit.free; waits = ((λ g. absurd (none_some (get_or d.peers s.0 first_peer).behind g fit.waits.0)), (λ t g. absurd (never t))); gone = fit.gone });
        peers = length-asked (xid_behind d.next (length changes)) changes 0 d.peers ∙ f.peers;
        flags = f.flags;
        within = f.within;
      })

  -- ---- all calls

  abbrev view : DriverState → DriverView
  view d = record { net = net; rounds = rounds; inverses = inverses; state = d }

  abbrev OnView : DriverView → Type 0
  OnView w = (d : DriverState) × (w ≡ view d) × Follows d

  starts : (stage : Stage) (d : DriverState) → start_fault_in net rounds d.peers stage ≡ None → Follows (record d { stage = stage }) → Follows (started_in net rounds stage (record d { stage = stage }))
  starts (Settled k) d none f =
      let differs : ¬ (k ≡ length rounds) = λ e. let g : Some fault.Finished ≡ None = sym (cond-true (eqb k (length rounds)) (Some fault.Finished) _ (eq-eqb k (length rounds) e)) ∙ none in cc in
      let le : k ≤ length rounds = f.within in
      follows_start k d (omega (arith, differs)) f
  starts (Onward k) d none f = f
  starts (Undone k) d none f = f

  turns : (stage : Stage) (d : DriverState) → Follows (record d { stage = stage }) → Follows (turned_in net rounds inverses stage (record d { stage = stage }))
  turns (Settled zero) d f = f
  turns (Settled (suc k)) d f = follows_undo k d (let le : suc k ≤ length rounds = f.within in omega arith) f
  turns (Onward k) d f = follows_turn k d f
  turns (Undone k) d f = f

  none_is : {A : Type 0} (o : Option A) → is_none o ≡ true → o ≡ None
  none_is None e = refl
  none_is (Some x) e = absurd (let g : false ≡ true = e in cc)

  follows_call : (d : DriverState) (c : Call) → IsCall net c → Follows d → OnView (after_call (view d) c)
  follows_call d Start ok f =
      cond_both (is_none (start_fault (view d))) (with_state (started_in net rounds d.stage d) (view d)) (view d) OnView
      (λ e. (started_in net rounds d.stage d, refl, starts d.stage d (none_is (start_fault (view d)) e) f)) (λ e. (d, refl, f))
  follows_call d Back ok f =
      cond_both (is_none (back_fault (view d))) (with_state (turned_in net rounds inverses d.stage d) (view d)) (view d) OnView
      (λ e. (turned_in net rounds inverses d.stage d, refl, turns d.stage d f)) (λ e. (d, refl, f))
  follows_call d (Reopen s) ok f = (reopened_driver s d, refl, follows_reopened s d ok f)
  follows_call d (Feed s bytes) ok f = (state_after_bytes net rounds inverses s bytes d, refl, follows_fed s bytes d ok f)
  follows_call d (Dead s) ok f = (dead_driver rounds s d, refl, follows_dead s d ok f)

  follows_calls : (w : DriverView) (calls : List Call) → AllByRecursion (IsCall net) calls → OnView w → OnView (after_calls w calls)
  follows_calls w [] ok on = on
  follows_calls w (c ∷ calls) ok (d, is, f) = follows_calls (after_call w c) calls ok.1 (subst (λ x. OnView (after_call x c)) (sym is) (follows_call d c ok.0 f))

  first_at : (n i : ℕ) → get_or (replicate n first_peer) i first_peer ≡ first_peer
  first_at zero i = refl
  first_at (suc n) zero = refl
  first_at (suc n) (suc i) = first_at n i

  follows_first : Follows (first_driver net)
  follows_first =
      let none = words_no_event 0 (switch_count net) in
      record {
        state = first_two_way old;
        reaches = record { run = subst (IsTwoWayRun u) (sym none) tt; is = ap (state_after_two_way u) none };
        phase = refl;
        packets = refl;
        in_force = tt;
        fits = λ s within. subst (λ p. PeerFits (Settled 0) (changed_in (Settled 0) s) p (get_or (replicate (switch_count net) false) s.0 false)) (sym (first_at (switch_count net) s.0)) (record { free = λ e. (refl, refl); waits = refl; gone = λ t. absurd (never t) });
        peers = length-replicate (switch_count net) first_peer;
        flags = length-replicate (switch_count net) false;
        within = omega arith;
      }

  all_follow : (calls : List Call) → AllByRecursion (IsCall net) calls → OnView (driver_after net rounds inverses calls)
  all_follow calls ok = follows_calls (view (first_driver net)) calls ok (first_driver net, refl, follows_first)

  says_from : (d : DriverState) → Follows d → SaysRun u d
  says_from d f = record {
    run = f.reaches.run;
    phase = ap (λ (st : TwoWayState). st.phase) f.reaches.is ∙ f.phase;
    no_packets = ap (λ (st : TwoWayState). st.packets) f.reaches.is ∙ f.packets;
    in_force = subst (λ (st : TwoWayState). InForceAs rounds d.stage d.in_force st.in_force) (sym f.reaches.is) f.in_force;
  }

  pub says_run : (calls : List Call) → AllByRecursion (IsCall net) calls → SaysRun u (driver_after net rounds inverses calls).state
  says_run calls ok = let (d, is, f) = all_follow calls ok in subst (λ (w : DriverView). SaysRun u w.state) (sym is) (says_from d f)

  free_from : (k : ℕ) (d : DriverState) → Follows (record d { stage = Settled k }) → AllAreFree d
  free_from k d f s less =
      let count = f.peers in
      let fit = f.fits s (omega arith) in
      let (none, alone) = fit.free fit.waits in
      (fit.waits, none, alone)

  begins_start : (stage : Stage) (d : DriverState) → Follows (record d { stage = stage }) → start_fault_in net rounds d.peers stage ≡ None → AllAreFree d
  begins_start (Settled k) d f none = free_from k d f
  begins_start (Onward k) d f none = absurd (let g : Some fault.Running ≡ None = none in cc)
  begins_start (Undone k) d f none = absurd (let g : Some fault.Running ≡ None = none in cc)

  begins_back : (stage : Stage) (d : DriverState) → Follows (record d { stage = stage }) → back_fault_in net rounds d.peers stage ≡ None → AllAreFree d ⊎ ((k : ℕ) × (stage ≡ Onward k))
  begins_back (Settled zero) d f none = absurd (let g : Some fault.NotBegun ≡ None = none in cc)
  begins_back (Settled (suc k)) d f none = inl (free_from (suc k) d f)
  begins_back (Onward k) d f none = inr (k, refl)
  begins_back (Undone k) d f none = absurd (let g : Some fault.Running ≡ None = none in cc)

  pub begins_answered : (calls : List Call) → AllByRecursion (IsCall net) calls → BeginsAnswered (driver_after net rounds inverses calls)
  begins_answered calls ok =
      let (d, is, f) = all_follow calls ok in
      subst BeginsAnswered (sym is) (record { start = begins_start d.stage d f; back = begins_back d.stage d f })
