-- What holds on the wire still holds behind bytes from a switch.
use Rattle.std.proofs.Common.{◌≡◌, ◌≢◌, ℕ, suc, ◌+◌, ◌<◌, Bool, true, false, cond, eqb, List, [], ◌∷◌, ◌++◌, length, map, set, get_or, get_or-set_same, get_or-set_other, refl, sym, ◌∙◌, subst, ap, inl, inr, append-nil, append_assoc, arith, length-set}
use Rattle.std.specs.Prelude.{Option, Some, None, is_some, filter_map}
use Rattle.std.specs.Option.{option_map_or}
use Rattle.std.specs.List.{AllByRecursion, cons_option}
use Rattle.std.proofs.lemmas.Bool.{cases_eq, cond_both, cond-true, cond-false, eq-eqb, ne_eqb, eqb-true, both_ways}
use Rattle.std.proofs.lemmas.List.{set-set}
use Rattle.net_base.specs.Members.{IsIn}
use Rattle.net_base.specs.declared.ids.SwitchId.{SwitchId}
use Rattle.topology.specs.Networks.{switch_count}
use Rattle.flow_rules.specs.Tables.{IsTable, rules_at}
use Rattle.flow_rules.specs.declared.rules.Key.{Key}
use Rattle.update_model.specs.Changes.{changes_at, round_after}
use Rattle.update_model.specs.Mixtures.{Rollout, AreGoodRounds, tables_before}
use Rattle.update_model.specs.Ranges.{IsPlanChange}
use Rattle.update_model.specs.declared.Change.{Change}
use Rattle.update_model.proofs.ChangeLaws.{key_named}
use Rattle.openflow10.specs.declared.Message.{Message}
use Rattle.openflow10.specs.declared.Message.TheVariants.{Flow, BarrierRequest}
use Rattle.switch_session.specs.Channels.{hello, after_request}
use Rattle.turned_rounds.specs.Batches.{xid_behind, batch_of}
use Rattle.round_inverses.specs.Rounds.{inverse_rounds}
use Rattle.two_way_driver.specs.PeerStates.{PeerState}
use Rattle.two_way_driver.specs.Peers.{first_peer, peer_after, asks_again, answers, reopened_peer, settled_peer}
use Rattle.two_way_driver.specs.Drivers.{DriverState, peer_at, with_peer, with_said, sends, is_to, settled_in, all_answered, settled_if_answered, change_notes, undo_notes, is_change_at, is_dead_made, is_dead_unmade, heard_byte, made_state, undone_state, carried_out, answered_state, opened_state, running_round, asked_round, heard_state, fed_byte, state_after_bytes, reopened_driver}
use Rattle.two_way_driver.specs.Calls.{AreTurnable, IsStageWithin}
use Rattle.two_way_driver.specs.declared.Stage.{Stage}
use Rattle.two_way_driver.specs.declared.Stage.TheVariants.{Settled, Onward, Undone}
use Rattle.two_way_driver.specs.declared.DriverEvent.TheVariants as logged
use Rattle.two_way_driver.specs.declared.DriverOutput.{DriverOutput}
use Rattle.two_way_driver.specs.declared.DriverOutput.TheVariants.{Send, Failed, Log}
use Rattle.two_way_driver.specs.declared.peers.ByteOutcome.{ByteOutcome}
use Rattle.two_way_driver.specs.declared.peers.ByteOutcome.TheVariants.{Nothing, Opened, Answered, Replied, Broke}
use Rattle.law_wire.specs.Network.{inbox_message, arriving, settles_in, with_box}
use Rattle.law_wire.proofs.Entries.{LeadsTo}
use Rattle.law_wire.proofs.Batch.{IsXid, in_range, barrier_xid, barrier_ok, behind_ok, flows_at, flow_keys, each_flow, batch_comes}
use Rattle.law_wire.proofs.Bytes.{replies_in, hello_stays}
use Rattle.law_wire.proofs.Link.{Link, AllLead, keys_in, requests_in, option_list}
use Rattle.law_wire.proofs.Hears.{IsAside, Opens, AnswersNow, heard_byte_of}
use Rattle.law_wire.proofs.Asks.{Idle, link_idle, link_asked, reopened_link, more_link, last_idle, both_empty, none_and_some}
use Rattle.law_wire.proofs.Sides.{sides, named_at, way_of, onward_leads, back_leads, back_names}
use Rattle.law_wire.proofs.Words.{IsQuiet, arriving-append, settles-append, quiet_changes, quiet_undos, sends_come, no_settle}
use Rattle.law_wire.proofs.Keeps.{Around, IsAsked, LinkAt, Keeps, Waits, keeps_peer, none_all, settle_onward, settle_back, Beside, LogsAt, beside_alive, IsOnward}
use Rattle.two_way_driver.proofs.PeerLaws.{each_round, all_at}

-- a box of one switch
pub box_here : {A : Type 0} (s : SwitchId) (box : A) (boxes : SwitchId → A) → with_box s box boxes s ≡ box
box_here s box boxes = cond-true (eqb s.0 s.0) box (boxes s) (eq-eqb s.0 s.0 refl)

pub box_away : {A : Type 0} (s : SwitchId) (box : A) (boxes : SwitchId → A) (t : SwitchId) → t.0 ≢ s.0 → with_box s box boxes t ≡ boxes t
box_away s box boxes t differs = cond-false (eqb t.0 s.0) box (boxes t) (ne_eqb t.0 s.0 differs)

module _ (u : Rollout) (good : AreGoodRounds u) (old : AllByRecursion IsTable u.old) (turnable : AreTurnable u.net u.rounds (inverse_rounds u.old u.rounds)) (sized : length u.old ≡ switch_count u.net) where
  -- what stands around a driver that has said words
  abbrev pub around : Around → DriverState → Around
  around b d = record b { inbox = λ t. b.inbox t ++ arriving t d.said; settles = b.settles + settles_in d.said }

  pub record Serves (b : Around) (d : DriverState) : Type 0 where
    pub keeps : Keeps u good old turnable sized d (around b d)
    pub waits : Waits u good old turnable sized d

  came_same : (b : Around) (t : SwitchId) (said words : List DriverOutput) → arriving t words ≡ [] → b.inbox t ++ arriving t (said ++ words) ≡ b.inbox t ++ arriving t said
  came_same b t said words none = ap (λ l. b.inbox t ++ l) (arriving-append t said words ∙ ap (λ l. arriving t said ++ l) none ∙ append-nil (arriving t said))

  settles_same : (b : Around) (said words : List DriverOutput) → settles_in words ≡ 0 → b.settles + settles_in (said ++ words) ≡ b.settles + settles_in said
  settles_same b said words none = let both = settles-append said words in omega arith

  -- ---- one switch and some words

  abbrev Asks : Stage → ℕ → SwitchId → ℕ → Type 0
  Asks stage first s x = IsAsked u good old turnable sized stage first s x

  pub step_peer : (b : Around) (d : DriverState) (s : SwitchId) (q : PeerState) (flags : List Bool) (said : List DriverOutput) (outbox : SwitchId → List ℕ) → s.0 < switch_count u.net → (h : Keeps u good old turnable sized d (around b d))
      → ((t : SwitchId) → t.0 ≢ s.0 → outbox t ≡ b.outbox t) → ((t : SwitchId) → t.0 ≢ s.0 → b.inbox t ++ arriving t said ≡ b.inbox t ++ arriving t d.said) → b.settles + settles_in said ≡ b.settles + settles_in d.said
      → (q.is_dead ≡ false → (peer_at d s).is_dead ≡ false) → Beside u good old turnable sized d.stage h.on s q (b.inbox s ++ arriving s said) (outbox s) → ((x : ℕ) → q.asked ≡ Some x → IsAsked u good old turnable sized d.stage d.first s x)
      → length flags ≡ switch_count u.net → ((t : SwitchId) → t.0 ≢ s.0 → get_or flags t.0 false ≡ get_or d.in_force t.0 false) → LogsAt u good old turnable sized d.stage s q (get_or flags s.0 false)
      → Keeps u good old turnable sized (record d { peers = set d.peers s.0 q; in_force = flags; said = said }) (around (record b { outbox = outbox }) (record d { peers = set d.peers s.0 q; in_force = flags; said = said }))
  step_peer b d s q flags said outbox less h outboxes inboxes settles lives link asked count others logs =
      let e : DriverState = record d { peers = set d.peers s.0 q; in_force = flags; said = said } in
      let w = around b d in
      subst (λ n. Keeps u good old turnable sized e (record w { inbox = λ t. b.inbox t ++ arriving t said; outbox = outbox; settles = n })) (sym settles)
      (keeps_peer u good old turnable sized d w s q flags said (λ t. b.inbox t ++ arriving t said) outbox less h inboxes outboxes lives link asked count others logs)

  -- the outbox of a dead switch makes no difference
  pub outboxes_are : (d : DriverState) (w : Around) (outbox : SwitchId → List ℕ) → (h : Keeps u good old turnable sized d w) → ((t : SwitchId) → (peer_at d t).is_dead ≡ false → outbox t ≡ w.outbox t)
      → Keeps u good old turnable sized d (record w { outbox = outbox })
  outboxes_are d w outbox h same = record {
    on = h.on;
    seen = h.seen;
    like = h.like;
    holds = h.holds;
    count = h.count;
    counted = h.counted;
    packets = h.packets;
    links = λ t within. record {
      alive = λ alive. subst (LinkAt u good old turnable sized d.stage h.on t (peer_at d t) (w.inbox t)) (sym (same t alive)) ((h.links t within).alive alive);
      gone = (h.links t within).gone;
    };
    logs = h.logs;
    peers = h.peers;
    flags = h.flags;
    first = h.first;
    next = h.next;
    within = h.within;
    asks = h.asks;
  }

  -- what a switch is asked decides whether a round waits
  waits_set : (d : DriverState) (s : SwitchId) (q : PeerState) (flags : List Bool) (said : List DriverOutput) → s.0 < length d.peers → q.asked ≡ (peer_at d s).asked → q.is_dead ≡ (peer_at d s).is_dead → Waits u good old turnable sized d
      → Waits u good old turnable sized (record d { peers = set d.peers s.0 q; in_force = flags; said = said })
  waits_set d s q flags said less same dead waits none =
      waits (λ t within alive. elim (cases_eq t.0 s.0) [
        | inl e ↦ (
            let at : get_or (set d.peers s.0 q) t.0 first_peer ≡ q = ap (λ (n : ℕ). get_or (set d.peers s.0 q) n first_peer) e ∙ get_or-set_same d.peers s.0 q first_peer less in
            ap (λ (n : ℕ). (get_or d.peers n first_peer).asked) e ∙ sym same ∙ sym (ap (λ (r : PeerState). r.asked) at)
            ∙ none t within (ap (λ (r : PeerState). r.is_dead) at ∙ dead ∙ sym (ap (λ (n : ℕ). (get_or d.peers n first_peer).is_dead) e) ∙ alive))
        | inr differs ↦ (
            let at = get_or-set_other d.peers s.0 t.0 q first_peer differs in
            sym (ap (λ (r : PeerState). r.asked) at) ∙ none t within (ap (λ (r : PeerState). r.is_dead) at ∙ alive))
      ])

  -- ---- a round is settled

  settled_words : (b : Around) (said notes : List DriverOutput) (word : DriverOutput) → IsQuiet notes → settles_in (word ∷ []) ≡ 1 → b.settles + settles_in ((said ++ notes) ++ word ∷ []) ≡ suc (b.settles + settles_in said)
  settled_words b said notes word quiet one =
      let both = settles-append (said ++ notes) (word ∷ []) in
      let first = settles-append said notes in
      let none = quiet.none_settle in
      omega arith

  settled_inbox : (b : Around) (t : SwitchId) (said notes : List DriverOutput) (word : DriverOutput) → IsQuiet notes → arriving t (word ∷ []) ≡ [] → b.inbox t ++ arriving t ((said ++ notes) ++ word ∷ []) ≡ b.inbox t ++ arriving t said
  settled_inbox b t said notes word quiet none = came_same b t (said ++ notes) (word ∷ []) none ∙ came_same b t said notes (quiet.none_come t)

  in_stage : (b : Around) (round : List Change) (stage : Stage) (d : DriverState) → Keeps u good old turnable sized (record d { stage = stage }) (around b d) → all_answered d.peers ≡ true
      → Serves b (settled_in round stage (record d { stage = stage }))
  unfolding settled_in
  in_stage b round (Settled k) d h all = record { keeps = h; waits = λ _. tt }
  in_stage b round (Onward k) d h all =
      let notes = change_notes (is_dead_unmade d.peers d.in_force) 0 round in
      let quiet = quiet_changes (is_dead_unmade d.peers d.in_force) 0 round in
      let said = (d.said ++ notes) ++ Log logged.Settle ∷ [] in
      let e : DriverState = record d { stage = Settled (suc k); peers = map settled_peer d.peers; said = said } in
      let w = around b d in
      record {
        keeps = subst (λ n. Keeps u good old turnable sized e (record w { inbox = λ t. b.inbox t ++ arriving t said; settles = n })) (sym (settled_words b d.said notes (Log logged.Settle) quiet refl))
            (settle_onward u good old turnable sized k d w said (λ t. b.inbox t ++ arriving t said) h (λ t within alive. all_at d.peers t.0 all alive) (λ t. settled_inbox b t d.said notes (Log logged.Settle) quiet refl));
        waits = λ _. tt;
      }
  in_stage b round (Undone k) d h all =
      let notes = undo_notes (is_dead_made d.peers d.in_force) 0 round in
      let quiet = quiet_undos (is_dead_made d.peers d.in_force) 0 round in
      let said = (d.said ++ notes) ++ Log logged.SettleBack ∷ [] in
      let e : DriverState = record d { stage = Settled k; peers = map settled_peer d.peers; said = said } in
      let w = around b d in
      record {
        keeps = subst (λ n. Keeps u good old turnable sized e (record w { inbox = λ t. b.inbox t ++ arriving t said; settles = n })) (sym (settled_words b d.said notes (Log logged.SettleBack) quiet refl))
            (settle_back u good old turnable sized k d w said (λ t. b.inbox t ++ arriving t said) h (λ t within alive. all_at d.peers t.0 all alive) (λ t. settled_inbox b t d.said notes (Log logged.SettleBack) quiet refl));
        waits = λ _. tt;
      }

  pub if_answered : (b : Around) (round : List Change) (d : DriverState) → Keeps u good old turnable sized d (around b d) → Serves b (settled_if_answered round d)
  unfolding settled_if_answered
  if_answered b round d h =
      cond_both (all_answered d.peers) (settled_in round d.stage d) d (Serves b) (λ all. in_stage b round d.stage d h all)
      (λ some. record {
        keeps = h;
        waits = λ none. absurd (let t : true ≡ false = sym (none_all u good old turnable sized d.peers (λ i lt alive. none (record { 0 = i }) (let count = h.peers in omega arith) alive)) ∙ some in cc);
      })

  onward_way : (stage : Stage) → IsOnward u good old turnable sized stage → way_of stage ≡ true
  onward_way (Settled k) onward = refl
  onward_way (Onward k) onward = refl
  onward_way (Undone k) onward = absurd onward

  -- ---- the messages of the running round

  plan_of : (stage : Stage) → AllByRecursion (IsPlanChange u.net) (asked_round u.rounds (inverse_rounds u.old u.rounds) stage)
  plan_of (Settled k) = tt
  plan_of (Onward k) = each_round (IsPlanChange u.net) u.rounds k turnable.plan
  plan_of (Undone k) = each_round (IsPlanChange u.net) (inverse_rounds u.old u.rounds) k turnable.back_plan

  pub onward_lead : (k : ℕ) → k < length u.rounds → (s : SwitchId) (x : ℕ) → AllByRecursion (λ m. LeadsTo (rules_at (tables_before u (suc k)) s) m) (flows_at s x (round_after k u.rounds))
  onward_lead k less s x = each_flow (LeadsTo (rules_at (tables_before u (suc k)) s)) s x (round_after k u.rounds) (λ c i y. onward_leads u good k less s c i y)

  pub back_lead : (k : ℕ) → k < length u.rounds → (s : SwitchId) (x : ℕ) → AllByRecursion (λ m. LeadsTo (rules_at (tables_before u k) s) m) (flows_at s x (round_after k (inverse_rounds u.old u.rounds)))
  back_lead k less s x = each_flow (LeadsTo (rules_at (tables_before u k) s)) s x (round_after k (inverse_rounds u.old u.rounds)) (λ c i y. back_leads u good k less old s c i y)

  pub onward_all : (k : ℕ) (s : SwitchId) (x : ℕ) (key : Key) → IsIn key (map key_named (changes_at s (round_after k u.rounds))) → IsIn key (keys_in (flows_at s x (round_after k u.rounds)))
  onward_all k s x key i = subst (IsIn key) (sym (flow_keys s x (round_after k u.rounds))) i

  pub back_all : (k : ℕ) → k < length u.rounds → (s : SwitchId) (x : ℕ) (key : Key) → IsIn key (map key_named (changes_at s (round_after k u.rounds)))
      → IsIn key (keys_in (flows_at s x (round_after k (inverse_rounds u.old u.rounds))))
  back_all k less s x key i = subst (IsIn key) (sym (flow_keys s x (round_after k (inverse_rounds u.old u.rounds)))) (back_names u good k less old s key i)

  lead_of : (stage : Stage) → IsStageWithin u.rounds stage → (s : SwitchId) (x : ℕ) → AllLead (sides u stage s) (named_at u stage s) (way_of stage) (flows_at s x (asked_round u.rounds (inverse_rounds u.old u.rounds) stage))
  lead_of (Settled k) within s x = tt
  lead_of (Onward k) within s x = onward_lead k within s x
  lead_of (Undone k) within s x = back_lead k within s x

  all_of : (stage : Stage) → IsStageWithin u.rounds stage → (s : SwitchId) (x : ℕ) (key : Key) → IsIn key (named_at u stage s) → IsIn key (keys_in (flows_at s x (asked_round u.rounds (inverse_rounds u.old u.rounds) stage)))
  all_of (Settled k) within s x key i = absurd i
  all_of (Onward k) within s x key i = onward_all k s x key i
  all_of (Undone k) within s x key i = back_all k within s x key i

  -- ---- a byte

  module _ (b : Around) (d : DriverState) (s : SwitchId) (here : s.0 < switch_count u.net) (x : ℕ) (out : List ℕ) (box : b.outbox s ≡ x ∷ out) (h : Serves b d) (living : (peer_at d s).is_dead ≡ false) where
    abbrev p : PeerState
    p = peer_at d s

    abbrev rest : Around
    rest = record b { outbox = with_box s out b.outbox }

    abbrev link_now : PeerState → List Message → Type 0
    link_now q inbox = LinkAt u good old turnable sized d.stage h.keeps.on s q inbox out

    link_before : LinkAt u good old turnable sized d.stage h.keeps.on s (peer_at d s) (b.inbox s ++ arriving s d.said) (x ∷ out)
    link_before = subst (λ l. LinkAt u good old turnable sized d.stage h.keeps.on s (peer_at d s) (b.inbox s ++ arriving s d.said) l) box ((h.keeps.links s here).alive living)

    short : s.0 < length d.peers
    short = let count = h.keeps.peers in omega arith

    same_asked : (peer_after x (peer_at d s)).asked ≡ (peer_at d s).asked
    unfolding peer_after
    same_asked = refl

    same_behind : (peer_after x (peer_at d s)).behind ≡ (peer_at d s).behind
    unfolding peer_after
    same_behind = refl

    same_dead : (peer_after x (peer_at d s)).is_dead ≡ (peer_at d s).is_dead
    unfolding peer_after
    same_dead = refl

    -- what was logged, where the same is asked
    logs_same : (q : PeerState) → q.asked ≡ (peer_at d s).asked → LogsAt u good old turnable sized d.stage s q (get_or d.in_force s.0 false)
    logs_same q same =
        let l = h.keeps.logs s here in
        record { done = λ none changed. l.done (sym same ∙ none) changed; firm = λ onward some. l.firm onward (ap is_some (sym same) ∙ some) }

    flag_away : (c : Bool) (t : SwitchId) → t.0 ≢ s.0 → get_or (set d.in_force s.0 c) t.0 false ≡ get_or d.in_force t.0 false
    flag_away c t differs = get_or-set_other d.in_force s.0 t.0 c false differs

    flag_here : (c : Bool) → get_or (set d.in_force s.0 c) s.0 false ≡ c
    flag_here c = get_or-set_same d.in_force s.0 c false (let count = h.keeps.flags in omega arith)

    -- another channel, flags and words
    changed_to : (q : PeerState) (flags : List Bool) (said : List DriverOutput) → ((t : SwitchId) → t.0 ≢ s.0 → b.inbox t ++ arriving t said ≡ b.inbox t ++ arriving t d.said) → b.settles + settles_in said ≡ b.settles + settles_in d.said
        → LinkAt u good old turnable sized d.stage h.keeps.on s q (b.inbox s ++ arriving s said) out → ((y : ℕ) → q.asked ≡ Some y → (peer_at d s).asked ≡ Some y) → q.is_dead ≡ (peer_at d s).is_dead
        → length flags ≡ switch_count u.net → ((t : SwitchId) → t.0 ≢ s.0 → get_or flags t.0 false ≡ get_or d.in_force t.0 false) → LogsAt u good old turnable sized d.stage s q (get_or flags s.0 false)
        → Keeps u good old turnable sized (record d { peers = set d.peers s.0 q; in_force = flags; said = said }) (around rest (record d { peers = set d.peers s.0 q; in_force = flags; said = said }))
    changed_to q flags said inboxes settles link asked dead count others logs =
        step_peer b d s q flags said (with_box s out b.outbox) here h.keeps (λ t differs. box_away s out b.outbox t differs) inboxes settles (λ _. living)
        (beside_alive u good old turnable sized d.stage h.keeps.on s q (b.inbox s ++ arriving s said) (with_box s out b.outbox s) (dead ∙ living)
        (subst (λ l. LinkAt u good old turnable sized d.stage h.keeps.on s q (b.inbox s ++ arriving s said) l) (sym (box_here s out b.outbox)) link)) (λ y is. h.keeps.asks s here y (asked y is)) count others logs

    -- another channel and words
    moved : (q : PeerState) (said : List DriverOutput) → ((t : SwitchId) → t.0 ≢ s.0 → b.inbox t ++ arriving t said ≡ b.inbox t ++ arriving t d.said) → b.settles + settles_in said ≡ b.settles + settles_in d.said
        → LinkAt u good old turnable sized d.stage h.keeps.on s q (b.inbox s ++ arriving s said) out → q.asked ≡ (peer_at d s).asked → q.is_dead ≡ (peer_at d s).is_dead
        → Keeps u good old turnable sized (record d { peers = set d.peers s.0 q; said = said }) (around rest (record d { peers = set d.peers s.0 q; said = said }))
    moved q said inboxes settles link same dead = changed_to q d.in_force said inboxes settles link (λ y is. sym same ∙ is) dead h.keeps.flags (λ t differs. refl) (logs_same q same)

    -- nothing of a round was heard
    aside_words : (words : List DriverOutput) → IsQuiet words → Link (sides u d.stage s) (named_at u d.stage s) (way_of d.stage) (h.keeps.on s) (peer_after x (peer_at d s)) (b.inbox s ++ arriving s d.said) out
        → Serves rest (with_said words (with_peer s (peer_after x (peer_at d s)) d))
    aside_words words quiet link = record {
      keeps = moved (peer_after x (peer_at d s)) (d.said ++ words) (λ t differs. came_same b t d.said words (quiet.none_come t)) (settles_same b d.said words quiet.none_settle)
          (subst (λ l. LinkAt u good old turnable sized d.stage h.keeps.on s (peer_after x (peer_at d s)) l out) (sym (came_same b s d.said words (quiet.none_come s))) link) same_asked same_dead;
      waits = waits_set d s (peer_after x (peer_at d s)) d.in_force (d.said ++ words) short same_asked same_dead h.waits;
    }

    replied_quiet : (text : List ℕ) → inbox_message text ≡ None → IsQuiet (Send s text ∷ [])
    replied_quiet text none = record {
      none_come = λ t. elim (eqb s.0 t.0) as (λ (c : Bool). filter_map inbox_message (cons_option (cond c (Some text) None) []) ≡ []) [ true ↦ ap (λ (o : Option Message). cons_option o []) none | false ↦ refl ];
      none_settle = refl;
    }

    by_outcome : (came : ByteOutcome) → IsAside came → Link (sides u d.stage s) (named_at u d.stage s) (way_of d.stage) (h.keeps.on s) (peer_after x (peer_at d s)) (b.inbox s ++ arriving s d.said) out
        → Serves rest (heard_state u.net u.rounds (inverse_rounds u.old u.rounds) s came (with_peer s (peer_after x (peer_at d s)) d))
    by_outcome Nothing aside link = subst (λ (l : List DriverOutput). Serves rest (record d { peers = set d.peers s.0 (peer_after x (peer_at d s)); said = l })) (append-nil d.said)
        (aside_words [] (record { none_come = λ t. refl; none_settle = refl }) link)
    by_outcome Opened aside link = absurd aside
    by_outcome Answered aside link = absurd aside
    by_outcome (Replied text) aside link = aside_words (Send s text ∷ []) (replied_quiet text aside) link
    by_outcome (Broke cause) aside link = aside_words (Failed s cause ∷ []) (record { none_come = λ t. refl; none_settle = refl }) link

    seen : peer_at (with_peer s (peer_after x (peer_at d s)) d) s ≡ peer_after x (peer_at d s)
    seen = get_or-set_same d.peers s.0 (peer_after x (peer_at d s)) first_peer short

    abbrev q : PeerState
    q = peer_after x (peer_at d s)

    abbrev e : DriverState
    e = with_peer s (peer_after x (peer_at d s)) d

    -- a second peer in place of the first
    abbrev again : PeerState → List Bool → List DriverOutput → DriverState
    again r flags said = record d { peers = set d.peers s.0 r; in_force = flags; said = said }

    put_twice : (r : PeerState) (flags : List Bool) (said : List DriverOutput) → Serves rest (record d { peers = set d.peers s.0 r; in_force = flags; said = said })
        → Serves rest (record d { peers = set (set d.peers s.0 (peer_after x (peer_at d s))) s.0 r; in_force = flags; said = said })
    put_twice r flags said h2 =
        subst (λ (l : List PeerState). Serves rest (record d { peers = l; in_force = flags; said = said })) (sym (set-set d.peers s.0 (peer_after x (peer_at d s)) r)) h2

    -- ---- a session opens

    module _ (o : Opens (sides u d.stage s) (named_at u d.stage s) (way_of d.stage) (h.keeps.on s) (peer_at d s) (b.inbox s ++ arriving s d.said) out x) where
      abbrev changes : List Change
      changes = asked_round u.rounds (inverse_rounds u.old u.rounds) d.stage

      none_asked : (peer_at d s).asked ≡ None → Serves rest (with_peer s (peer_after x (peer_at d s)) d)
      none_asked none =
          let r = link_before.rest none in
          let outstanding : (peer_after x (peer_at d s)).channel.outstanding ≡ None = o.outstanding ∙ r.outstanding in
          let behind : (peer_after x (peer_at d s)).behind ≡ None = same_behind ∙ r.behind in
          let none_waits : [] ≡ replies_in o.messages ++ requests_in (b.inbox s ++ arriving s d.said) =
          sym (ap (λ (i : Option ℕ). option_list i ++ option_list (peer_after x (peer_at d s)).behind) outstanding ∙ ap option_list behind) ∙ o.order in
          let idle : Idle (peer_after x (peer_at d s)) (b.inbox s ++ arriving s d.said) out = record {
            empty = r.empty;
            outstanding = outstanding;
            behind = behind;
            live = λ _. (o.messages, o.stream, (both_empty (replies_in o.messages) (requests_in (b.inbox s ++ arriving s d.said)) none_waits).0);
          } in
          record {
            keeps = moved (peer_after x (peer_at d s)) d.said (λ t differs. refl) refl
                (link_idle (sides u d.stage s) (named_at u d.stage s) (way_of d.stage) (h.keeps.on s) (peer_after x (peer_at d s)) (b.inbox s ++ arriving s d.said) out idle (same_asked ∙ none) r.done)
                same_asked same_dead;
            waits = waits_set d s (peer_after x (peer_at d s)) d.in_force d.said short same_asked same_dead h.waits;
          }

      some_asked : (y : ℕ) → (peer_at d s).asked ≡ Some y
          → Serves rest (record (with_peer s (asks_again y (peer_after x (peer_at d s))) (with_peer s (peer_after x (peer_at d s)) d)) { said = d.said ++ sends (is_to s) (batch_of u.net d.first (asked_round u.rounds (inverse_rounds u.old u.rounds) d.stage)) })
      some_asked y is =
          let (empty, outstanding, behind) = let all : _ = o.waits (ap is_some is) in all in
          let ms = batch_of u.net d.first (asked_round u.rounds (inverse_rounds u.old u.rounds) d.stage) in
          let said = d.said ++ sends (is_to s) ms in
          let asked = h.keeps.asks s here y is in
          let flows = flows_at s d.first (asked_round u.rounds (inverse_rounds u.old u.rounds) d.stage) in
          let Sent : Bool → ℕ → List Message = λ c n. map Flow (flows_at s d.first (asked_round u.rounds (inverse_rounds u.old u.rounds) d.stage)) ++ cond c (BarrierRequest n ∷ []) [] in
          let r : PeerState = asks_again y (peer_after x (peer_at d s)) in
          let ok : IsXid y = subst IsXid (sym asked.xid) (barrier_ok (xid_behind d.first (length (asked_round u.rounds (inverse_rounds u.old u.rounds) d.stage))) (asked_round u.rounds (inverse_rounds u.old u.rounds) d.stage) 0 s.0
          (behind_ok (length (asked_round u.rounds (inverse_rounds u.old u.rounds) d.stage)) d.first h.keeps.first)) in
          let comes : arriving s (sends (is_to s) ms) ≡ Sent true y =
          sends_come s (is_to s) true ms (λ m at. at)
          ∙ batch_comes u.net s d.first (asked_round u.rounds (inverse_rounds u.old u.rounds) d.stage) here (plan_of d.stage) h.keeps.first
          ∙ ap (λ c. Sent c (barrier_xid (xid_behind d.first (length (asked_round u.rounds (inverse_rounds u.old u.rounds) d.stage))) (asked_round u.rounds (inverse_rounds u.old u.rounds) d.stage) 0 s.0)) asked.changed
          ∙ ap (Sent true) (sym asked.xid) in
          let inbox_is : b.inbox s ++ arriving s said ≡ Sent true y =
          ap (λ l. b.inbox s ++ l) (arriving-append s d.said (sends (is_to s) ms)) ∙ sym (append_assoc (b.inbox s) (arriving s d.said) (arriving s (sends (is_to s) ms)))
          ∙ ap (λ l. l ++ arriving s (sends (is_to s) ms)) empty ∙ comes in
          let none_waits : [] ≡ replies_in o.messages ++ requests_in (b.inbox s ++ arriving s d.said) =
          sym (ap (λ (i : Option ℕ). option_list i ++ option_list (peer_after x (peer_at d s)).behind) outstanding ∙ ap option_list behind) ∙ o.order in
          let link = link_asked (sides u d.stage s) (named_at u d.stage s) (way_of d.stage) (h.keeps.on s) r y flows (b.inbox s ++ arriving s said) out (same_asked ∙ is) o.session refl refl (in_range y ok)
          o.messages o.stream (both_empty (replies_in o.messages) (requests_in (b.inbox s ++ arriving s d.said)) none_waits).0 inbox_is
          (lead_of d.stage h.keeps.within s d.first) (all_of d.stage h.keeps.within s d.first) in
          put_twice r d.in_force said (record {
            keeps = moved r said
                (λ t differs. came_same b t d.said (sends (is_to s) ms) (sends_come t (is_to s) false ms (λ m at. ne_eqb m.switch.0 s.0 (λ same. differs (sym (eqb-true m.switch.0 t.0 at) ∙ same)))))
                (settles_same b d.said (sends (is_to s) ms) (no_settle (is_to s) ms)) link same_asked same_dead;
            waits = waits_set d s r d.in_force said short same_asked same_dead h.waits;
          })

      opens_serves : Serves rest (opened_state u.net (asked_round u.rounds (inverse_rounds u.old u.rounds) d.stage) s (with_peer s (peer_after x (peer_at d s)) d))
      unfolding opened_state
      opens_serves =
          let ms = batch_of u.net d.first (asked_round u.rounds (inverse_rounds u.old u.rounds) d.stage) in
          let base : DriverState = with_peer s (peer_after x (peer_at d s)) d in
          let By : PeerState → Option ℕ → DriverState = λ r i. option_map_or (λ y. record (with_peer s (asks_again y r) base) { said = d.said ++ sends (is_to s) ms }) i base in
          let is : By (peer_at base s) (peer_at base s).asked ≡ By (peer_after x (peer_at d s)) (peer_at d s).asked =
          ap (λ (r : PeerState). By r r.asked) seen ∙ ap (By (peer_after x (peer_at d s))) same_asked in
          subst (Serves rest) (sym is) (go (peer_at d s).asked refl)
        where
          go : (i : Option ℕ) → (peer_at d s).asked ≡ i
              → Serves rest (option_map_or (λ y. record (with_peer s (asks_again y (peer_after x (peer_at d s))) (with_peer s (peer_after x (peer_at d s)) d)) { said = d.said ++ sends (is_to s) (batch_of u.net d.first (asked_round u.rounds (inverse_rounds u.old u.rounds) d.stage)) }) i (with_peer s (peer_after x (peer_at d s)) d))
          go None at = none_asked at
          go (Some y) at = some_asked y at

    -- ---- an answer

    module _ (a : AnswersNow (sides u d.stage s) (named_at u d.stage s) (way_of d.stage) (h.keeps.on s) (peer_at d s) (b.inbox s ++ arriving s d.said) out x) where
      abbrev round : List Change
      round = running_round u.rounds d.stage

      answers_last : (r : PeerState) → r.behind ≡ None → answers r ≡ record r { asked = None }
      unfolding answers
      answers_last r none = ap (λ (i : Option ℕ). let z : PeerState = option_map_or (λ y. record r { channel = after_request [] y r.channel; behind = None }) i (record r { asked = None }) in z) none

      answers_more : (r : PeerState) (y : ℕ) → r.behind ≡ Some y → answers r ≡ record r { channel = after_request [] y r.channel; behind = None }
      unfolding answers
      answers_more r y some = ap (λ (i : Option ℕ). let z : PeerState = option_map_or (λ y2. record r { channel = after_request [] y2 r.channel; behind = None }) i (record r { asked = None }) in z) some

      -- the last request was answered: what is logged, by how the round goes
      carried : (stage : Stage) → d.stage ≡ stage → Link (sides u d.stage s) (named_at u d.stage s) (way_of d.stage) (h.keeps.on s) (record (peer_after x (peer_at d s)) { asked = None }) (b.inbox s ++ arriving s d.said) out
          → Keeps u good old turnable sized (carried_out round s stage (with_peer s (record (peer_after x (peer_at d s)) { asked = None }) (with_peer s (peer_after x (peer_at d s)) d)))
          (around rest (carried_out round s stage (with_peer s (record (peer_after x (peer_at d s)) { asked = None }) (with_peer s (peer_after x (peer_at d s)) d))))
      unfolding made_state undone_state
      carried stage at link = by stage at
        where
          r : PeerState
          r = record (peer_after x (peer_at d s)) { asked = None }

          twice : (flags : List Bool) (said : List DriverOutput) → Keeps u good old turnable sized (record d { peers = set d.peers s.0 r; in_force = flags; said = said }) (around rest (record d { peers = set d.peers s.0 r; in_force = flags; said = said }))
              → Keeps u good old turnable sized (record d { peers = set (set d.peers s.0 (peer_after x (peer_at d s))) s.0 r; in_force = flags; said = said })
              (around rest (record d { peers = set (set d.peers s.0 (peer_after x (peer_at d s))) s.0 r; in_force = flags; said = said }))
          twice flags said k =
              subst (λ (l : List PeerState). Keeps u good old turnable sized (record d { peers = l; in_force = flags; said = said }) (around rest (record d { peers = l; in_force = flags; said = said })))
              (sym (set-set d.peers s.0 (peer_after x (peer_at d s)) r)) k

          put : (flags : List Bool) (words : List DriverOutput) → IsQuiet words → length flags ≡ switch_count u.net → ((t : SwitchId) → t.0 ≢ s.0 → get_or flags t.0 false ≡ get_or d.in_force t.0 false)
              → LogsAt u good old turnable sized d.stage s r (get_or flags s.0 false)
              → Keeps u good old turnable sized (record d { peers = set d.peers s.0 r; in_force = flags; said = d.said ++ words }) (around rest (record d { peers = set d.peers s.0 r; in_force = flags; said = d.said ++ words }))
          put flags words quiet count others logs =
              changed_to r flags (d.said ++ words) (λ t differs. came_same b t d.said words (quiet.none_come t)) (settles_same b d.said words quiet.none_settle)
              (subst (λ l. LinkAt u good old turnable sized d.stage h.keeps.on s r l out) (sym (came_same b s d.said words (quiet.none_come s))) link) (λ z is. absurd (let g : None ≡ Some z = is in cc)) same_dead count others logs

          silent : (logs : LogsAt u good old turnable sized d.stage s r (get_or d.in_force s.0 false))
              → Keeps u good old turnable sized (record d { peers = set d.peers s.0 r }) (around rest (record d { peers = set d.peers s.0 r }))
          silent logs = changed_to r d.in_force d.said (λ t differs. refl) refl link (λ z is. absurd (let g : None ≡ Some z = is in cc)) same_dead h.keeps.flags (λ t differs. refl) logs

          at_stage : (stage : Stage) → d.stage ≡ stage → (flag : Bool) → LogsAt u good old turnable sized stage s r flag → LogsAt u good old turnable sized d.stage s r flag
          at_stage stage at flag logs = subst (λ (y : Stage). LogsAt u good old turnable sized y s r flag) (sym at) logs

          f : DriverState
          f = with_peer s r (with_peer s (peer_after x (peer_at d s)) d)

          by : (stage : Stage) → d.stage ≡ stage → Keeps u good old turnable sized (carried_out round s stage f) (around rest (carried_out round s stage f))
          by (Settled k) at = twice d.in_force d.said (silent (at_stage (Settled k) at (get_or d.in_force s.0 false) (record { done = λ asked changed. absurd (let g : false ≡ true = changed in cc); firm = λ onward some. absurd onward })))
          by (Onward k) at =
              twice (set d.in_force s.0 true) (d.said ++ change_notes (is_change_at s) 0 round)
              (put (set d.in_force s.0 true) (change_notes (is_change_at s) 0 round) (quiet_changes (is_change_at s) 0 round) (length-set d.in_force s.0 true ∙ h.keeps.flags) (flag_away true)
              (at_stage (Onward k) at (get_or (set d.in_force s.0 true) s.0 false) (record { done = λ asked changed. flag_here true; firm = λ onward some. absurd (let g : false ≡ true = some in cc) })))
          by (Undone k) at =
              cond_both (get_or d.in_force s.0 false) (record f { in_force = set d.in_force s.0 false; said = d.said ++ undo_notes (is_change_at s) 0 round }) f (λ g. Keeps u good old turnable sized g (around rest g))
              (λ _. twice (set d.in_force s.0 false) (d.said ++ undo_notes (is_change_at s) 0 round)
              (put (set d.in_force s.0 false) (undo_notes (is_change_at s) 0 round) (quiet_undos (is_change_at s) 0 round) (length-set d.in_force s.0 false ∙ h.keeps.flags) (flag_away false)
              (at_stage (Undone k) at (get_or (set d.in_force s.0 false) s.0 false) (record { done = λ asked changed. flag_here false; firm = λ onward some. absurd onward }))))
              (λ off. twice d.in_force d.said (silent (at_stage (Undone k) at (get_or d.in_force s.0 false) (record { done = λ asked changed. off; firm = λ onward some. absurd onward }))))

      behind_some : (y : ℕ) → (peer_at d s).behind ≡ Some y
          → Serves rest (made_state round s (with_peer s (record (peer_after x (peer_at d s)) { channel = after_request [] y (peer_after x (peer_at d s)).channel; behind = None }) (with_peer s (peer_after x (peer_at d s)) d)))
      unfolding made_state
      behind_some y some =
          let r : PeerState = record (peer_after x (peer_at d s)) { channel = after_request [] y (peer_after x (peer_at d s)).channel; behind = None } in
          let notes = change_notes (is_change_at s) 0 round in
          let quiet = quiet_changes (is_change_at s) 0 round in
          let flags = set d.in_force s.0 true in
          let link = more_link (sides u d.stage s) (named_at u d.stage s) (way_of d.stage) (h.keeps.on s) (peer_after x (peer_at d s)) y (b.inbox s ++ arriving s d.said) out a.reply a.messages
          (λ onward. same_behind ∙ link_before.alone onward) (ap is_some same_asked ∙ a.asked) a.session (same_behind ∙ some) a.is_reply link_before.leads a.shape a.stream
          (ap option_list same_behind ∙ a.order) a.range in
          put_twice r flags (d.said ++ notes) (record {
            keeps = changed_to r flags (d.said ++ notes) (λ t differs. came_same b t d.said notes (quiet.none_come t)) (settles_same b d.said notes quiet.none_settle)
                (subst (λ l. LinkAt u good old turnable sized d.stage h.keeps.on s r l out) (sym (came_same b s d.said notes (quiet.none_come s))) link) (λ z is. sym same_asked ∙ is) same_dead
                (length-set d.in_force s.0 true ∙ h.keeps.flags) (flag_away true) (record { done = λ none changed. none_and_some (peer_at d s).asked (sym same_asked ∙ none) a.asked; firm = λ onward some2. absurd (let g : Some y ≡ None = sym some ∙ link_before.alone (onward_way d.stage onward) in cc) });
            waits = waits_set d s r flags (d.said ++ notes) short same_asked same_dead h.waits;
          })

      behind_none : (peer_at d s).behind ≡ None
          → Serves rest (settled_if_answered round (carried_out round s d.stage (with_peer s (record (peer_after x (peer_at d s)) { asked = None }) (with_peer s (peer_after x (peer_at d s)) d))))
      behind_none last =
          let r : PeerState = record (peer_after x (peer_at d s)) { asked = None } in
          let f : DriverState = with_peer s r (with_peer s (peer_after x (peer_at d s)) d) in
          let (idle, done) = last_idle (sides u d.stage s) (named_at u d.stage s) (way_of d.stage) (h.keeps.on s) (peer_after x (peer_at d s)) (b.inbox s ++ arriving s d.said) out a.reply a.messages
          (same_behind ∙ last) a.gone a.is_reply a.shape a.stream (ap option_list same_behind ∙ a.order) in
          let link = link_idle (sides u d.stage s) (named_at u d.stage s) (way_of d.stage) (h.keeps.on s) r (b.inbox s ++ arriving s d.said) out idle refl done in
          if_answered rest round (carried_out round s d.stage f) (carried d.stage refl link)

      answers_serve : Serves rest (answered_state (running_round u.rounds d.stage) s (with_peer s (peer_after x (peer_at d s)) d))
      unfolding answered_state
      answers_serve =
          let base : DriverState = with_peer s (peer_after x (peer_at d s)) d in
          let End : Bool → PeerState → DriverState = λ c r. cond c (made_state round s (with_peer s r base)) (settled_if_answered round (carried_out round s d.stage (with_peer s r base))) in
          let is : End (is_some (peer_at base s).behind) (answers (peer_at base s)) ≡ End (is_some (peer_after x (peer_at d s)).behind) (answers (peer_after x (peer_at d s))) =
          ap (λ (r : PeerState). End (is_some r.behind) (answers r)) seen in
          subst (Serves rest) (sym is) (go (peer_at d s).behind refl)
        where
          go : (i : Option ℕ) → (peer_at d s).behind ≡ i
              → Serves rest (cond (is_some (peer_after x (peer_at d s)).behind) (made_state round s (with_peer s (answers (peer_after x (peer_at d s))) (with_peer s (peer_after x (peer_at d s)) d)))
              (settled_if_answered round (carried_out round s d.stage (with_peer s (answers (peer_after x (peer_at d s))) (with_peer s (peer_after x (peer_at d s)) d)))))
          go None at =
              let base : DriverState = with_peer s (peer_after x (peer_at d s)) d in
              let End : Bool → PeerState → DriverState = λ c r. cond c (made_state round s (with_peer s r base)) (settled_if_answered round (carried_out round s d.stage (with_peer s r base))) in
              let r : PeerState = record (peer_after x (peer_at d s)) { asked = None } in
              let same : End (is_some (peer_after x (peer_at d s)).behind) (answers (peer_after x (peer_at d s))) ≡ End false r =
              ap (λ c. End c (answers (peer_after x (peer_at d s)))) (ap is_some (same_behind ∙ at)) ∙ ap (End false) (answers_last (peer_after x (peer_at d s)) (same_behind ∙ at)) in
              subst (Serves rest) (sym same) (behind_none at)
          go (Some y) at =
              let base : DriverState = with_peer s (peer_after x (peer_at d s)) d in
              let End : Bool → PeerState → DriverState = λ c r. cond c (made_state round s (with_peer s r base)) (settled_if_answered round (carried_out round s d.stage (with_peer s r base))) in
              let r : PeerState = record (peer_after x (peer_at d s)) { channel = after_request [] y (peer_after x (peer_at d s)).channel; behind = None } in
              let same : End (is_some (peer_after x (peer_at d s)).behind) (answers (peer_after x (peer_at d s))) ≡ End true r =
              ap (λ c. End c (answers (peer_after x (peer_at d s)))) (ap is_some (same_behind ∙ at)) ∙ ap (End true) (answers_more (peer_after x (peer_at d s)) y (same_behind ∙ at)) in
              subst (Serves rest) (sym same) (behind_some y at)

    -- ---- whatever the byte is

    pub heard_serves : Serves (record b { outbox = with_box s out b.outbox }) (heard_byte u.net u.rounds (inverse_rounds u.old u.rounds) s x d)
    heard_serves =
        let base : DriverState = with_peer s (peer_after x (peer_at d s)) d in
        let By : ByteOutcome → DriverState = λ came. heard_state u.net u.rounds (inverse_rounds u.old u.rounds) s came base in
        elim (heard_byte_of (sides u d.stage s) (named_at u d.stage s) (way_of d.stage) (h.keeps.on s) (peer_at d s) (b.inbox s ++ arriving s d.said) out x link_before) [
          | inl a ↦ subst (Serves rest) (sym (ap By a.heard)) (by_outcome a.came a.aside a.link)
          | inr more ↦ elim more [
            | inl o ↦ subst (Serves rest) (sym (ap By o.heard)) (opens_serves o)
            | inr a ↦ subst (Serves rest) (sym (ap By a.heard)) (answers_serve a)
          ]
        ]

  -- what comes from a dead switch does nothing
  dead_serves : (b : Around) (d : DriverState) (s : SwitchId) (out : List ℕ) → (peer_at d s).is_dead ≡ true → Serves b d → Serves (record b { outbox = with_box s out b.outbox }) d
  dead_serves b d s out dead h = record {
    keeps = outboxes_are d (around b d) (with_box s out b.outbox) h.keeps
        (λ t alive. box_away s out b.outbox t (λ e. both_ways (peer_at d s).is_dead (sym (ap (λ (n : ℕ). (get_or d.peers n first_peer).is_dead) e) ∙ alive) dead));
    waits = h.waits;
  }

  byte_serves : (b : Around) (d : DriverState) (s : SwitchId) → s.0 < switch_count u.net → (x : ℕ) (out : List ℕ) → b.outbox s ≡ x ∷ out → Serves b d
      → Serves (record b { outbox = with_box s out b.outbox }) (fed_byte u.net u.rounds (inverse_rounds u.old u.rounds) s x d)
  unfolding fed_byte
  byte_serves b d s here x out box h =
      cond_both (peer_at d s).is_dead d (heard_byte u.net u.rounds (inverse_rounds u.old u.rounds) s x d) (Serves (record b { outbox = with_box s out b.outbox }))
      (λ dead. dead_serves b d s out dead h) (λ alive. heard_serves b d s here x out box h alive)

  -- ---- bytes, one after the other

  pub bytes_serve : (b : Around) (d : DriverState) (s : SwitchId) → s.0 < switch_count u.net → (bytes out : List ℕ) → b.outbox s ≡ bytes ++ out → Serves b d
      → (f : SwitchId → List ℕ) × Serves (record b { outbox = f }) (state_after_bytes u.net u.rounds (inverse_rounds u.old u.rounds) s bytes d) × (f s ≡ out) × ((t : SwitchId) → t.0 ≢ s.0 → f t ≡ b.outbox t)
  bytes_serve b d s here [] out is h = (b.outbox, h, is, (λ t differs. refl))
  bytes_serve b d s here (x ∷ bytes) out is h =
      let next = byte_serves b d s here x (bytes ++ out) is h in
      let b2 : Around = record b { outbox = with_box s (bytes ++ out) b.outbox } in
      let (f, served, at, away) = bytes_serve b2 (fed_byte u.net u.rounds (inverse_rounds u.old u.rounds) s x d) s here bytes out (box_here s (bytes ++ out) b.outbox) next in
      (f, served, at, (λ t differs. away t differs ∙ box_away s (bytes ++ out) b.outbox t differs))

  -- ---- a session is opened again

  pub reopen_serves : (b : Around) (d : DriverState) (s : SwitchId) → s.0 < switch_count u.net → (peer_at d s).is_dead ≡ false → (inbox : SwitchId → List Message) (outbox : SwitchId → List ℕ) → d.said ≡ [] → inbox s ≡ [] → outbox s ≡ []
      → ((t : SwitchId) → t.0 ≢ s.0 → inbox t ≡ b.inbox t) → ((t : SwitchId) → t.0 ≢ s.0 → outbox t ≡ b.outbox t) → Serves b d → Serves (record b { inbox = inbox; outbox = outbox }) (reopened_driver s d)
  reopen_serves b d s here living inbox outbox silent none empty inboxes outboxes h =
      let p = peer_at d s in
      let q = reopened_peer p in
      let w = around b d in
      let said = d.said ++ Send s hello ∷ [] in
      let e : DriverState = record d { peers = set d.peers s.0 q; said = said } in
      let link = reopened_link (sides u d.stage s) (named_at u d.stage s) (way_of d.stage) (h.keeps.on s) p (w.inbox s) (w.outbox s) ((h.keeps.links s here).alive living) in
      let quiet : (t : SwitchId) → arriving t (d.said ++ Send s hello ∷ []) ≡ [] = λ t. arriving-append t d.said (Send s hello ∷ []) ∙ ap (λ l. arriving t l ++ arriving t (Send s hello ∷ [])) silent ∙ hello_quiet t in
      let was : (t : SwitchId) → arriving t d.said ≡ [] = λ t. ap (arriving t) silent in
      let count = h.keeps.peers in
      record {
        keeps = subst (λ n. Keeps u good old turnable sized e (record w { inbox = λ t. inbox t ++ arriving t said; outbox = outbox; settles = n })) (sym (settles_same b d.said (Send s hello ∷ []) refl))
            (keeps_peer u good old turnable sized d w s q d.in_force said (λ t. inbox t ++ arriving t said) outbox here h.keeps
            (λ t differs. ap (λ l. inbox t ++ l) (quiet t) ∙ ap (λ l. l ++ []) (inboxes t differs) ∙ ap (λ l. b.inbox t ++ l) (sym (was t))) outboxes
            (λ _. living) (beside_alive u good old turnable sized d.stage h.keeps.on s q (inbox s ++ arriving s said) (outbox s) refl
            (subst (λ l. LinkAt u good old turnable sized d.stage h.keeps.on s q l (outbox s)) (sym (ap (λ l. inbox s ++ l) (quiet s) ∙ ap (λ l. l ++ []) none))
            (subst (λ l. LinkAt u good old turnable sized d.stage h.keeps.on s q [] l) (sym empty) link)))
            (λ y is. h.keeps.asks s here y is) h.keeps.flags (λ t differs. refl) (let l = h.keeps.logs s here in record { done = l.done; firm = l.firm }));
        waits = waits_set d s q d.in_force said (omega arith) refl (sym living) h.waits;
      }
    where
      hello_quiet : (t : SwitchId) → arriving t (Send s hello ∷ []) ≡ []
      hello_quiet t = elim (eqb s.0 t.0) as (λ (c : Bool). filter_map inbox_message (cons_option (cond c (Some hello) None) []) ≡ []) [ true ↦ ap (λ (o : Option Message). cons_option o []) hello_stays | false ↦ refl ]
