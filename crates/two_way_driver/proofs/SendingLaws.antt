-- What is sent to a switch: by each call, and in all.
use Rattle.std.proofs.Common.{◌≡◌, ◌≢◌, ℕ, zero, suc, ◌+◌, ◌<◌, ◌≤◌, Bool, true, false, cond, eqb, ltb, List, [], ◌∷◌, ◌++◌, length, map, take, drop, replicate, set, get_or, get_or-set_same, get_or-set_other, refl, sym, ap, ◌∙◌, subst, inl, inr, append_assoc, append-nil, length-set, arith}
use Rattle.std.specs.Prelude.{Option, Some, None, is_some, is_none, flat_map}
use Rattle.std.specs.List.{AllByRecursion, cons_option}
use Rattle.std.specs.Option.{option_map_or}
use Rattle.std.proofs.lemmas.Bool.{cases_Bool, cases_eq, cond_both, cond-true, cond-false, eqb-true, eq-eqb, ne_eqb, le-ltb}
use Rattle.std.proofs.lemmas.List.{length-replicate, length-map, map-append, drop_at, take_at}
use Rattle.net_base.specs.declared.ids.SwitchId.{SwitchId}
use Rattle.topology.specs.Networks.{Network, switch_count}
use Rattle.update_model.specs.Changes.{round_after}
use Rattle.update_model.specs.declared.Change.{Change}
use Rattle.round_messages.specs.Requests.{is_changed, switch_numbered}
use Rattle.switch_session.specs.Fronts.{front_of, type_in}
use Rattle.switch_session.specs.Channels.{ChannelState, hello, is_open, is_failed, echo_reply, after_byte, after_request}
use Rattle.switch_session.specs.Laws.{AreRequests, ReadsAll}
use Rattle.switch_session.specs.declared.Session.{Session}
use Rattle.switch_session.specs.declared.Session.TheVariants.{Waiting, Open, Failed}
use Rattle.switch_session.specs.declared.fronts.Front.{Front}
use Rattle.switch_session.specs.declared.fronts.Front.TheVariants.{Short, Fault, Message}
use Rattle.switch_session.proofs.FrontLaws.{fault_grows, message_grows}
use Rattle.switch_session.proofs.RequestLaws.{requests_as, requests_failed, requests_both, reads_bytes}
use Rattle.switch_session.proofs.TalkLaws.{front_nil}
use Rattle.turned_rounds.specs.Batches.{next_if, xid_behind, batch_of}
use Rattle.two_way_driver.specs.PeerStates.{PeerState}
use Rattle.two_way_driver.specs.Peers.{first_peer, opened_anew, heard_by, kept_of, peer_after, queued_peer, asks, asks_again, answers, reopened_peer, dead_peer, settled_peer}
use Rattle.two_way_driver.specs.Drivers.{DriverState, peer_at, with_peer, with_said, sends, is_to_open, is_to, asked_from, sent_out, settled_in, all_answered, settled_if_answered, undo_notes, is_change_at, made_state, undone_state, carried_out, answered_state, sent_again, opened_state, running_round, asked_round, heard_state, heard_byte, fed_byte, state_after_bytes, first_words, first_driver, flagged_state, started_in, turned_in, reopened_driver, dead_driver}
use Rattle.two_way_driver.specs.Calls.{DriverView, with_state, silent_view, start_fault, back_fault, started_view, turned_view}
use Rattle.two_way_driver.specs.Laws.{Call, Start, Back, Reopen, Feed, Dead, IsCall, after_call, after_calls, driver_after}
use Rattle.two_way_driver.specs.Words.{after_call_anew, said_by_each, joined_words}
use Rattle.two_way_driver.specs.Sending.{texts_to, texts_for, session_at, start_asks, back_asks, asked_by, asking_messages, unanswered_messages, HasHello, Answers, Sends}
use Rattle.two_way_driver.specs.declared.Stage.{Stage}
use Rattle.two_way_driver.specs.declared.Stage.TheVariants.{Settled, Onward, Undone}
use Rattle.two_way_driver.specs.declared.DriverEvent.TheVariants as logged
use Rattle.two_way_driver.specs.declared.DriverOutput.{DriverOutput}
use Rattle.two_way_driver.specs.declared.DriverOutput.TheVariants.{Send, Log}
use Rattle.two_way_driver.specs.declared.DriverOutput.TheVariants as said
use Rattle.two_way_driver.specs.declared.peers.ByteOutcome.{ByteOutcome}
use Rattle.two_way_driver.specs.declared.peers.ByteOutcome.TheVariants.{Nothing, Opened, Answered, Replied, Broke}
use Rattle.two_way_driver.proofs.ReplyLaws.{only_reply}
use Rattle.two_way_driver.proofs.ServingLaws.{length-asked}
use Rattle.two_way_driver.proofs.WordLaws.{calls_said}
use Rattle.two_way_driver.proofs.AnswerLaws.{HeardAs, IsPastHello, no_requests, heard_open, still_waits, nothing_heard, Breaks, breaks_at_fault, breaks_at_other, opens, opened_heard, ended, none_left, failed_byte_is, failed_hears_nothing}
use Rattle.two_way_driver.proofs.PeerLaws.{settled_at}
use Rattle.two_way_driver.proofs.QuietLaws.{texts-append, quiet, Quiet, if_answered_quiet, answered_quiet, texts_here, texts_away, texts_open}

-- ---- what stays of the peers

carried_peers : (round : List Change) (t : SwitchId) (stage : Stage) (d : DriverState) → (carried_out round t stage d).peers ≡ d.peers
unfolding made_state undone_state
carried_peers round t (Settled k) d = refl
carried_peers round t (Onward k) d = refl
carried_peers round t (Undone k) d =
    cond_both (get_or d.in_force t.0 false) (record d { in_force = set d.in_force t.0 false; said = d.said ++ undo_notes (is_change_at t) 0 round }) d (λ (e : DriverState). e.peers ≡ d.peers) (λ _. refl) (λ _. refl)

-- a channel with the same session and the same unread bytes
record ReadsAs (a b : ChannelState) : Type 0 where
  session : b.session ≡ a.session
  unread : b.unread ≡ a.unread

-- a switch as another one, but for what was sent and asked
record Alike (p q : PeerState) : Type 0 where
  reads : ReadsAs p.channel q.channel
  dead : q.is_dead ≡ p.is_dead

alike_same : (p : PeerState) → Alike p p
alike_same p = record { reads = record { session = refl; unread = refl }; dead = refl }

alike_then : (p q r : PeerState) → Alike p q → Alike q r → Alike p r
alike_then p q r a b =
    let first = a.reads in
    let behind = b.reads in
    record { reads = record { session = behind.session ∙ first.session; unread = behind.unread ∙ first.unread }; dead = b.dead ∙ a.dead }

alike_answers : (p : PeerState) → Alike p (answers p)
unfolding answers
alike_answers p =
    elim p.behind as (λ (o : Option ℕ). Alike p (option_map_or (λ x. record p { channel = after_request [] x p.channel; behind = None }) o (record p { asked = None }))) [
      | None ↦ record { reads = record { session = refl; unread = refl }; dead = refl }
      | Some x ↦ record { reads = record { session = refl; unread = refl }; dead = refl }
    ]

alike_asks : (x : ℕ) (p : PeerState) → Alike p (asks x p)
unfolding asks
alike_asks x p =
    let q : PeerState = record p { asked = Some x } in
    cond_both (is_open p.channel.session) (queued_peer x q) q (Alike p)
    (λ _. cond_both (is_some p.channel.outstanding) (record q { behind = Some x }) (record q { channel = after_request [] x p.channel }) (Alike p)
    (λ _. record { reads = record { session = refl; unread = refl }; dead = refl }) (λ _. record { reads = record { session = refl; unread = refl }; dead = refl }))
    (λ _. record { reads = record { session = refl; unread = refl }; dead = refl })

alike_again : (x : ℕ) (p : PeerState) → Alike p (asks_again x p)
alike_again x p = record { reads = record { session = refl; unread = refl }; dead = refl }

alike_settled : (p : PeerState) → Alike p (settled_peer p)
alike_settled p = cond_both p.is_dead (record p { asked = None }) p (Alike p) (λ _. record { reads = record { session = refl; unread = refl }; dead = refl }) (λ _. alike_same p)

-- each switch is as it was
record AllAlike (old new : List PeerState) : Type 0 where
  count : length new ≡ length old
  each : (i : ℕ) → Alike (get_or old i first_peer) (get_or new i first_peer)

all_same : (peers : List PeerState) → AllAlike peers peers
all_same peers = record { count = refl; each = λ i. alike_same (get_or peers i first_peer) }

all_then : (a b c : List PeerState) → AllAlike a b → AllAlike b c → AllAlike a c
all_then a b c x y = record { count = y.count ∙ x.count; each = λ i. alike_then (get_or a i first_peer) (get_or b i first_peer) (get_or c i first_peer) (x.each i) (y.each i) }

all_set : (peers : List PeerState) (n : ℕ) (q : PeerState) → n < length peers → Alike (get_or peers n first_peer) q → AllAlike peers (set peers n q)
all_set peers n q less alike = record {
  count = length-set peers n q;
  each = λ i. elim (cases_eq i n) [
    | inl same ↦ subst (λ (j : ℕ). Alike (get_or peers j first_peer) (get_or (set peers n q) j first_peer)) (sym same)
        (subst (Alike (get_or peers n first_peer)) (sym (get_or-set_same peers n q first_peer less)) alike)
    | inr differs ↦ subst (Alike (get_or peers i first_peer)) (sym (get_or-set_other peers n i q first_peer differs)) (alike_same (get_or peers i first_peer))
  ];
}

all_settled : (peers : List PeerState) → AllAlike peers (map settled_peer peers)
all_settled peers = record {
  count = length-map peers settled_peer;
  each = λ i. subst (Alike (get_or peers i first_peer)) (sym (settled_at peers i)) (alike_settled (get_or peers i first_peer));
}

settled_alike : (round : List Change) (stage : Stage) (d : DriverState) → AllAlike d.peers (settled_in round stage d).peers
unfolding settled_in
settled_alike round (Settled k) d = all_same d.peers
settled_alike round (Onward k) d = all_settled d.peers
settled_alike round (Undone k) d = all_settled d.peers

if_answered_alike : (round : List Change) (d : DriverState) → AllAlike d.peers (settled_if_answered round d).peers
unfolding settled_if_answered
if_answered_alike round d =
    cond_both (all_answered d.peers) (settled_in round d.stage d) d (λ (e : DriverState). AllAlike d.peers e.peers) (λ _. settled_alike round d.stage d) (λ _. all_same d.peers)

answered_alike : (round : List Change) (t : SwitchId) (d : DriverState) → t.0 < length d.peers → AllAlike d.peers (answered_state round t d).peers
unfolding answered_state made_state
answered_alike round t d less =
    let e = with_peer t (answers (peer_at d t)) d in
    let c = carried_out round t e.stage e in
    let put : AllAlike d.peers e.peers = all_set d.peers t.0 (answers (peer_at d t)) less (alike_answers (peer_at d t)) in
    cond_both (is_some (peer_at d t).behind) (made_state round t e) (settled_if_answered round c) (λ (x : DriverState). AllAlike d.peers x.peers) (λ _. put)
    (λ _. all_then d.peers e.peers (settled_if_answered round c).peers put
    (subst (λ (l : List PeerState). AllAlike l (settled_if_answered round c).peers) (carried_peers round t e.stage e) (if_answered_alike round c)))

module _ (net : Network) (rounds inverses : List (List Change)) (s : SwitchId) where
  opened_alike : (changes : List Change) (e : DriverState) → s.0 < length e.peers → AllAlike e.peers (opened_state net changes s e).peers
  unfolding opened_state
  opened_alike changes e less =
      elim (peer_at e s).asked as (λ (o : Option ℕ). AllAlike e.peers (option_map_or (λ x. sent_again net changes s x e) o e).peers) [
        | None ↦ all_same e.peers
        | Some x ↦ all_set e.peers s.0 (asks_again x (peer_at e s)) less (alike_again x (peer_at e s))
      ]

  heard_alike : (came : ByteOutcome) (e : DriverState) → s.0 < length e.peers → AllAlike e.peers (heard_state net rounds inverses s came e).peers
  heard_alike Nothing e less = all_same e.peers
  heard_alike Opened e less = opened_alike (asked_round rounds inverses e.stage) e less
  heard_alike Answered e less = answered_alike (running_round rounds e.stage) s e less
  heard_alike (Replied text) e less = all_same e.peers
  heard_alike (Broke cause) e less = all_same e.peers

-- ---- bytes that come from a switch, and what is sent to others

module _ (net : Network) (rounds inverses : List (List Change)) (t s : SwitchId) (ne : t.0 ≢ s.0) where
  opened_away : (changes : List Change) (d : DriverState) → Quiet s d (opened_state net changes t d)
  unfolding opened_state
  opened_away changes d =
      elim (peer_at d t).asked as (λ (o : Option ℕ). Quiet s d (option_map_or (λ x. sent_again net changes t x d) o d)) [
        | None ↦ refl
        | Some x ↦ quiet s d.said (sends (is_to t) (batch_of net d.first changes)) (texts_away s t (batch_of net d.first changes) ne)
      ]

  pub heard_away : (came : ByteOutcome) (d : DriverState) → Quiet s d (heard_state net rounds inverses t came d)
  heard_away Nothing d = refl
  heard_away Opened d = opened_away (asked_round rounds inverses d.stage) d
  heard_away Answered d = answered_quiet s (running_round rounds d.stage) t d
  heard_away (Replied text) d = quiet s d.said (Send t text ∷ []) (ap (λ b. cons_option (cond b (Some text) None) []) (ne_eqb t.0 s.0 ne))
  heard_away (Broke cause) d = quiet s d.said (said.Failed t cause ∷ []) refl

  byte_away : (b : ℕ) (d : DriverState) → Quiet s d (fed_byte net rounds inverses t b d)
  unfolding fed_byte
  byte_away b d =
      let p = peer_at d t in
      cond_both p.is_dead d (heard_byte net rounds inverses t b d) (Quiet s d) (λ _. refl) (λ _. heard_away (heard_by p.channel (after_byte b p.channel)) (with_peer t (peer_after b p) d))

  fed_away : (bytes : List ℕ) (d : DriverState) → Quiet s d (state_after_bytes net rounds inverses t bytes d)
  fed_away [] d = refl
  fed_away (b ∷ bytes) d = fed_away bytes (fed_byte net rounds inverses t b d) ∙ byte_away b d

-- ---- one byte from the switch

module _ (net : Network) (rounds inverses : List (List Change)) (s : SwitchId) where
  abbrev channel_of : DriverState → ChannelState
  channel_of d = (peer_at d s).channel

  abbrev next : ℕ → DriverState → DriverState
  next b d = heard_byte net rounds inverses s b d

  -- what wasn't answered
  abbrev again : DriverState → List (List ℕ)
  again d = cond (is_some (peer_at d s).asked) (texts_for s (batch_of net d.first (asked_round rounds inverses d.stage))) []

  heard_texts : (came : ByteOutcome) (texts : List (List ℕ)) (e : DriverState) → HeardAs came texts → texts_to s (heard_state net rounds inverses s came e).said ≡ texts_to s e.said ++ texts
  heard_texts Nothing texts e seen = sym (append-nil (texts_to s e.said)) ∙ ap (λ (l : List (List ℕ)). texts_to s e.said ++ l) (sym seen)
  heard_texts Opened texts e seen = absurd seen
  heard_texts Answered texts e seen = answered_quiet s (running_round rounds e.stage) s e ∙ sym (append-nil (texts_to s e.said)) ∙ ap (λ (l : List (List ℕ)). texts_to s e.said ++ l) (sym seen)
  heard_texts (Replied text) texts e seen =
      texts-append s e.said (Send s text ∷ []) ∙ ap (λ b. texts_to s e.said ++ cons_option (cond b (Some text) None) []) (eq-eqb s.0 s.0 refl) ∙ ap (λ (l : List (List ℕ)). texts_to s e.said ++ l) (sym seen)
  heard_texts (Broke cause) texts e seen = quiet s e.said (said.Failed s cause ∷ []) refl ∙ sym (append-nil (texts_to s e.said)) ∙ ap (λ (l : List (List ℕ)). texts_to s e.said ++ l) (sym seen)

  opened_texts : (changes : List Change) (e : DriverState)
      → texts_to s (opened_state net changes s e).said ≡ texts_to s e.said ++ cond (is_some (peer_at e s).asked) (texts_for s (batch_of net e.first changes)) []
  unfolding opened_state
  opened_texts changes e =
      let ms = batch_of net e.first changes in
      elim (peer_at e s).asked as (λ (o : Option ℕ). texts_to s (option_map_or (λ x. sent_again net changes s x e) o e).said ≡ texts_to s e.said ++ cond (is_some o) (texts_for s ms) []) [
        | None ↦ sym (append-nil (texts_to s e.said))
        | Some x ↦ texts-append s e.said (sends (is_to s) ms) ∙ ap (λ (l : List (List ℕ)). texts_to s e.said ++ l) (texts_here s ms)
      ]

  module _ (b : ℕ) (d : DriverState) (less : s.0 < length d.peers) (reads : ReadsAll (channel_of d)) where
    abbrev after : ChannelState
    after = after_byte b (channel_of d)

    abbrev put : DriverState
    put = with_peer s (peer_after b (peer_at d s)) d

    put_is : peer_at put s ≡ peer_after b (peer_at d s)
    put_is = get_or-set_same d.peers s.0 (peer_after b (peer_at d s)) first_peer less

    put_count : length put.peers ≡ length d.peers
    put_count = length-set d.peers s.0 (peer_after b (peer_at d s))

    kept_reads : ReadsAs after (kept_of (channel_of d) after)
    kept_reads =
        elim (cases_Bool (is_failed (channel_of d).session)) [
          | inl failed ↦ subst (λ (x : ChannelState). ReadsAs x (kept_of (channel_of d) x)) (sym (failed_byte_is b (channel_of d) failed)) (failed_kept (channel_of d))
          | inr going ↦ (let keeps = only_reply b (channel_of d) (record { going = going; short = reads going }) in record { session = keeps.session; unread = keeps.unread })
        ]
      where
        failed_kept : (ch : ChannelState) → ReadsAs ch (kept_of ch ch)
        failed_kept ch =
            let same : ltb (length ch.sent) (length ch.sent) ≡ false = le-ltb (length ch.sent) (length ch.sent) (omega arith) in
            subst (λ b. ReadsAs ch (cond b (opened_anew ch.outstanding) ch)) (sym same) (record { session = refl; unread = refl })

    put_reads : ReadsAs after (channel_of put)
    unfolding peer_after
    put_reads = subst (λ (p : PeerState). ReadsAs after p.channel) (sym put_is) kept_reads

    put_asked : (peer_at put s).asked ≡ (peer_at d s).asked
    unfolding peer_after
    put_asked = ap (λ (p : PeerState). p.asked) put_is

    touches : AllAlike put.peers (next b d).peers
    touches = heard_alike net rounds inverses s (heard_by (channel_of d) after) put (let count = put_count in omega arith)

    next_count : length (next b d).peers ≡ length d.peers
    next_count = touches.count ∙ put_count

    next_dead : (peer_at (next b d) s).is_dead ≡ (peer_at d s).is_dead
    unfolding peer_after
    next_dead = (touches.each s.0).dead ∙ ap (λ (p : PeerState). p.is_dead) put_is

    next_reads : ReadsAs after (channel_of (next b d))
    next_reads =
        let from = (touches.each s.0).reads in
        let first = put_reads in
        record { session = from.session ∙ first.session; unread = from.unread ∙ first.unread }

    next_reading : ReadsAll (channel_of (next b d))
    next_reading going =
        let seen = next_reads in
        ap front_of seen.unread ∙ reads_bytes (b ∷ []) (channel_of d) reads (ap is_failed (sym seen.session) ∙ going)

    next_texts : (texts : List (List ℕ)) → HeardAs (heard_by (channel_of d) after) texts → texts_to s (next b d).said ≡ texts_to s d.said ++ texts
    next_texts texts seen = heard_texts (heard_by (channel_of d) after) texts put seen

    next_nothing : heard_by (channel_of d) after ≡ Nothing → next b d ≡ put
    next_nothing is = ap (λ (h : ByteOutcome). heard_state net rounds inverses s h put) is

    next_opened : heard_by (channel_of d) after ≡ Opened → texts_to s (next b d).said ≡ texts_to s d.said ++ again d
    next_opened is =
        ap (λ (h : ByteOutcome). texts_to s (heard_state net rounds inverses s h put).said) is ∙ opened_texts (asked_round rounds inverses d.stage) put
        ∙ ap (λ (o : Option ℕ). texts_to s d.said ++ cond (is_some o) (texts_for s (batch_of net d.first (asked_round rounds inverses d.stage))) []) put_asked

  -- ---- bytes from the switch

  -- a switch that isn't dead, after bytes
  abbrev heard_bytes : List ℕ → DriverState → DriverState
  heard_bytes [] d = d
  heard_bytes (b ∷ bytes) d = heard_bytes bytes (next b d)

  byte_alive : (b : ℕ) (d : DriverState) → (peer_at d s).is_dead ≡ false → fed_byte net rounds inverses s b d ≡ next b d
  unfolding fed_byte
  byte_alive b d alive = cond-false (peer_at d s).is_dead d (next b d) alive

  byte_dead : (b : ℕ) (d : DriverState) → (peer_at d s).is_dead ≡ true → fed_byte net rounds inverses s b d ≡ d
  unfolding fed_byte
  byte_dead b d dead = cond-true (peer_at d s).is_dead d (next b d) dead

  fed_alive : (bytes : List ℕ) (d : DriverState) → s.0 < length d.peers → ReadsAll (channel_of d) → (peer_at d s).is_dead ≡ false → state_after_bytes net rounds inverses s bytes d ≡ heard_bytes bytes d
  fed_alive [] d less reads alive = refl
  fed_alive (b ∷ bytes) d less reads alive =
      let count = next_count b d less reads in
      ap (state_after_bytes net rounds inverses s bytes) (byte_alive b d alive)
      ∙ fed_alive bytes (next b d) (omega arith) (next_reading b d less reads) (next_dead b d less reads ∙ alive)

  fed_dead : (bytes : List ℕ) (d : DriverState) → (peer_at d s).is_dead ≡ true → state_after_bytes net rounds inverses s bytes d ≡ d
  fed_dead [] d dead = refl
  fed_dead (b ∷ bytes) d dead = ap (state_after_bytes net rounds inverses s bytes) (byte_dead b d dead) ∙ fed_dead bytes d dead

  -- a failed session says nothing, and stays
  record IsStill (bytes : List ℕ) (d : DriverState) : Type 0 where
    texts : texts_to s (heard_bytes bytes d).said ≡ texts_to s d.said
    failed : is_failed (channel_of (heard_bytes bytes d)).session ≡ true

  fed_failed : (bytes : List ℕ) (d : DriverState) → s.0 < length d.peers → is_failed (channel_of d).session ≡ true → IsStill bytes d
  fed_failed [] d less e = record { texts = refl; failed = e }
  fed_failed (b ∷ bytes) d less e =
      let reads : ReadsAll (channel_of d) = λ going. absurd (let f : true ≡ false = sym e ∙ going in cc) in
      let seen = next_reads b d less reads in
      let count = next_count b d less reads in
      let still : is_failed (channel_of (next b d)).session ≡ true = ap is_failed seen.session ∙ ap (λ (x : ChannelState). is_failed x.session) (failed_byte_is b (channel_of d) e) ∙ e in
      let rest = fed_failed bytes (next b d) (omega arith) still in
      record { texts = rest.texts ∙ next_texts b d less reads [] (failed_hears_nothing b (channel_of d) e) ∙ append-nil (texts_to s d.said); failed = rest.failed }

  -- an open session is replied on
  record Served (came : List ℕ) (bytes : List ℕ) (d : DriverState) : Type 0 where
    more : List (List ℕ)
    texts : texts_to s (heard_bytes bytes d).said ≡ texts_to s d.said ++ map echo_reply more
    are : AreRequests came (channel_of (heard_bytes bytes d)) more

  fed_open : (bytes : List ℕ) (d : DriverState) → s.0 < length d.peers → (channel_of d).session ≡ Open → ReadsAll (channel_of d) → Served ((channel_of d).unread ++ bytes) bytes d
  fed_open [] d less is reads = record {
    more = [];
    texts = sym (append-nil (texts_to s d.said));
    are = no_requests ((channel_of d).unread ++ []) (channel_of d) (λ _. append-nil (channel_of d).unread);
  }
  fed_open (b ∷ bytes) d less is reads =
      let ch = channel_of d in
      let e = next b d in
      let first = heard_open b ch is (reads (ap is_failed is)) in
      let seen = next_reads b d less reads in
      let count = next_count b d less reads in
      let texts = next_texts b d less reads (map echo_reply first.requests) first.heard in
      let come = ch.unread ++ b ∷ [] in
      let row : come ++ bytes ≡ ch.unread ++ b ∷ bytes = append_assoc ch.unread (b ∷ []) bytes in
      let are : AreRequests come (channel_of e) first.requests = requests_as come (after_byte b ch) (channel_of e) first.requests seen.session seen.unread first.are in
      elim (channel_of e).session as (λ (x : Session). (channel_of e).session ≡ x → IsPastHello x → Served (ch.unread ++ b ∷ bytes) (b ∷ bytes) d) [
        | Waiting ↦ λ at past. absurd past
        | Open ↦ λ at past. (
            let rest = fed_open bytes e (omega arith) at (next_reading b d less reads) in
            record {
              more = first.requests ++ rest.more;
              texts =
                  rest.texts ∙ ap (λ (l : List (List ℕ)). l ++ map echo_reply rest.more) texts ∙ append_assoc (texts_to s d.said) (map echo_reply first.requests) (map echo_reply rest.more)
                  ∙ ap (λ (l : List (List ℕ)). texts_to s d.said ++ l) (sym (map-append echo_reply first.requests rest.more));
              are = subst (λ (l : List ℕ). AreRequests l (channel_of (heard_bytes bytes e)) (first.requests ++ rest.more)) row
                  (requests_both come bytes (channel_of e) (channel_of (heard_bytes bytes e)) first.requests rest.more (ap is_failed at) are rest.are);
            })
        | Failed c ↦ λ at past. (
            let rest = fed_failed bytes e (omega arith) (ap is_failed at) in
            record {
              more = first.requests;
              texts = rest.texts ∙ texts;
              are = subst (λ (l : List ℕ). AreRequests l (channel_of (heard_bytes bytes e)) first.requests) row
                  (requests_failed come bytes (channel_of e) (channel_of (heard_bytes bytes e)) first.requests rest.failed are);
            })
      ] refl (subst IsPastHello (sym seen.session) first.session)

  -- a waiting session opens, or stays closed
  record Opens (came : List ℕ) (before : List (List ℕ)) (bytes : List ℕ) (d : DriverState) : Type 0 where
    more : List (List ℕ)
    texts : texts_to s (heard_bytes bytes d).said ≡ texts_to s d.said ++ more
    answers : Answers Waiting before came (channel_of (heard_bytes bytes d)) more

  closed : (came : List ℕ) (before : List (List ℕ)) (bytes : List ℕ) (d : DriverState) → texts_to s (heard_bytes bytes d).said ≡ texts_to s d.said → ((n : ℕ) → ¬ HasHello came n) → Opens came before bytes d
  closed came before bytes d same none = record { more = []; texts = same ∙ sym (append-nil (texts_to s d.said)); answers = inl (record { none = none; texts_are = refl }) }

  fed_waiting : (bytes : List ℕ) (d : DriverState) → s.0 < length d.peers → (channel_of d).session ≡ Waiting → ReadsAll (channel_of d) → Opens ((channel_of d).unread ++ bytes) (again d) bytes d
  fed_waiting [] d less is reads =
      let ch = channel_of d in
      closed (ch.unread ++ []) (again d) [] d refl
      (λ n has. let f : Short ≡ Message n = sym (reads (ap is_failed is)) ∙ ap front_of (sym (append-nil ch.unread)) ∙ has.front in absurd (cc))
  fed_waiting (b ∷ bytes) d less is reads =
      let ch = channel_of d in
      let e = next b d in
      let short = reads (ap is_failed is) in
      let seen = next_reads b d less reads in
      let count = next_count b d less reads in
      let come = ch.unread ++ b ∷ [] in
      let row : come ++ bytes ≡ ch.unread ++ b ∷ bytes = append_assoc ch.unread (b ∷ []) bytes in
      let broken : Breaks b ch is short → ((n : ℕ) → ¬ HasHello (come ++ bytes) n) → Opens (ch.unread ++ b ∷ bytes) (again d) (b ∷ bytes) d = λ breaks none. (
      let rest = fed_failed bytes e (omega arith) (ap is_failed seen.session ∙ breaks.failed) in
      closed (ch.unread ++ b ∷ bytes) (again d) (b ∷ bytes) d (rest.texts ∙ next_texts b d less reads [] breaks.heard ∙ append-nil (texts_to s d.said)) (subst (λ (l : List ℕ). (n : ℕ) → ¬ HasHello l n) row none)) in
      elim (front_of come) as (λ (f : Front). front_of come ≡ f → Opens (ch.unread ++ b ∷ bytes) (again d) (b ∷ bytes) d) [
        | Short ↦ λ at. (
            let same : e ≡ put b d less reads = next_nothing b d less reads (nothing_heard b ch is short at) in
            let kept : ReadsAs (record ch { unread = come }) (channel_of e) = subst (λ (x : ChannelState). ReadsAs x (channel_of e)) (still_waits b ch is short at) seen in
            let rest = fed_waiting bytes e (omega arith) (kept.session ∙ is) (next_reading b d less reads) in
            let still : again e ≡ again d =
            ap again same ∙ ap (λ (o : Option ℕ). cond (is_some o) (texts_for s (batch_of net d.first (asked_round rounds inverses d.stage))) []) (put_asked b d less reads) in
            let these : (channel_of e).unread ++ bytes ≡ ch.unread ++ b ∷ bytes = ap (λ (l : List ℕ). l ++ bytes) kept.unread ∙ row in
            let quiet_here : texts_to s e.said ≡ texts_to s d.said = ap (λ (x : DriverState). texts_to s x.said) same in
            record {
              more = rest.more;
              texts = rest.texts ∙ ap (λ (l : List (List ℕ)). l ++ rest.more) quiet_here;
              answers = subst (λ (l : List ℕ). Answers Waiting (again d) l (channel_of (heard_bytes bytes e)) rest.more) these
                  (subst (λ (l : List (List ℕ)). Answers Waiting l ((channel_of e).unread ++ bytes) (channel_of (heard_bytes bytes e)) rest.more) still rest.answers);
            })
        | Fault c ↦ λ at. broken (breaks_at_fault b ch is short c at) (λ n has. let f : Fault c ≡ Message n = sym (fault_grows come bytes c at) ∙ has.front in absurd (cc))
        | Message n ↦ λ at. (
            let grown : front_of (come ++ bytes) ≡ Message n = message_grows come bytes n at in
            let whole : length come ≡ n = ended b ch is short n at in
            let first : take n (come ++ bytes) ≡ take n come = take_at come bytes n whole ∙ sym (ap (take n) (sym (append-nil come)) ∙ take_at come [] n whole) in
            let rest_is : drop n (come ++ bytes) ≡ bytes = drop_at come bytes n whole in
            elim (cases_Bool (eqb (type_in (take n come)) 0)) [
              | inl greets ↦ (
                  let now : ReadsAs (record ch { session = Open; unread = drop n come }) (channel_of e) = subst (λ (x : ChannelState). ReadsAs x (channel_of e)) (opens b ch is short n at greets) seen in
                  let rest = fed_open bytes e (omega arith) now.session (next_reading b d less reads) in
                  let none : (channel_of e).unread ≡ [] = now.unread ∙ none_left b ch is short n at in
                  let these : (channel_of e).unread ++ bytes ≡ drop n (ch.unread ++ b ∷ bytes) = ap (λ (l : List ℕ). l ++ bytes) none ∙ sym rest_is ∙ ap (drop n) row in
                  record {
                    more = again d ++ map echo_reply rest.more;
                    texts =
                        rest.texts ∙ ap (λ (l : List (List ℕ)). l ++ map echo_reply rest.more) (next_opened b d less reads (opened_heard b ch is short n at greets))
                        ∙ append_assoc (texts_to s d.said) (again d) (map echo_reply rest.more);
                    answers = inr (record {
                      n = n;
                      has = record {
                        front = ap front_of (sym row) ∙ grown;
                        hello = ap (λ (l : List ℕ). type_in (take n l)) (sym row) ∙ ap type_in first ∙ eqb-true (type_in (take n come)) 0 greets;
                      };
                      replies = map echo_reply rest.more;
                      replied = record {
                        requests = rest.more;
                        are = subst (λ (l : List ℕ). AreRequests l (channel_of (heard_bytes bytes e)) rest.more) these rest.are;
                        texts_are = refl;
                      };
                      texts_are = refl;
                    });
                  })
              | inr other ↦ broken (breaks_at_other b ch is short n at other) (λ m has.
                  let f : Message m ≡ Message n = sym has.front ∙ grown in
                  let same : m ≡ n = cc in
                  let zero_type : type_in (take n come) ≡ 0 = sym (ap type_in first) ∙ ap (λ (k : ℕ). type_in (take k (come ++ bytes))) (sym same) ∙ has.hello in
                  let g : true ≡ false = sym (eq-eqb (type_in (take n come)) 0 zero_type) ∙ other in
                  absurd (cc))
            ])
      ] refl

-- ---- what every driver keeps: so many peers, on whose channels no whole message is unread; and the session of a dead one isn't open

record PeerReads (p : PeerState) : Type 0 where
  all : ReadsAll p.channel
  shut : p.is_dead ≡ true → is_open p.channel.session ≡ false

abbrev AllRead : List PeerState → Type 0
AllRead peers = AllByRecursion PeerReads peers

never_dead : {A : Type 0} → false ≡ true → A
never_dead e = absurd (cc)

read_first : PeerReads first_peer
read_first = record { all = λ going. front_nil; shut = λ e. never_dead e }

read_at : (peers : List PeerState) (i : ℕ) → AllRead peers → PeerReads (get_or peers i first_peer)
read_at [] i h = read_first
read_at (p ∷ peers) zero h = h.0
read_at (p ∷ peers) (suc i) h = read_at peers i h.1

read_set : (peers : List PeerState) (i : ℕ) (q : PeerState) → AllRead peers → PeerReads q → AllRead (set peers i q)
read_set [] i q h r = tt
read_set (p ∷ peers) zero q h r = (r, h.1)
read_set (p ∷ peers) (suc i) q h r = (h.0, read_set peers i q h.1 r)

read_alike : (p q : PeerState) → Alike p q → PeerReads p → PeerReads q
read_alike p q alike h =
    let same = alike.reads in
    record {
      all = λ going. ap front_of same.unread ∙ h.all (ap is_failed (sym same.session) ∙ going);
      shut = λ dead. ap is_open same.session ∙ h.shut (sym alike.dead ∙ dead);
    }

read_all_alike : (old new : List PeerState) → AllAlike old new → AllRead old → AllRead new
read_all_alike old [] alike h = tt
read_all_alike [] (q ∷ new) alike h = absurd (let count = alike.count in omega arith)
read_all_alike (p ∷ old) (q ∷ new) alike h =
    (read_alike p q (alike.each 0) h.0, read_all_alike old new (record { count = (let count = alike.count in omega arith); each = λ i. alike.each (suc i) }) h.1)

read_asked : (x : ℕ) (round : List Change) (n : ℕ) (peers : List PeerState) → AllRead peers → AllRead (asked_from x round n peers)
read_asked x round n [] h = tt
read_asked x round n (p ∷ peers) h =
    let changed = is_changed round (switch_numbered n) in
    (cond_both changed (asks x p) p PeerReads (λ _. read_alike p (asks x p) (alike_asks x p) h.0) (λ _. h.0), read_asked (next_if changed x) round (suc n) peers h.1)

record IsReading (count : ℕ) (d : DriverState) : Type 0 where
  peers : length d.peers ≡ count
  read : AllRead d.peers

module _ (net : Network) (rounds inverses : List (List Change)) (count : ℕ) where
  reading_same : (d e : DriverState) → e.peers ≡ d.peers → IsReading count d → IsReading count e
  reading_same d e same h = record { peers = ap length same ∙ h.peers; read = subst AllRead (sym same) h.read }

  reading_alike : (d e : DriverState) → AllAlike d.peers e.peers → IsReading count d → IsReading count e
  reading_alike d e alike h = record { peers = alike.count ∙ h.peers; read = read_all_alike d.peers e.peers alike h.read }

  reading_heard : (s : SwitchId) (b : ℕ) (d : DriverState) → s.0 < count → (peer_at d s).is_dead ≡ false → IsReading count d → IsReading count (heard_byte net rounds inverses s b d)
  unfolding peer_after
  reading_heard s b d less alive h =
      let all = h.peers in
      let within : s.0 < length d.peers = omega arith in
      let reads = (read_at d.peers s.0 h.read).all in
      let p = peer_after b (peer_at d s) in
      let put_reading : PeerReads p =
      (let seen = put_reads net rounds inverses s b d within reads in let at = put_is net rounds inverses s b d within reads in
      record {
        all = subst (λ (q : PeerState). ReadsAll q.channel) at (λ going. ap front_of seen.unread ∙ reads_bytes (b ∷ []) (peer_at d s).channel reads (ap is_failed (sym seen.session) ∙ going));
        shut = λ dead. never_dead (sym alive ∙ dead);
      }) in
      reading_alike (with_peer s p d) (heard_byte net rounds inverses s b d) (touches net rounds inverses s b d within reads)
      (record { peers = length-set d.peers s.0 p ∙ h.peers; read = read_set d.peers s.0 p h.read put_reading })

  reading_byte_fed : (s : SwitchId) (b : ℕ) (d : DriverState) → s.0 < count → IsReading count d → IsReading count (fed_byte net rounds inverses s b d)
  unfolding fed_byte
  reading_byte_fed s b d less h = cond_both (peer_at d s).is_dead d (heard_byte net rounds inverses s b d) (IsReading count) (λ _. h) (λ alive. reading_heard s b d less alive h)

  reading_fed : (s : SwitchId) (bytes : List ℕ) (d : DriverState) → s.0 < count → IsReading count d → IsReading count (state_after_bytes net rounds inverses s bytes d)
  reading_fed s [] d less h = h
  reading_fed s (b ∷ bytes) d less h = reading_fed s bytes (fed_byte net rounds inverses s b d) less (reading_byte_fed s b d less h)

  reading_dead : (s : SwitchId) (d : DriverState) → IsReading count d → IsReading count (dead_driver rounds s d)
  reading_dead s d h =
      let p = dead_peer (peer_at d s) in
      let e = with_peer s p d in
      let round = running_round rounds d.stage in
      let put : IsReading count e = record { peers = length-set d.peers s.0 p ∙ h.peers; read = read_set d.peers s.0 p h.read (record { all = λ going. front_nil; shut = λ _. refl }) } in
      cond_both (peer_at d s).is_dead d (settled_if_answered round e) (IsReading count) (λ _. h) (λ _. reading_alike e (settled_if_answered round e) (if_answered_alike round e) put)

  reading_sent : (round changes : List Change) (stage : Stage) (d : DriverState) → IsReading count d → IsReading count (settled_if_answered round (sent_out net changes stage d))
  unfolding sent_out
  reading_sent round changes stage d h =
      let e = sent_out net changes stage d in
      let x = xid_behind d.next (length changes) in
      let sent : IsReading count e = record { peers = length-asked x changes 0 d.peers ∙ h.peers; read = read_asked x changes 0 d.peers h.read } in
      reading_alike e (settled_if_answered round e) (if_answered_alike round e) sent

  reading_start : (stage : Stage) (d : DriverState) → IsReading count d → IsReading count (started_in net rounds stage d)
  reading_start (Settled k) d h =
      let e = flagged_state false (with_said (Log logged.Start ∷ []) d) in
      reading_sent (round_after k rounds) (round_after k rounds) (Onward k) e (reading_same d e refl h)
  reading_start (Onward k) d h = h
  reading_start (Undone k) d h = h

  reading_turn : (stage : Stage) (d : DriverState) → IsReading count d → IsReading count (turned_in net rounds inverses stage d)
  reading_turn (Settled zero) d h = h
  reading_turn (Settled (suc k)) d h =
      let e = flagged_state true (with_said (Log logged.Back ∷ []) d) in
      reading_sent (round_after k rounds) (round_after k inverses) (Undone k) e (reading_same d e refl h)
  reading_turn (Onward k) d h = reading_sent (round_after k rounds) (round_after k inverses) (Undone k) d h
  reading_turn (Undone k) d h = h

-- ---- what each call sends

module _ (net : Network) (s : SwitchId) where
  sent_texts : (round changes : List Change) (stage : Stage) (d : DriverState)
      → texts_to s (settled_if_answered round (sent_out net changes stage d)).said ≡ texts_to s d.said ++ cond (is_open (get_or d.peers s.0 first_peer).channel.session) (texts_for s (batch_of net d.next changes)) []
  unfolding sent_out
  sent_texts round changes stage d =
      let ms = batch_of net d.next changes in
      if_answered_quiet s round (sent_out net changes stage d) ∙ texts-append s d.said (sends (is_to_open d.peers) ms) ∙ ap (λ (l : List (List ℕ)). texts_to s d.said ++ l) (texts_open s d.peers ms)

module _ (v : DriverView) (s : SwitchId) where
  abbrev quiet_state : DriverState
  quiet_state = record v.state { said = [] }

  start_sends : (stage : Stage) → texts_to s (started_in v.net v.rounds stage quiet_state).said ≡ option_map_or (asking_messages v s) (start_asks v stage) []
  start_sends (Settled k) = sent_texts v.net s (round_after k v.rounds) (round_after k v.rounds) (Onward k) (flagged_state false (with_said (Log logged.Start ∷ []) quiet_state))
  start_sends (Onward k) = refl
  start_sends (Undone k) = refl

  back_sends : (stage : Stage) → texts_to s (turned_in v.net v.rounds v.inverses stage quiet_state).said ≡ option_map_or (asking_messages v s) (back_asks v stage) []
  back_sends (Settled zero) = refl
  back_sends (Settled (suc k)) = sent_texts v.net s (round_after k v.rounds) (round_after k v.inverses) (Undone k) (flagged_state true (with_said (Log logged.Back ∷ []) quiet_state))
  back_sends (Onward k) = sent_texts v.net s (round_after k v.rounds) (round_after k v.inverses) (Undone k) quiet_state
  back_sends (Undone k) = refl

  abbrev SendsSo : Call → Type 0
  SendsSo c = Sends v (after_call_anew v c) s c (texts_to s (after_call_anew v c).state.said)

  sends_start : SendsSo Start
  sends_start =
      elim (is_none (start_fault v)) as (λ b. texts_to s (cond b (started_view (silent_view v)) (silent_view v)).state.said ≡ option_map_or (asking_messages v s) (cond b (start_asks v v.state.stage) None) []) [
        | true ↦ start_sends v.state.stage
        | false ↦ refl
      ]

  sends_back : SendsSo Back
  sends_back =
      elim (is_none (back_fault v)) as (λ b. texts_to s (cond b (turned_view (silent_view v)) (silent_view v)).state.said ≡ option_map_or (asking_messages v s) (cond b (back_asks v v.state.stage) None) []) [
        | true ↦ back_sends v.state.stage
        | false ↦ refl
      ]

  sends_reopen : (t : SwitchId) → SendsSo (Reopen t)
  sends_reopen t = chosen (eqb t.0 s.0)
    where
      chosen : (b : Bool) → cons_option (cond b (Some hello) None) [] ≡ cond b (hello ∷ []) []
      chosen true = refl
      chosen false = refl

  sends_dead : (t : SwitchId) → SendsSo (Dead t)
  sends_dead t =
      let e = with_peer t (dead_peer (peer_at v.state t)) quiet_state in
      let round = running_round v.rounds v.state.stage in
      cond_both (peer_at v.state t).is_dead quiet_state (settled_if_answered round e) (λ (x : DriverState). texts_to s x.said ≡ []) (λ _. refl) (λ _. if_answered_quiet s round e)

  module _ (within : s.0 < length v.state.peers) (read : AllRead v.state.peers) (bytes : List ℕ) where
    abbrev fed_state : DriverState
    fed_state = heard_bytes v.net v.rounds v.inverses s bytes quiet_state

    abbrev AnswersSo : Session → Type 0
    AnswersSo x = Answers x (unanswered_messages v s) ((peer_at v.state s).channel.unread ++ bytes) (peer_at fed_state s).channel (texts_to s fed_state.said)

    answers_by : (x : Session) → session_at v s ≡ x → AnswersSo x
    answers_by Waiting is =
        let h = fed_waiting v.net v.rounds v.inverses s bytes quiet_state within is (read_at v.state.peers s.0 read).all in
        subst (Answers Waiting (unanswered_messages v s) ((peer_at v.state s).channel.unread ++ bytes) (peer_at fed_state s).channel) (sym h.texts) h.answers
    answers_by Open is =
        let h = fed_open v.net v.rounds v.inverses s bytes quiet_state within is (read_at v.state.peers s.0 read).all in
        record { requests = h.more; are = h.are; texts_are = h.texts }
    answers_by (Failed c) is = (fed_failed v.net v.rounds v.inverses s bytes quiet_state within (ap is_failed is)).texts

    sends_here : AnswersSo (session_at v s)
    sends_here = answers_by (session_at v s) refl

  sends_fed : (t : SwitchId) (bytes : List ℕ) → s.0 < length v.state.peers → AllRead v.state.peers → SendsSo (Feed t bytes)
  sends_fed t bytes within read =
      let Here : SwitchId → Type 0 = λ r. Answers (session_at v s) (unanswered_messages v s) ((peer_at v.state s).channel.unread ++ bytes) (peer_at (after_call_anew v (Feed r bytes)).state s).channel (texts_to s (after_call_anew v (Feed r bytes)).state.said) in
      let here : (peer_at v.state s).is_dead ≡ false → Here s = λ alive. (
      let same = fed_alive v.net v.rounds v.inverses s bytes quiet_state within (read_at v.state.peers s.0 read).all alive in
      subst (λ (x : DriverState). Answers (session_at v s) (unanswered_messages v s) ((peer_at v.state s).channel.unread ++ bytes) (peer_at x s).channel (texts_to s x.said)) (sym same) (sends_here within read bytes)) in
      record {
        here = λ e alive. (let same : t ≡ s = ap switch_numbered e in subst Here (sym same) (here alive));
        dead = λ dead. elim (cases_eq t.0 s.0) [
          | inl e ↦ (let same : s ≡ t = ap switch_numbered (sym e) in
              ap (λ (x : DriverState). texts_to s x.said) (fed_dead v.net v.rounds v.inverses t bytes quiet_state (subst (λ (r : SwitchId). (peer_at v.state r).is_dead ≡ true) same dead)))
          | inr ne ↦ fed_away v.net v.rounds v.inverses t s ne bytes quiet_state
        ];
        others = λ ne. fed_away v.net v.rounds v.inverses t s ne bytes quiet_state;
      }

  sends_call : (c : Call) → s.0 < length v.state.peers → AllRead v.state.peers → SendsSo c
  sends_call Start within read = sends_start
  sends_call Back within read = sends_back
  sends_call (Reopen t) within read = sends_reopen t
  sends_call (Feed t bytes) within read = sends_fed t bytes within read
  sends_call (Dead t) within read = sends_dead t

  -- a dead switch gets nothing, until its session is opened again
  abbrev IsSilent : Call → Type 0
  IsSilent c = texts_to s (after_call_anew v c).state.said ≡ []

  no_messages : is_open (session_at v s) ≡ false → (o : Option (List Change)) → option_map_or (asking_messages v s) o [] ≡ []
  no_messages shut None = refl
  no_messages shut (Some changes) = cond-false (is_open (session_at v s)) (texts_for s (batch_of v.net v.state.next changes)) [] shut

  silent_call : (c : Call) → s.0 < length v.state.peers → AllRead v.state.peers → (peer_at v.state s).is_dead ≡ true → c ≢ Reopen s → IsSilent c
  silent_call Start within read dead other = sends_start ∙ no_messages ((read_at v.state.peers s.0 read).shut dead) (asked_by v Start)
  silent_call Back within read dead other = sends_back ∙ no_messages ((read_at v.state.peers s.0 read).shut dead) (asked_by v Back)
  silent_call (Reopen t) within read dead other =
      sends_reopen t ∙ cond-false (eqb t.0 s.0) (hello ∷ []) [] (ne_eqb t.0 s.0 (λ e. let same : t ≡ s = ap switch_numbered e in other (ap Reopen same)))
  silent_call (Feed t bytes) within read dead other = (sends_fed t bytes within read).dead dead
  silent_call (Dead t) within read dead other = sends_dead t

-- ---- all calls

read_replicate : (n : ℕ) → AllRead (replicate n first_peer)
read_replicate zero = tt
read_replicate (suc n) = (read_first, read_replicate n)

module _ (net : Network) (rounds inverses : List (List Change)) where
  abbrev view : DriverState → DriverView
  view d = record { net = net; rounds = rounds; inverses = inverses; state = d }

  abbrev OnReading : DriverView → Type 0
  OnReading w = (d : DriverState) × (w ≡ view d) × IsReading (switch_count net) d

  reading_call : (d : DriverState) (c : Call) → IsCall net c → IsReading (switch_count net) d → OnReading (after_call (view d) c)
  reading_call d Start ok h =
      cond_both (is_none (start_fault (view d))) (with_state (started_in net rounds d.stage d) (view d)) (view d) OnReading
      (λ _. (started_in net rounds d.stage d, refl, reading_start net rounds inverses (switch_count net) d.stage d h)) (λ _. (d, refl, h))
  reading_call d Back ok h =
      cond_both (is_none (back_fault (view d))) (with_state (turned_in net rounds inverses d.stage d) (view d)) (view d) OnReading
      (λ _. (turned_in net rounds inverses d.stage d, refl, reading_turn net rounds inverses (switch_count net) d.stage d h)) (λ _. (d, refl, h))
  reading_call d (Reopen t) ok h =
      (reopened_driver t d, refl, record { peers = length-set d.peers t.0 (reopened_peer (peer_at d t)) ∙ h.peers; read = read_set d.peers t.0 (reopened_peer (peer_at d t)) h.read (record { all = λ going. front_nil; shut = λ e. never_dead e }) })
  reading_call d (Feed t bytes) ok h = (state_after_bytes net rounds inverses t bytes d, refl, reading_fed net rounds inverses (switch_count net) t bytes d ok h)
  reading_call d (Dead t) ok h = (dead_driver rounds t d, refl, reading_dead net rounds inverses (switch_count net) t d h)

  reading_calls : (w : DriverView) (calls : List Call) → AllByRecursion (IsCall net) calls → OnReading w → OnReading (after_calls w calls)
  reading_calls w [] ok on = on
  reading_calls w (c ∷ calls) ok (d, is, h) = reading_calls (after_call w c) calls ok.1 (subst (λ (x : DriverView). OnReading (after_call x c)) (sym is) (reading_call d c ok.0 h))

  all_reading : (calls : List Call) → AllByRecursion (IsCall net) calls → OnReading (driver_after net rounds inverses calls)
  all_reading calls ok =
      reading_calls (view (first_driver net)) calls ok
      (first_driver net, refl, record { peers = length-replicate (switch_count net) first_peer; read = read_replicate (switch_count net) })

  pub each_call : (calls : List Call) (c : Call) (s : SwitchId) → AllByRecursion (IsCall net) calls → s.0 < switch_count net
      → let v = driver_after net rounds inverses calls in Sends v (after_call_anew v c) s c (texts_to s (after_call_anew v c).state.said)
  each_call calls c s ok less =
      let (d, is, h) = all_reading calls ok in
      let all = h.peers in
      subst (λ (v : DriverView). Sends v (after_call_anew v c) s c (texts_to s (after_call_anew v c).state.said)) (sym is) (sends_call (view d) s c (omega arith) h.read)

  pub none_to_dead : (calls : List Call) (c : Call) (s : SwitchId) → AllByRecursion (IsCall net) calls → s.0 < switch_count net
      → (peer_at (driver_after net rounds inverses calls).state s).is_dead ≡ true → c ≢ Reopen s → texts_to s (after_call_anew (driver_after net rounds inverses calls) c).state.said ≡ []
  none_to_dead calls c s ok less =
      let (d, is, h) = all_reading calls ok in
      let all = h.peers in
      subst (λ (v : DriverView). (peer_at v.state s).is_dead ≡ true → c ≢ Reopen s → texts_to s (after_call_anew v c).state.said ≡ []) (sym is) (silent_call (view d) s c (omega arith) h.read)

-- HELLO is the first that is sent to each switch
module _ (s : SwitchId) where
  none_before : (n count : ℕ) → s.0 < n → texts_to s (first_words n count) ≡ []
  none_before n zero less = refl
  none_before n (suc count) less =
      ap (λ b. cons_option (cond b (Some hello) None) (texts_to s (first_words (suc n) count))) (ne_eqb n s.0 (λ e. omega arith)) ∙ none_before (suc n) count (omega arith)

  pub hello_first : (n count : ℕ) → n ≤ s.0 → s.0 < n + count → texts_to s (first_words n count) ≡ hello ∷ []
  hello_first n zero le less = absurd (omega arith)
  hello_first n (suc count) le less =
      let rest = texts_to s (first_words (suc n) count) in
      elim (cases_eq n s.0) [
        | inl same ↦ ap (λ b. cons_option (cond b (Some hello) None) rest) (eq-eqb n s.0 same) ∙ ap (λ (l : List (List ℕ)). hello ∷ l) (none_before (suc n) count (omega arith))
        | inr differs ↦ ap (λ b. cons_option (cond b (Some hello) None) rest) (ne_eqb n s.0 differs) ∙ hello_first (suc n) count (omega (arith, differs)) (omega arith)
      ]

  texts_of_each : (pieces : List (List DriverOutput)) → texts_to s (joined_words pieces) ≡ flat_map (texts_to s) pieces
  texts_of_each [] = refl
  texts_of_each (words ∷ pieces) = texts-append s words (joined_words pieces) ∙ ap (λ (l : List (List ℕ)). texts_to s words ++ l) (texts_of_each pieces)

  pub all_calls : (net : Network) (rounds inverses : List (List Change)) (calls : List Call) → s.0 < switch_count net
      → texts_to s (driver_after net rounds inverses calls).state.said ≡ hello ∷ flat_map (texts_to s) (said_by_each (driver_after net rounds inverses []) calls)
  all_calls net rounds inverses calls less =
      let v = driver_after net rounds inverses [] in
      let first = first_words 0 (switch_count net) in
      ap (texts_to s) (calls_said v calls) ∙ texts-append s first (joined_words (said_by_each v calls))
      ∙ ap (λ (l : List (List ℕ)). l ++ texts_to s (joined_words (said_by_each v calls))) (hello_first 0 (switch_count net) (omega arith) (omega arith))
      ∙ ap (λ (l : List (List ℕ)). hello ∷ l) (texts_of_each (said_by_each v calls))
