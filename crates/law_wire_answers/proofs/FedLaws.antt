-- What a byte from a switch changes in what a driver keeps, and what it says of it.
use Rattle.std.proofs.Common.{◌≡◌, ◌≢◌, ◌⊎◌, ℕ, zero, suc, ◌+◌, ◌<◌, ◌≤◌, Bool, true, false, cond, eqb, ◌&&◌, ◌||◌, List, [], ◌∷◌, ◌++◌, length, map, set, get_or, get_or-set_same, refl, sym, ap, ◌∙◌, subst, inl, inr, append_assoc, append-nil, length-append, length-set, ◌*◌, ◌^◌, arith}
use Rattle.std.specs.Prelude.{slice_get, filter, Option, Some, None, is_some, is_none}
use Rattle.std.specs.List.{AllByRecursion, concat, cons_option}
use Rattle.std.specs.Option.{option_map_or}
use Rattle.std.proofs.lemmas.Bool.{cases_Bool, cond-true, cond-false, cond_both, eqb-true, eq-eqb, ne_eqb}
use Rattle.std.proofs.lemmas.List.Elements.{filter-append, filter_map-append}
use Rattle.std.proofs.lemmas.List.Folds.{concat-append}
use Rattle.net_base.proofs.MemberLaws.{each_append}
use Rattle.net_base.specs.declared.ids.SwitchId.{SwitchId}
use Rattle.topology.specs.Networks.{Network, switch_count}
use Rattle.update_model.specs.Changes.{switch_of, round_after}
use Rattle.update_model.specs.declared.Change.{Change}
use Rattle.openflow10.specs.Messages.{wire_text}
use Rattle.openflow10.specs.declared.Message.TheVariants.{BarrierRequest}
use Rattle.switch_session.specs.Fronts.{front_of, type_in, xid_in}
use Rattle.switch_session.specs.Channels.{ChannelState, is_failed, after_failure, echo_reply, is_outstanding, after_byte, after_request}
use Rattle.switch_session.specs.Laws.{IsWhole, is_echo, AreCut}
use Rattle.switch_session.specs.declared.Cause.{Cause}
use Rattle.switch_session.specs.declared.Cause.TheVariants as cause
use Rattle.openflow10.specs.Layout.{number_at}
use Rattle.switch_session.specs.declared.fronts.Front.{Front}
use Rattle.switch_session.specs.declared.Session.{Session}
use Rattle.switch_session.specs.declared.Session.TheVariants.{Waiting, Open, Failed}
use Rattle.switch_session.specs.declared.fronts.Front.TheVariants.{Short, Fault, Message}
use Rattle.switch_session.proofs.TalkLaws.{front_nil}
use Rattle.turned_rounds.specs.Batches.{change_messages, batch_of}
use Rattle.turned_rounds.specs.declared.outgoing.Outgoing.{Outgoing}
use Rattle.two_way_driver.specs.PeerStates.{PeerState}
use Rattle.two_way_driver.specs.Peers.{first_peer, opened_anew, heard_by, kept_of, peer_after, asks_again, answers}
use Rattle.two_way_driver.specs.Drivers.{DriverState, peer_at, with_said, send_if, sends, is_to, settled_if_answered, all_answered, is_change_at, change_notes, undo_notes, made_state, undone_state, carried_out, answered_state, sent_again, opened_state, running_round, heard_state, heard_byte, fed_byte}
use Rattle.two_way_driver.specs.Sending.{texts_to, texts_for}
use Rattle.two_way_driver.specs.declared.Stage.{Stage}
use Rattle.two_way_driver.specs.declared.Stage.TheVariants.{Settled, Onward, Undone}
use Rattle.two_way_driver.specs.declared.DriverEvent.TheVariants as logged
use Rattle.two_way_driver.specs.declared.DriverOutput.{DriverOutput}
use Rattle.two_way_driver.specs.declared.DriverOutput.TheVariants.{Send, Log}
use Rattle.two_way_driver.specs.declared.DriverOutput.TheVariants as said
use Rattle.two_way_driver.specs.declared.peers.ByteOutcome.{ByteOutcome}
use Rattle.two_way_driver.specs.declared.peers.ByteOutcome.TheVariants.{Nothing, Opened, Answered, Replied, Broke}
use Rattle.law_wire_answers.specs.Exchanges.{is_between_rounds, failure_to, failures_to, SwitchTalk, traffic_then}
use Rattle.law_wire_answers.specs.Answering.{EndsReply, AsksBehind}
use Rattle.law_wire_answers.specs.Failing.{later_fault, barrier_xids, is_barrier_reply, due_behind, message_fault, fault_at, echoes_at, ByteTold}
use Rattle.law_wire_answers.proofs.HearingLaws.{IsMessage, fault_in, Hearing, Keeps, Opens, Answers, Replies, BreaksHeader, BreaksMessage, hearing, deaf}
use Rattle.law_wire_answers.proofs.TrafficLaws.{IsTo, IsNote, texts_none, failures_none, notes_to, Grows, grows_words, fed, grows_away}
use Rattle.law_wire_answers.proofs.RequestLaws.{xids-append, one_request}
use Rattle.law_wire_answers.proofs.KnowingLaws.{none_some, asks_more, out_list, IsGreeted, FailedAs, IsLive, IsHeard, heard_more, all_changes, all_undos, asks_now, IsTurned, IsLast, AreOut, Goes, Knows, out_more, Known, all_set, NearlyKnown, MaySettle, settles}

-- ---- lists

set_twice : {A : Type 0} (xs : List A) (i : ℕ) (x y : A) → set (set xs i x) i y ≡ set xs i y
set_twice [] i x y = refl
set_twice (a ∷ xs) zero x y = refl
set_twice (a ∷ xs) (suc i) x y = ap (λ l. a ∷ l) (set_twice xs i x y)

-- as many wait where one waits as before
pub same_waits : (peers : List PeerState) (i : ℕ) (q : PeerState) → q.asked ≡ (get_or peers i first_peer).asked → q.is_dead ≡ (get_or peers i first_peer).is_dead → all_answered (set peers i q) ≡ all_answered peers
same_waits [] i q same gone = refl
same_waits (p ∷ peers) zero q same gone =
    ap (λ (o : Option ℕ). (is_none o || q.is_dead) && all_answered peers) same ∙ ap (λ b. (is_none p.asked || b) && all_answered peers) gone
same_waits (p ∷ peers) (suc i) q same gone = ap (λ b. (is_none p.asked || p.is_dead) && b) (same_waits peers i q same gone)

-- a switch that waits for as much, and isn't dead, waits at least as long
one_waits : (a b rest : Bool) → ((a || b) && rest) ≡ false → ((a || false) && rest) ≡ false
one_waits true b rest e = e
one_waits false true rest e = refl
one_waits false false rest e = refl

more_waits : (a b x y : Bool) → (x ≡ false → y ≡ false) → ((a || b) && x) ≡ false → ((a || b) && y) ≡ false
more_waits true b x y h e = h e
more_waits false true x y h e = h e
more_waits false false x y h e = refl

pub waits_more : (peers : List PeerState) (i : ℕ) (q : PeerState) → q.asked ≡ (get_or peers i first_peer).asked → q.is_dead ≡ false → all_answered peers ≡ false → all_answered (set peers i q) ≡ false
waits_more [] i q same alive e = e
waits_more (p ∷ peers) zero q same alive e =
    ap (λ (o : Option ℕ). (is_none o || q.is_dead) && all_answered peers) same ∙ ap (λ b. (is_none p.asked || b) && all_answered peers) alive ∙ one_waits (is_none p.asked) p.is_dead (all_answered peers) e
waits_more (p ∷ peers) (suc i) q same alive e = more_waits (is_none p.asked) p.is_dead (all_answered peers) (all_answered (set peers i q)) (waits_more peers i q same alive) e

pub set_own : (peers : List PeerState) (i : ℕ) → set peers i (get_or peers i first_peer) ≡ peers
set_own [] i = refl
set_own (p ∷ peers) zero = refl
set_own (p ∷ peers) (suc i) = ap (λ l. p ∷ l) (set_own peers i)

cons_text : (b : Bool) (text : List ℕ) (m : Outgoing) (ms : List Outgoing) (later : List (List ℕ)) → text ≡ m.text → later ≡ map (λ (o : Outgoing). o.text) ms
    → cons_option (cond b (Some text) None) later ≡ map (λ (o : Outgoing). o.text) (cond b (m ∷ ms) ms)
cons_text true text m ms later e f = ap (λ (l : List ℕ). l ∷ later) e ∙ ap (λ (l : List (List ℕ)). m.text ∷ l) f
cons_text false text m ms later e f = f

-- all messages to a switch
texts_sent : (s : SwitchId) (ms : List Outgoing) → texts_to s (sends (is_to s) ms) ≡ texts_for s ms
texts_sent s [] = refl
texts_sent s (m ∷ ms) =
    elim (cases_Bool (is_to s m)) [
      | inl t ↦ ap (λ b. texts_to s (send_if b m ++ sends (is_to s) ms)) t ∙ cons_text (is_to s m) m.text m (filter (is_to s) ms) (texts_to s (sends (is_to s) ms)) refl (texts_sent s ms)
      | inr f ↦ ap (λ b. texts_to s (send_if b m ++ sends (is_to s) ms)) f ∙ texts_sent s ms ∙ ap (λ b. map (λ (o : Outgoing). o.text) (cond b (m ∷ filter (is_to s) ms) (filter (is_to s) ms))) (sym f)
    ]

-- messages alone are said
pub all_sends : (P : DriverOutput → Type 0) → ((s : SwitchId) (text : List ℕ) → P (Send s text)) → (wanted : Outgoing → Bool) (ms : List Outgoing) → AllByRecursion P (sends wanted ms)
all_sends P may wanted [] = tt
all_sends P may wanted (m ∷ ms) = each_append P (send_if (wanted m) m) (sends wanted ms) (one (wanted m)) (all_sends P may wanted ms)
  where
    one : (b : Bool) → AllByRecursion P (send_if b m)
    one true = (may m.switch m.text, tt)
    one false = tt

-- ---- the bytes that came

not_nil : {A : Type 0} (xs : List A) (x : A) → xs ++ x ∷ [] ≡ [] → ⊥
not_nil xs x e = let count = ap length e in let all = length-append xs (x ∷ []) in omega arith

module _ (came : List ℕ) (sent : List (List ℕ)) (x : Session) (unread : List ℕ) (o out : Option ℕ) (h : IsHeard came sent x unread o out) where
  -- a barrier request more is sent
  pub heard_request : (texts : List (List ℕ)) (z : ℕ) (p q : Option ℕ) → barrier_xids texts ≡ z ∷ [] → out_list o out ++ z ∷ [] ≡ out_list p q → IsHeard came (sent ++ texts) x unread p q
  heard_request texts z p q one more = record {
    messages = h.messages;
    cut = h.cut;
    short = h.short;
    answered = h.answered;
    requests = xids-append sent texts ∙ ap (λ (l : List ℕ). l ++ barrier_xids texts) h.requests ∙ ap (λ (l : List ℕ). (h.answered ++ out_list o out) ++ l) one
        ∙ append_assoc h.answered (out_list o out) (z ∷ []) ∙ ap (λ (l : List ℕ). h.answered ++ l) more;
    replies = h.replies;
    greeted = h.greeted;
  }

  module _ (b : ℕ) where
    abbrev come : List ℕ
    come = unread ++ b ∷ []

    with_byte : came ++ b ∷ [] ≡ concat h.messages ++ come
    with_byte = ap (λ (l : List ℕ). l ++ b ∷ []) h.cut.bytes_are ∙ append_assoc (concat h.messages) unread (b ∷ [])

    heard_short : front_of come ≡ Short → IsHeard (came ++ b ∷ []) sent x come o out
    heard_short at = record {
      messages = h.messages;
      cut = record { whole = h.cut.whole; bytes_are = with_byte };
      short = at;
      answered = h.answered;
      requests = h.requests;
      replies = h.replies;
      greeted = h.greeted;
    }

    cut_whole : IsWhole come → AreCut (came ++ b ∷ []) (h.messages ++ come ∷ []) []
    cut_whole whole = record {
      whole = each_append IsWhole h.messages (come ∷ []) h.cut.whole (whole, tt);
      bytes_are =
          with_byte ∙ ap (λ (l : List ℕ). concat h.messages ++ l) (sym (append-nil come)) ∙ sym (concat-append h.messages (come ∷ []))
          ∙ sym (append-nil (concat (h.messages ++ come ∷ [])));
    }

    -- a message that is no barrier reply
    heard_message : (y : Session) → IsGreeted y (h.messages ++ come ∷ []) → IsWhole come → is_barrier_reply come ≡ false → IsHeard (came ++ b ∷ []) sent y [] o out
    heard_message y greeted whole other = record {
      messages = h.messages ++ come ∷ [];
      cut = cut_whole whole;
      short = front_nil;
      answered = h.answered;
      requests = h.requests;
      replies = ap length (filter-append is_barrier_reply h.messages (come ∷ []) ∙ ap (λ t. filter is_barrier_reply h.messages ++ cond t (come ∷ []) []) other ∙ append-nil (filter is_barrier_reply h.messages)) ∙ h.replies;
      greeted = greeted;
    }

    -- a barrier reply answers the first request
    heard_reply : (y : Session) → IsGreeted y (h.messages ++ come ∷ []) → IsWhole come → is_barrier_reply come ≡ true → (z : ℕ) (p q : Option ℕ) → out_list o out ≡ z ∷ out_list p q → IsHeard (came ++ b ∷ []) sent y [] p q
    heard_reply y greeted whole is_reply z p q rest = record {
      messages = h.messages ++ come ∷ [];
      cut = cut_whole whole;
      short = front_nil;
      answered = h.answered ++ z ∷ [];
      requests = h.requests ∙ ap (λ (l : List ℕ). h.answered ++ l) rest ∙ sym (append_assoc h.answered (z ∷ []) (out_list p q));
      replies = ap length (filter-append is_barrier_reply h.messages (come ∷ []) ∙ ap (λ t. filter is_barrier_reply h.messages ++ cond t (come ∷ []) []) is_reply)
          ∙ (let a = length-append (filter is_barrier_reply h.messages) (come ∷ []) in let c = length-append h.answered (z ∷ []) in let d = h.replies in omega arith);
      greeted = greeted;
    }

    ends_reply : (z : ℕ) → IsWhole come → type_in come ≡ 19 → xid_in come ≡ z → EndsReply (came ++ b ∷ []) z
    ends_reply z whole is_reply xid_is = record { before = h.messages; reply = come; cut = cut_whole whole; is_reply = is_reply; xid_is = xid_is }

    -- ---- what fails the session

    head_at : {A : Type 0} (xs ys : List A) (n : ℕ) → n ≡ length xs → slice_get (xs ++ ys) n ≡ slice_get ys 0
    head_at [] ys n e = ap (slice_get ys) e
    head_at (a ∷ xs) ys zero e = absurd (omega arith)
    head_at (a ∷ xs) ys (suc n) e = head_at xs ys n (omega arith)

    first_out : (p q : Option ℕ) → slice_get (out_list p q) 0 ≡ p
    first_out None q = refl
    first_out (Some z) None = refl
    first_out (Some z) (Some w) = refl

    due_is : due_behind sent h.messages ≡ o
    due_is = ap (λ (l : List ℕ). slice_get l (length (filter is_barrier_reply h.messages))) h.requests ∙ head_at h.answered (out_list o out) (length (filter is_barrier_reply h.messages)) h.replies ∙ first_out o out

    later_is : (ms : List (List ℕ)) (due : Option ℕ) → (ms ≡ [] → ⊥) → message_fault ms due come ≡ later_fault due come
    later_is [] due some = absurd (some refl)
    later_is (m ∷ ms) due some = refl

    fault_of : (y : Session) → x ≡ y → is_failed y ≡ false → message_fault h.messages (due_behind sent h.messages) come ≡ fault_in y o come
    fault_of Waiting is going = ap (λ (ms : List (List ℕ)). message_fault ms (due_behind sent h.messages) come) (subst (λ (z : Session). IsGreeted z h.messages) is h.greeted)
    fault_of Open is going = later_is h.messages (due_behind sent h.messages) (subst (λ (z : Session). IsGreeted z h.messages) is h.greeted) ∙ ap (λ (p : Option ℕ). later_fault p come) due_is
    fault_of (Failed c) is going = absurd (let f : true ≡ false = going in cc)

-- what is said of failures and sent, by what stands there
pub record Tells (t : SwitchId) (ms : List (List ℕ)) (due : Option ℕ) (piece : List ℕ) (words : List DriverOutput) (f : Front) : Type 0 where
  pub failures : failures_to t words ≡ option_map_or (λ (c : Cause). c ∷ []) (fault_at ms due piece f) []
  pub replies : (ms ≡ [] → ⊥) → texts_to t words ≡ echoes_at piece f

-- a session that hasn't failed has no failures said
pub going_none : (x : Session) (failures : List Cause) → is_failed x ≡ false → FailedAs x failures → failures ≡ []
going_none Waiting failures going told = told
going_none Open failures going told = told
going_none (Failed c) failures going told = absurd (let f : true ≡ false = going in cc)

none_going : (x : Session) (failures : List Cause) → is_failed x ≡ false → failures ≡ [] → FailedAs x failures
none_going Waiting failures going none = none
none_going Open failures going none = none
none_going (Failed c) failures going none = absurd (let f : true ≡ false = going in cc)

failed_some : (x : Session) (failures : List Cause) → is_failed x ≡ true → FailedAs x failures → failures ≡ [] → ⊥
failed_some Waiting failures failed told none = let f : false ≡ true = failed in cc
failed_some Open failures failed told none = let f : false ≡ true = failed in cc
failed_some (Failed c) failures failed told none = let f : [] ≡ c ∷ [] = sym none ∙ told in cc

pub sends_failures : (s : SwitchId) (wanted : Outgoing → Bool) (ms : List Outgoing) → failures_to s (sends wanted ms) ≡ []
sends_failures s wanted [] = refl
sends_failures s wanted (m ∷ ms) = filter_map-append (failure_to s) (send_if (wanted m) m) (sends wanted ms) ∙ one (wanted m) ∙ sends_failures s wanted ms
  where
    one : (b : Bool) → failures_to s (send_if b m) ++ failures_to s (sends wanted ms) ≡ failures_to s (sends wanted ms)
    one true = refl
    one false = refl

-- messages to a switch are to it
sends_to : (t : SwitchId) (ms : List Outgoing) → AllByRecursion (IsTo t) (sends (is_to t) ms)
sends_to t [] = tt
sends_to t (m ∷ ms) = each_append (IsTo t) (send_if (is_to t m) m) (sends (is_to t) ms) (one (is_to t m) refl) (sends_to t ms)
  where
    one : (b : Bool) → is_to t m ≡ b → AllByRecursion (IsTo t) (send_if b m)
    one true e = (eqb-true m.switch.0 t.0 e, tt)
    one false e = tt

pub one_text : (t : SwitchId) (text : List ℕ) → texts_to t (Send t text ∷ []) ≡ text ∷ []
one_text t text = ap (λ b. cons_option (cond b (Some text) None) []) (eq-eqb t.0 t.0 refl)

one_failure : (t : SwitchId) (c : Cause) → failures_to t (said.Failed t c ∷ []) ≡ c ∷ []
one_failure t c = ap (λ b. cons_option (cond b (Some c) None) []) (eq-eqb t.0 t.0 refl)

-- the reply to an echo request is no request
echo_type : (come : List ℕ) → 8 ≤ length come → type_in (echo_reply come) ≡ 3
unfolding number_at
echo_type come long = ap (λ n. n * 256 ^ 0 + 0) (get_or-set_same come 1 3 0 (omega arith))

echo_quiet : (come : List ℕ) → 8 ≤ length come → barrier_xids (echo_reply come ∷ []) ≡ []
echo_quiet come long =
    let text = echo_reply come in
    ap (λ o. cons_option o []) (cond-false (eqb (type_in text) 18) (Some (xid_in text)) None (ap (λ n. eqb n 18) (echo_type come long)))

-- ---- one byte

module _ (net : Network) (rounds inverses : List (List Change)) (t : SwitchId) (b : ℕ) (T : SwitchId → SwitchTalk) (D E : SwitchId → List Change → Type 0) (P : DriverOutput → Type 0) where
  -- the talk with a switch behind the byte, if these words are said
  abbrev pub behind : Stage → List DriverOutput → SwitchId → SwitchTalk
  behind stage words s = traffic_then s (fed stage t (b ∷ []) words) (T s)

  abbrev pub came_here : List ℕ
  came_here = (T t).came ++ b ∷ []

  pub grows_behind : (stage : Stage) (words more : List DriverOutput) → AllByRecursion IsNote more → (s : SwitchId) → Grows (behind stage words s) (behind stage (words ++ more) s)
  grows_behind stage words more notes s = grows_words s (fed stage t (b ∷ []) words) words more (T s) notes

  -- what may be said, and what it means for those who answered
  pub record Permits (stage : Stage) : Type 0 where
    pub up : (s : SwitchId) (changes : List Change) → D s changes → E s changes
    pub now : (x : ℕ) → EndsReply came_here x → AsksBehind (asks_now net rounds inverses stage) t x (T t).of_way → E t (asks_now net rounds inverses stage)
    pub send : (s : SwitchId) (text : List ℕ) → P (Send s text)
    pub failed : (s : SwitchId) (c : Cause) → P (said.Failed s c)
    pub change : (k : ℕ) → (stage ≡ Onward k) ⊎ (stage ≡ Undone k) → (i : ℕ) (c : Change) → slice_get (round_after k rounds) i ≡ Some c → (switch_of c).0 ≡ t.0
        → (x : ℕ) → EndsReply came_here x → AsksBehind (round_after k rounds) t x (T t).of_round → P (Log (logged.Change i))
    pub undo : (k : ℕ) → stage ≡ Undone k → (i : ℕ) (c : Change) → slice_get (round_after k rounds) i ≡ Some c → (switch_of c).0 ≡ t.0
        → (x : ℕ) → EndsReply came_here x → AsksBehind (round_after k inverses) t x (T t).of_way → P (Log (logged.Undo i))
    pub settle : MaySettle net rounds inverses E (behind stage) (grows_behind stage) P stage

  pub record Stepped (stage : Stage) (e : DriverState) : Type 0 where
    pub known : Known net rounds inverses (behind stage e.said) E e
    pub says : AllByRecursion P e.said
    pub now : (e.stage ≡ stage) ⊎ (is_between_rounds e.stage ≡ true)
    pub told : (T t).failures ≡ [] → (T t).dead ≡ false → ByteTold (T t) t b e.said
    pub mute : ((T t).failures ≡ [] → ⊥) → e.said ≡ []
    pub silent : (T t).dead ≡ true → e.said ≡ []

  module _ (first next : ℕ) (peers : List PeerState) (flags : List Bool) (less : t.0 < length peers) (count : length peers ≡ switch_count net) where
    abbrev p : PeerState
    p = get_or peers t.0 first_peer

    abbrev ch : ChannelState
    ch = p.channel

    -- the driver with another peer, other flags, and words
    abbrev driver : Stage → PeerState → List Bool → List DriverOutput → DriverState
    driver stage q other words = record { stage = stage; first = first; next = next; peers = set peers t.0 q; in_force = other; said = words }

    abbrev before : Stage → DriverState
    before stage = record { stage = stage; first = first; next = next; peers = peers; in_force = flags; said = [] }

    came_is : (stage : Stage) (words : List DriverOutput) → (behind stage words t).came ≡ came_here
    came_is stage words = cond-true (eqb t.0 t.0) came_here (T t).came (eq-eqb t.0 t.0 refl)

    grows_others : (stage : Stage) (words : List DriverOutput) → AllByRecursion (IsTo t) words → (s : SwitchId) → s.0 ≢ t.0 → Grows (T s) (behind stage words s)
    grows_others stage words to s differs = grows_away s t stage (b ∷ []) words (T s) differs to

    module _ (stage : Stage) (may : Permits stage) (known : Known net rounds inverses T D (before stage)) where
      here : Knows net rounds inverses (D t) stage first t (T t) p
      here = known.all t (let c = count in omega arith)

      abbrev GoesSo : List DriverOutput → PeerState → Type 0
      GoesSo words q = IsLive q → Goes net rounds inverses stage t (behind stage words t) q

      abbrev TellsSo : List DriverOutput → Type 0
      TellsSo words = ((T t).failures ≡ [] → (T t).dead ≡ false → ByteTold (T t) t b words) × (((T t).failures ≡ [] → ⊥) → words ≡ []) × ((T t).dead ≡ true → words ≡ [])

      abbrev ToldSo : List DriverOutput → PeerState → Type 0
      ToldSo words q = q.is_dead ≡ false → FailedAs q.channel.session (behind stage words t).failures

      -- the switch waits for what it waited for
      knows_still : (words : List DriverOutput) (q : PeerState) → q.asked ≡ p.asked → q.is_dead ≡ p.is_dead → GoesSo words q → ToldSo words q → Knows net rounds inverses (E t) stage first t (behind stage words t) q
      knows_still words q same gone goes told = record {
        goes = goes;
        asked = λ y at. here.asked y (sym same ∙ at);
        unasked = λ off. same ∙ here.unasked off;
        answered = λ on none. may.up t (asks_now net rounds inverses stage) (here.answered on (sym same ∙ none));
        same = λ k at. ap (λ (l : List (List ℕ)). l ++ texts_to t words) (here.same k at);
        range = λ y at. here.range y (sym same ∙ at);
        told = told;
        dead = here.dead ∙ sym gone;
      }

      nearly : (other : List Bool) (words : List DriverOutput) (q : PeerState) → AllByRecursion (IsTo t) words → Knows net rounds inverses (E t) stage first t (behind stage words t) q
          → NearlyKnown net rounds inverses (behind stage words) E (driver stage q other words)
      nearly other words q to now = record {
        count = length-set peers t.0 q ∙ count;
        all = all_set net rounds inverses D E may.up stage first T (behind stage words) peers t q less (grows_others stage words to) now known.all;
        next = known.next;
      }

      stays : (other : List Bool) (words : List DriverOutput) (q : PeerState) → q.asked ≡ p.asked → q.is_dead ≡ p.is_dead → AllByRecursion (IsTo t) words → GoesSo words q → ToldSo words q → TellsSo words → AllByRecursion P words
          → Stepped stage (driver stage q other words)
      stays other words q same gone to goes told tells says =
          let near = nearly other words q to (knows_still words q same gone goes told) in
          record {
            known = record { count = near.count; all = near.all; running = λ e. same_waits peers t.0 q same gone ∙ known.running e; next = near.next };
            says = says;
            now = inl refl;
            told = tells.0;
            mute = tells.1;
            silent = tells.2;
          }

      settling : (other : List Bool) (words : List DriverOutput) (q : PeerState) → AllByRecursion IsNote words → Knows net rounds inverses (E t) stage first t (behind stage words t) q
          → ((said : List DriverOutput) → AllByRecursion IsNote said → TellsSo said) → AllByRecursion P words → Stepped stage (settled_if_answered (running_round rounds stage) (driver stage q other words))
      settling other words q notes now tells says =
          let near = nearly other words q (notes_to t words notes) now in
          let done = settles net rounds inverses E (behind stage) (grows_behind stage) P (driver stage q other words) may.settle near in
          let still = settles net rounds inverses E (behind stage) (grows_behind stage) IsNote (driver stage q other words) (record { onward = λ k at all. tt; undone = λ k at all. tt; gone_change = λ k at i c is said gone. tt; gone_undo = λ k at i c is said gone. tt }) near in
          let end = settled_if_answered (running_round rounds stage) (driver stage q other words) in
          let tell = tells end.said (still.says notes) in
          record { known = done.known; says = done.says says; now = done.stage; told = tell.0; mute = tell.1; silent = tell.2 }

      -- ---- what comes of it

      module _ (going : is_failed ch.session ≡ false) (alive : p.is_dead ≡ false) where
        abbrev goes : Goes net rounds inverses stage t (T t) p
        goes = here.goes (going, alive)

        abbrev heard : IsHeard (T t).came (T t).sent ch.session ch.unread ch.outstanding p.behind
        heard = goes.reads

        abbrev piece : List ℕ
        piece = ch.unread ++ b ∷ []

        out_still : (words : List DriverOutput) → AreOut net rounds inverses stage t (behind stage words t).of_round (behind stage words t).of_way ch.outstanding p.behind p.asked
        out_still words = out_more net rounds inverses stage t (T t).of_round (T t).of_way (texts_to t words) ch.outstanding p.behind p.asked goes.out

        -- behind the words
        heard_behind : (words : List DriverOutput) (x : Session) (unread : List ℕ) (o out : Option ℕ) → IsHeard came_here (behind stage words t).sent x unread o out
            → IsHeard (behind stage words t).came (behind stage words t).sent x unread o out
        heard_behind words x unread o out h = subst (λ (l : List ℕ). IsHeard l (behind stage words t).sent x unread o out) (sym (came_is stage words)) h

        heard_quiet : (words : List DriverOutput) (x : Session) (unread : List ℕ) (o out : Option ℕ) → barrier_xids (texts_to t words) ≡ [] → IsHeard came_here (T t).sent x unread o out
            → IsHeard (behind stage words t).came (behind stage words t).sent x unread o out
        heard_quiet words x unread o out none h = heard_behind words x unread o out (heard_more came_here (T t).sent (texts_to t words) x unread o out none h)

        none_told : (T t).failures ≡ []
        none_told = going_none ch.session (T t).failures going (here.told alive)

        told_going : (words : List DriverOutput) (q : PeerState) → is_failed q.channel.session ≡ false → failures_to t words ≡ [] → ToldSo words q
        told_going words q still none _ = none_going q.channel.session (behind stage words t).failures still (ap (λ (l : List Cause). l ++ failures_to t words) none_told ∙ none)

        tells_as : (words : List DriverOutput) (f : Front) → front_of piece ≡ f → Tells t heard.messages (due_behind (T t).sent heard.messages) piece words f → TellsSo words
        tells_as words f at tells =
            let here_now : Tells t heard.messages (due_behind (T t).sent heard.messages) piece words (front_of piece) = subst (Tells t heard.messages (due_behind (T t).sent heard.messages) piece words) (sym at) tells in (
              (λ none living. record { before = heard.messages; rest = ch.unread; cut = heard.cut; short = heard.short; failures = here_now.failures; replies = here_now.replies }),
              (λ some. absurd (some none_told)),
              (λ gone. absurd (let f : true ≡ false = sym gone ∙ here.dead ∙ alive in cc)),
            )

        -- the fault of a whole message
        fault_here : message_fault heard.messages (due_behind (T t).sent heard.messages) piece ≡ fault_in ch.session ch.outstanding piece
        fault_here = fault_of (T t).came (T t).sent ch.session ch.unread ch.outstanding p.behind heard b ch.session refl going

        tells_message : (words : List DriverOutput) (m : IsMessage piece) (o : Option Cause) → fault_in ch.session ch.outstanding piece ≡ o → failures_to t words ≡ option_map_or (λ (c : Cause). c ∷ []) o []
            → ((heard.messages ≡ [] → ⊥) → texts_to t words ≡ echoes_at piece (Message m.n)) → TellsSo words
        tells_message words m o fault failures replies =
            tells_as words (Message m.n) m.at (record { failures = failures ∙ ap (λ (f : Option Cause). option_map_or (λ (c : Cause). c ∷ []) f []) (sym (fault_here ∙ fault)); replies = replies })

        still_short : front_of piece ≡ Short → Stepped stage (driver stage (record p { channel = record ch { unread = piece } }) flags [])
        still_short at =
            let q : PeerState = record p { channel = record ch { unread = piece } } in
            stays flags [] q refl refl tt
            (λ _. record {
              reads = heard_quiet [] ch.session piece ch.outstanding p.behind refl (heard_short (T t).came (T t).sent ch.session ch.unread ch.outstanding p.behind heard b at);
              out = out_still [];
              waiting = goes.waiting;
            })
            (told_going [] q going refl) (tells_as [] Short at (record { failures = refl; replies = λ _. refl })) tt

        -- a message that changes nothing
        passes : (m : IsMessage piece) → ch.session ≡ Open → fault_in ch.session ch.outstanding piece ≡ None → (type_in piece ≡ 2 → ⊥) → (type_in piece ≡ 19 → ⊥)
            → Stepped stage (driver stage (record p { channel = record ch { unread = [] } }) flags [])
        passes m is_open_now fault no_echo no_reply =
            let q : PeerState = record p { channel = record ch { unread = [] } } in
            let greeted : IsGreeted ch.session (heard.messages ++ piece ∷ []) = subst (λ (x : Session). IsGreeted x (heard.messages ++ piece ∷ [])) (sym is_open_now) (not_nil heard.messages piece) in
            stays flags [] q refl refl tt
            (λ _. record {
              reads = heard_quiet [] ch.session [] ch.outstanding p.behind refl
                  (heard_message (T t).came (T t).sent ch.session ch.unread ch.outstanding p.behind heard b ch.session greeted m.whole (ne_eqb (type_in piece) 19 no_reply));
              out = out_still [];
              waiting = goes.waiting;
            })
            (told_going [] q going refl)
            (tells_message [] m None fault refl (λ _. sym (cond-false (is_echo piece) (echo_reply piece ∷ []) [] (ne_eqb (type_in piece) 2 no_echo)))) tt

        later_none : (due : Option ℕ) (n : ℕ) → type_in piece ≡ n → later_fault due piece
            ≡ cond (eqb n 1) (Some (cause.Error (number_at 8 2 piece) (number_at 10 2 piece))) (cond (eqb n 19) (cond (is_outstanding (xid_in piece) due) None (Some (cause.Xid (xid_in piece)))) None)
        later_none due n is =
            ap (λ k. cond (eqb k 1) (Some (cause.Error (number_at 8 2 piece) (number_at 10 2 piece))) (cond (eqb k 19) (cond (is_outstanding (xid_in piece) due) None (Some (cause.Xid (xid_in piece)))) None)) is

        replies : (m : IsMessage piece) → ch.session ≡ Open → type_in piece ≡ 2 → Stepped stage (driver stage (record p { channel = opened_anew ch.outstanding }) flags (Send t (echo_reply piece) ∷ []))
        replies m is_open_now is_echo_now =
            let words = Send t (echo_reply piece) ∷ [] in
            let q : PeerState = record p { channel = opened_anew ch.outstanding } in
            let long = m.whole.header in
            let no_request : barrier_xids (texts_to t words) ≡ [] = ap barrier_xids (one_text t (echo_reply piece)) ∙ echo_quiet piece long in
            stays flags words q refl refl (refl, tt)
            (λ _. record {
              reads = heard_quiet words Open [] ch.outstanding p.behind no_request
                  (heard_message (T t).came (T t).sent ch.session ch.unread ch.outstanding p.behind heard b Open (not_nil heard.messages piece) m.whole (ap (λ n. eqb n 19) is_echo_now));
              out = out_still words;
              waiting = λ e. absurd (let f : Open ≡ Waiting = e in cc);
            })
            (told_going words q refl refl)
            (tells_message words m None (ap (λ (x : Session). fault_in x ch.outstanding piece) is_open_now ∙ later_none ch.outstanding 2 is_echo_now) refl
            (λ _. one_text t (echo_reply piece) ∙ sym (cond-true (is_echo piece) (echo_reply piece ∷ []) [] (eq-eqb (type_in piece) 2 is_echo_now))))
            (may.send t (echo_reply piece), tt)

        -- HELLO: what isn't answered is sent again
        abbrev opened : PeerState
        opened = record p { channel = record ch { session = Open; unread = [] } }

        abbrev again : List DriverOutput
        again = sends (is_to t) (batch_of net first (asks_now net rounds inverses stage))

        heard_hello : (m : IsMessage piece) → type_in piece ≡ 0 → IsHeard came_here (T t).sent Open [] ch.outstanding p.behind
        heard_hello m hello_now =
            heard_message (T t).came (T t).sent ch.session ch.unread ch.outstanding p.behind heard b Open (not_nil heard.messages piece) m.whole (ap (λ n. eqb n 19) hello_now)

        tells_hello : ch.session ≡ Waiting → (m : IsMessage piece) → type_in piece ≡ 0 → (words : List DriverOutput) → failures_to t words ≡ [] → TellsSo words
        tells_hello waits m hello_now words none =
            tells_message words m None (ap (λ (x : Session). fault_in x ch.outstanding piece) waits ∙ ap (λ n. cond (eqb n 0) None (Some cause.NoHello)) hello_now) none
            (λ some. absurd (some (subst (λ (x : Session). IsGreeted x heard.messages) waits heard.greeted)))

        opens_quiet : ch.session ≡ Waiting → (m : IsMessage piece) → type_in piece ≡ 0 → Stepped stage (driver stage opened flags [])
        opens_quiet waits m hello_now =
            stays flags [] opened refl refl tt
            (λ _. record { reads = heard_quiet [] Open [] ch.outstanding p.behind refl (heard_hello m hello_now); out = out_still []; waiting = λ e. absurd (let f : Open ≡ Waiting = e in cc) })
            (told_going [] opened refl refl) (tells_hello waits m hello_now [] refl) tt

        opens_again : ch.session ≡ Waiting → (m : IsMessage piece) → type_in piece ≡ 0 → (y : ℕ) → p.asked ≡ Some y → Stepped stage (driver stage (asks_again y opened) flags again)
        opens_again waits m hello_now y asked =
            let changes = asks_now net rounds inverses stage in
            let texts_are : texts_to t again ≡ texts_for t (change_messages first changes) ++ wire_text (BarrierRequest y) ∷ [] = texts_sent t (batch_of net first changes) ∙ here.asked y asked in
            let one : barrier_xids (texts_to t again) ≡ y ∷ [] = ap barrier_xids texts_are ∙ one_request t first y changes (here.range y asked) in
            let none : ch.outstanding ≡ None = goes.waiting waits in
            let nothing : out_list ch.outstanding p.behind ++ y ∷ [] ≡ out_list (Some y) None = ap (λ (o : Option ℕ). out_list o p.behind ++ y ∷ []) none in
            let no_failure : failures_to t again ≡ [] = sends_failures t (is_to t) (batch_of net first changes) in
            stays flags again (asks_again y opened) refl refl (sends_to t (batch_of net first changes))
            (λ _. record {
              reads = heard_behind again Open [] (Some y) None
                  (heard_request came_here (T t).sent Open [] ch.outstanding p.behind (heard_hello m hello_now) (texts_to t again) y (Some y) None one nothing);
              out = record {
                waits = asked;
                is = record {
                  before = (T t).of_way;
                  first = first;
                  behind = [];
                  sent_are = ap (λ (l : List (List ℕ)). (T t).of_way ++ l) texts_are;
                };
              };
              waiting = λ e. absurd (let f : Open ≡ Waiting = e in cc);
            })
            (told_going again (asks_again y opened) refl no_failure) (tells_hello waits m hello_now again no_failure)
            (all_sends P may.send (is_to t) (batch_of net first changes))

        -- ---- the outstanding barrier request is answered

        -- nothing is outstanding, for now
        abbrev freed : PeerState
        freed = record p { channel = record ch { unread = []; outstanding = None } }

        module _ (x : ℕ) (is_open_now : ch.session ≡ Open) (outstanding : ch.outstanding ≡ Some x) (m : IsMessage piece) (is_reply : type_in piece ≡ 19) (xid_is : xid_in piece ≡ x) where
          ends : EndsReply came_here x
          ends = ends_reply (T t).came (T t).sent ch.session ch.unread ch.outstanding p.behind heard b x m.whole is_reply xid_is

          out_of : AreOut net rounds inverses stage t (T t).of_round (T t).of_way (Some x) p.behind p.asked
          out_of = subst (λ (o : Option ℕ). AreOut net rounds inverses stage t (T t).of_round (T t).of_way o p.behind p.asked) outstanding goes.out

          last_of : p.behind ≡ None → IsLast net rounds inverses stage t (T t).of_way x p.asked
          last_of none = subst (λ (o : Option ℕ). AreOut net rounds inverses stage t (T t).of_round (T t).of_way (Some x) o p.asked) none out_of

          turned_of : (y : ℕ) → p.behind ≡ Some y → IsTurned net rounds inverses stage t (T t).of_round (T t).of_way x y p.asked
          turned_of y some = subst (λ (o : Option ℕ). AreOut net rounds inverses stage t (T t).of_round (T t).of_way (Some x) o p.asked) some out_of

          -- the first request is answered
          heard_answer : (words : List DriverOutput) → AllByRecursion IsNote words → (o out : Option ℕ) → out_list ch.outstanding p.behind ≡ x ∷ out_list o out
              → IsHeard (behind stage words t).came (behind stage words t).sent ch.session [] o out
          heard_answer words notes o out rest =
              heard_quiet words ch.session [] o out (ap barrier_xids (texts_none t words notes))
              (heard_reply (T t).came (T t).sent ch.session ch.unread ch.outstanding p.behind heard b ch.session
              (subst (λ (x : Session). IsGreeted x (heard.messages ++ piece ∷ [])) (sym is_open_now) (not_nil heard.messages piece)) m.whole (ap (λ n. eqb n 19) is_reply) x o out rest)

          tells_answer : (words : List DriverOutput) → AllByRecursion IsNote words → TellsSo words
          tells_answer words notes =
              tells_message words m None
              (ap (λ (x : Session). fault_in x ch.outstanding piece) is_open_now ∙ later_none ch.outstanding 19 is_reply
              ∙ ap (λ (o : Option ℕ). cond (is_outstanding (xid_in piece) o) None (Some (cause.Xid (xid_in piece)))) outstanding
              ∙ cond-true (eqb x (xid_in piece)) None (Some (cause.Xid (xid_in piece))) (eq-eqb x (xid_in piece) (sym xid_is)))
              (failures_none t words notes) (λ _. texts_none t words notes ∙ sym (cond-false (is_echo piece) (echo_reply piece ∷ []) [] (ap (λ n. eqb n 2) is_reply)))

          -- the one behind it is outstanding now
          next_out : (y : ℕ) → p.behind ≡ Some y → Stepped stage (driver stage (record freed { channel = after_request [] y freed.channel; behind = None }) (set flags t.0 true) (change_notes (is_change_at t) 0 (running_round rounds stage)))
          next_out y some =
              let two = turned_of y some in
              let round_is : running_round rounds stage ≡ round_after two.k rounds = ap (running_round rounds) two.undone in
              let words = change_notes (is_change_at t) 0 (running_round rounds stage) in
              let notes = all_changes IsNote (is_change_at t) (running_round rounds stage) 0 (λ i c at here_now. tt) in
              let q : PeerState = record freed { channel = after_request [] y freed.channel; behind = None } in
              stays (set flags t.0 true) words q refl refl (notes_to t words notes)
              (λ _. record {
                reads = heard_answer words notes (Some y) None (ap (λ (o : Option ℕ). out_list o p.behind) outstanding ∙ ap (out_list (Some x)) some);
                out = record {
                  waits = two.waits;
                  is = asks_more (asks_now net rounds inverses stage) t y (T t).of_way (texts_to t words)
                      (subst (λ (l : List Change). AsksBehind l t y (T t).of_way) (sym (ap (asks_now net rounds inverses) two.undone)) two.turned);
                };
                waiting = λ e. absurd (let f : Open ≡ Waiting = sym is_open_now ∙ e in cc);
              })
              (told_going words q going (failures_none t words notes)) (tells_answer words notes)
              (all_changes P (is_change_at t) (running_round rounds stage) 0 (λ i c at here_now.
              subst (λ n. P (Log (logged.Change n))) (let z : i ≡ 0 + i = omega arith in z)
              (may.change two.k (inr two.undone) i c (subst (λ (l : List Change). slice_get l i ≡ Some c) round_is at) (eqb-true (switch_of c).0 t.0 here_now) x ends two.first)))

          -- it was the last one
          abbrev done : PeerState
          done = record freed { asked = None }

          knows_done : (words : List DriverOutput) → AllByRecursion IsNote words → p.behind ≡ None → Knows net rounds inverses (E t) stage first t (behind stage words t) done
          knows_done words notes none = record {
            goes = λ _. record {
              reads = heard_answer words notes None p.behind (ap (λ (o : Option ℕ). out_list o p.behind) outstanding ∙ ap (out_list (Some x)) none);
              out = subst (λ (o : Option ℕ). AreOut net rounds inverses stage t (behind stage words t).of_round (behind stage words t).of_way None o None) (sym none) tt;
              waiting = λ e. refl;
            };
            asked = λ y at. absurd (none_some None y refl at);
            unasked = λ off. refl;
            answered = λ on _. may.now x ends (last_of none).is;
            same = λ k at. ap (λ (l : List (List ℕ)). l ++ texts_to t words) (here.same k at);
            range = λ y at. absurd (none_some None y refl at);
            told = told_going words done going (failures_none t words notes);
            dead = here.dead;
          }

    -- the last request of a switch is answered, by how the round goes
    last_out : (stage : Stage) (may : Permits stage) (known : Known net rounds inverses T D (before stage)) (going : is_failed ch.session ≡ false) (alive : p.is_dead ≡ false) (x : ℕ) (is_open_now : ch.session ≡ Open) (outstanding : ch.outstanding ≡ Some x)
        (m : IsMessage (ch.unread ++ b ∷ [])) (is_reply : type_in (ch.unread ++ b ∷ []) ≡ 19) (xid_is : xid_in (ch.unread ++ b ∷ []) ≡ x) (none : p.behind ≡ None)
        → Stepped stage (settled_if_answered (running_round rounds stage) (carried_out (running_round rounds stage) t stage (driver stage (done stage may known going alive x is_open_now outstanding m is_reply xid_is) flags [])))
    unfolding made_state undone_state
    last_out (Settled k) may known going alive x is_open_now outstanding m is_reply xid_is none =
        absurd (none_some p.asked x ((here (Settled k) may known).unasked refl) (last_of (Settled k) may known going alive x is_open_now outstanding m is_reply xid_is none).waits)
    last_out (Onward k) may known going alive x is_open_now outstanding m is_reply xid_is none =
        let words = change_notes (is_change_at t) 0 (round_after k rounds) in
        let notes = all_changes IsNote (is_change_at t) (round_after k rounds) 0 (λ i c at here_now. tt) in
        let last = last_of (Onward k) may known going alive x is_open_now outstanding m is_reply xid_is none in
        let end = ends (Onward k) may known going alive x is_open_now outstanding m is_reply xid_is in
        let of_round : AsksBehind (round_after k rounds) t x (T t).of_round = subst (AsksBehind (round_after k rounds) t x) (sym ((here (Onward k) may known).same k refl)) last.is in
        settling (Onward k) may known (set flags t.0 true) words (done (Onward k) may known going alive x is_open_now outstanding m is_reply xid_is) notes
        (knows_done (Onward k) may known going alive x is_open_now outstanding m is_reply xid_is words notes none)
        (tells_answer (Onward k) may known going alive x is_open_now outstanding m is_reply xid_is)
        (all_changes P (is_change_at t) (round_after k rounds) 0 (λ i c at here_now.
        subst (λ n. P (Log (logged.Change n))) (let z : i ≡ 0 + i = omega arith in z) (may.change k (inl refl) i c at (eqb-true (switch_of c).0 t.0 here_now) x end of_round)))
    last_out (Undone k) may known going alive x is_open_now outstanding m is_reply xid_is none =
        let words = undo_notes (is_change_at t) 0 (round_after k rounds) in
        let notes = all_undos IsNote (is_change_at t) (round_after k rounds) 0 (λ i c at here_now. tt) in
        let last = last_of (Undone k) may known going alive x is_open_now outstanding m is_reply xid_is none in
        let end = ends (Undone k) may known going alive x is_open_now outstanding m is_reply xid_is in
        let q = done (Undone k) may known going alive x is_open_now outstanding m is_reply xid_is in
        let tells = tells_answer (Undone k) may known going alive x is_open_now outstanding m is_reply xid_is in
        elim (get_or flags t.0 false) as (λ f. Stepped (Undone k) (settled_if_answered (round_after k rounds) (cond f (driver (Undone k) q (set flags t.0 false) words) (driver (Undone k) q flags [])))) [
          | true ↦ settling (Undone k) may known (set flags t.0 false) words q notes (knows_done (Undone k) may known going alive x is_open_now outstanding m is_reply xid_is words notes none) tells
              (all_undos P (is_change_at t) (round_after k rounds) 0 (λ i c at here_now.
              subst (λ n. P (Log (logged.Undo n))) (let z : i ≡ 0 + i = omega arith in z) (may.undo k refl i c at (eqb-true (switch_of c).0 t.0 here_now) x end last.is)))
          | false ↦ settling (Undone k) may known flags [] q tt (knows_done (Undone k) may known going alive x is_open_now outstanding m is_reply xid_is [] tt none) tells tt
        ]

    -- ---- what is heard of the byte

    module _ (stage : Stage) (may : Permits stage) (known : Known net rounds inverses T D (before stage)) where
      abbrev put : PeerState → DriverState
      put q = driver stage q flags []

      fed_is : (heard : ByteOutcome) (kept : ChannelState) → heard_by ch (after_byte b ch) ≡ heard → kept_of ch (after_byte b ch) ≡ kept
          → heard_byte net rounds inverses t b (before stage) ≡ heard_state net rounds inverses t heard (put (record p { channel = kept }))
      unfolding peer_after
      fed_is heard kept h k =
          ap (λ (o : ByteOutcome). heard_state net rounds inverses t o (put (record p { channel = kept_of ch (after_byte b ch) }))) h
          ∙ ap (λ (c : ChannelState). heard_state net rounds inverses t heard (put (record p { channel = c }))) k

      abbrev Steps : DriverState → Type 0
      Steps e = Stepped stage e

      put_at : (q : PeerState) → peer_at (put q) t ≡ q
      put_at q = get_or-set_same peers t.0 q first_peer less

      put_twice : (q r : PeerState) → set (set peers t.0 q) t.0 r ≡ set peers t.0 r
      put_twice q r = set_twice peers t.0 q r

      opened_none : (q : PeerState) → q.asked ≡ None → opened_state net (asks_now net rounds inverses stage) t (put q) ≡ put q
      unfolding opened_state
      opened_none q none =
          ap (λ (r : PeerState). option_map_or (λ y. sent_again net (asks_now net rounds inverses stage) t y (put q)) r.asked (put q)) (put_at q)
          ∙ ap (λ (o : Option ℕ). option_map_or (λ y. sent_again net (asks_now net rounds inverses stage) t y (put q)) o (put q)) none

      opened_some : (q : PeerState) (y : ℕ) → q.asked ≡ Some y
          → opened_state net (asks_now net rounds inverses stage) t (put q) ≡ driver stage (asks_again y q) flags (sends (is_to t) (batch_of net first (asks_now net rounds inverses stage)))
      unfolding opened_state
      opened_some q y some =
          let again = sends (is_to t) (batch_of net first (asks_now net rounds inverses stage)) in
          ap (λ (r : PeerState). option_map_or (λ z. sent_again net (asks_now net rounds inverses stage) t z (put q)) r.asked (put q)) (put_at q)
          ∙ ap (λ (o : Option ℕ). option_map_or (λ z. sent_again net (asks_now net rounds inverses stage) t z (put q)) o (put q)) some
          ∙ ap (λ (r : PeerState). record { stage = stage; first = first; next = next; peers = set (set peers t.0 q) t.0 (asks_again y r); in_force = flags; said = again }) (put_at q)
          ∙ ap (λ (l : List PeerState). record { stage = stage; first = first; next = next; peers = l; in_force = flags; said = again }) (put_twice q (asks_again y q))

      answered_is : (q : PeerState) (next_peer : PeerState) → answers q ≡ next_peer
          → answered_state (running_round rounds stage) t (put q)
          ≡ cond (is_some q.behind) (made_state (running_round rounds stage) t (put next_peer)) (settled_if_answered (running_round rounds stage) (carried_out (running_round rounds stage) t stage (put next_peer)))
      unfolding answered_state
      answered_is q next_peer is =
          let round = running_round rounds stage in
          let made : PeerState → DriverState → DriverState = λ r e. cond (is_some r.behind) (made_state round t e) (settled_if_answered round (carried_out round t stage e)) in
          ap (λ (r : PeerState). made r (record { stage = stage; first = first; next = next; peers = set (set peers t.0 q) t.0 (answers r); in_force = flags; said = [] })) (put_at q)
          ∙ ap (λ (l : List PeerState). made q (record { stage = stage; first = first; next = next; peers = l; in_force = flags; said = [] })) (put_twice q (answers q))
          ∙ ap (λ (r : PeerState). made q (put r)) is

      answers_none : (q : PeerState) → q.behind ≡ None → answers q ≡ record q { asked = None }
      unfolding answers
      answers_none q none = ap (λ (o : Option ℕ). option_map_or (λ z. record q { channel = after_request [] z q.channel; behind = None }) o (record q { asked = None })) none

      answers_some : (q : PeerState) (y : ℕ) → q.behind ≡ Some y → answers q ≡ record q { channel = after_request [] y q.channel; behind = None }
      unfolding answers
      answers_some q y some = ap (λ (o : Option ℕ). option_map_or (λ z. record q { channel = after_request [] z q.channel; behind = None }) o (record q { asked = None })) some

      -- the driver's state is this one
      step_as : (e f : DriverState) → e ≡ f → Steps f → Steps e
      step_as e f is h = subst Steps (sym is) h

      made_so : (round : List Change) (r : PeerState) → Steps (driver stage r (set flags t.0 true) (change_notes (is_change_at t) 0 round)) → Steps (made_state round t (put r))
      unfolding made_state
      made_so round r h = h

      module _ (going : is_failed ch.session ≡ false) (alive : p.is_dead ≡ false) where
        opens : ch.session ≡ Waiting → (m : IsMessage (ch.unread ++ b ∷ [])) → type_in (ch.unread ++ b ∷ []) ≡ 0 → Steps (opened_state net (asks_now net rounds inverses stage) t (put (opened stage may known going alive)))
        opens waits m hello_now =
            let q = opened stage may known going alive in
            elim p.asked as (λ (o : Option ℕ). p.asked ≡ o → Steps (opened_state net (asks_now net rounds inverses stage) t (put q))) [
              | None ↦ λ none. step_as (opened_state net (asks_now net rounds inverses stage) t (put q)) (put q) (opened_none q none) (opens_quiet stage may known going alive waits m hello_now)
              | Some y ↦ λ some. step_as (opened_state net (asks_now net rounds inverses stage) t (put q)) (driver stage (asks_again y q) flags (again stage may known going alive)) (opened_some q y some)
                  (opens_again stage may known going alive waits m hello_now y some)
            ] refl

        answered : (x : ℕ) → ch.session ≡ Open → ch.outstanding ≡ Some x → (m : IsMessage (ch.unread ++ b ∷ [])) → type_in (ch.unread ++ b ∷ []) ≡ 19 → xid_in (ch.unread ++ b ∷ []) ≡ x
            → Steps (answered_state (running_round rounds stage) t (put (freed stage may known going alive)))
        answered x is_open_now outstanding m is_reply xid_is =
            let q = freed stage may known going alive in
            let round = running_round rounds stage in
            elim p.behind as (λ (o : Option ℕ). p.behind ≡ o → Steps (answered_state round t (put q))) [
              | None ↦ λ none. step_as (answered_state round t (put q)) (settled_if_answered round (carried_out round t stage (put (record q { asked = None }))))
                  (answered_is q (record q { asked = None }) (answers_none q none)
                  ∙ ap (λ (o : Option ℕ). cond (is_some o) (made_state round t (put (record q { asked = None }))) (settled_if_answered round (carried_out round t stage (put (record q { asked = None }))))) none)
                  (last_out stage may known going alive x is_open_now outstanding m is_reply xid_is none)
              | Some y ↦ λ some. (
                  let r : PeerState = record q { channel = after_request [] y q.channel; behind = None } in
                  step_as (answered_state round t (put q)) (made_state round t (put r))
                  (answered_is q r (answers_some q y some)
                  ∙ ap (λ (o : Option ℕ). cond (is_some o) (made_state round t (put r)) (settled_if_answered round (carried_out round t stage (put r)))) some)
                  (made_so round r (next_out stage may known going alive x is_open_now outstanding m is_reply xid_is y some)))
            ] refl

        -- a failure: no echo request stands there
        abbrev broken : Cause → PeerState
        broken c = record p { channel = after_failure c ch }

        fails : (c : Cause) → TellsSo stage may known (said.Failed t c ∷ []) → Steps (with_said (said.Failed t c ∷ []) (put (broken c)))
        fails c tells =
            stays stage may known flags (said.Failed t c ∷ []) (broken c) refl refl (refl, tt) (λ e. absurd (let f : true ≡ false = e.0 in cc))
            (λ _. ap (λ (l : List Cause). l ++ failures_to t (said.Failed t c ∷ [])) (none_told stage may known going alive) ∙ one_failure t c) tells (may.failed t c, tt)

        no_echo : (c : Cause) (m : IsMessage (ch.unread ++ b ∷ [])) → fault_in ch.session ch.outstanding (ch.unread ++ b ∷ []) ≡ Some c
            → ((heard stage may known going alive).messages ≡ [] → ⊥) → [] ≡ echoes_at (ch.unread ++ b ∷ []) (Message m.n)
        no_echo c m fault some =
            by_session ch.session refl
          where
            by_session : (x : Session) → ch.session ≡ x → [] ≡ echoes_at (ch.unread ++ b ∷ []) (Message m.n)
            by_session Waiting is = absurd (some (subst (λ (x : Session). IsGreeted x (heard stage may known going alive).messages) is (heard stage may known going alive).greeted))
            by_session Open is =
                elim (cases_Bool (is_echo (ch.unread ++ b ∷ []))) [
                  | inl echo ↦ absurd (none_some (later_fault ch.outstanding (ch.unread ++ b ∷ [])) c (later_none stage may known going alive ch.outstanding 2 (eqb-true (type_in (ch.unread ++ b ∷ [])) 2 echo))
                      (ap (λ (x : Session). fault_in x ch.outstanding (ch.unread ++ b ∷ [])) (sym is) ∙ fault))
                  | inr other ↦ sym (cond-false (is_echo (ch.unread ++ b ∷ [])) (echo_reply (ch.unread ++ b ∷ []) ∷ []) [] other)
                ]
            by_session (Failed c) is = absurd (let f : true ≡ false = sym (ap is_failed is) ∙ going in cc)

        by_hearing : Hearing ch b → Steps (heard_byte net rounds inverses t b (before stage))
        by_hearing (Keeps h unread k read) =
            step_as (heard_byte net rounds inverses t b (before stage)) (put (record p { channel = record ch { unread = unread } })) (fed_is Nothing (record ch { unread = unread }) h k)
            (elim read [
              | inl short ↦ subst (λ (l : List ℕ). Steps (put (record p { channel = record ch { unread = l } }))) (sym short.1) (still_short stage may known going alive short.0)
              | inr other ↦ subst (λ (l : List ℕ). Steps (put (record p { channel = record ch { unread = l } }))) (sym other.1) (passes stage may known going alive other.0 other.5 other.2 other.3 other.4)
            ])
        by_hearing (Opens h k waits m hello_now) =
            step_as (heard_byte net rounds inverses t b (before stage)) (opened_state net (asks_now net rounds inverses stage) t (put (opened stage may known going alive)))
            (fed_is Opened (record ch { session = Open; unread = [] }) h k) (opens waits m hello_now)
        by_hearing (Answers h k is_open_now x outstanding m is_reply xid_is) =
            step_as (heard_byte net rounds inverses t b (before stage)) (answered_state (running_round rounds stage) t (put (freed stage may known going alive)))
            (fed_is Answered (record ch { unread = []; outstanding = None }) h k) (answered x is_open_now outstanding m is_reply xid_is)
        by_hearing (Replies h k is_open_now m is_echo_now) =
            step_as (heard_byte net rounds inverses t b (before stage)) (driver stage (record p { channel = opened_anew ch.outstanding }) flags (Send t (echo_reply (ch.unread ++ b ∷ [])) ∷ []))
            (fed_is (Replied (echo_reply (ch.unread ++ b ∷ []))) (opened_anew ch.outstanding) h k) (replies stage may known going alive m is_open_now is_echo_now)
        by_hearing (BreaksHeader c h k at) =
            step_as (heard_byte net rounds inverses t b (before stage)) (with_said (said.Failed t c ∷ []) (put (broken c))) (fed_is (Broke c) (after_failure c ch) h k)
            (fails c (tells_as stage may known going alive (said.Failed t c ∷ []) (Fault c) at (record { failures = one_failure t c; replies = λ _. refl })))
        by_hearing (BreaksMessage c h k m fault) =
            step_as (heard_byte net rounds inverses t b (before stage)) (with_said (said.Failed t c ∷ []) (put (broken c))) (fed_is (Broke c) (after_failure c ch) h k)
            (fails c (tells_message stage may known going alive (said.Failed t c ∷ []) m (Some c) fault (one_failure t c) (λ some. no_echo c m fault some)))

      heard_steps : p.is_dead ≡ false → Steps (heard_byte net rounds inverses t b (before stage))
      heard_steps alive =
          elim (cases_Bool (is_failed ch.session)) [
            | inl failed ↦ (
                let still = deaf ch b failed in
                let told = (here stage may known).told alive in
                let some = failed_some ch.session (T t).failures failed told in
                step_as (heard_byte net rounds inverses t b (before stage)) (put p) (fed_is Nothing ch still.heard still.kept)
                (stays stage may known flags [] p refl refl tt (λ live. absurd (let f : true ≡ false = sym failed ∙ live.0 in cc)) (λ _. subst (FailedAs ch.session) (sym (append-nil (T t).failures)) told)
                ((λ none living. absurd (some none)), (λ _. refl), (λ _. refl)) tt))
            | inr going ↦ by_hearing going alive (hearing ch b going (goes stage may known going alive).reads.short)
          ]

      -- what comes from a dead switch does nothing
      gone_steps : p.is_dead ≡ true → Steps (before stage)
      gone_steps gone =
          step_as (before stage) (put p) (ap (λ (l : List PeerState). record { stage = stage; first = first; next = next; peers = l; in_force = flags; said = [] }) (sym (set_own peers t.0)))
          (stays stage may known flags [] p refl refl tt (λ live. absurd (let f : true ≡ false = sym gone ∙ live.1 in cc)) (λ living. absurd (let f : true ≡ false = sym gone ∙ living in cc))
          ((λ none living. absurd (let f : true ≡ false = sym gone ∙ sym (here stage may known).dead ∙ living in cc)), (λ _. refl), (λ _. refl)) tt)

      pub fed_steps : Steps (fed_byte net rounds inverses t b (before stage))
      unfolding fed_byte
      fed_steps = cond_both p.is_dead (before stage) (heard_byte net rounds inverses t b (before stage)) Steps gone_steps heard_steps
