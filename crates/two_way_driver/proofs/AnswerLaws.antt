-- What one byte on a channel makes a driver hear.
use Rattle.std.proofs.Common.{◌≡◌, ℕ, ◌+◌, ◌≤◌, Bool, true, false, cond, eqb, ltb, not, ◌&&◌, List, [], ◌∷◌, ◌++◌, length, map, take, drop, refl, sym, ap, ◌∙◌, subst, append-nil, length-append, length-set, arith}
use Rattle.std.specs.Prelude.{Option, Some, None, is_some, is_none}
use Rattle.std.proofs.lemmas.Bool.{cond-true, cond-false, cond_both, eqb-true, eqb-false, eq-eqb, ne_eqb, lt-ltb, le-ltb}
use Rattle.std.proofs.lemmas.List.{drop_at, take-append-drop}
use Rattle.openflow10.specs.Layout.{number_at}
use Rattle.switch_session.specs.Fronts.{front_of, type_in, xid_in}
use Rattle.switch_session.specs.Channels.{ChannelState, is_failed, is_open, after_failure, echo_reply, is_outstanding, after_reply, taken_open, taken_by, after_message, after_front, after_byte}
use Rattle.switch_session.specs.Laws.{is_echo, AreCut, AreRequests}
use Rattle.switch_session.specs.declared.Cause.{Cause}
use Rattle.switch_session.specs.declared.Cause.TheVariants as cause
use Rattle.switch_session.specs.declared.Session.{Session}
use Rattle.switch_session.specs.declared.Session.TheVariants.{Waiting, Open, Failed}
use Rattle.switch_session.specs.declared.fronts.Front.{Front}
use Rattle.switch_session.specs.declared.fronts.Front.TheVariants.{Short, Fault, Message}
use Rattle.switch_session.proofs.FrontLaws.{message_ends}
use Rattle.switch_session.proofs.ByteLaws.{reading_byte, failed_stays, with_unread, long, size, message_whole, message_echo}
use Rattle.two_way_driver.specs.Peers.{failure_in, heard_of, heard_by}
use Rattle.two_way_driver.specs.declared.peers.ByteOutcome.{ByteOutcome}
use Rattle.two_way_driver.specs.declared.peers.ByteOutcome.TheVariants.{Nothing, Opened, Answered, Replied, Broke}

-- what was heard makes a driver send this, and the session isn't opened by it
abbrev pub HeardAs : ByteOutcome → List (List ℕ) → Type 0
HeardAs Nothing texts = texts ≡ []
HeardAs Opened texts = ⊥
HeardAs Answered texts = texts ≡ []
HeardAs (Replied text) texts = texts ≡ text ∷ []
HeardAs (Broke cause) texts = texts ≡ []

abbrev pub IsPastHello : Session → Type 0
IsPastHello Waiting = ⊥
IsPastHello Open = Unit {0}
IsPastHello (Failed c) = Unit {0}

heard_failure : (s : Session) → HeardAs (failure_in s) []
heard_failure Waiting = refl
heard_failure Open = refl
heard_failure (Failed c) = refl

-- an option isn't there and gone at once
some_none : (o : Option ℕ) → (is_some o && is_none o) ≡ false
some_none None = refl
some_none (Some x) = refl

false_true : {A : Type 0} (b : Bool) → b ≡ false → b ≡ true → A
false_true b f t = absurd (let g : false ≡ true = sym f ∙ t in cc)

module _ (ch after : ChannelState) (closed : (is_open after.session && not (is_open ch.session)) ≡ false) where
  abbrev Hears : ByteOutcome → Type 0
  Hears h = HeardAs h []

  heard_quiet : after.sent ≡ ch.sent → HeardAs (heard_by ch after) []
  unfolding heard_of
  heard_quiet same =
      let quiet = cond (is_failed ch.session) Nothing (failure_in after.session) in
      let reply = cond (ltb (length ch.sent) (length after.sent)) (Replied (drop (length ch.sent) after.sent)) quiet in
      cond_both (is_some ch.outstanding && is_none after.outstanding) Answered (cond (is_open after.session && not (is_open ch.session)) Opened reply) Hears (λ _. refl)
      (λ _. cond_both (is_open after.session && not (is_open ch.session)) Opened reply Hears (λ t. false_true _ closed t)
      (λ _. cond_both (ltb (length ch.sent) (length after.sent)) (Replied (drop (length ch.sent) after.sent)) quiet Hears
      (λ t. false_true _ (le-ltb (length ch.sent) (length after.sent) (let e = ap length same in omega arith)) t)
      (λ _. cond_both (is_failed ch.session) Nothing (failure_in after.session) Hears (λ _. refl) (λ _. heard_failure after.session))))

  heard_reply : (text : List ℕ) → 1 ≤ length text → after.outstanding ≡ ch.outstanding → after.sent ≡ ch.sent ++ text → HeardAs (heard_by ch after) (text ∷ [])
  unfolding heard_of
  heard_reply text some same sent =
      let quiet = cond (is_failed ch.session) Nothing (failure_in after.session) in
      let reply = cond (ltb (length ch.sent) (length after.sent)) (Replied (drop (length ch.sent) after.sent)) quiet in
      let Hears_it : ByteOutcome → Type 0 = λ h. HeardAs h (text ∷ []) in
      let more : length after.sent ≡ length ch.sent + length text = ap length sent ∙ length-append ch.sent text in
      cond_both (is_some ch.outstanding && is_none after.outstanding) Answered (cond (is_open after.session && not (is_open ch.session)) Opened reply) Hears_it
      (λ t. false_true _ (ap (λ (o : Option ℕ). is_some ch.outstanding && is_none o) same ∙ some_none ch.outstanding) t)
      (λ _. cond_both (is_open after.session && not (is_open ch.session)) Opened reply Hears_it (λ t. false_true _ closed t)
      (λ _. cond_both (ltb (length ch.sent) (length after.sent)) (Replied (drop (length ch.sent) after.sent)) quiet Hears_it
      (λ _. ap (λ (l : List ℕ). l ∷ []) (sym (ap (drop (length ch.sent)) sent ∙ drop_at ch.sent text (length ch.sent) refl)))
      (λ f. false_true _ f (lt-ltb (length ch.sent) (length after.sent) (omega arith)))))

-- the answer to a message at the front has bytes
module _ (bytes : List ℕ) (n : ℕ) (at : front_of bytes ≡ Message n) where
  reply_long : 1 ≤ length (echo_reply (take n bytes))
  reply_long = let inside = size bytes n at in let least = long bytes n at in let same = length-set (take n bytes) 1 3 in omega arith

-- none of the messages that came is a request
pub no_requests : (came : List ℕ) (after : ChannelState) → (is_failed after.session ≡ false → came ≡ after.unread) → AreRequests came after []
no_requests came after left = record { messages = []; rest = came; cut = record { whole = tt; bytes_are = refl }; left = left; requests_are = refl; each = tt }

-- what a byte makes a driver hear of a channel that was opened
pub record HeardOpen (ch : ChannelState) (come : List ℕ) (after : ChannelState) : Type 0 where
  pub requests : List (List ℕ)
  pub are : AreRequests come after requests
  pub heard : HeardAs (heard_by ch after) (map echo_reply requests)
  pub session : IsPastHello after.session

module _ (b : ℕ) (ch : ChannelState) (open_now : ch.session ≡ Open) (short : front_of ch.unread ≡ Short) where
  abbrev come : List ℕ
  come = ch.unread ++ b ∷ []

  abbrev Does : ChannelState → Type 0
  Does after = HeardOpen ch come after

  stays : (after : ChannelState) → (is_open after.session && not (is_open ch.session)) ≡ false
  stays after = ap (λ (s : Session). is_open after.session && not (is_open s)) open_now ∙ both (is_open after.session)
    where
      both : (x : Bool) → (x && not true) ≡ false
      both true = refl
      both false = refl

  past : (after : ChannelState) → after.session ≡ ch.session → IsPastHello after.session
  past after same = subst IsPastHello (sym (same ∙ open_now)) tt

  fails : (c : Cause) (base : ChannelState) → base.sent ≡ ch.sent → Does (after_failure c base)
  fails c base sent = record {
    requests = [];
    are = no_requests come (after_failure c base) (λ e. absurd (let f : true ≡ false = e in cc));
    heard = heard_quiet ch (after_failure c base) (stays (after_failure c base)) sent;
    session = tt;
  }

  module _ (n : ℕ) (at : front_of come ≡ Message n) where
    abbrev m : List ℕ
    m = take n come

    abbrev base : ChannelState
    base = with_unread ch (drop n come)

    cut_here : AreCut come (m ∷ []) (drop n come)
    cut_here = record {
      whole = (message_whole come n at, tt);
      bytes_are = sym (take-append-drop n come) ∙ ap (λ (l : List ℕ). l ++ drop n come) (sym (append-nil m));
    }

    other : (type_in m ≡ 2 → ⊥) → (after : ChannelState) → after.session ≡ ch.session → after.unread ≡ drop n come → after.sent ≡ ch.sent → Does after
    other differs after session unread sent = record {
      requests = [];
      are = record {
        messages = m ∷ [];
        rest = drop n come;
        cut = cut_here;
        left = λ _. sym unread;
        requests_are = sym (cond-false (is_echo m) (m ∷ []) [] (ne_eqb (type_in m) 2 differs));
        each = tt;
      };
      heard = heard_quiet ch after (stays after) sent;
      session = past after session;
    }

    answers_it : (xid : ℕ) → (type_in m ≡ 2 → ⊥) → Does (after_reply xid base)
    answers_it xid differs =
        cond_both (is_outstanding xid ch.outstanding) (record base { outstanding = None }) (after_failure (cause.Xid xid) base) Does
        (λ e. other differs (record base { outstanding = None }) refl refl refl) (λ e. fails (cause.Xid xid) base refl)

    replies : type_in m ≡ 2 → Does (record base { sent = ch.sent ++ echo_reply m })
    replies echo =
        let after : ChannelState = record base { sent = ch.sent ++ echo_reply m } in
        record {
          requests = m ∷ [];
          are = record {
            messages = m ∷ [];
            rest = drop n come;
            cut = cut_here;
            left = λ _. refl;
            requests_are = sym (cond-true (is_echo m) (m ∷ []) [] (eq-eqb (type_in m) 2 echo));
            each = (message_echo come n at echo, tt);
          };
          heard = heard_reply ch after (stays after) (echo_reply m) (reply_long come n at) refl refl;
          session = past after refl;
        }

    takes_open : Does (taken_open m base)
    takes_open =
        cond_both (eqb (type_in m) 1) (after_failure (cause.Error (number_at 8 2 m) (number_at 10 2 m)) base)
        (cond (eqb (type_in m) 2) (record base { sent = ch.sent ++ echo_reply m }) (cond (eqb (type_in m) 19) (after_reply (xid_in m) base) base)) Does
        (λ e. fails (cause.Error (number_at 8 2 m) (number_at 10 2 m)) base refl)
        (λ e. cond_both (eqb (type_in m) 2) (record base { sent = ch.sent ++ echo_reply m }) (cond (eqb (type_in m) 19) (after_reply (xid_in m) base) base) Does
        (λ t. replies (eqb-true (type_in m) 2 t))
        (λ f. cond_both (eqb (type_in m) 19) (after_reply (xid_in m) base) base Does (λ t. answers_it (xid_in m) (eqb-false (type_in m) 2 f)) (λ g. other (eqb-false (type_in m) 2 f) base refl refl refl)))

    takes_it : Does (after_message m base)
    unfolding after_message
    takes_it = subst (λ (s : Session). Does (taken_by s m base)) (sym open_now) takes_open

  by_front : (f : Front) → front_of come ≡ f → Does (after_front f (with_unread ch come))
  by_front Short at = record {
    requests = [];
    are = no_requests come (with_unread ch come) (λ e. refl);
    heard = heard_quiet ch (with_unread ch come) (stays (with_unread ch come)) refl;
    session = past (with_unread ch come) refl;
  }
  by_front (Fault c) at = fails c (with_unread ch come) refl
  by_front (Message n) at = takes_it n at

  pub heard_open : HeardOpen ch come (after_byte b ch)
  heard_open = subst Does (sym (reading_byte b ch (ap is_failed open_now))) (by_front (front_of come) refl)

-- ---- a session that waits for HELLO

-- nothing is heard of a channel that is as before but for its unread bytes
nothing_of : (o : Option ℕ) (sent unread : List ℕ) → heard_of Waiting o (length sent) (record { session = Waiting; unread = unread; sent = sent; outstanding = o }) ≡ Nothing
unfolding heard_of
nothing_of o sent unread =
    let sent_more = cond (ltb (length sent) (length sent)) (Replied (drop (length sent) sent)) Nothing in
    cond-false (is_some o && is_none o) Answered sent_more (some_none o) ∙ cond-false (ltb (length sent) (length sent)) (Replied (drop (length sent) sent)) Nothing (le-ltb (length sent) (length sent) (omega arith))

opened_of : (o : Option ℕ) (sent unread : List ℕ) → heard_of Waiting o (length sent) (record { session = Open; unread = unread; sent = sent; outstanding = o }) ≡ Opened
unfolding heard_of
opened_of o sent unread = cond-false (is_some o && is_none o) Answered Opened (some_none o)

-- what a byte makes of a waiting session, by what stands at the front
module _ (b : ℕ) (ch : ChannelState) (waits : ch.session ≡ Waiting) (short : front_of ch.unread ≡ Short) where
  abbrev with_b : List ℕ
  with_b = ch.unread ++ b ∷ []

  at_front : (f : Front) → front_of with_b ≡ f → after_byte b ch ≡ after_front f (with_unread ch with_b)
  at_front f at = reading_byte b ch (ap is_failed waits) ∙ ap (λ (x : Front). after_front x (with_unread ch with_b)) at

  pub still_waits : front_of with_b ≡ Short → after_byte b ch ≡ with_unread ch with_b
  still_waits at = at_front Short at

  pub nothing_heard : front_of with_b ≡ Short → heard_by ch (after_byte b ch) ≡ Nothing
  nothing_heard at =
      ap (λ (x : ChannelState). heard_by ch x) (still_waits at)
      ∙ ap (λ (s : Session). heard_of s ch.outstanding (length ch.sent) (record { session = s; unread = with_b; sent = ch.sent; outstanding = ch.outstanding })) waits
      ∙ nothing_of ch.outstanding ch.sent with_b

  fails_by : (c : Cause) (base : ChannelState) → base.sent ≡ ch.sent → HeardAs (heard_by ch (after_failure c base)) []
  fails_by c base sent = heard_quiet ch (after_failure c base) refl sent

  pub record Breaks : Type 0 where
    pub heard : HeardAs (heard_by ch (after_byte b ch)) []
    pub failed : is_failed (after_byte b ch).session ≡ true

  breaks_as : (c : Cause) (base : ChannelState) → base.sent ≡ ch.sent → after_byte b ch ≡ after_failure c base → Breaks
  breaks_as c base sent is = record {
    heard = subst (λ (x : ChannelState). HeardAs (heard_by ch x) []) (sym is) (fails_by c base sent);
    failed = ap (λ (x : ChannelState). is_failed x.session) is;
  }

  pub breaks_at_fault : (c : Cause) → front_of with_b ≡ Fault c → Breaks
  breaks_at_fault c at = breaks_as c (with_unread ch with_b) refl (at_front (Fault c) at)

  module _ (n : ℕ) (at : front_of with_b ≡ Message n) where
    abbrev first : List ℕ
    first = take n with_b

    abbrev left : ChannelState
    left = with_unread ch (drop n with_b)

    taken_first : after_byte b ch ≡ cond (eqb (type_in first) 0) (record left { session = Open }) (after_failure cause.NoHello left)
    unfolding after_message
    taken_first = at_front (Message n) at ∙ ap (λ (s : Session). taken_by s first left) waits

    pub breaks_at_other : eqb (type_in first) 0 ≡ false → Breaks
    breaks_at_other f = breaks_as cause.NoHello left refl (taken_first ∙ cond-false (eqb (type_in first) 0) (record left { session = Open }) (after_failure cause.NoHello left) f)

    pub opens : eqb (type_in first) 0 ≡ true → after_byte b ch ≡ record left { session = Open }
    opens t = taken_first ∙ cond-true (eqb (type_in first) 0) (record left { session = Open }) (after_failure cause.NoHello left) t

    pub opened_heard : eqb (type_in first) 0 ≡ true → heard_by ch (after_byte b ch) ≡ Opened
    opened_heard t =
        ap (λ (x : ChannelState). heard_by ch x) (opens t)
        ∙ ap (λ (s : Session). heard_of s ch.outstanding (length ch.sent) (record { session = Open; unread = drop n with_b; sent = ch.sent; outstanding = ch.outstanding })) waits
        ∙ opened_of ch.outstanding ch.sent (drop n with_b)

    -- the byte ended the message
    pub ended : length with_b ≡ n
    ended = message_ends ch.unread b n short at

    pub none_left : drop n with_b ≡ []
    none_left = ap (drop n) (sym (append-nil with_b)) ∙ drop_at with_b [] n ended

-- ---- a session that failed

pub failed_byte_is : (b : ℕ) (ch : ChannelState) → is_failed ch.session ≡ true → after_byte b ch ≡ ch
failed_byte_is b ch e = failed_stays (b ∷ []) ch e

pub failed_hears_nothing : (b : ℕ) (ch : ChannelState) → is_failed ch.session ≡ true → HeardAs (heard_by ch (after_byte b ch)) []
failed_hears_nothing b ch e =
    let closed : (is_open ch.session && not (is_open ch.session)) ≡ false = never (is_open ch.session) in
    subst (λ (x : ChannelState). HeardAs (heard_by ch x) []) (sym (failed_byte_is b ch e)) (heard_quiet ch ch closed refl)
  where
    never : (x : Bool) → (x && not x) ≡ false
    never true = refl
    never false = refl
