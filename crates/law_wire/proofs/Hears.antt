-- One byte from a switch: what the driver hears by it, and what the switch is then.
use Rattle.std.proofs.Common.{◌≡◌, ◌≢◌, ◌⊎◌, ℕ, ◌<◌, ◌≤◌, ◌^◌, Bool, true, false, cond, eqb, ltb, not, ◌&&◌, List, [], ◌∷◌, ◌++◌, length, take, drop, refl, sym, ◌∙◌, subst, ap, inl, inr, append-nil, length-append, length-set, arith}
use Rattle.std.specs.Prelude.{Option, Some, None, is_some, is_none}
use Rattle.std.specs.List.{AllByRecursion}
use Rattle.std.proofs.lemmas.Bool.{cases_Bool, cond-true, cond-false, eqb-true, eqb-false, lt-ltb, le-ltb}
use Rattle.std.proofs.lemmas.List.{take_at, drop_at}
use Rattle.flow_rules.specs.declared.rules.Key.{Key}
use Rattle.flow_rules.specs.declared.rules.Rule.{Rule}
use Rattle.openflow10.specs.Layout.{number_at}
use Rattle.openflow10.specs.declared.Message.{Message}
use Rattle.switch_session.specs.Fronts.{front_of, type_in, xid_in}
use Rattle.switch_session.specs.Channels.{ChannelState, is_failed, is_open, after_failure, echo_reply, is_outstanding, after_reply, taken_open, taken_by, after_message, after_front, after_byte}
use Rattle.switch_session.specs.declared.Cause.{Cause}
use Rattle.switch_session.specs.declared.Cause.TheVariants as cause
use Rattle.switch_session.specs.declared.Session.{Session}
use Rattle.switch_session.specs.declared.Session.TheVariants.{Waiting, Open, Failed}
use Rattle.switch_session.specs.declared.fronts.Front.{Front}
use Rattle.switch_session.specs.declared.fronts.Front.TheVariants.{Short, Fault, Message as Whole}
use Rattle.switch_session.proofs.FrontLaws.{message_ends}
use Rattle.switch_session.proofs.ByteLaws.{failed_stays, reading_byte}
use Rattle.two_way_driver.specs.PeerStates.{PeerState}
use Rattle.two_way_driver.specs.Peers.{opened_anew, failure_in, heard_of, heard_by, kept_of, peer_after}
use Rattle.two_way_driver.specs.declared.peers.ByteOutcome.{ByteOutcome}
use Rattle.two_way_driver.specs.declared.peers.ByteOutcome.TheVariants.{Nothing, Opened, Answered, Replied, Broke}
use Rattle.law_wire.specs.Network.{inbox_message}
use Rattle.law_wire.proofs.Bytes.{replies_in, replies_reply, replies_other, Stream, stream_byte, stream_message, Completes, other_stays_out, echo_type}
use Rattle.law_wire.proofs.Link.{requests_in, option_list, waiting_of, Shape, ShapeBy, Live, Link}

-- ---- outcomes

some_gone : (o : Option ℕ) → (is_some o && is_none o) ≡ false
some_gone None = refl
some_gone (Some x) = refl

and_not : (b : Bool) → (b && not b) ≡ false
and_not true = refl
and_not false = refl

-- nothing is heard where only unread bytes are others
same_hears : (s : Session) (o : Option ℕ) (sent unread : List ℕ) → heard_of s o (length sent) (record { session = s; unread = unread; sent = sent; outstanding = o }) ≡ Nothing
unfolding heard_of
same_hears s o sent unread =
    let failing = cond (is_failed s) Nothing (failure_in s) in
    let replying = cond (ltb (length sent) (length sent)) (Replied (drop (length sent) sent)) failing in
    let opening = cond (is_open s && not (is_open s)) Opened replying in
    cond-false (is_some o && is_none o) Answered opening (some_gone o)
    ∙ cond-false (is_open s && not (is_open s)) Opened replying (and_not (is_open s))
    ∙ cond-false (ltb (length sent) (length sent)) (Replied (drop (length sent) sent)) failing (le-ltb (length sent) (length sent) (omega arith))
    ∙ quiet s
  where
    quiet : (s : Session) → cond (is_failed s) Nothing (failure_in s) ≡ Nothing
    quiet Waiting = refl
    quiet Open = refl
    quiet (Failed c) = refl

failing_hears : (s : Session) (o : Option ℕ) (sent : List ℕ) (c : Cause) → is_failed s ≡ false → heard_of s o (length sent) (record { session = Failed c; unread = []; sent = sent; outstanding = o }) ≡ Broke c
unfolding heard_of
failing_hears s o sent c going =
    let failing = cond (is_failed s) Nothing (Broke c) in
    let replying = cond (ltb (length sent) (length sent)) (Replied (drop (length sent) sent)) failing in
    cond-false (is_some o && is_none o) Answered replying (some_gone o)
    ∙ cond-false (ltb (length sent) (length sent)) (Replied (drop (length sent) sent)) failing (le-ltb (length sent) (length sent) (omega arith))
    ∙ cond-false (is_failed s) Nothing (Broke c) going

opening_hears : (o : Option ℕ) (sent unread : List ℕ) → heard_of Waiting o (length sent) (record { session = Open; unread = unread; sent = sent; outstanding = o }) ≡ Opened
unfolding heard_of
opening_hears o sent unread = cond-false (is_some o && is_none o) Answered Opened (some_gone o)

replying_hears : (o : Option ℕ) (sent reply unread : List ℕ) → 1 ≤ length reply → heard_of Open o (length sent) (record { session = Open; unread = unread; sent = sent ++ reply; outstanding = o }) ≡ Replied reply
unfolding heard_of
replying_hears o sent reply unread some =
    let count = length-append sent reply in
    let replying = cond (ltb (length sent) (length (sent ++ reply))) (Replied (drop (length sent) (sent ++ reply))) Nothing in
    cond-false (is_some o && is_none o) Answered replying (some_gone o)
    ∙ cond-true (ltb (length sent) (length (sent ++ reply))) (Replied (drop (length sent) (sent ++ reply))) Nothing (lt-ltb (length sent) (length (sent ++ reply)) (omega arith))
    ∙ ap Replied (drop_at sent reply (length sent) refl)

answering_hears : (s : Session) (x n : ℕ) (after : ChannelState) → after.outstanding ≡ None → heard_of s (Some x) n after ≡ Answered
unfolding heard_of
answering_hears s x n after none =
    let replying = cond (ltb n (length after.sent)) (Replied (drop n after.sent)) (cond (is_failed s) Nothing (failure_in after.session)) in
    let opening = cond (is_open after.session && not (is_open s)) Opened replying in
    ap (λ (o : Option ℕ). cond (is_none o) Answered opening) none

-- what is kept of a channel to which nothing was said
kept_same : (before after : ChannelState) → length after.sent ≡ length before.sent → kept_of before after ≡ after
kept_same before after same = cond-false (ltb (length before.sent) (length after.sent)) (opened_anew after.outstanding) after (le-ltb (length before.sent) (length after.sent) (omega arith))

kept_replied : (before after : ChannelState) → length before.sent < length after.sent → kept_of before after ≡ opened_anew after.outstanding
kept_replied before after more = cond-true (ltb (length before.sent) (length after.sent)) (opened_anew after.outstanding) after (lt-ltb (length before.sent) (length after.sent) more)

-- what is heard that sends nothing of a round
abbrev pub IsAside : ByteOutcome → Type 0
IsAside Nothing = Unit {0}
IsAside Opened = ⊥
IsAside Answered = ⊥
IsAside (Replied text) = inbox_message text ≡ None
IsAside (Broke cause) = Unit {0}

-- ---- a switch

module _ (side : Bool → List Rule) (named : List Key) (g : Bool) (on : Key → Bool) (p : PeerState) (inbox : List Message) (out : List ℕ) (b : ℕ) where
  -- the byte changes nothing but the channel
  pub record Aside : Type 0 where
    pub came : ByteOutcome
    pub heard : heard_by p.channel (after_byte b p.channel) ≡ came
    pub aside : IsAside came
    pub link : Link side named g on (peer_after b p) inbox out

  -- the byte ends HELLO on a session that waits for it
  pub record Opens : Type 0 where
    pub heard : heard_by p.channel (after_byte b p.channel) ≡ Opened
    pub session : (peer_after b p).channel.session ≡ Open
    pub outstanding : (peer_after b p).channel.outstanding ≡ p.channel.outstanding
    pub waits : is_some p.asked ≡ true → (inbox ≡ []) × ((peer_after b p).channel.outstanding ≡ None) × ((peer_after b p).behind ≡ None)
    pub messages : List (List ℕ)
    pub stream : Stream (peer_after b p).channel.unread out messages
    pub order : waiting_of (peer_after b p) ≡ replies_in messages ++ requests_in inbox
    pub range : AllByRecursion (λ x. x < 2 ^ 32) (requests_in inbox)

  -- the byte ends the reply to the outstanding barrier request
  pub record AnswersNow : Type 0 where
    pub heard : heard_by p.channel (after_byte b p.channel) ≡ Answered
    pub session : (peer_after b p).channel.session ≡ Open
    pub gone : (peer_after b p).channel.outstanding ≡ None
    pub asked : is_some p.asked ≡ true
    pub reply : List ℕ
    pub is_reply : type_in reply ≡ 19
    pub messages : List (List ℕ)
    pub shape : Shape side named g on inbox (reply ∷ messages)
    pub stream : Stream (peer_after b p).channel.unread out messages
    pub order : option_list p.behind ≡ replies_in messages ++ requests_in inbox
    pub range : AllByRecursion (λ x. x < 2 ^ 32) (requests_in inbox)

  abbrev pub Heard : Type 0
  Heard = Aside ⊎ (Opens ⊎ AnswersNow)

  module _ (l : Link side named g on p inbox (b ∷ out)) where
    -- by what the byte makes of the channel
    abbrev AsideBy : ChannelState → Type 0
    AsideBy after = (came : ByteOutcome) × (heard_by p.channel after ≡ came) × IsAside came × Link side named g on (record p { channel = kept_of p.channel after }) inbox out

    as_aside : (after : ChannelState) → after_byte b p.channel ≡ after → AsideBy after → Aside
    unfolding peer_after
    as_aside after is h =
        let all : AsideBy (after_byte b p.channel) = subst AsideBy (sym is) h in
        record { came = all.0; heard = all.1; aside = all.2; link = all.3 }

    failed_link : (q : PeerState) → q.asked ≡ p.asked → q.behind ≡ p.behind → q.channel.outstanding ≡ p.channel.outstanding → is_failed q.channel.session ≡ true → Link side named g on q inbox out
    failed_link q asked behind outstanding failed = record {
      rest = λ none. let r = l.rest (sym asked ∙ none) in record { empty = r.empty; done = r.done; outstanding = outstanding ∙ r.outstanding; behind = behind ∙ r.behind };
      alone = λ e. behind ∙ l.alone e;
      leads = l.leads;
      live = λ going. absurd (let f : true ≡ false = sym failed ∙ going in cc);
    }

    -- a failed session
    stays_failed : is_failed p.channel.session ≡ true → Aside
    stays_failed failed =
        let same : after_byte b p.channel ≡ p.channel = failed_stays (b ∷ []) p.channel failed in
        let kept = kept_same p.channel p.channel refl in
        as_aside p.channel same (
          Nothing,
          same_hears p.channel.session p.channel.outstanding p.channel.sent p.channel.unread,
          tt,
          failed_link (record p { channel = kept_of p.channel p.channel }) refl refl (ap (λ (c : ChannelState). c.outstanding) kept) (ap (λ (c : ChannelState). is_failed c.session) kept ∙ failed),
        )

    module _ (going : is_failed p.channel.session ≡ false) where
      abbrev live : Live side named g on p inbox (b ∷ out)
      live = l.live going

      -- the session fails
      fails : (c : Cause) (base : ChannelState) → base.sent ≡ p.channel.sent → base.outstanding ≡ p.channel.outstanding → after_byte b p.channel ≡ after_failure c base → Aside
      fails c base sent outstanding is =
          let now : ChannelState = record { session = Failed c; unread = []; sent = p.channel.sent; outstanding = p.channel.outstanding } in
          let same : after_failure c base ≡ now =
          ap (λ (l2 : List ℕ). let x : ChannelState = record { session = Failed c; unread = []; sent = l2; outstanding = base.outstanding } in x) sent
          ∙ ap (λ (o : Option ℕ). let x : ChannelState = record { session = Failed c; unread = []; sent = p.channel.sent; outstanding = o } in x) outstanding in
          let kept = kept_same p.channel now refl in
          as_aside now (is ∙ same) (
            Broke c,
            failing_hears p.channel.session p.channel.outstanding p.channel.sent c going,
            tt,
            failed_link (record p { channel = kept_of p.channel now }) refl refl (ap (λ (x : ChannelState). x.outstanding) kept) (ap (λ (x : ChannelState). is_failed x.session) kept),
          )

      -- the session goes on as it is, with other unread bytes
      goes_on : (unread : List ℕ) (messages : List (List ℕ)) → Stream unread out messages → waiting_of p ≡ replies_in messages ++ requests_in inbox
          → (is_some p.asked ≡ true → ShapeBy side named p.channel.session g on p inbox messages)
          → Link side named g on (record p { channel = record p.channel { unread = unread } }) inbox out
      goes_on unread messages stream order shape = record {
        rest = λ none. let r = l.rest none in record { empty = r.empty; done = r.done; outstanding = r.outstanding; behind = r.behind };
        alone = l.alone;
        leads = l.leads;
        live = λ _. record { messages = messages; stream = stream; order = order; range = live.range; shape = λ some. by_session p.channel.session (shape some) };
      }
        where
          by_session : (s : Session) → ShapeBy side named s g on p inbox messages → ShapeBy side named s g on (record p { channel = record p.channel { unread = unread } }) inbox messages
          by_session Waiting h = h
          by_session Open h = h
          by_session (Failed c) h = h

      stays : (unread : List ℕ) → after_byte b p.channel ≡ record p.channel { unread = unread } → (messages : List (List ℕ)) → Stream unread out messages
          → waiting_of p ≡ replies_in messages ++ requests_in inbox → (is_some p.asked ≡ true → ShapeBy side named p.channel.session g on p inbox messages) → Aside
      stays unread is messages stream order shape =
          let now : ChannelState = record p.channel { unread = unread } in
          let kept : kept_of p.channel now ≡ now = kept_same p.channel now refl in
          as_aside now is (
            Nothing,
            same_hears p.channel.session p.channel.outstanding p.channel.sent unread,
            tt,
            subst (λ (c : ChannelState). Link side named g on (record p { channel = c }) inbox out) (sym kept) (goes_on unread messages stream order shape),
          )

      -- too little came
      short_byte : front_of (p.channel.unread ++ b ∷ []) ≡ Short → after_byte b p.channel ≡ record p.channel { unread = p.channel.unread ++ b ∷ [] } → Aside
      short_byte at is = stays (p.channel.unread ++ b ∷ []) is live.messages (stream_byte p.channel.unread out b live.messages live.stream at) live.order live.shape

      -- ---- a message is whole

      module _ (n : ℕ) (at : front_of (p.channel.unread ++ b ∷ []) ≡ Whole n) where
        abbrev done_by : Completes p.channel.unread out b (l.live going).messages
        done_by = stream_message p.channel.unread out b n (l.live going).messages (l.live going).stream at

        abbrev message : List ℕ
        message = p.channel.unread ++ b ∷ []

        abbrev base : ChannelState
        base = record p.channel { unread = [] }

        after_is : after_byte b p.channel ≡ taken_by p.channel.session (p.channel.unread ++ b ∷ []) (record p.channel { unread = [] })
        unfolding after_message
        after_is =
            let ends : length (p.channel.unread ++ b ∷ []) ≡ n = message_ends p.channel.unread b n live.stream.short at in
            let all : take n (p.channel.unread ++ b ∷ []) ≡ p.channel.unread ++ b ∷ [] = ap (take n) (sym (append-nil (p.channel.unread ++ b ∷ []))) ∙ take_at (p.channel.unread ++ b ∷ []) [] n ends in
            let none : drop n (p.channel.unread ++ b ∷ []) ≡ [] = ap (drop n) (sym (append-nil (p.channel.unread ++ b ∷ []))) ∙ drop_at (p.channel.unread ++ b ∷ []) [] n ends in
            reading_byte b p.channel going
            ∙ ap (λ (f : Front). after_front f (record p.channel { unread = p.channel.unread ++ b ∷ [] })) at
            ∙ ap (λ (x : List ℕ). taken_by p.channel.session x (record p.channel { unread = drop n (p.channel.unread ++ b ∷ []) })) all
            ∙ ap (λ (x : List ℕ). taken_by p.channel.session (p.channel.unread ++ b ∷ []) (record p.channel { unread = x })) none

        -- a message that is no reply: those behind it wait for the same
        order_behind : type_in (p.channel.unread ++ b ∷ []) ≢ 19 → waiting_of p ≡ replies_in done_by.later ++ requests_in inbox
        order_behind other =
            live.order ∙ ap (λ (ms : List (List ℕ)). replies_in ms ++ requests_in inbox) done_by.is
            ∙ ap (λ (xs : List ℕ). xs ++ requests_in inbox) (replies_other (p.channel.unread ++ b ∷ []) done_by.later other)

        shape_behind : (s : Session) → type_in (p.channel.unread ++ b ∷ []) ≢ 1 → ShapeBy side named s g on p inbox (l.live going).messages → ShapeBy side named s g on p inbox done_by.later
        shape_behind Waiting no_error h = h
        shape_behind Open no_error h = (h.0, less (subst (Shape side named g on inbox) done_by.is h.1))
          where
            less : Shape side named g on inbox ((p.channel.unread ++ b ∷ []) ∷ done_by.later) → Shape side named g on inbox done_by.later
            less (inl a) = inl (record { flows = a.flows; xid = a.xid; are = a.are; lead = a.lead; done = λ none. a.done (no_error, none) })
            less (inr (inl d)) = inr (inl (record { empty = d.empty; done = λ clear. d.done ((λ e. absurd (no_error e)), clear) }))
            less (inr (inr t)) = inr (inr t)
        shape_behind (Failed c) no_error h = h

        -- a message that changes nothing
        passes : type_in (p.channel.unread ++ b ∷ []) ≢ 1 → type_in (p.channel.unread ++ b ∷ []) ≢ 19 → after_byte b p.channel ≡ record p.channel { unread = [] } → Aside
        passes no_error no_reply is = stays [] is done_by.later done_by.rest (order_behind no_reply) (λ some. shape_behind p.channel.session no_error (live.shape some))

        -- HELLO, or not
        by_waiting : p.channel.session ≡ Waiting → Heard
        unfolding peer_after
        by_waiting waits =
            let taken : after_byte b p.channel ≡ taken_by Waiting (p.channel.unread ++ b ∷ []) (record p.channel { unread = [] }) = after_is ∙ ap (λ (s : Session). taken_by s (p.channel.unread ++ b ∷ []) (record p.channel { unread = [] })) waits in
            let open_now : ChannelState = record p.channel { session = Open; unread = [] } in
            elim (cases_Bool (eqb (type_in (p.channel.unread ++ b ∷ [])) 0)) [
              | inl e ↦ (
                  let zero_type : type_in (p.channel.unread ++ b ∷ []) ≡ 0 = eqb-true (type_in (p.channel.unread ++ b ∷ [])) 0 e in
                  let is : after_byte b p.channel ≡ open_now = taken ∙ cond-true (eqb (type_in (p.channel.unread ++ b ∷ [])) 0) open_now (after_failure cause.NoHello (record p.channel { unread = [] })) e in
                  inr (inl (opens_as open_now is refl refl (kept_same p.channel open_now refl)
                  (ap (λ (s : Session). heard_of s p.channel.outstanding (length p.channel.sent) open_now) waits ∙ opening_hears p.channel.outstanding p.channel.sent [])
                  (λ some. subst (λ (s : Session). ShapeBy side named s g on p inbox (l.live going).messages) waits (live.shape some))
                  (order_behind (λ f. omega arith)))))
              | inr e ↦ inl (fails cause.NoHello (record p.channel { unread = [] }) refl refl (taken ∙ cond-false (eqb (type_in (p.channel.unread ++ b ∷ [])) 0) open_now (after_failure cause.NoHello (record p.channel { unread = [] })) e))
            ]
          where
            opens_as : (now : ChannelState) → after_byte b p.channel ≡ now → now ≡ record p.channel { session = Open; unread = [] } → now.unread ≡ [] → kept_of p.channel now ≡ now
                → heard_by p.channel now ≡ Opened → (is_some p.asked ≡ true → ShapeBy side named Waiting g on p inbox (l.live going).messages)
                → waiting_of p ≡ replies_in done_by.later ++ requests_in inbox → Opens
            opens_as now is now_is none kept heard shape order =
                let q_is : kept_of p.channel (after_byte b p.channel) ≡ record p.channel { session = Open; unread = [] } = ap (kept_of p.channel) is ∙ kept ∙ now_is in
                record {
                  heard = ap (heard_by p.channel) is ∙ heard;
                  session = ap (λ (c : ChannelState). c.session) q_is;
                  outstanding = ap (λ (c : ChannelState). c.outstanding) q_is;
                  waits = λ some. let h = shape some in (h.0, ap (λ (c : ChannelState). c.outstanding) q_is ∙ h.1, h.2);
                  messages = done_by.later;
                  stream = subst (λ (c : ChannelState). Stream c.unread out done_by.later) (sym q_is) done_by.rest;
                  order = ap (λ (c : ChannelState). option_list c.outstanding ++ option_list p.behind) q_is ∙ order;
                  range = live.range;
                }

        -- an echo request is replied to
        replied : p.channel.session ≡ Open → type_in (p.channel.unread ++ b ∷ []) ≡ 2
            → after_byte b p.channel ≡ record p.channel { unread = []; sent = p.channel.sent ++ echo_reply (p.channel.unread ++ b ∷ []) } → Aside
        replied open_now echo is =
            let m = p.channel.unread ++ b ∷ [] in
            let reply = echo_reply m in
            let now : ChannelState = record p.channel { unread = []; sent = p.channel.sent ++ reply } in
            let whole_now = done_by.whole.header in
            let size : length reply ≡ length m = length-set m 1 3 in
            let some_bytes : 1 ≤ length reply = omega arith in
            let count = length-append p.channel.sent reply in
            let kept : kept_of p.channel now ≡ opened_anew p.channel.outstanding = kept_replied p.channel now (omega arith) in
            let three : type_in reply ≡ 3 = echo_type m whole_now in
            let link : Link side named g on (record p { channel = opened_anew p.channel.outstanding }) inbox out = record {
              rest = λ none. let r = l.rest none in record { empty = r.empty; done = r.done; outstanding = r.outstanding; behind = r.behind };
              alone = l.alone;
              leads = l.leads;
              live = λ _. record {
                messages = done_by.later;
                stream = done_by.rest;
                order = order_behind (λ e. omega arith);
                range = live.range;
                shape = λ some. let h : ShapeBy side named Open g on p inbox done_by.later = shape_behind Open (λ e. omega arith) (subst (λ (s : Session). ShapeBy side named s g on p inbox (l.live going).messages) open_now (live.shape some)) in h;
              };
            } in
            as_aside now is (
              Replied reply,
              ap (λ (s : Session). heard_of s p.channel.outstanding (length p.channel.sent) (record { session = s; unread = []; sent = p.channel.sent ++ reply; outstanding = p.channel.outstanding })) open_now
                  ∙ replying_hears p.channel.outstanding p.channel.sent reply [] some_bytes,
              other_stays_out reply (λ e. omega arith) (λ e. omega arith),
              subst (λ (c : ChannelState). Link side named g on (record p { channel = c }) inbox out) (sym kept) link,
            )

        -- a barrier reply: that of the outstanding request, or the session fails
        by_reply : p.channel.session ≡ Open → type_in (p.channel.unread ++ b ∷ []) ≡ 19
            → after_byte b p.channel ≡ after_reply (xid_in (p.channel.unread ++ b ∷ [])) (record p.channel { unread = [] }) → Heard
        unfolding peer_after
        by_reply open_now is_reply is = go p.channel.outstanding refl
          where
            x : ℕ
            x = xid_in (p.channel.unread ++ b ∷ [])

            answered : (y : ℕ) → p.channel.outstanding ≡ Some y → (now : ChannelState) → now ≡ record p.channel { unread = []; outstanding = None } → after_byte b p.channel ≡ now → AnswersNow
            answered y outstanding now now_is come_to =
                let kept : kept_of p.channel now ≡ now = kept_same p.channel now (ap (λ (c : ChannelState). length c.sent) now_is) in
                let q_is : kept_of p.channel (after_byte b p.channel) ≡ record p.channel { unread = []; outstanding = None } = ap (kept_of p.channel) come_to ∙ kept ∙ now_is in
                let asked : is_some p.asked ≡ true = waits_for p.asked refl in
                let shape : ShapeBy side named Open g on p inbox (l.live going).messages = subst (λ (s : Session). ShapeBy side named s g on p inbox (l.live going).messages) open_now (live.shape asked) in
                let row : y ∷ option_list p.behind ≡ xid_in (p.channel.unread ++ b ∷ []) ∷ (replies_in done_by.later ++ requests_in inbox) =
                ap (λ (o : Option ℕ). option_list o ++ option_list p.behind) (sym outstanding) ∙ live.order ∙ ap (λ (ms : List (List ℕ)). replies_in ms ++ requests_in inbox) done_by.is
                ∙ ap (λ (xs : List ℕ). xs ++ requests_in inbox) (replies_reply (p.channel.unread ++ b ∷ []) done_by.later is_reply) in
                record {
                  heard = ap (heard_by p.channel) come_to ∙ ap (λ (o : Option ℕ). heard_of p.channel.session o (length p.channel.sent) now) outstanding
                      ∙ answering_hears p.channel.session y (length p.channel.sent) now (ap (λ (c : ChannelState). c.outstanding) now_is);
                  session = ap (λ (c : ChannelState). c.session) q_is ∙ open_now;
                  gone = ap (λ (c : ChannelState). c.outstanding) q_is;
                  asked = asked;
                  reply = p.channel.unread ++ b ∷ [];
                  is_reply = is_reply;
                  messages = done_by.later;
                  shape = subst (Shape side named g on inbox) done_by.is shape.1;
                  stream = subst (λ (c : ChannelState). Stream c.unread out done_by.later) (sym q_is) done_by.rest;
                  order = cc;
                  range = live.range;
                }
              where
                waits_for : (o : Option ℕ) → p.asked ≡ o → is_some p.asked ≡ true
                waits_for None e = absurd (let f : Some y ≡ None = sym outstanding ∙ (l.rest e).outstanding in cc)
                waits_for (Some z) e = ap is_some e

            go : (o : Option ℕ) → p.channel.outstanding ≡ o → Heard
            go None none =
                inl (fails (cause.Xid (xid_in (p.channel.unread ++ b ∷ []))) (record p.channel { unread = [] }) refl refl
                (is ∙ ap (λ (o : Option ℕ). cond (is_outstanding (xid_in (p.channel.unread ++ b ∷ [])) o) (record p.channel { unread = []; outstanding = None }) (after_failure (cause.Xid (xid_in (p.channel.unread ++ b ∷ []))) (record p.channel { unread = [] }))) none))
            go (Some y) some =
                let by_test : Bool → ChannelState = λ t. cond t (record p.channel { unread = []; outstanding = None }) (after_failure (cause.Xid (xid_in (p.channel.unread ++ b ∷ []))) (record p.channel { unread = [] })) in
                let come_to : after_byte b p.channel ≡ by_test (eqb y (xid_in (p.channel.unread ++ b ∷ []))) = is ∙ ap (λ (o : Option ℕ). by_test (is_outstanding (xid_in (p.channel.unread ++ b ∷ [])) o)) some in
                elim (cases_Bool (eqb y (xid_in (p.channel.unread ++ b ∷ [])))) [
                  | inl t ↦ inr (inr (answered y some (record p.channel { unread = []; outstanding = None }) refl (come_to ∙ ap by_test t)))
                  | inr f ↦ inl (fails (cause.Xid (xid_in (p.channel.unread ++ b ∷ []))) (record p.channel { unread = [] }) refl refl (come_to ∙ ap by_test f))
                ]

        by_open : p.channel.session ≡ Open → Heard
        by_open open_now =
            let m = p.channel.unread ++ b ∷ [] in
            let base = record p.channel { unread = [] } in
            let taken : after_byte b p.channel ≡ taken_open m base = after_is ∙ ap (λ (s : Session). taken_by s m base) open_now in
            let replied_to : ChannelState = record base { sent = base.sent ++ echo_reply m } in
            let failing = after_failure (cause.Error (number_at 8 2 m) (number_at 10 2 m)) base in
            let last = cond (eqb (type_in m) 19) (after_reply (xid_in m) base) base in
            let rest = cond (eqb (type_in m) 2) replied_to last in
            elim (cases_Bool (eqb (type_in m) 1)) [
              | inl e ↦ inl (fails (cause.Error (number_at 8 2 m) (number_at 10 2 m)) base refl refl (taken ∙ cond-true (eqb (type_in m) 1) failing rest e))
              | inr no_error ↦ (
                  let here : after_byte b p.channel ≡ rest = taken ∙ cond-false (eqb (type_in m) 1) failing rest no_error in
                  elim (cases_Bool (eqb (type_in m) 2)) [
                    | inl e ↦ inl (replied open_now (eqb-true (type_in m) 2 e) (here ∙ cond-true (eqb (type_in m) 2) replied_to last e))
                    | inr no_echo ↦ (
                        let there : after_byte b p.channel ≡ last = here ∙ cond-false (eqb (type_in m) 2) replied_to last no_echo in
                        elim (cases_Bool (eqb (type_in m) 19)) [
                          | inl e ↦ by_reply open_now (eqb-true (type_in m) 19 e) (there ∙ cond-true (eqb (type_in m) 19) (after_reply (xid_in m) base) base e)
                          | inr other ↦ inl (passes (eqb-false (type_in m) 1 no_error) (eqb-false (type_in m) 19 other) (there ∙ cond-false (eqb (type_in m) 19) (after_reply (xid_in m) base) base other))
                        ])
                  ])
            ]

        by_session : (s : Session) → p.channel.session ≡ s → Heard
        by_session Waiting e = by_waiting e
        by_session Open e = by_open e
        by_session (Failed c) e = absurd (let f : true ≡ false = sym (ap is_failed e) ∙ going in cc)

      by_front : (f : Front) → front_of (p.channel.unread ++ b ∷ []) ≡ f → Heard
      by_front Short at = inl (short_byte at (reading_byte b p.channel going ∙ ap (λ (f : Front). after_front f (record p.channel { unread = p.channel.unread ++ b ∷ [] })) at))
      by_front (Fault c) at =
          inl (fails c (record p.channel { unread = p.channel.unread ++ b ∷ [] }) refl refl (reading_byte b p.channel going ∙ ap (λ (f : Front). after_front f (record p.channel { unread = p.channel.unread ++ b ∷ [] })) at))
      by_front (Whole n) at = by_session n at p.channel.session refl

    pub heard_byte_of : Heard
    heard_byte_of =
        elim (cases_Bool (is_failed p.channel.session)) [
          | inl failed ↦ inl (stays_failed failed)
          | inr going ↦ by_front going (front_of (p.channel.unread ++ b ∷ [])) refl
        ]
