-- Bytes that come in a row: messages are taken from their front.
use Rattle.std.proofs.Common.{◌≡◌, ℕ, ◌+◌, ◌≤◌, true, false, cond, eqb, List, [], ◌∷◌, ◌++◌, length, take, drop, refl, sym, ap, ◌∙◌, subst, inl, inr, append_assoc, append-nil, arith}
use Rattle.std.specs.Prelude.{filter, flat_map, None}
use Rattle.std.specs.List.{AllByRecursion, concat}
use Rattle.std.proofs.lemmas.Bool.{cases_Bool, cond-true, cond-false, cond_both, eqb-true, eqb-false, eq-eqb, ne_eqb}
use Rattle.std.proofs.lemmas.List.{take_at, drop_at, take-append-drop, length-take-le}
use Rattle.std.proofs.lemmas.List.Elements.{filter-append}
use Rattle.std.proofs.lemmas.List.Folds.{concat-append}
use Rattle.std.proofs.lemmas.Grind.{flat_map-append}
use Rattle.net_base.proofs.MemberLaws.{each_append}
use Rattle.openflow10.specs.Layout.{number_at}
use Rattle.switch_session.specs.Fronts.{front_of, version_in, type_in, length_in, xid_in}
use Rattle.switch_session.specs.Channels.{ChannelState, is_failed, after_failure, echo_reply, is_outstanding, after_reply, taken_open, taken_by, after_message, after_front, after_byte, after_bytes}
use Rattle.switch_session.specs.Laws.{IsReading, TakesFront, IsWhole, IsEchoRequest, is_echo, AreCut, KeepsBarrier, OnlyReplies}
use Rattle.switch_session.specs.declared.Cause.{Cause}
use Rattle.switch_session.specs.declared.Cause.TheVariants as cause
use Rattle.switch_session.specs.declared.Session.{Session}
use Rattle.switch_session.specs.declared.Session.TheVariants.{Waiting, Open, Failed}
use Rattle.switch_session.specs.declared.fronts.Front.{Front}
use Rattle.switch_session.specs.declared.fronts.Front.TheVariants.{Short, Fault, Message}
use Rattle.switch_session.proofs.FrontLaws.{HasMessage, has_message, number_at-front, fault_grows, message_grows, message_ends, at_least_header, right_version}

pub after_bytes-append : (a b : List ℕ) (ch : ChannelState) → after_bytes (a ++ b) ch ≡ after_bytes b (after_bytes a ch)
after_bytes-append [] b ch = refl
after_bytes-append (x ∷ a) b ch = after_bytes-append a b (after_byte x ch)

-- a failed session reads nothing
failed_byte : (b : ℕ) (ch : ChannelState) → is_failed ch.session ≡ true → after_byte b ch ≡ ch
unfolding after_byte
failed_byte b ch e = cond-true (is_failed ch.session) ch (after_front (front_of (ch.unread ++ b ∷ [])) (record ch { unread = ch.unread ++ b ∷ [] })) e

pub failed_stays : (bytes : List ℕ) (ch : ChannelState) → is_failed ch.session ≡ true → after_bytes bytes ch ≡ ch
failed_stays [] ch e = refl
failed_stays (b ∷ bytes) ch e = ap (after_bytes bytes) (failed_byte b ch e) ∙ failed_stays bytes ch e

-- a channel with other unread bytes
abbrev pub with_unread : ChannelState → List ℕ → ChannelState
with_unread ch unread = record ch { unread = unread }

pub reading_byte : (b : ℕ) (ch : ChannelState) → is_failed ch.session ≡ false → after_byte b ch ≡ after_front (front_of (ch.unread ++ b ∷ [])) (record ch { unread = ch.unread ++ b ∷ [] })
unfolding after_byte
reading_byte b ch e = cond-false (is_failed ch.session) ch (after_front (front_of (ch.unread ++ b ∷ [])) (record ch { unread = ch.unread ++ b ∷ [] })) e

-- ---- bytes in a row are taken message by message

module _ (b : ℕ) (p : List ℕ) (ch : ChannelState) (h : IsReading ch) where
  abbrev grown : List ℕ
  grown = ch.unread ++ b ∷ []

  in_row : grown ++ p ≡ ch.unread ++ b ∷ p
  in_row = append_assoc ch.unread (b ∷ []) p

  first_byte : (f : Front) → front_of grown ≡ f → after_byte b ch ≡ after_front f (with_unread ch grown)
  first_byte f e = reading_byte b ch h.going ∙ ap (λ x. after_front x (with_unread ch grown)) e

  -- the byte is kept
  kept : (f : Front) → after_byte b ch ≡ with_unread ch grown → TakesFront p (with_unread ch grown) f → TakesFront (b ∷ p) ch f
  kept Short first rest = ap (after_bytes p) first ∙ rest ∙ ap (with_unread ch) in_row
  kept (Fault c) first rest = ap (after_bytes p) first ∙ rest
  kept (Message n) first rest = ap (after_bytes p) first ∙ rest ∙ ap (λ l. after_bytes (drop n l) (after_message (take n l) (with_unread ch []))) in_row

  -- the byte ends the session
  ends : (c : Cause) → front_of grown ≡ Fault c → TakesFront (b ∷ p) ch (Fault c)
  ends c e = ap (after_bytes p) (first_byte (Fault c) e) ∙ failed_stays p (after_failure c (with_unread ch grown)) refl

  -- the byte makes a message whole
  whole : (n : ℕ) → front_of grown ≡ Message n → TakesFront (b ∷ p) ch (Message n)
  whole n e =
      let count : length grown ≡ n = message_ends ch.unread b n h.short e in
      let message : take n (ch.unread ++ b ∷ p) ≡ grown = ap (take n) (sym in_row) ∙ take_at grown p n count in
      let rest : drop n (ch.unread ++ b ∷ p) ≡ p = ap (drop n) (sym in_row) ∙ drop_at grown p n count in
      let all : take n grown ≡ grown = ap (take n) (sym (append-nil grown)) ∙ take_at grown [] n count in
      let none : drop n grown ≡ [] = ap (drop n) (sym (append-nil grown)) ∙ drop_at grown [] n count in
      let first : after_byte b ch ≡ after_message grown (with_unread ch []) =
      first_byte (Message n) e ∙ ap (λ l. after_message l (with_unread ch (drop n grown))) all ∙ ap (λ l. after_message grown (with_unread ch l)) none in
      ap (after_bytes p) first ∙ ap (λ l. after_bytes p (after_message l (with_unread ch []))) (sym message) ∙ ap (λ l. after_bytes l (after_message (take n (ch.unread ++ b ∷ p)) (with_unread ch []))) (sym rest)

pub takes_front : (bytes : List ℕ) (ch : ChannelState) → IsReading ch → TakesFront bytes ch (front_of (ch.unread ++ bytes))
takes_front [] ch h =
    let same : ch.unread ++ [] ≡ ch.unread = append-nil ch.unread in
    subst (TakesFront [] ch) (sym (ap front_of same ∙ h.short)) (ap (with_unread ch) (sym same))
takes_front (b ∷ p) ch h =
    let row = in_row b p ch h in
    let seen : List ℕ → Type 0 = λ l. TakesFront (b ∷ p) ch (front_of l) in
    elim (front_of (ch.unread ++ b ∷ [])) as (λ f. front_of (ch.unread ++ b ∷ []) ≡ f → TakesFront (b ∷ p) ch (front_of (ch.unread ++ b ∷ p))) [
      | Short ↦ λ e. subst seen row
          (kept b p ch h (front_of ((ch.unread ++ b ∷ []) ++ p)) (first_byte b p ch h Short e) (takes_front p (with_unread ch (ch.unread ++ b ∷ [])) (record { going = h.going; short = e })))
      | Fault c ↦ λ e. subst seen row (subst (TakesFront (b ∷ p) ch) (sym (fault_grows (ch.unread ++ b ∷ []) p c e)) (ends b p ch h c e))
      | Message n ↦ λ e. subst seen row (subst (TakesFront (b ∷ p) ch) (sym (message_grows (ch.unread ++ b ∷ []) p n e)) (whole b p ch h n e))
    ] refl

-- ---- a message at the front

-- it is whole, and the rest is behind it
module _ (bytes : List ℕ) (n : ℕ) (at : front_of bytes ≡ Message n) where
  abbrev pub message : List ℕ
  message = take n bytes

  pub here : HasMessage bytes n
  here = has_message bytes n at

  pub long : 8 ≤ n
  long = let said = here.said in let least = at_least_header (type_in bytes) (length_in bytes) here.right in omega arith

  pub size : length message ≡ n
  size = length-take-le n bytes here.whole

  same_number : (o k : ℕ) → o + k ≤ 8 → number_at o k message ≡ number_at o k bytes
  same_number o k le =
      let inside = size in
      let least = long in
      sym (number_at-front o k message (drop n bytes) (omega arith)) ∙ ap (number_at o k) (take-append-drop n bytes)

  pub message_whole : IsWhole message
  message_whole = record {
    header = (let inside = size in let least = long in omega arith);
    size = same_number 2 2 (omega arith) ∙ here.said ∙ sym size;
  }

  pub message_echo : type_in message ≡ 2 → IsEchoRequest message
  message_echo is = record {
    whole = message_whole;
    version = same_number 0 1 (omega arith) ∙ right_version (version_in bytes) (type_in bytes) here.version (sym (same_number 1 1 (omega arith)) ∙ is);
    echo = is;
  }

-- ---- what is sent

-- what bytes do to a channel: the messages that were taken, and the rest
pub record Took (bytes : List ℕ) (a b : ChannelState) : Type 0 where
  pub messages : List (List ℕ)
  pub rest : List ℕ
  pub cut : AreCut (a.unread ++ bytes) messages rest
  pub left : is_failed b.session ≡ false → rest ≡ b.unread
  pub each : AllByRecursion IsEchoRequest (filter is_echo messages)
  pub sent : b.sent ≡ a.sent ++ flat_map echo_reply (filter is_echo messages)
  pub barrier : KeepsBarrier a b

took_none : (bytes : List ℕ) (a b : ChannelState) → b.sent ≡ a.sent → (is_failed b.session ≡ false → a.unread ++ bytes ≡ b.unread) → KeepsBarrier a b → Took bytes a b
took_none bytes a b sent left barrier = record {
  messages = [];
  rest = a.unread ++ bytes;
  cut = record { whole = tt; bytes_are = refl };
  left = left;
  each = tt;
  sent = sent ∙ sym (append-nil a.sent);
  barrier = barrier;
}

-- a message is taken
module _ (bytes : List ℕ) (a b : ChannelState) (m rest : List ℕ) (is : a.unread ++ bytes ≡ m ++ rest) (whole : IsWhole m) (left : is_failed b.session ≡ false → rest ≡ b.unread) (barrier : KeepsBarrier a b) where
  one_cut : AreCut (a.unread ++ bytes) (m ∷ []) rest
  one_cut = record { whole = (whole, tt); bytes_are = is ∙ ap (λ (l : List ℕ). l ++ rest) (sym (append-nil m)) }

  took_request : IsEchoRequest m → b.sent ≡ a.sent ++ echo_reply m → Took bytes a b
  took_request echo sent =
      let one : filter is_echo (m ∷ []) ≡ m ∷ [] = cond-true (is_echo m) (m ∷ []) [] (eq-eqb (type_in m) 2 echo.echo) in
      record {
        messages = m ∷ [];
        rest = rest;
        cut = one_cut;
        left = left;
        each = subst (AllByRecursion IsEchoRequest) (sym one) (echo, tt);
        sent = sent ∙ ap (λ (l : List ℕ). a.sent ++ l) (sym (append-nil (echo_reply m)) ∙ ap (flat_map echo_reply) (sym one));
        barrier = barrier;
      }

  took_other : is_echo m ≡ false → b.sent ≡ a.sent → Took bytes a b
  took_other differs sent =
      let none : filter is_echo (m ∷ []) ≡ [] = cond-false (is_echo m) (m ∷ []) [] differs in
      record {
        messages = m ∷ [];
        rest = rest;
        cut = one_cut;
        left = left;
        each = subst (AllByRecursion IsEchoRequest) (sym none) tt;
        sent = sent ∙ sym (append-nil a.sent) ∙ ap (λ (l : List (List ℕ)). a.sent ++ flat_map echo_reply l) (sym none);
        barrier = barrier;
      }

-- what a failed session did stays all that it did
took_failed : (bytes more : List ℕ) (a b : ChannelState) → is_failed b.session ≡ true → Took bytes a b → Took (bytes ++ more) a b
took_failed bytes more a b failed t = record {
  messages = t.messages;
  rest = t.rest ++ more;
  cut = record {
    whole = t.cut.whole;
    bytes_are = sym (append_assoc a.unread bytes more) ∙ ap (λ (l : List ℕ). l ++ more) t.cut.bytes_are ∙ append_assoc (concat t.messages) t.rest more;
  };
  left = λ going. absurd (let f : true ≡ false = sym failed ∙ going in cc);
  each = t.each;
  sent = t.sent;
  barrier = t.barrier;
}

took_both : (bytes more : List ℕ) (a b c : ChannelState) → is_failed b.session ≡ false → Took bytes a b → Took more b c → Took (bytes ++ more) a c
took_both bytes more a b c going p q =
    let requests : filter is_echo (p.messages ++ q.messages) ≡ filter is_echo p.messages ++ filter is_echo q.messages = filter-append is_echo p.messages q.messages in
    let replies : flat_map echo_reply (filter is_echo (p.messages ++ q.messages)) ≡ flat_map echo_reply (filter is_echo p.messages) ++ flat_map echo_reply (filter is_echo q.messages) =
    ap (flat_map echo_reply) requests ∙ flat_map-append echo_reply (filter is_echo p.messages) (filter is_echo q.messages) in
    record {
      messages = p.messages ++ q.messages;
      rest = q.rest;
      cut = record {
        whole = each_append IsWhole p.messages q.messages p.cut.whole q.cut.whole;
        bytes_are =
            sym (append_assoc a.unread bytes more) ∙ ap (λ (l : List ℕ). l ++ more) (p.cut.bytes_are ∙ ap (λ (l : List ℕ). concat p.messages ++ l) (p.left going))
            ∙ append_assoc (concat p.messages) b.unread more ∙ ap (λ (l : List ℕ). concat p.messages ++ l) q.cut.bytes_are
            ∙ sym (append_assoc (concat p.messages) (concat q.messages) q.rest) ∙ ap (λ (l : List ℕ). l ++ q.rest) (sym (concat-append p.messages q.messages));
      };
      left = q.left;
      each = subst (AllByRecursion IsEchoRequest) (sym requests) (each_append IsEchoRequest (filter is_echo p.messages) (filter is_echo q.messages) p.each q.each);
      sent =
          q.sent ∙ ap (λ (l : List ℕ). l ++ flat_map echo_reply (filter is_echo q.messages)) p.sent
          ∙ append_assoc a.sent (flat_map echo_reply (filter is_echo p.messages)) (flat_map echo_reply (filter is_echo q.messages)) ∙ ap (λ (l : List ℕ). a.sent ++ l) (sym replies);
      barrier = elim q.barrier [
        | inl same ↦ elim p.barrier [ inl e ↦ inl (same ∙ e) | inr none ↦ inr (same ∙ none) ]
        | inr none ↦ inr none
      ];
    }

-- a byte makes a message whole
module _ (ch : ChannelState) (b n : ℕ) (going : is_failed ch.session ≡ false) (at : front_of (ch.unread ++ b ∷ []) ≡ Message n) where
  abbrev came : List ℕ
  came = ch.unread ++ b ∷ []

  abbrev m : List ℕ
  m = take n came

  abbrev rest : List ℕ
  rest = drop n came

  abbrev base : ChannelState
  base = with_unread ch rest

  abbrev Does : ChannelState → Type 0
  Does after = Took (b ∷ []) ch after

  parted : came ≡ m ++ rest
  parted = sym (take-append-drop n came)

  does_fail : (c : Cause) → Does (after_failure c base)
  does_fail c = took_none (b ∷ []) ch (after_failure c base) refl (λ e. absurd (let f : true ≡ false = e in cc)) (inl refl)

  does_other : (k : ℕ) → type_in m ≡ k → (k ≡ 2 → ⊥) → (after : ChannelState) → after.sent ≡ ch.sent → after.unread ≡ rest → KeepsBarrier ch after → Does after
  does_other k is other after sent unread barrier =
      took_other (b ∷ []) ch after m rest parted (message_whole came n at) (λ e. sym unread) barrier (ne_eqb (type_in m) 2 (λ e. other (sym is ∙ e))) sent

  does_answer : (xid : ℕ) → type_in m ≡ 19 → Does (after_reply xid base)
  does_answer xid is =
      cond_both (is_outstanding xid ch.outstanding) (record base { outstanding = None }) (after_failure (cause.Xid xid) base) Does
      (λ e. does_other 19 is (λ f. omega arith) (record base { outstanding = None }) refl refl (inr refl)) (λ e. does_fail (cause.Xid xid))

  does_echo : type_in m ≡ 2 → Does (record base { sent = ch.sent ++ echo_reply m })
  does_echo is = took_request (b ∷ []) ch (record base { sent = ch.sent ++ echo_reply m }) m rest parted (message_whole came n at) (λ e. refl) (inl refl) (message_echo came n at is) refl

  does_nothing : (type_in m ≡ 2 → ⊥) → Does base
  does_nothing other = does_other (type_in m) refl other base refl refl (inl refl)

  does_open : Does (taken_open m base)
  does_open =
      cond_both (eqb (type_in m) 1) (after_failure (cause.Error (number_at 8 2 m) (number_at 10 2 m)) base)
      (cond (eqb (type_in m) 2) (record base { sent = ch.sent ++ echo_reply m }) (cond (eqb (type_in m) 19) (after_reply (xid_in m) base) base)) Does
      (λ e. does_fail (cause.Error (number_at 8 2 m) (number_at 10 2 m)))
      (λ e. cond_both (eqb (type_in m) 2) (record base { sent = ch.sent ++ echo_reply m }) (cond (eqb (type_in m) 19) (after_reply (xid_in m) base) base) Does
      (λ e. does_echo (eqb-true (type_in m) 2 e))
      (λ f. cond_both (eqb (type_in m) 19) (after_reply (xid_in m) base) base Does (λ e. does_answer (xid_in m) (eqb-true (type_in m) 19 e)) (λ e. does_nothing (eqb-false (type_in m) 2 f))))

  does_by : (s : Session) → ch.session ≡ s → Does (taken_by s m base)
  does_by Waiting is =
      cond_both (eqb (type_in m) 0) (record base { session = Open }) (after_failure cause.NoHello base) Does
      (λ e. does_other 0 (eqb-true (type_in m) 0 e) (λ f. omega arith) (record base { session = Open }) refl refl (inl refl)) (λ e. does_fail cause.NoHello)
  does_by Open is = does_open
  does_by (Failed c) is = absurd (let f : true ≡ false = ap is_failed (sym is) ∙ going in cc)

  does_take : Does (after_message m base)
  unfolding after_message
  does_take = does_by ch.session refl

took_acted : (ch : ChannelState) (b : ℕ) → is_failed ch.session ≡ false → (f : Front) → front_of (ch.unread ++ b ∷ []) ≡ f → Took (b ∷ []) ch (after_front f (with_unread ch (ch.unread ++ b ∷ [])))
took_acted ch b going Short at = took_none (b ∷ []) ch (with_unread ch (ch.unread ++ b ∷ [])) refl (λ e. refl) (inl refl)
took_acted ch b going (Fault c) at = took_none (b ∷ []) ch (after_failure c (with_unread ch (ch.unread ++ b ∷ []))) refl (λ e. absurd (let f : true ≡ false = e in cc)) (inl refl)
took_acted ch b going (Message n) at = does_take ch b n going at

took_byte : (b : ℕ) (ch : ChannelState) → is_failed ch.session ≡ false → Took (b ∷ []) ch (after_byte b ch)
took_byte b ch going = subst (Took (b ∷ []) ch) (sym (reading_byte b ch going)) (took_acted ch b going (front_of (ch.unread ++ b ∷ [])) refl)

-- nothing came of bytes to a failed session
took_nothing : (bytes : List ℕ) (ch : ChannelState) → is_failed ch.session ≡ true → Took bytes ch ch
took_nothing bytes ch failed = took_none bytes ch ch refl (λ going. absurd (let f : true ≡ false = sym failed ∙ going in cc)) (inl refl)

took_bytes : (bytes : List ℕ) (ch : ChannelState) → Took bytes ch (after_bytes bytes ch)
took_bytes [] ch = took_none [] ch ch refl (λ e. append-nil ch.unread) (inl refl)
took_bytes (b ∷ bytes) ch =
    let next = after_byte b ch in
    elim (cases_Bool (is_failed ch.session)) [
      | inl failed ↦ subst (Took (b ∷ bytes) ch) (sym (failed_stays (b ∷ bytes) ch failed)) (took_nothing (b ∷ bytes) ch failed)
      | inr going ↦ (
          let first = took_byte b ch going in
          elim (cases_Bool (is_failed next.session)) [
            | inl failed ↦ subst (Took (b ∷ bytes) ch) (sym (failed_stays bytes next failed)) (took_failed (b ∷ []) bytes ch next failed first)
            | inr goes ↦ took_both (b ∷ []) bytes ch next (after_bytes bytes next) goes first (took_bytes bytes next)
          ])
    ]

pub only_replies : (bytes : List ℕ) (ch : ChannelState) → OnlyReplies bytes ch (after_bytes bytes ch)
only_replies bytes ch =
    let t = took_bytes bytes ch in
    record {
      requests = filter is_echo t.messages;
      came = record { messages = t.messages; rest = t.rest; cut = t.cut; left = t.left; requests_are = refl; each = t.each };
      sent = t.sent;
      barrier = t.barrier;
    }

pub keeps_barrier : (bytes : List ℕ) (ch : ChannelState) → KeepsBarrier ch (after_bytes bytes ch)
keeps_barrier bytes ch = (took_bytes bytes ch).barrier
