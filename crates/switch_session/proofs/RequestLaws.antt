-- The echo requests in all bytes that came on a channel, as more bytes come.
use Rattle.std.proofs.Common.{◌≡◌, ℕ, true, false, cond, eqb, List, [], ◌∷◌, ◌++◌, drop, take, refl, sym, ap, ◌∙◌, subst, inl, inr, append_assoc, append-nil}
use Rattle.std.specs.Prelude.{filter, flat_map, None}
use Rattle.std.specs.List.{concat}
use Rattle.std.proofs.lemmas.Bool.{cases_Bool, cond_both}
use Rattle.std.proofs.lemmas.List.{drop_at}
use Rattle.std.proofs.lemmas.List.Elements.{filter-append}
use Rattle.std.proofs.lemmas.List.Folds.{concat-append}
use Rattle.net_base.proofs.MemberLaws.{each_append}
use Rattle.openflow10.specs.Layout.{number_at}
use Rattle.switch_session.specs.Fronts.{front_of, type_in, xid_in}
use Rattle.switch_session.specs.Channels.{ChannelState, is_failed, after_failure, echo_reply, is_outstanding, after_reply, taken_open, taken_by, after_message, after_front, after_byte, after_bytes}
use Rattle.switch_session.specs.Laws.{IsWhole, IsEchoRequest, is_echo, AreRequests, ReadsAll}
use Rattle.switch_session.specs.declared.Cause.{Cause}
use Rattle.switch_session.specs.declared.Cause.TheVariants as cause
use Rattle.switch_session.specs.declared.Session.{Session}
use Rattle.switch_session.specs.declared.Session.TheVariants.{Waiting, Open, Failed}
use Rattle.switch_session.specs.declared.fronts.Front.{Front}
use Rattle.switch_session.specs.declared.fronts.Front.TheVariants.{Short, Fault, Message}
use Rattle.switch_session.proofs.FrontLaws.{message_ends}
use Rattle.switch_session.proofs.ByteLaws.{failed_stays, reading_byte, only_replies}
use Rattle.switch_session.proofs.TalkLaws.{front_nil}

-- ---- the requests

-- nothing came yet
pub requests_first : (ch : ChannelState) → ch.unread ≡ [] → AreRequests [] ch []
requests_first ch none = record { messages = []; rest = []; cut = record { whole = tt; bytes_are = refl }; left = λ e. sym none; requests_are = refl; each = tt }

-- another channel with the same session and unread bytes
pub requests_as : (came : List ℕ) (a b : ChannelState) (rs : List (List ℕ)) → b.session ≡ a.session → b.unread ≡ a.unread → AreRequests came a rs → AreRequests came b rs
requests_as came a b rs session unread h = record {
  messages = h.messages;
  rest = h.rest;
  cut = h.cut;
  left = λ going. h.left (ap is_failed (sym session) ∙ going) ∙ sym unread;
  requests_are = h.requests_are;
  each = h.each;
}

-- what a failed session did stays all that it did
pub requests_failed : (came bytes : List ℕ) (a b : ChannelState) (rs : List (List ℕ)) → is_failed b.session ≡ true → AreRequests came a rs → AreRequests (came ++ bytes) b rs
requests_failed came bytes a b rs failed h = record {
  messages = h.messages;
  rest = h.rest ++ bytes;
  cut = record {
    whole = h.cut.whole;
    bytes_are = ap (λ (l : List ℕ). l ++ bytes) h.cut.bytes_are ∙ append_assoc (concat h.messages) h.rest bytes;
  };
  left = λ going. absurd (let f : true ≡ false = sym failed ∙ going in cc);
  requests_are = h.requests_are;
  each = h.each;
}

-- what was asked for first, and what then
pub requests_both : (came bytes : List ℕ) (a b : ChannelState) (rs more : List (List ℕ)) → is_failed a.session ≡ false → AreRequests came a rs → AreRequests (a.unread ++ bytes) b more → AreRequests (came ++ bytes) b (rs ++ more)
requests_both came bytes a b rs more going h k = record {
  messages = h.messages ++ k.messages;
  rest = k.rest;
  cut = record {
    whole = each_append IsWhole h.messages k.messages h.cut.whole k.cut.whole;
    bytes_are =
        ap (λ (l : List ℕ). l ++ bytes) (h.cut.bytes_are ∙ ap (λ (l : List ℕ). concat h.messages ++ l) (h.left going))
        ∙ append_assoc (concat h.messages) a.unread bytes ∙ ap (λ (l : List ℕ). concat h.messages ++ l) k.cut.bytes_are
        ∙ sym (append_assoc (concat h.messages) (concat k.messages) k.rest) ∙ ap (λ (l : List ℕ). l ++ k.rest) (sym (concat-append h.messages k.messages));
  };
  left = k.left;
  requests_are =
      ap (λ (l : List (List ℕ)). l ++ more) h.requests_are ∙ ap (λ (l : List (List ℕ)). filter is_echo h.messages ++ l) k.requests_are
      ∙ sym (filter-append is_echo h.messages k.messages);
  each = each_append IsEchoRequest rs more h.each k.each;
}

-- what bytes on a channel add: the requests that are answered
pub record Answers (came bytes : List ℕ) (a : ChannelState) (rs : List (List ℕ)) : Type 0 where
  pub more : List (List ℕ)
  pub requests : AreRequests (came ++ bytes) (after_bytes bytes a) (rs ++ more)
  pub sent : (after_bytes bytes a).sent ≡ a.sent ++ flat_map echo_reply more

pub requests_fed : (came bytes : List ℕ) (a : ChannelState) (rs : List (List ℕ)) → AreRequests came a rs → Answers came bytes a rs
requests_fed came bytes a rs h =
    elim (cases_Bool (is_failed a.session)) [
      | inl failed ↦ (
          let same = failed_stays bytes a failed in
          record {
            more = [];
            requests =
                subst (λ (b : ChannelState). AreRequests (came ++ bytes) b (rs ++ [])) (sym same)
                (subst (AreRequests (came ++ bytes) a) (sym (append-nil rs)) (requests_failed came bytes a a rs failed h));
            sent = ap (λ (b : ChannelState). b.sent) same ∙ sym (append-nil a.sent);
          })
      | inr going ↦ (
          let only = only_replies bytes a in
          record {
            more = only.requests;
            requests = requests_both came bytes a (after_bytes bytes a) rs only.requests going h only.came;
            sent = only.sent;
          })
    ]

-- ---- what is unread

module _ (message : List ℕ) (ch : ChannelState) where
  abbrev Keeps : ChannelState → Type 0
  Keeps after = is_failed after.session ≡ false → after.unread ≡ ch.unread

  keeps_failed : (c : Cause) → Keeps (after_failure c ch)
  keeps_failed c = λ e. absurd (let f : true ≡ false = e in cc)

  keeps_answered : (xid : ℕ) → Keeps (after_reply xid ch)
  keeps_answered xid = cond_both (is_outstanding xid ch.outstanding) (record ch { outstanding = None }) (after_failure (cause.Xid xid) ch) Keeps (λ e going. refl) (λ e. keeps_failed (cause.Xid xid))

  keeps_open : Keeps (taken_open message ch)
  keeps_open =
      cond_both (eqb (type_in message) 1) (after_failure (cause.Error (number_at 8 2 message) (number_at 10 2 message)) ch)
      (cond (eqb (type_in message) 2) (record ch { sent = ch.sent ++ echo_reply message }) (cond (eqb (type_in message) 19) (after_reply (xid_in message) ch) ch)) Keeps
      (λ e. keeps_failed (cause.Error (number_at 8 2 message) (number_at 10 2 message)))
      (λ e. cond_both (eqb (type_in message) 2) (record ch { sent = ch.sent ++ echo_reply message }) (cond (eqb (type_in message) 19) (after_reply (xid_in message) ch) ch) Keeps
      (λ f going. refl)
      (λ f. cond_both (eqb (type_in message) 19) (after_reply (xid_in message) ch) ch Keeps (λ g. keeps_answered (xid_in message)) (λ g going. refl)))

  keeps_by : (s : Session) → Keeps (taken_by s message ch)
  keeps_by Waiting = cond_both (eqb (type_in message) 0) (record ch { session = Open }) (after_failure cause.NoHello ch) Keeps (λ e going. refl) (λ e. keeps_failed cause.NoHello)
  keeps_by Open = keeps_open
  keeps_by (Failed c) = λ going. refl

  keeps_taken : Keeps (after_message message ch)
  unfolding after_message
  keeps_taken = keeps_by ch.session

reads_acted : (ch : ChannelState) (b : ℕ) → front_of ch.unread ≡ Short → (f : Front) → front_of (ch.unread ++ b ∷ []) ≡ f → ReadsAll (after_front f (record ch { unread = ch.unread ++ b ∷ [] }))
reads_acted ch b short Short at = λ going. at
reads_acted ch b short (Fault c) at = λ going. absurd (let f : true ≡ false = going in cc)
reads_acted ch b short (Message n) at = λ going.
    let came = ch.unread ++ b ∷ [] in
    let none : drop n came ≡ [] = ap (drop n) (sym (append-nil came)) ∙ drop_at came [] n (message_ends ch.unread b n short at) in
    ap front_of (keeps_taken (take n came) (record ch { unread = drop n came }) going ∙ none) ∙ front_nil

reads_byte : (b : ℕ) (ch : ChannelState) → ReadsAll ch → ReadsAll (after_byte b ch)
reads_byte b ch h =
    elim (cases_Bool (is_failed ch.session)) [
      | inl failed ↦ subst ReadsAll (sym (failed_stays (b ∷ []) ch failed)) h
      | inr going ↦ subst ReadsAll (sym (reading_byte b ch going)) (reads_acted ch b (h going) (front_of (ch.unread ++ b ∷ [])) refl)
    ]

pub reads_bytes : (bytes : List ℕ) (ch : ChannelState) → ReadsAll ch → ReadsAll (after_bytes bytes ch)
reads_bytes [] ch h = h
reads_bytes (b ∷ bytes) ch h = reads_bytes bytes (after_byte b ch) (reads_byte b ch h)
