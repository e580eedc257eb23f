-- Bytes from a switch: whole messages in a row, the barrier replies among them, and errors.
use Rattle.std.proofs.Common.{◌≡◌, ◌≢◌, ℕ, ◌<◌, ◌≤◌, ◌^◌, true, false, cond, eqb, List, [], ◌∷◌, ◌++◌, length, take, drop, refl, sym, ◌∙◌, subst, ap, inl, inr, append_assoc, append-nil, length-append, arith}
use Rattle.std.specs.Prelude.{Option, Some, None}
use Rattle.std.specs.Option.{option_map}
use Rattle.std.specs.List.{AllByRecursion, concat}
use Rattle.std.proofs.lemmas.Bool.{cond-true, cond-false, eqb-true, eqb-false, eq-eqb, ne_eqb, cases_Bool}
use Rattle.std.proofs.lemmas.List.{take_at, drop_at}
use Rattle.std.proofs.lemmas.List.Folds.{concat-append}
use Rattle.net_base.proofs.MemberLaws.{each_append, each_first, each_last}
use Rattle.topology.specs.Networks.{Network}
use Rattle.update_model.specs.Ranges.{IsPlanChange}
use Rattle.update_model.specs.declared.Change.{Change}
use Rattle.openflow10.specs.Layout.{number_at}
use Rattle.openflow10.specs.FlowMod.{flow_mod_at, key_in}
use Rattle.openflow10.specs.Messages.{IsMessage, wire_text, length_of, message_of}
use Rattle.openflow10.specs.Reading.{Names}
use Rattle.openflow10.specs.declared.FlowMod as flow
use Rattle.openflow10.specs.declared.Verb.{Verb}
use Rattle.openflow10.specs.declared.Message.{Message}
use Rattle.openflow10.specs.declared.Message.TheVariants.{Flow, BarrierRequest, BarrierReply}
use Rattle.openflow10.proofs.MessageLaws.{begins, text_names, text_size, length-wire_text}
use Rattle.round_messages.proofs.Requests.{plan_message}
use Rattle.switch_session.specs.Fronts.{front_of, type_in, xid_in, length_in}
use Rattle.switch_session.specs.Channels.{hello, echo_reply}
use Rattle.switch_session.specs.Laws.{IsWhole}
use Rattle.switch_session.specs.declared.fronts.Front.TheVariants.{Short, Message as Whole}
use Rattle.switch_session.proofs.FrontLaws.{number_at-front, has_message, message_ends}
use Rattle.switch_session.proofs.TalkLaws.{front_nil}
use Rattle.law_wire.specs.Network.{flow_in, inbox_message}
use Rattle.law_wire.proofs.Entries.{flow_of, message_is}

-- ---- replies and errors

abbrev pub NoReply : List (List ℕ) → Type 0
NoReply messages = AllByRecursion (λ m. type_in m ≢ 19) messages

abbrev pub NoError : List (List ℕ) → Type 0
NoError messages = AllByRecursion (λ m. type_in m ≢ 1) messages

-- no error stands before a reply
abbrev pub Clear : List (List ℕ) → Type 0
Clear [] = Unit {0}
Clear (m ∷ messages) = (type_in m ≡ 1 → NoReply messages) × Clear messages

-- the xids of the replies
abbrev pub replies_in : List (List ℕ) → List ℕ
replies_in [] = []
replies_in (m ∷ messages) = cond (eqb (type_in m) 19) (xid_in m ∷ replies_in messages) (replies_in messages)

pub replies_reply : (m : List ℕ) (messages : List (List ℕ)) → type_in m ≡ 19 → replies_in (m ∷ messages) ≡ xid_in m ∷ replies_in messages
replies_reply m messages e = cond-true (eqb (type_in m) 19) (xid_in m ∷ replies_in messages) (replies_in messages) (eq-eqb (type_in m) 19 e)

pub replies_other : (m : List ℕ) (messages : List (List ℕ)) → type_in m ≢ 19 → replies_in (m ∷ messages) ≡ replies_in messages
replies_other m messages n = cond-false (eqb (type_in m) 19) (xid_in m ∷ replies_in messages) (replies_in messages) (ne_eqb (type_in m) 19 n)

replies-append : (xs ys : List (List ℕ)) → replies_in (xs ++ ys) ≡ replies_in xs ++ replies_in ys
replies-append [] ys = refl
replies-append (m ∷ xs) ys =
    elim (eqb (type_in m) 19) as (λ b. cond b (xid_in m ∷ replies_in (xs ++ ys)) (replies_in (xs ++ ys)) ≡ cond b (xid_in m ∷ replies_in xs) (replies_in xs) ++ replies_in ys) [
      | true ↦ ap (λ l. xid_in m ∷ l) (replies-append xs ys)
      | false ↦ replies-append xs ys
    ]

pub replies_push_reply : (m : List ℕ) (messages : List (List ℕ)) (x : ℕ) → type_in m ≡ 19 → xid_in m ≡ x → replies_in (messages ++ m ∷ []) ≡ replies_in messages ++ x ∷ []
replies_push_reply m messages x e is = replies-append messages (m ∷ []) ∙ ap (λ l. replies_in messages ++ l) (replies_reply m [] e ∙ ap (λ n. n ∷ []) is)

pub replies_push_other : (m : List ℕ) (messages : List (List ℕ)) → type_in m ≢ 19 → replies_in (messages ++ m ∷ []) ≡ replies_in messages
replies_push_other m messages n = replies-append messages (m ∷ []) ∙ ap (λ l. replies_in messages ++ l) (replies_other m [] n) ∙ append-nil (replies_in messages)

pub no_replies : (messages : List (List ℕ)) → replies_in messages ≡ [] → NoReply messages
no_replies [] e = tt
no_replies (m ∷ messages) e =
    elim (cases_Bool (eqb (type_in m) 19)) [
      | inl t ↦ absurd (let f : xid_in m ∷ replies_in messages ≡ [] = sym (replies_reply m messages (eqb-true (type_in m) 19 t)) ∙ e in cc)
      | inr f ↦ (eqb-false (type_in m) 19 f, no_replies messages (sym (replies_other m messages (eqb-false (type_in m) 19 f)) ∙ e))
    ]

pub clear_behind_reply : (messages : List (List ℕ)) (r : List ℕ) → type_in r ≡ 19 → Clear (messages ++ r ∷ []) → NoError messages
clear_behind_reply [] r e clear = tt
clear_behind_reply (m ∷ messages) r e clear =
    ((λ is. (each_last (λ x. type_in x ≢ 19) messages (r ∷ []) (clear.0 is)).0 e), clear_behind_reply messages r e clear.1)

pub clear_before : (messages : List (List ℕ)) (m : List ℕ) → Clear (messages ++ m ∷ []) → Clear messages
clear_before [] m clear = tt
clear_before (x ∷ messages) m clear = ((λ is. each_first (λ y. type_in y ≢ 19) messages (m ∷ []) (clear.0 is)), clear_before messages m clear.1)

pub clear_alone : (messages : List (List ℕ)) → NoReply messages → Clear messages
clear_alone [] none = tt
clear_alone (m ∷ messages) none = ((λ _. none.1), clear_alone messages none.1)

pub error_before : (messages : List (List ℕ)) (m : List ℕ) → NoError (messages ++ m ∷ []) → NoError messages
error_before messages m none = each_first (λ x. type_in x ≢ 1) messages (m ∷ []) none

-- ---- bytes in a row

-- the bytes that a driver hasn't taken and those that a switch sent behind them are messages in a row, of the first of which some bytes lack
pub record Stream (unread outbox : List ℕ) (messages : List (List ℕ)) : Type 0 where
  pub whole : AllByRecursion IsWhole messages
  pub bytes : unread ++ outbox ≡ concat messages
  pub short : front_of unread ≡ Short

pub stream_first : Stream [] [] []
stream_first = record { whole = tt; bytes = refl; short = front_nil }

pub stream_push : (unread outbox : List ℕ) (messages : List (List ℕ)) (m : List ℕ) → Stream unread outbox messages → IsWhole m → Stream unread (outbox ++ m) (messages ++ m ∷ [])
stream_push unread outbox messages m h is = record {
  whole = each_append IsWhole messages (m ∷ []) h.whole (is, tt);
  bytes = sym (append_assoc unread outbox m) ∙ ap (λ l. l ++ m) h.bytes ∙ ap (λ l. concat messages ++ l) (sym (append-nil m)) ∙ sym (concat-append messages (m ∷ []));
  short = h.short;
}

pub stream_byte : (unread out : List ℕ) (b : ℕ) (messages : List (List ℕ)) → Stream unread (b ∷ out) messages → front_of (unread ++ b ∷ []) ≡ Short → Stream (unread ++ b ∷ []) out messages
stream_byte unread out b messages h short = record { whole = h.whole; bytes = append_assoc unread (b ∷ []) out ∙ h.bytes; short = short }

-- a byte makes the first message whole
pub record Completes (unread out : List ℕ) (b : ℕ) (messages : List (List ℕ)) : Type 0 where
  pub later : List (List ℕ)
  pub is : messages ≡ (unread ++ b ∷ []) ∷ later
  pub whole : IsWhole (unread ++ b ∷ [])
  pub rest : Stream [] out later

same_front : (xs ys zs ws : List ℕ) → length xs ≡ length zs → xs ++ ys ≡ zs ++ ws → (xs ≡ zs) × (ys ≡ ws)
same_front xs ys zs ws count e = (
  sym (take_at xs ys (length xs) refl) ∙ ap (take (length xs)) e ∙ take_at zs ws (length xs) (sym count),
  sym (drop_at xs ys (length xs) refl) ∙ ap (drop (length xs)) e ∙ drop_at zs ws (length xs) (sym count),
)

pub stream_message : (unread out : List ℕ) (b n : ℕ) (messages : List (List ℕ)) → Stream unread (b ∷ out) messages → front_of (unread ++ b ∷ []) ≡ Whole n → Completes unread out b messages
stream_message unread out b n [] h at =
    let none : unread ++ b ∷ out ≡ [] = h.bytes in
    let count = length-append unread (b ∷ out) in
    let zero_long : length (unread ++ b ∷ out) ≡ 0 = ap length none in
    absurd (omega arith)
stream_message unread out b n (m ∷ later) h at =
    let u = unread ++ b ∷ [] in
    let row : (unread ++ b ∷ []) ++ out ≡ m ++ concat later = append_assoc unread (b ∷ []) out ∙ h.bytes in
    let has = has_message (unread ++ b ∷ []) n at in
    let ends : length (unread ++ b ∷ []) ≡ n = message_ends unread b n h.short at in
    let header = has.header in
    let least = h.whole.0.header in
    let said : length_in (unread ++ b ∷ []) ≡ n = has.said in
    let mine : length_in ((unread ++ b ∷ []) ++ out) ≡ length_in (unread ++ b ∷ []) = number_at-front 2 2 (unread ++ b ∷ []) out (omega arith) in
    let its : length_in (m ++ concat later) ≡ length_in m = number_at-front 2 2 m (concat later) (omega arith) in
    let size : length_in m ≡ length m = h.whole.0.size in
    let count : length (unread ++ b ∷ []) ≡ length m = ends ∙ sym said ∙ sym mine ∙ ap length_in row ∙ its ∙ size in
    let (same, rest) = same_front (unread ++ b ∷ []) out m (concat later) count row in
    record {
      later = later;
      is = ap (λ l. l ∷ later) (sym same);
      whole = subst IsWhole (sym same) h.whole.0;
      rest = record { whole = h.whole.1; bytes = rest; short = front_nil };
    }

-- ---- texts

named_by : (m : Message) → IsMessage m → Names (wire_text m) m
named_by m ok = subst (λ l. Names l m) (append-nil (wire_text m)) (text_names (wire_text m ++ []) m (length_of m) (begins m [] ok))

pub text_whole : (m : Message) → IsMessage m → 8 ≤ length_of m → IsWhole (wire_text m)
text_whole m ok long = record {
  header = (let count = length-wire_text m in omega arith);
  size = ap length_in (sym (append-nil (wire_text m))) ∙ text_size (wire_text m ++ []) m (length_of m) (begins m [] ok) ∙ sym (length-wire_text m);
}

-- a barrier reply
pub reply_whole : (x : ℕ) → x < 2 ^ 32 → IsWhole (wire_text (BarrierReply x))
reply_whole x ok = text_whole (BarrierReply x) ok (omega arith)

pub reply_type : (x : ℕ) → x < 2 ^ 32 → type_in (wire_text (BarrierReply x)) ≡ 19
reply_type x ok = (named_by (BarrierReply x) ok).type

pub reply_xid : (x : ℕ) → x < 2 ^ 32 → xid_in (wire_text (BarrierReply x)) ≡ x
reply_xid x ok = (named_by (BarrierReply x) ok).xid

-- what goes out arrives as the message that it is
pub barrier_arrives : (x : ℕ) → x < 2 ^ 32 → inbox_message (wire_text (BarrierRequest x)) ≡ Some (BarrierRequest x)
barrier_arrives x ok =
    let text = wire_text (BarrierRequest x) in
    let named = named_by (BarrierRequest x) ok in
    let is : type_in text ≡ 18 = named.type in
    ap (λ n. cond (eqb n 14) (flow_in text) (cond (eqb n 18) (Some (BarrierRequest (xid_in text))) None)) is ∙ ap (λ n. let o : Option Message = Some (BarrierRequest n) in o) named.xid

flow_arrives : (m : flow.FlowMod) → IsMessage (Flow m) → inbox_message (wire_text (Flow m)) ≡ Some (Flow m)
flow_arrives m ok =
    let text = wire_text (Flow m) in
    let named = named_by (Flow m) ok in
    let is : type_in text ≡ 14 = named.type in
    let Of : ℕ → Option Verb → Option Message = λ xid verb. option_map (λ v. Flow (record { xid = xid; verb = v; key = key_in (flow_mod_at text) })) verb in
    let key : key_in (flow_mod_at text) ≡ m.key = sym named.body.key in
    ap (λ n. cond (eqb n 14) (flow_in text) (cond (eqb n 18) (Some (BarrierRequest (xid_in text))) None)) is
    ∙ ap (Of (xid_in text)) named.body.verb
    ∙ ap (λ n. Of n (Some m.verb)) named.xid
    ∙ ap (λ k. let o : Option Message = Some (Flow (record { xid = m.xid; verb = m.verb; key = k })) in o) key

pub change_arrives : (net : Network) (c : Change) (x : ℕ) → IsPlanChange net c → x < 2 ^ 32 → inbox_message (wire_text (message_of c x)) ≡ Some (Flow (flow_of c x))
change_arrives net c x plan ok =
    let is = message_is c x in
    ap (λ m. inbox_message (wire_text m)) is ∙ flow_arrives (flow_of c x) (subst IsMessage is (plan_message net c x plan ok))

-- neither HELLO nor a reply to an echo request does
pub other_stays_out : (text : List ℕ) → type_in text ≢ 14 → type_in text ≢ 18 → inbox_message text ≡ None
other_stays_out text a b =
    cond-false (eqb (type_in text) 14) (flow_in text) (cond (eqb (type_in text) 18) (Some (BarrierRequest (xid_in text))) None) (ne_eqb (type_in text) 14 a)
    ∙ cond-false (eqb (type_in text) 18) (Some (BarrierRequest (xid_in text))) None (ne_eqb (type_in text) 18 b)

pub echo_type : (m : List ℕ) → 8 ≤ length m → type_in (echo_reply m) ≡ 3
unfolding number_at
echo_type [] le = absurd (omega arith)
echo_type (a ∷ []) le = absurd (omega arith)
echo_type (a ∷ b ∷ m) le = refl

hello_type : type_in hello ≡ 0
unfolding number_at
hello_type = refl

pub hello_stays : inbox_message hello ≡ None
hello_stays = other_stays_out hello (λ e. let zero_type = hello_type in omega arith) (λ e. let zero_type = hello_type in omega arith)
