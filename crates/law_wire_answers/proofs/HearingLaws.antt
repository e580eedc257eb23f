-- What one byte does to the channel of a switch, case by case.
use Rattle.std.proofs.Common.{◌≡◌, ◌⊎◌, ℕ, ◌≤◌, Bool, true, false, cond, eqb, ltb, ◌&&◌, List, [], ◌∷◌, ◌++◌, length, take, drop, refl, sym, ap, ◌∙◌, subst, inl, inr, append-nil, length-append, length-set, arith}
use Rattle.std.specs.Prelude.{Option, Some, None, is_some, is_none}
use Rattle.std.proofs.lemmas.Bool.{cond-true, cond-false, cond_both, eqb-true, eqb-false, lt-ltb, le-ltb}
use Rattle.std.proofs.lemmas.List.{take_at, drop_at}
use Rattle.openflow10.specs.Layout.{number_at}
use Rattle.switch_session.specs.Fronts.{front_of, type_in, xid_in}
use Rattle.switch_session.specs.Channels.{ChannelState, is_failed, after_failure, echo_reply, is_outstanding, after_reply, taken_open, taken_by, after_message, after_front, after_byte}
use Rattle.switch_session.specs.Laws.{IsWhole}
use Rattle.switch_session.specs.declared.Cause.{Cause}
use Rattle.switch_session.specs.declared.Cause.TheVariants as cause
use Rattle.switch_session.specs.declared.Session.{Session}
use Rattle.switch_session.specs.declared.Session.TheVariants.{Waiting, Open, Failed}
use Rattle.switch_session.specs.declared.fronts.Front.{Front}
use Rattle.switch_session.specs.declared.fronts.Front.TheVariants.{Short, Fault, Message}
use Rattle.switch_session.proofs.FrontLaws.{message_ends}
use Rattle.switch_session.proofs.ByteLaws.{reading_byte, failed_stays, message_whole}
use Rattle.two_way_driver.specs.Peers.{opened_anew, heard_of, heard_by, kept_of}
use Rattle.two_way_driver.specs.declared.peers.ByteOutcome.TheVariants.{Nothing, Opened, Answered, Replied, Broke}
use Rattle.law_wire_answers.specs.Failing.{first_fault, later_fault}

abbrev pub channel : Session → List ℕ → List ℕ → Option ℕ → ChannelState
channel x unread sent o = record { session = x; unread = unread; sent = sent; outstanding = o }

-- ---- what is heard

some_none : (o : Option ℕ) → (is_some o && is_none o) ≡ false
some_none None = refl
some_none (Some x) = refl

same_length : (sent : List ℕ) → ltb (length sent) (length sent) ≡ false
same_length sent = le-ltb (length sent) (length sent) (omega arith)

hears_same : (x : Session) (o : Option ℕ) (sent unread : List ℕ) → is_failed x ≡ false → heard_of x o (length sent) (channel x unread sent o) ≡ Nothing
unfolding heard_of
hears_same Waiting o sent unread going =
    let rest = cond (ltb (length sent) (length sent)) (Replied (drop (length sent) sent)) Nothing in
    cond-false (is_some o && is_none o) Answered rest (some_none o) ∙ cond-false (ltb (length sent) (length sent)) (Replied (drop (length sent) sent)) Nothing (same_length sent)
hears_same Open o sent unread going =
    let rest = cond (ltb (length sent) (length sent)) (Replied (drop (length sent) sent)) Nothing in
    cond-false (is_some o && is_none o) Answered rest (some_none o) ∙ cond-false (ltb (length sent) (length sent)) (Replied (drop (length sent) sent)) Nothing (same_length sent)
hears_same (Failed c) o sent unread going = absurd (let f : true ≡ false = going in cc)

hears_failure : (x : Session) (o : Option ℕ) (c : Cause) (sent : List ℕ) → is_failed x ≡ false → heard_of x o (length sent) (channel (Failed c) [] sent o) ≡ Broke c
unfolding heard_of
hears_failure Waiting o c sent going =
    let rest = cond (ltb (length sent) (length sent)) (Replied (drop (length sent) sent)) (Broke c) in
    cond-false (is_some o && is_none o) Answered rest (some_none o) ∙ cond-false (ltb (length sent) (length sent)) (Replied (drop (length sent) sent)) (Broke c) (same_length sent)
hears_failure Open o c sent going =
    let rest = cond (ltb (length sent) (length sent)) (Replied (drop (length sent) sent)) (Broke c) in
    cond-false (is_some o && is_none o) Answered rest (some_none o) ∙ cond-false (ltb (length sent) (length sent)) (Replied (drop (length sent) sent)) (Broke c) (same_length sent)
hears_failure (Failed d) o c sent going = absurd (let f : true ≡ false = going in cc)

hears_hello : (o : Option ℕ) (sent unread : List ℕ) → heard_of Waiting o (length sent) (channel Open unread sent o) ≡ Opened
unfolding heard_of
hears_hello o sent unread = cond-false (is_some o && is_none o) Answered Opened (some_none o)

hears_reply : (x : ℕ) (sent unread : List ℕ) → heard_of Open (Some x) (length sent) (channel Open unread sent None) ≡ Answered
unfolding heard_of
hears_reply x sent unread = refl

hears_echo : (o : Option ℕ) (sent unread text : List ℕ) → 1 ≤ length text → heard_of Open o (length sent) (channel Open unread (sent ++ text) o) ≡ Replied text
unfolding heard_of
hears_echo o sent unread text some =
    let all = sent ++ text in
    let more = length-append sent text in
    cond-false (is_some o && is_none o) Answered (cond (ltb (length sent) (length all)) (Replied (drop (length sent) all)) Nothing) (some_none o)
    ∙ cond-true (ltb (length sent) (length all)) (Replied (drop (length sent) all)) Nothing (lt-ltb (length sent) (length all) (omega arith)) ∙ ap Replied (drop_at sent text (length sent) refl)

kept_same : (ch after : ChannelState) → after.sent ≡ ch.sent → kept_of ch after ≡ after
kept_same ch after same =
    cond-false (ltb (length ch.sent) (length after.sent)) (opened_anew after.outstanding) after (le-ltb (length ch.sent) (length after.sent) (let e = ap length same in omega arith))

-- ---- what a byte does

-- a whole message stands there, and nothing behind it
pub record IsMessage (come : List ℕ) : Type 0 where
  pub n : ℕ
  pub at : front_of come ≡ Message n
  pub size : length come ≡ n
  pub whole : IsWhole come

-- why a whole message fails a session
abbrev pub fault_in : Session → Option ℕ → List ℕ → Option Cause
fault_in Waiting o message = first_fault message
fault_in Open o message = later_fault o message
fault_in (Failed c) o message = None

-- too little came, or a message that changes nothing
abbrev pub IsRead : ChannelState → List ℕ → List ℕ → Type 0
IsRead ch come unread =
    ((front_of come ≡ Short) × (unread ≡ come))
    ⊎ (IsMessage come × (unread ≡ []) × (fault_in ch.session ch.outstanding come ≡ None) × (type_in come ≡ 2 → ⊥) × (type_in come ≡ 19 → ⊥) × (ch.session ≡ Open))

pub data Hearing (ch : ChannelState) (b : ℕ) : Type 0 where
  Keeps : heard_by ch (after_byte b ch) ≡ Nothing → (unread : List ℕ) → kept_of ch (after_byte b ch) ≡ record ch { unread = unread } → IsRead ch (ch.unread ++ b ∷ []) unread → Hearing ch b
  Opens : heard_by ch (after_byte b ch) ≡ Opened → kept_of ch (after_byte b ch) ≡ record ch { session = Open; unread = [] } → ch.session ≡ Waiting
      → IsMessage (ch.unread ++ b ∷ []) → type_in (ch.unread ++ b ∷ []) ≡ 0 → Hearing ch b
  Answers : heard_by ch (after_byte b ch) ≡ Answered → kept_of ch (after_byte b ch) ≡ record ch { unread = []; outstanding = None } → ch.session ≡ Open → (x : ℕ) → ch.outstanding ≡ Some x
      → IsMessage (ch.unread ++ b ∷ []) → type_in (ch.unread ++ b ∷ []) ≡ 19 → xid_in (ch.unread ++ b ∷ []) ≡ x → Hearing ch b
  Replies : heard_by ch (after_byte b ch) ≡ Replied (echo_reply (ch.unread ++ b ∷ [])) → kept_of ch (after_byte b ch) ≡ opened_anew ch.outstanding → ch.session ≡ Open
      → IsMessage (ch.unread ++ b ∷ []) → type_in (ch.unread ++ b ∷ []) ≡ 2 → Hearing ch b
  BreaksHeader : (c : Cause) → heard_by ch (after_byte b ch) ≡ Broke c → kept_of ch (after_byte b ch) ≡ after_failure c ch → front_of (ch.unread ++ b ∷ []) ≡ Fault c → Hearing ch b
  BreaksMessage : (c : Cause) → heard_by ch (after_byte b ch) ≡ Broke c → kept_of ch (after_byte b ch) ≡ after_failure c ch → IsMessage (ch.unread ++ b ∷ [])
      → fault_in ch.session ch.outstanding (ch.unread ++ b ∷ []) ≡ Some c → Hearing ch b

module _ (b : ℕ) (u sent : List ℕ) (o : Option ℕ) (short : front_of u ≡ Short) where
  abbrev come : List ℕ
  come = u ++ b ∷ []

  module _ (x : Session) (going : is_failed x ≡ false) where
    abbrev ch : ChannelState
    ch = channel x u sent o

    abbrev By : ChannelState → Type 0
    By after = after_byte b ch ≡ after → Hearing ch b

    keeps : (unread : List ℕ) → IsRead ch come unread → By (channel x unread sent o)
    keeps unread read is =
        let after = channel x unread sent o in
        Keeps (ap (heard_by ch) is ∙ hears_same x o sent unread going) unread (ap (kept_of ch) is ∙ kept_same ch after refl) read

    breaks_header : (c : Cause) → front_of come ≡ Fault c → By (channel (Failed c) [] sent o)
    breaks_header c at is =
        BreaksHeader c (ap (heard_by ch) is ∙ hears_failure x o c sent going) (ap (kept_of ch) is ∙ kept_same ch (channel (Failed c) [] sent o) refl) at

    breaks_message : (c : Cause) → IsMessage come → fault_in x o come ≡ Some c → By (channel (Failed c) [] sent o)
    breaks_message c whole fault is =
        BreaksMessage c (ap (heard_by ch) is ∙ hears_failure x o c sent going) (ap (kept_of ch) is ∙ kept_same ch (channel (Failed c) [] sent o) refl) whole fault

  -- a message to a session that waits
  greets : IsMessage come → By Waiting refl (taken_by Waiting come (channel Waiting [] sent o))
  greets whole =
      cond_both (eqb (type_in come) 0) (channel Open [] sent o) (channel (Failed cause.NoHello) [] sent o) (By Waiting refl)
      (λ t is. Opens (ap (heard_by (ch Waiting refl)) is ∙ hears_hello o sent []) (ap (kept_of (ch Waiting refl)) is ∙ kept_same (ch Waiting refl) (channel Open [] sent o) refl) refl whole (eqb-true (type_in come) 0 t))
      (λ f is. breaks_message Waiting refl cause.NoHello whole (ap (λ t. cond t None (Some cause.NoHello)) f) is)

  -- the fault of a message to an open session, by its type
  fault_by : (t1 t19 due : Bool) → eqb (type_in come) 1 ≡ t1 → eqb (type_in come) 19 ≡ t19 → is_outstanding (xid_in come) o ≡ due
      → later_fault o come ≡ cond t1 (Some (cause.Error (number_at 8 2 come) (number_at 10 2 come))) (cond t19 (cond due None (Some (cause.Xid (xid_in come)))) None)
  fault_by t1 t19 due e f g =
      ap (λ t. cond t (Some (cause.Error (number_at 8 2 come) (number_at 10 2 come))) (cond (eqb (type_in come) 19) (cond (is_outstanding (xid_in come) o) None (Some (cause.Xid (xid_in come)))) None)) e
      ∙ ap (λ t. cond t1 (Some (cause.Error (number_at 8 2 come) (number_at 10 2 come))) (cond t (cond (is_outstanding (xid_in come) o) None (Some (cause.Xid (xid_in come)))) None)) f
      ∙ ap (λ t. cond t1 (Some (cause.Error (number_at 8 2 come) (number_at 10 2 come))) (cond t19 (cond t None (Some (cause.Xid (xid_in come)))) None)) g

  due_is : (xid : ℕ) (p : Option ℕ) → is_outstanding xid p ≡ true → p ≡ Some xid
  due_is xid None e = absurd (let f : false ≡ true = e in cc)
  due_is xid (Some n) e = ap Some (eqb-true n xid e)

  answered : IsMessage come → eqb (type_in come) 1 ≡ false → eqb (type_in come) 19 ≡ true → By Open refl (after_reply (xid_in come) (channel Open [] sent o))
  answered whole no_error is_reply =
      cond_both (is_outstanding (xid_in come) o) (channel Open [] sent None) (channel (Failed (cause.Xid (xid_in come))) [] sent o) (By Open refl)
      (λ t is.
      let waits : o ≡ Some (xid_in come) = due_is (xid_in come) o t in
      let here = ch Open refl in
      let heard : heard_by here (channel Open [] sent None) ≡ Answered = ap (λ (p : Option ℕ). heard_of Open p (length sent) (channel Open [] sent None)) waits ∙ hears_reply (xid_in come) sent [] in
      Answers (ap (heard_by here) is ∙ heard) (ap (kept_of here) is ∙ kept_same here (channel Open [] sent None) refl) refl (xid_in come) waits whole (eqb-true (type_in come) 19 is_reply) refl)
      (λ f is. breaks_message Open refl (cause.Xid (xid_in come)) whole (fault_by false true false no_error is_reply f) is)

  long : IsMessage come → 1 ≤ length (echo_reply come)
  long whole = let header = whole.whole.header in let same = length-set come 1 3 in omega arith

  takes : IsMessage come → By Open refl (taken_open come (channel Open [] sent o))
  takes whole =
      let here = ch Open refl in
      let base = channel Open [] sent o in
      let replied = channel Open [] (sent ++ echo_reply come) o in
      cond_both (eqb (type_in come) 1) (after_failure (cause.Error (number_at 8 2 come) (number_at 10 2 come)) base)
      (cond (eqb (type_in come) 2) replied (cond (eqb (type_in come) 19) (after_reply (xid_in come) base) base)) (By Open refl)
      (λ t is. breaks_message Open refl (cause.Error (number_at 8 2 come) (number_at 10 2 come)) whole (fault_by true (eqb (type_in come) 19) (is_outstanding (xid_in come) o) t refl refl) is)
      (λ no_error. cond_both (eqb (type_in come) 2) replied (cond (eqb (type_in come) 19) (after_reply (xid_in come) base) base) (By Open refl)
      (λ t is.
      let more = length-append sent (echo_reply come) in
      let some = long whole in
      Replies (ap (heard_by here) is ∙ hears_echo o sent [] (echo_reply come) some)
      (ap (kept_of here) is ∙ cond-true (ltb (length sent) (length (sent ++ echo_reply come))) (opened_anew o) replied (lt-ltb (length sent) (length (sent ++ echo_reply come)) (omega arith)))
      refl whole (eqb-true (type_in come) 2 t))
      (λ no_echo. cond_both (eqb (type_in come) 19) (after_reply (xid_in come) base) base (By Open refl)
      (λ is_reply. answered whole no_error is_reply)
      (λ no_reply is. keeps Open refl []
      (inr (whole, refl, fault_by false false (is_outstanding (xid_in come) o) no_error no_reply refl, eqb-false (type_in come) 2 no_echo, eqb-false (type_in come) 19 no_reply, refl)) is)))

  is_message : (n : ℕ) → front_of come ≡ Message n → IsMessage come
  is_message n at =
      let size : length come ≡ n = message_ends u b n short at in
      let all : take n come ≡ come = ap (take n) (sym (append-nil come)) ∙ take_at come [] n size in
      record { n = n; at = at; size = size; whole = subst IsWhole all (message_whole come n at) }

  -- the message is taken, and nothing is left
  taken : (x : Session) → is_failed x ≡ false → (n : ℕ) → front_of come ≡ Message n → after_byte b (channel x u sent o) ≡ taken_by x come (channel x [] sent o)
  unfolding after_message
  taken x going n at =
      let size : length come ≡ n = message_ends u b n short at in
      let all : take n come ≡ come = ap (take n) (sym (append-nil come)) ∙ take_at come [] n size in
      let none : drop n come ≡ [] = ap (drop n) (sym (append-nil come)) ∙ drop_at come [] n size in
      reading_byte b (channel x u sent o) going ∙ ap (λ (f : Front). after_front f (channel x come sent o)) at
      ∙ ap (λ (m : List ℕ). taken_by x m (channel x (drop n come) sent o)) all ∙ ap (λ (l : List ℕ). taken_by x come (channel x l sent o)) none

  by_front : (x : Session) → is_failed x ≡ false → (f : Front) → front_of come ≡ f → Hearing (channel x u sent o) b
  by_front x going Short at = keeps x going come (inl (at, refl)) (reading_byte b (channel x u sent o) going ∙ ap (λ (f : Front). after_front f (channel x come sent o)) at)
  by_front x going (Fault c) at = breaks_header x going c at (reading_byte b (channel x u sent o) going ∙ ap (λ (f : Front). after_front f (channel x come sent o)) at)
  by_front Waiting going (Message n) at = greets (is_message n at) (taken Waiting going n at)
  by_front Open going (Message n) at = takes (is_message n at) (taken Open going n at)
  by_front (Failed c) going (Message n) at = absurd (let f : true ≡ false = going in cc)

pub hearing : (ch : ChannelState) (b : ℕ) → is_failed ch.session ≡ false → front_of ch.unread ≡ Short → Hearing ch b
hearing ch b going short = by_front b ch.unread ch.sent ch.outstanding short ch.session going (front_of (ch.unread ++ b ∷ [])) refl

-- a failed session stays as it is, and nothing is heard of it
pub record Deaf (ch : ChannelState) (b : ℕ) : Type 0 where
  pub heard : heard_by ch (after_byte b ch) ≡ Nothing
  pub kept : kept_of ch (after_byte b ch) ≡ ch

deaf_of : (x : Session) (o : Option ℕ) (sent unread : List ℕ) → is_failed x ≡ true → heard_of x o (length sent) (channel x unread sent o) ≡ Nothing
unfolding heard_of
deaf_of Waiting o sent unread failed = absurd (let f : false ≡ true = failed in cc)
deaf_of Open o sent unread failed = absurd (let f : false ≡ true = failed in cc)
deaf_of (Failed c) o sent unread failed =
    let rest = cond (ltb (length sent) (length sent)) (Replied (drop (length sent) sent)) Nothing in
    cond-false (is_some o && is_none o) Answered rest (some_none o) ∙ cond-false (ltb (length sent) (length sent)) (Replied (drop (length sent) sent)) Nothing (same_length sent)

pub deaf : (ch : ChannelState) (b : ℕ) → is_failed ch.session ≡ true → Deaf ch b
deaf ch b failed =
    let is : after_byte b ch ≡ ch = failed_stays (b ∷ []) ch failed in
    record {
      heard = ap (heard_by ch) is ∙ deaf_of ch.session ch.outstanding ch.sent ch.unread failed;
      kept = ap (kept_of ch) is ∙ kept_same ch ch refl;
    }
