-- What a step of reading makes of what was said.
use Rattle.std.proofs.Common.{◌≡◌, ℕ, ◌≤◌, true, false, List, [], ◌++◌, length, take, drop, refl, sym, ap, ◌∙◌, subst, vec_len, vec_capacity, arith}
use Rattle.std.proofs.lemmas.List.{drop_all, length-take-le}
use Rattle.byteorder.specs.Numbers.{big_from-take}
use Rattle.openflow10.specs.Layout.{number_at}
use Rattle.switch_session.specs.Fronts.{type_in, length_in, front_of}
use Rattle.switch_session.specs.Channels.{is_failed, after_failure, after_message, after_bytes}
use Rattle.switch_session.specs.Laws.{IsReading, TakesFront}
use Rattle.switch_session.specs.Seen.{ChannelView, channel_of, UsesRoom, IsLeft, IsTaken}
use Rattle.switch_session.specs.declared.Cause.{Cause}
use Rattle.switch_session.specs.declared.fronts.Front.{Front}
use Rattle.switch_session.specs.declared.fronts.Front.TheVariants.{Short, Fault, Message}
use Rattle.switch_session.specs.declared.channels.Talk.{Talk}
use Rattle.switch_session.proofs.FrontLaws.{has_message, has_header, at_least_header, at_least_error}
use Rattle.switch_session.proofs.ByteLaws.{after_bytes-append, failed_stays, takes_front}

pub front_nil : front_of [] ≡ Short
unfolding front_of
front_nil = refl

reading : (t : Talk) → is_failed t.session ≡ false → IsReading (channel_of t [])
reading t going = record { going = going; short = front_nil }

-- the step from a front
stepped : (t : Talk) (bytes : List ℕ) (f : Front) → is_failed t.session ≡ false → front_of bytes ≡ f → TakesFront bytes (channel_of t []) f
stepped t bytes f going e = subst (TakesFront bytes (channel_of t [])) e (takes_front bytes (channel_of t []) (reading t going))

pub left_short : (t : Talk) (bytes : List ℕ) → is_failed t.session ≡ false → front_of bytes ≡ Short → IsLeft t t bytes
left_short t bytes going e = record { short = e; state = stepped t bytes Short going e }

pub left_none : (t : Talk) (bytes : List ℕ) → bytes ≡ [] → IsLeft t t bytes
left_none t bytes e = subst (IsLeft t t) (sym e) (record { short = front_nil; state = refl })

pub taken_failed : (t : Talk) (bytes : List ℕ) → is_failed t.session ≡ true → 1 ≤ length bytes → IsTaken (length bytes) t t bytes
taken_failed t bytes e some = record {
  some = some;
  within = omega arith;
  state = failed_stays bytes (channel_of t []) e ∙ ap (λ l. after_bytes l (channel_of t [])) (sym (drop_all (length bytes) bytes (omega arith)));
  room = omega arith;
}

pub taken_fault : (old new : Talk) (bytes : List ℕ) (c : Cause) → is_failed old.session ≡ false → front_of bytes ≡ Fault c → channel_of new [] ≡ after_failure c (channel_of old []) → new.sent ≡ old.sent
    → IsTaken (length bytes) old new bytes
taken_fault old new bytes c going e is same =
    let header = has_header bytes (λ s. let f : Short ≡ Fault c = sym s ∙ e in cc) in
    let len = ap vec_len same in
    let capacity = ap vec_capacity same in
    record {
      some = omega arith;
      within = omega arith;
      state = stepped old bytes (Fault c) going e ∙ sym is ∙ ap (λ l. after_bytes l (channel_of new [])) (sym (drop_all (length bytes) bytes (omega arith)));
      room = omega arith;
    }

-- a message at the front is there, and has a header
pub message_within : (bytes : List ℕ) (n : ℕ) → front_of bytes ≡ Message n → (length (take n bytes) ≡ n) × (8 ≤ n) × (n ≤ length bytes)
message_within bytes n e =
    let h = has_message bytes n e in
    let whole = h.whole in
    let said = h.said in
    let long = at_least_header (type_in bytes) (length_in bytes) h.right in
    (length-take-le n bytes whole, omega arith, whole)

-- and an error has its type and code
pub message_error : (bytes : List ℕ) (n : ℕ) → front_of bytes ≡ Message n → number_at 1 1 (take n bytes) ≡ 1 → 12 ≤ length (take n bytes)
unfolding number_at
message_error bytes n e is =
    let h = has_message bytes n e in
    let said = h.said in
    let (count, header, whole) = message_within bytes n e in
    let type : type_in bytes ≡ 1 = sym (big_from-take 1 1 n bytes (omega arith)) ∙ is in
    let long = at_least_error (type_in bytes) (length_in bytes) h.right type in
    omega arith

pub taken_message : (old new : Talk) (bytes : List ℕ) (n : ℕ) → is_failed old.session ≡ false → front_of bytes ≡ Message n → channel_of new [] ≡ after_message (take n bytes) (channel_of old [])
    → UsesRoom (length (take n bytes)) old new → IsTaken n old new bytes
taken_message old new bytes n going e is room =
    let (count, header, whole) = message_within bytes n e in
    record {
      some = omega arith;
      within = whole;
      state = stepped old bytes (Message n) going e ∙ ap (after_bytes (drop n bytes)) (sym is);
      room = omega arith;
    }

-- ---- all of the bytes

-- ---- a piece behind the unread bytes

module _ (v : ChannelView) (talk : Talk) (unread piece : List ℕ) (room : ℕ) (seen : let w : ChannelView = record { state = channel_of talk unread; room = room } in w ≡ v) where
  same_state : channel_of talk unread ≡ v.state
  same_state = ap (λ (x : ChannelView). x.state) seen

  pub fed_failed : is_failed talk.session ≡ true → v.state ≡ after_bytes piece v.state
  fed_failed e = sym same_state ∙ sym (failed_stays piece (channel_of talk unread) e) ∙ ap (after_bytes piece) same_state

  pub fed_ok : (old new : Talk) (whole rest : List ℕ) (count : ℕ) → is_failed talk.session ≡ false → front_of unread ≡ Short → channel_of old [] ≡ channel_of talk [] → whole ≡ unread ++ piece
      → rest ≡ drop count whole → after_bytes whole (channel_of old []) ≡ channel_of new (drop count whole) → channel_of new rest ≡ after_bytes piece v.state
  fed_ok old new whole rest count going short same all left state =
      ap (channel_of new) left ∙ sym state ∙ ap (after_bytes whole) same ∙ ap (λ l. after_bytes l (channel_of talk [])) all ∙ after_bytes-append unread piece (channel_of talk [])
      ∙ ap (after_bytes piece) (stepped talk unread Short going short ∙ same_state)
