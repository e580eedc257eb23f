-- A byte makes a reply only where it ends an echo request on an open session: then nothing is unread.
use Rattle.std.proofs.Common.{◌≡◌, ℕ, cond, eqb, ltb, List, [], ◌∷◌, ◌++◌, length, take, drop, refl, sym, ap, ◌∙◌, subst, ◌⊎◌, inl, inr, append-nil, arith}
use Rattle.std.proofs.lemmas.Bool.{cond_both, ltb-true}
use Rattle.std.proofs.lemmas.List.{drop_at}
use Rattle.openflow10.specs.Layout.{number_at}
use Rattle.switch_session.specs.Fronts.{front_of, type_in, xid_in}
use Rattle.switch_session.specs.Channels.{ChannelState, after_failure, echo_reply, is_outstanding, after_reply, taken_by, after_message, after_front, after_byte}
use Rattle.switch_session.specs.declared.Cause.TheVariants as cause
use Rattle.switch_session.specs.declared.Session.{Session}
use Rattle.switch_session.specs.declared.Session.TheVariants.{Waiting, Open, Failed}
use Rattle.switch_session.specs.declared.fronts.Front.{Front}
use Rattle.switch_session.specs.declared.fronts.Front.TheVariants.{Short, Fault, Message}
use Rattle.switch_session.proofs.FrontLaws.{message_ends}
use Rattle.switch_session.proofs.ByteLaws.{reading_byte, with_unread}
use Rattle.two_way_driver.specs.Peers.{opened_anew, kept_of}
use Rattle.two_way_driver.specs.Laws.{IsQuiet, KeepsAllButSent}

-- as much was sent as before, or the channel is open with nothing unread
abbrev SaysAtMost : ChannelState → ChannelState → Type 0
SaysAtMost before after = (after.sent ≡ before.sent) ⊎ ((after.session ≡ Open) × (after.unread ≡ []))

module _ (m : List ℕ) (before base : ChannelState) (same : base.sent ≡ before.sent) (none : base.unread ≡ []) where
  abbrev Says : ChannelState → Type 0
  Says after = SaysAtMost before after

  by_answer : (xid : ℕ) → Says (after_reply xid base)
  by_answer xid = cond_both (is_outstanding xid base.outstanding) _ (after_failure (cause.Xid xid) base) Says (λ e. inl same) (λ e. inl same)

  by_session : (s : Session) → base.session ≡ s → Says (taken_by s m base)
  by_session Waiting is = cond_both (eqb (type_in m) 0) (record base { session = Open }) (after_failure cause.NoHello base) Says (λ e. inl same) (λ e. inl same)
  by_session Open is =
      cond_both (eqb (type_in m) 1) (after_failure (cause.Error (number_at 8 2 m) (number_at 10 2 m)) base)
      (cond (eqb (type_in m) 2) (record base { sent = base.sent ++ echo_reply m }) (cond (eqb (type_in m) 19) (after_reply (xid_in m) base) base)) Says
      (λ e. inl same)
      (λ e. cond_both (eqb (type_in m) 2) (record base { sent = base.sent ++ echo_reply m }) (cond (eqb (type_in m) 19) (after_reply (xid_in m) base) base) Says (λ t. inr (is, none))
      (λ t. cond_both (eqb (type_in m) 19) (after_reply (xid_in m) base) base Says (λ f. by_answer (xid_in m)) (λ f. inl same)))
  by_session (Failed c) is = inl same

  by_message : Says (after_message m base)
  unfolding after_message
  by_message = by_session base.session refl

module _ (b : ℕ) (ch : ChannelState) (quiet : IsQuiet ch) where
  grown : List ℕ
  grown = ch.unread ++ b ∷ []

  by_front : (f : Front) → front_of (ch.unread ++ b ∷ []) ≡ f → SaysAtMost ch (after_front f (with_unread ch (ch.unread ++ b ∷ [])))
  by_front Short at = inl refl
  by_front (Fault c) at = inl refl
  by_front (Message n) at =
      let come = ch.unread ++ b ∷ [] in
      let count : length come ≡ n = message_ends ch.unread b n quiet.short at in
      let rest : drop n come ≡ [] = ap (drop n) (sym (append-nil come)) ∙ drop_at come [] n count in
      by_message (take n come) ch (with_unread ch (drop n come)) refl rest

  says_at_most : SaysAtMost ch (after_byte b ch)
  says_at_most = subst (SaysAtMost ch) (sym (reading_byte b ch quiet.going)) (by_front (front_of (ch.unread ++ b ∷ [])) refl)

  pub only_reply : KeepsAllButSent (after_byte b ch) (kept_of ch (after_byte b ch))
  only_reply =
      let after = after_byte b ch in
      cond_both (ltb (length ch.sent) (length after.sent)) (opened_anew after.outstanding) after (KeepsAllButSent after)
      (λ t.
      let more = ltb-true (length ch.sent) (length after.sent) t in
      elim says_at_most [
        | inl same ↦ absurd (let count = ap length same in omega arith)
        | inr open_now ↦ record { session = sym open_now.0; unread = sym open_now.1; outstanding = refl }
      ])
      (λ f. record { session = refl; unread = refl; outstanding = refl })
