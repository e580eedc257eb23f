-- What a byte does to a channel doesn't depend on what was sent before.
use Rattle.std.proofs.Common.{◌≡◌, ◌⊎◌, ℕ, true, false, cond, eqb, List, [], ◌∷◌, ◌++◌, take, drop, refl, sym, ap, ◌∙◌, subst, inl, inr, append-nil}
use Rattle.std.specs.Prelude.{None}
use Rattle.std.proofs.lemmas.Bool.{cases_Bool}
use Rattle.std.proofs.lemmas.List.{drop_at}
use Rattle.openflow10.specs.Layout.{number_at}
use Rattle.switch_session.specs.Fronts.{front_of, type_in, xid_in}
use Rattle.switch_session.specs.Channels.{ChannelState, is_failed, after_failure, echo_reply, is_outstanding, after_reply, taken_open, taken_by, after_message, after_front, after_byte}
use Rattle.switch_session.specs.Laws.{ReadsAll}
use Rattle.switch_session.specs.declared.Cause.{Cause}
use Rattle.switch_session.specs.declared.Cause.TheVariants as cause
use Rattle.switch_session.specs.declared.Session.{Session}
use Rattle.switch_session.specs.declared.Session.TheVariants.{Waiting, Open, Failed}
use Rattle.switch_session.specs.declared.fronts.Front.{Front}
use Rattle.switch_session.specs.declared.fronts.Front.TheVariants.{Short, Fault, Message}
use Rattle.switch_session.proofs.FrontLaws.{message_ends}
use Rattle.switch_session.proofs.ByteLaws.{failed_stays, reading_byte}

-- a channel to which something else was sent, or of which other bytes are unread
abbrev pub with_sent : ChannelState → List ℕ → ChannelState
with_sent c x = record c { sent = x }

abbrev with_unread : ChannelState → List ℕ → ChannelState
with_unread c u = record c { unread = u }

-- a reply is sent only on an open session, on which then nothing is unread and as much is outstanding as before
pub record IsReply (c a : ChannelState) : Type 0 where
  pub was_open : c.session ≡ Open
  pub session : a.session ≡ Open
  pub unread : a.unread ≡ []
  pub outstanding : a.outstanding ≡ c.outstanding

-- what a byte does, whatever was sent before: it sends something more, mostly nothing
pub record Grows (c a : ChannelState) (other : List ℕ → ChannelState) : Type 0 where
  pub more : List ℕ
  pub sent : a.sent ≡ c.sent ++ more
  pub others : (x : List ℕ) → other x ≡ with_sent a (x ++ more)
  pub reply : (more ≡ []) ⊎ IsReply c a
  pub waits : a.session ≡ Waiting → (c.session ≡ Waiting) × (a.outstanding ≡ c.outstanding)
  pub opens : a.session ≡ Open → (c.session ≡ Open) ⊎ ((c.session ≡ Waiting) × (a.outstanding ≡ c.outstanding))

module _ (c : ChannelState) where
  Waits : ChannelState → Type 0
  Waits a = a.session ≡ Waiting → (c.session ≡ Waiting) × (a.outstanding ≡ c.outstanding)

  grows_none : (a : ChannelState) (other : List ℕ → ChannelState) → a.sent ≡ c.sent → ((x : List ℕ) → other x ≡ with_sent a x)
      → (a.session ≡ Waiting → (c.session ≡ Waiting) × (a.outstanding ≡ c.outstanding)) → (a.session ≡ Open → (c.session ≡ Open) ⊎ ((c.session ≡ Waiting) × (a.outstanding ≡ c.outstanding))) → Grows c a other
  grows_none a other same others waits opens = record {
    more = [];
    sent = same ∙ sym (append-nil c.sent);
    others = λ x. others x ∙ ap (with_sent a) (sym (append-nil x));
    reply = inl refl;
    waits = waits;
    opens = opens;
  }

  -- the session is as before, or it failed
  grows_kept : (a : ChannelState) (other : List ℕ → ChannelState) → a.sent ≡ c.sent → ((x : List ℕ) → other x ≡ with_sent a x) → a.session ≡ c.session → (c.session ≡ Waiting → a.outstanding ≡ c.outstanding) → Grows c a other
  grows_kept a other same others session outstanding =
      grows_none a other same others (λ w. let was = sym session ∙ w in (was, outstanding was)) (λ o. inl (sym session ∙ o))

  grows_failed : (cause : Cause) (base : ChannelState) (other : List ℕ → ChannelState) → base.sent ≡ c.sent → ((x : List ℕ) → other x ≡ with_sent (after_failure cause base) x) → Grows c (after_failure cause base) other
  grows_failed why base other same others =
      grows_none (after_failure why base) other same others (λ w. let f : Failed why ≡ Waiting = w in absurd (cc)) (λ o. let f : Failed why ≡ Open = o in absurd (cc))

  module _ (m u : List ℕ) (none : u ≡ []) where
    abbrev base : ChannelState
    base = with_unread c u

    abbrev base_of : List ℕ → ChannelState
    base_of x = with_sent base x

    grows_answered : (xid : ℕ) → c.session ≡ Open → Grows c (after_reply xid base) (λ x. after_reply xid (base_of x))
    grows_answered xid is =
        elim (is_outstanding xid c.outstanding) as (λ b. Grows c (cond b (record base { outstanding = None }) (after_failure (cause.Xid xid) base)) (λ x. cond b (record (base_of x) { outstanding = None }) (after_failure (cause.Xid xid) (base_of x)))) [
          | true ↦ grows_kept (record base { outstanding = None }) (λ x. record (base_of x) { outstanding = None }) refl (λ x. refl) refl (λ w. let f : Waiting ≡ Open = sym w ∙ is in absurd (cc))
          | false ↦ grows_failed (cause.Xid xid) base (λ x. after_failure (cause.Xid xid) (base_of x)) refl (λ x. refl)
        ]

    grows_open : c.session ≡ Open → Grows c (taken_open m base) (λ x. taken_open m (base_of x))
    grows_open is =
        let why = cause.Error (number_at 8 2 m) (number_at 10 2 m) in
        let echo : ChannelState → ChannelState = λ ch. record ch { sent = ch.sent ++ echo_reply m } in
        elim (eqb (type_in m) 1) as (λ b. Grows c (cond b (after_failure why base) (cond (eqb (type_in m) 2) (echo base) (cond (eqb (type_in m) 19) (after_reply (xid_in m) base) base)))
        (λ x. cond b (after_failure why (base_of x)) (cond (eqb (type_in m) 2) (echo (base_of x)) (cond (eqb (type_in m) 19) (after_reply (xid_in m) (base_of x)) (base_of x))))) [
          | true ↦ grows_failed why base (λ x. after_failure why (base_of x)) refl (λ x. refl)
          | false ↦ elim (eqb (type_in m) 2) as (λ b. Grows c (cond b (echo base) (cond (eqb (type_in m) 19) (after_reply (xid_in m) base) base))
              (λ x. cond b (echo (base_of x)) (cond (eqb (type_in m) 19) (after_reply (xid_in m) (base_of x)) (base_of x)))) [
                | true ↦ record {
                  more = echo_reply m;
                  sent = refl;
                  others = λ x. refl;
                  reply = inr (record { was_open = is; session = is; unread = none; outstanding = refl });
                  waits = λ w. let f : Waiting ≡ Open = sym w ∙ is in absurd (cc);
                  opens = λ o. inl o;
                }
                | false ↦ elim (eqb (type_in m) 19) as (λ b. Grows c (cond b (after_reply (xid_in m) base) base) (λ x. cond b (after_reply (xid_in m) (base_of x)) (base_of x))) [
                  | true ↦ grows_answered (xid_in m) is
                  | false ↦ grows_kept base base_of refl (λ x. refl) refl (λ w. refl)
                ]
              ]
        ]

    grows_by : (s : Session) → c.session ≡ s → Grows c (taken_by s m base) (λ x. taken_by s m (base_of x))
    grows_by Waiting is =
        elim (eqb (type_in m) 0) as (λ b. Grows c (cond b (record base { session = Open }) (after_failure cause.NoHello base)) (λ x. cond b (record (base_of x) { session = Open }) (after_failure cause.NoHello (base_of x)))) [
          | true ↦ grows_none (record base { session = Open }) (λ x. record (base_of x) { session = Open }) refl (λ x. refl) (λ w. let f : Open ≡ Waiting = w in absurd (cc)) (λ o. inr (is, refl))
          | false ↦ grows_failed cause.NoHello base (λ x. after_failure cause.NoHello (base_of x)) refl (λ x. refl)
        ]
    grows_by Open is = grows_open is
    grows_by (Failed why) is = grows_kept base base_of refl (λ x. refl) refl (λ w. refl)

    grows_taken : Grows c (after_message m base) (λ x. after_message m (base_of x))
    unfolding after_message
    grows_taken = grows_by c.session refl

module _ (b : ℕ) (c : ChannelState) (reads : ReadsAll c) where
  abbrev come : List ℕ
  come = c.unread ++ b ∷ []

  by_front : is_failed c.session ≡ false → (f : Front) → front_of come ≡ f → Grows c (after_front f (with_unread c come)) (λ x. after_front f (with_sent (with_unread c come) x))
  by_front going Short at = grows_kept c (with_unread c come) (λ x. with_sent (with_unread c come) x) refl (λ x. refl) refl (λ w. refl)
  by_front going (Fault why) at = grows_failed c why (with_unread c come) (λ x. after_failure why (with_sent (with_unread c come) x)) refl (λ x. refl)
  by_front going (Message n) at =
      grows_taken c (take n come) (drop n come) (ap (drop n) (sym (append-nil come)) ∙ drop_at come [] n (message_ends c.unread b n (reads going) at))

  pub byte_grows : Grows c (after_byte b c) (λ x. after_byte b (with_sent c x))
  byte_grows =
      elim (cases_Bool (is_failed c.session)) [
        | inl failed_now ↦ (
            let is = failed_stays (b ∷ []) c failed_now in
            let others : (x : List ℕ) → after_byte b (with_sent c x) ≡ with_sent c x = λ x. failed_stays (b ∷ []) (with_sent c x) failed_now in
            subst (λ (a : ChannelState). Grows c a (λ x. after_byte b (with_sent c x))) (sym is) (grows_kept c c (λ x. after_byte b (with_sent c x)) refl others refl (λ w. refl)))
        | inr going ↦ (
            let g = by_front going (front_of come) refl in
            let is = reading_byte b c going in
            record {
              more = g.more;
              sent = ap (λ (a : ChannelState). a.sent) is ∙ g.sent;
              others = λ x. reading_byte b (with_sent c x) going ∙ g.others x ∙ ap (λ (a : ChannelState). with_sent a (x ++ g.more)) (sym is);
              reply = subst (λ (a : ChannelState). (g.more ≡ []) ⊎ IsReply c a) (sym is) g.reply;
              waits = subst (λ (a : ChannelState). a.session ≡ Waiting → (c.session ≡ Waiting) × (a.outstanding ≡ c.outstanding)) (sym is) g.waits;
              opens = subst (λ (a : ChannelState). a.session ≡ Open → (c.session ≡ Open) ⊎ ((c.session ≡ Waiting) × (a.outstanding ≡ c.outstanding))) (sym is) g.opens;
            })
      ]
