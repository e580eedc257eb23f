-- What the two drivers keep of one switch, byte by byte.
use Rattle.std.proofs.Common.{◌≡◌, ℕ, suc, ◌<◌, ◌≤◌, Bool, true, false, cond, ltb, not, ◌&&◌, ◌||◌, List, [], ◌∷◌, ◌++◌, length, map, drop, get_or, refl, sym, ap, ◌∙◌, subst, inl, inr, append-nil, length-append, arith}
use Rattle.std.specs.Prelude.{Option, Some, None, is_some, is_none}
use Rattle.std.specs.List.{concat}
use Rattle.std.proofs.lemmas.Bool.{cond-false, cond_both, ltb-true, ltb-false}
use Rattle.std.proofs.lemmas.List.Folds.{concat-append}
use Rattle.update_model.specs.Changes.{switch_of}
use Rattle.update_model.specs.declared.Change.{Change}
use Rattle.switch_session.specs.Channels.{ChannelState, first_channel, hello, is_open, is_failed, after_byte}
use Rattle.switch_session.specs.Laws.{KeepsBarrier, ReadsAll}
use Rattle.switch_session.specs.declared.Session.{Session}
use Rattle.switch_session.specs.declared.Session.TheVariants.{Waiting, Open, Failed}
use Rattle.switch_session.proofs.ByteLaws.{keeps_barrier}
use Rattle.switch_session.proofs.RequestLaws.{reads_bytes}
use Rattle.update_driver.specs.Drivers.{none_outstanding, is_answered}
use Rattle.update_driver.proofs.ListLaws.{and_parts_of, all_at, none_is}
use Rattle.update_driver.proofs.SoundLaws.{no_barrier}
use Rattle.update_driver.proofs.PieceLaws.{parts}
use Rattle.two_way_driver.specs.PeerStates.{PeerState}
use Rattle.two_way_driver.specs.Peers.{first_peer, opened_anew, failure_in, heard_of, heard_by, kept_of, peer_after, settled_peer}
use Rattle.two_way_driver.specs.Drivers.{all_answered, log_if, change_notes, is_dead_unmade, is_open_or_dead}
use Rattle.two_way_driver.specs.declared.DriverEvent.TheVariants as logged
use Rattle.two_way_driver.specs.declared.Stage.{Stage}
use Rattle.two_way_driver.specs.declared.Stage.TheVariants.{Settled, Onward, Undone}
use Rattle.two_way_driver.specs.declared.peers.ByteOutcome.{ByteOutcome}
use Rattle.two_way_driver.specs.declared.peers.ByteOutcome.TheVariants.{Nothing, Opened, Answered, Replied}
use Rattle.update_driver.proofs.ByteLaws.{with_sent, Grows, byte_grows}

-- ---- the barrier requests that wait for answers

-- no switch is dead
abbrev pub AllLive : List PeerState → Type 0
AllLive peers = (i : ℕ) → (get_or peers i first_peer).is_dead ≡ false

or_false : (a b : Bool) → b ≡ false → (a || b) ≡ a
or_false true b e = refl
or_false false b e = e

pub same_waits : (peers : List PeerState) (channels : List ChannelState) → length peers ≡ length channels → AllLive peers
    → ((i : ℕ) → i < length peers → (get_or peers i first_peer).asked ≡ (get_or channels i first_channel).outstanding) → all_answered peers ≡ none_outstanding channels
same_waits [] [] e live at = refl
same_waits [] (c ∷ channels) e live at = absurd (omega arith)
same_waits (p ∷ peers) [] e live at = absurd (omega arith)
same_waits (p ∷ peers) (c ∷ channels) e live at =
    ap (λ b. b && all_answered peers) (or_false (is_none p.asked) p.is_dead (live 0)) ∙ ap (λ (o : Option ℕ). is_none o && all_answered peers) (at 0 (omega arith))
    ∙ ap (λ b. is_none c.outstanding && b) (same_waits peers channels (omega arith) (λ i. live (suc i)) (λ i less. at (suc i) (omega arith)))

pub open_if_live : (p : PeerState) → p.is_dead ≡ false → is_open_or_dead p ≡ is_open p.channel.session
open_if_live p live = or_false (is_open p.channel.session) p.is_dead live

-- where no switch is dead a round settles as it would
pub settled_live : (peers : List PeerState) → AllLive peers → map settled_peer peers ≡ peers
settled_live [] live = refl
settled_live (p ∷ peers) live =
    ap (λ (q : PeerState). q ∷ map settled_peer peers) (cond-false p.is_dead (record p { asked = None }) p (live 0)) ∙ ap (λ (l : List PeerState). p ∷ l) (settled_live peers (λ i. live (suc i)))

pub no_dead_notes : (peers : List PeerState) (in_force : List Bool) → AllLive peers → (i : ℕ) (round : List Change) → change_notes (is_dead_unmade peers in_force) i round ≡ []
no_dead_notes peers in_force live i [] = refl
no_dead_notes peers in_force live i (c ∷ round) =
    ap (λ b. log_if (b && not (get_or in_force (switch_of c).0 false)) (logged.Change i) ++ change_notes (is_dead_unmade peers in_force) (suc i) round) (live (switch_of c).0)
    ∙ no_dead_notes peers in_force live (suc i) round

pub none_at : (channels : List ChannelState) (i : ℕ) → none_outstanding channels ≡ true → (get_or channels i first_channel).outstanding ≡ None
none_at channels i all = none_is (get_or channels i first_channel).outstanding (all_at no_barrier channels i first_channel all refl)

-- ---- one switch

pub open_session : (x : Session) → is_open x ≡ true → x ≡ Open
open_session Waiting e = absurd (let f : false ≡ true = e in cc)
open_session Open e = refl
open_session (Failed why) e = absurd (let f : false ≡ true = e in cc)

-- what the one driver keeps of a switch is what the other keeps, which knows besides all that was sent
pub record PeerAs (c : ChannelState) (p : PeerState) (texts : List (List ℕ)) : Type 0 where
  pub channel : p.channel ≡ with_sent c p.channel.sent
  pub behind : p.behind ≡ None
  pub asked : p.asked ≡ c.outstanding
  pub sent : concat texts ≡ c.sent
  pub waits : c.session ≡ Waiting → c.outstanding ≡ None
  pub reads : ReadsAll c
  pub live : p.is_dead ≡ false

-- stages in which no round is being taken back
abbrev pub IsOnward : Stage → Type 0
IsOnward (Settled k) = Unit {0}
IsOnward (Onward k) = Unit {0}
IsOnward (Undone k) = ⊥

-- what a byte makes of a switch's channel
module _ (b : ℕ) (c : ChannelState) (p : PeerState) (texts : List (List ℕ)) (seen : PeerAs c p texts) where
  abbrev pub a : ChannelState
  a = after_byte b c

  abbrev pub x : List ℕ
  x = p.channel.sent

  pub g : Grows c a (λ y. after_byte b (with_sent c y))
  g = byte_grows b c seen.reads

  abbrev pub ch : ChannelState
  ch = p.channel

  pub after_is : after_byte b ch ≡ with_sent a (x ++ g.more)
  after_is = ap (after_byte b) seen.channel ∙ g.others x

  abbrev pub grown : ChannelState
  grown = with_sent a (x ++ g.more)

  abbrev pub reply_heard : ByteOutcome
  reply_heard = cond (ltb (length x) (length (x ++ g.more))) (Replied (drop (length x) (x ++ g.more))) (cond (is_failed c.session) Nothing (failure_in a.session))

  abbrev pub unanswered_heard : ByteOutcome
  unanswered_heard = cond (is_open a.session && not (is_open c.session)) Opened reply_heard

  pub heard_is : heard_by ch (after_byte b ch) ≡ cond (is_answered c.outstanding a.outstanding) Answered unanswered_heard
  unfolding heard_of
  heard_is = ap (λ (y : ChannelState). heard_by ch y) after_is ∙ ap (λ (y : ChannelState). heard_of y.session y.outstanding (length x) grown) seen.channel

  pub more_none : ltb (length x) (length (x ++ g.more)) ≡ false → g.more ≡ []
  more_none f = empty g.more (let le = ltb-false (length x) (length (x ++ g.more)) f in let count = length-append x g.more in omega arith)
    where
      empty : (l : List ℕ) → length l ≤ 0 → l ≡ []
      empty [] le = refl
      empty (y ∷ l) le = absurd (omega arith)

  -- the channel that is kept
  pub kept_is : (y : List ℕ) × (kept_of ch (after_byte b ch) ≡ with_sent a y)
  kept_is =
      subst (λ (z : ChannelState). (y : List ℕ) × (kept_of ch z ≡ with_sent a y)) (sym after_is)
      (cond_both (ltb (length x) (length (x ++ g.more))) (opened_anew a.outstanding) grown (λ (z : ChannelState). (y : List ℕ) × (z ≡ with_sent a y))
      (λ t. elim g.reply [
        | inl none ↦ absurd (let more = ltb-true (length x) (length (x ++ g.more)) t in let count = length-append x g.more in let zero_more = ap length none in omega arith)
        | inr r ↦ (
          hello,
          ap (λ (s : Session). let z : ChannelState = record { session = s; unread = []; sent = hello; outstanding = a.outstanding } in z) (sym r.session)
              ∙ ap (λ (u : List ℕ). let z : ChannelState = record { session = a.session; unread = u; sent = hello; outstanding = a.outstanding } in z) (sym r.unread),
        )
      ])
      (λ f. (x ++ g.more, refl)))

  pub next_is : (peer_after b p).channel ≡ with_sent a (peer_after b p).channel.sent
  unfolding peer_after
  next_is = let (y, is) = kept_is in is ∙ ap (with_sent a) (sym (ap (λ (z : ChannelState). z.sent) is))

  pub next_reads : ReadsAll a
  next_reads = reads_bytes (b ∷ []) c seen.reads

  pub same_outstanding : is_answered c.outstanding a.outstanding ≡ false → a.outstanding ≡ c.outstanding
  same_outstanding f = by (keeps_barrier (b ∷ []) c) c.outstanding refl
    where
      by : KeepsBarrier c a → (o : Option ℕ) → c.outstanding ≡ o → a.outstanding ≡ c.outstanding
      by (inl same) o is = same
      by (inr none) None is = none ∙ sym is
      by (inr none) (Some n) is =
          let t : is_none a.outstanding ≡ false = ap (λ (q : Option ℕ). is_some q && is_none a.outstanding) (sym is) ∙ f in
          let u : is_none a.outstanding ≡ true = ap is_none none in
          absurd (let v : true ≡ false = sym u ∙ t in cc)

  pub next_waits : a.session ≡ Waiting → a.outstanding ≡ None
  next_waits w = let (was, same) = g.waits w in same ∙ seen.waits was

  -- nothing was answered, and this was sent
  pub peer_unanswered : (words : List (List ℕ)) → is_answered c.outstanding a.outstanding ≡ false → concat words ≡ g.more → PeerAs a (peer_after b p) (texts ++ words)
  unfolding peer_after
  peer_unanswered words f is = record {
    channel = next_is;
    behind = seen.behind;
    asked = seen.asked ∙ sym (same_outstanding f);
    sent = concat-append texts words ∙ ap (λ (l : List ℕ). l ++ concat words) seen.sent ∙ ap (λ (l : List ℕ). c.sent ++ l) is ∙ sym g.sent;
    waits = next_waits;
    reads = next_reads;
    live = seen.live;
  }

  -- the barrier request was answered: nothing was sent
  pub answered_none : is_answered c.outstanding a.outstanding ≡ true → (a.outstanding ≡ None) × (g.more ≡ [])
  answered_none t =
      let (some, none) = parts (is_some c.outstanding) a.outstanding t in (
        none,
        elim g.reply [
          | inl empty ↦ empty
          | inr r ↦ absurd (let e : is_some c.outstanding ≡ false = ap is_some (sym r.outstanding ∙ none) in let f : true ≡ false = sym some ∙ e in cc)
        ],
      )

  pub peer_answered : is_answered c.outstanding a.outstanding ≡ true → PeerAs a (record (peer_after b p) { asked = None }) texts
  unfolding peer_after
  peer_answered t =
      let (none, empty) = answered_none t in
      record {
        channel = next_is;
        behind = seen.behind;
        asked = sym none;
        sent = seen.sent ∙ sym (append-nil c.sent) ∙ ap (λ (l : List ℕ). c.sent ++ l) (sym empty) ∙ sym g.sent;
        waits = next_waits;
        reads = next_reads;
        live = seen.live;
      }

  -- the session was opened: nothing was outstanding, and nothing is sent
  pub opened_none : (is_open a.session && not (is_open c.session)) ≡ true → (p.asked ≡ None) × (g.more ≡ [])
  opened_none t =
      let now : a.session ≡ Open = open_session a.session (and_parts_of (is_open a.session) (not (is_open c.session)) t).0 in
      elim (g.opens now) [
        | inl was ↦ absurd (let e : (is_open a.session && not (is_open c.session)) ≡ false = ap (λ (s : Session). is_open a.session && not (is_open s)) was ∙ and_false (is_open a.session) in let f : true ≡ false = sym t ∙ e in cc)
        | inr w ↦ (
          seen.asked ∙ seen.waits w.0,
          elim g.reply [
            | inl empty ↦ empty
            | inr r ↦ absurd (let f : Waiting ≡ Open = sym w.0 ∙ r.was_open in cc)
          ],
        )
      ]
    where
      and_false : (q : Bool) → (q && false) ≡ false
      and_false true = refl
      and_false false = refl
