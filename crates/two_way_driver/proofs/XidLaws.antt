-- How the xids go on.
use Rattle.std.proofs.Common.{◌≡◌, ℕ, zero, suc, true, false, cond, List, [], ◌∷◌, ◌++◌, length, set, get_or, refl, ◌∙◌}
use Rattle.std.specs.Prelude.{Option, Some, None, is_some, is_none}
use Rattle.std.specs.Option.{option_map_or}
use Rattle.std.proofs.lemmas.Bool.{cond_both}
use Rattle.net_base.specs.declared.ids.SwitchId.{SwitchId}
use Rattle.topology.specs.Networks.{Network}
use Rattle.update_model.specs.Changes.{round_after}
use Rattle.update_model.specs.declared.Change.{Change}
use Rattle.switch_session.specs.Channels.{after_byte}
use Rattle.turned_rounds.specs.Batches.{xid_behind, batch_of}
use Rattle.two_way_driver.specs.Peers.{heard_by, peer_after, answers, dead_peer}
use Rattle.two_way_driver.specs.Drivers.{DriverState, peer_at, with_peer, with_said, sent_out, settled_in, all_answered, settled_if_answered, undo_notes, is_change_at, made_state, undone_state, carried_out, answered_state, sent_again, opened_state, running_round, asked_round, heard_state, heard_byte, fed_byte, state_after_bytes, flagged_state, started_in, turned_in, dead_driver}
use Rattle.two_way_driver.specs.Calls.{DriverView, start_fault, back_fault, started_view, turned_view}
use Rattle.two_way_driver.specs.Laws.{Call, Start, Back, Reopen, Feed, Dead, after_call}
use Rattle.two_way_driver.specs.Sending.{start_asks, back_asks, asked_by, GoesOn}
use Rattle.two_way_driver.specs.declared.Stage.{Stage}
use Rattle.two_way_driver.specs.declared.Stage.TheVariants.{Settled, Onward, Undone}
use Rattle.two_way_driver.specs.declared.DriverEvent.TheVariants as logged
use Rattle.two_way_driver.specs.declared.DriverOutput.TheVariants.{Log}
use Rattle.two_way_driver.specs.declared.peers.ByteOutcome.{ByteOutcome}
use Rattle.two_way_driver.specs.declared.peers.ByteOutcome.TheVariants.{Nothing, Opened, Answered, Replied, Broke}

-- ---- the xids

pub record SameNumbers (d e : DriverState) : Type 0 where
  pub first : e.first ≡ d.first
  pub next : e.next ≡ d.next

pub numbers_refl : (d : DriverState) → SameNumbers d d
numbers_refl d = record { first = refl; next = refl }

pub numbers_settled : (round : List Change) (stage : Stage) (d : DriverState) → SameNumbers d (settled_in round stage d)
unfolding settled_in
numbers_settled round (Settled k) d = numbers_refl d
numbers_settled round (Onward k) d = record { first = refl; next = refl }
numbers_settled round (Undone k) d = record { first = refl; next = refl }

pub numbers_if_answered : (round : List Change) (d : DriverState) → SameNumbers d (settled_if_answered round d)
unfolding settled_if_answered
numbers_if_answered round d = cond_both (all_answered d.peers) (settled_in round d.stage d) d (SameNumbers d) (λ _. numbers_settled round d.stage d) (λ _. numbers_refl d)

pub numbers_carried : (round : List Change) (t : SwitchId) (stage : Stage) (d : DriverState) → SameNumbers d (carried_out round t stage d)
unfolding made_state undone_state
numbers_carried round t (Settled k) d = numbers_refl d
numbers_carried round t (Onward k) d = record { first = refl; next = refl }
numbers_carried round t (Undone k) d =
    cond_both (get_or d.in_force t.0 false) (record d { in_force = set d.in_force t.0 false; said = d.said ++ undo_notes (is_change_at t) 0 round }) d (SameNumbers d)
    (λ _. record { first = refl; next = refl }) (λ _. numbers_refl d)

pub numbers_answered : (round : List Change) (t : SwitchId) (d : DriverState) → SameNumbers d (answered_state round t d)
unfolding answered_state made_state
numbers_answered round t d =
    let e = with_peer t (answers (peer_at d t)) d in
    let last = carried_out round t e.stage e in
    cond_both (is_some (peer_at d t).behind) (made_state round t e) (settled_if_answered round last) (SameNumbers d) (λ _. record { first = refl; next = refl })
    (λ _. let a = numbers_carried round t e.stage e in let b = numbers_if_answered round last in record { first = b.first ∙ a.first; next = b.next ∙ a.next })

pub numbers_opened : (net : Network) (changes : List Change) (t : SwitchId) (d : DriverState) → SameNumbers d (opened_state net changes t d)
unfolding opened_state
numbers_opened net changes t d =
    elim (peer_at d t).asked as (λ (o : Option ℕ). SameNumbers d (option_map_or (λ x. sent_again net changes t x d) o d)) [
      | None ↦ numbers_refl d
      | Some x ↦ record { first = refl; next = refl }
    ]

module _ (net : Network) (rounds inverses : List (List Change)) where
  pub numbers_heard : (t : SwitchId) (came : ByteOutcome) (d : DriverState) → SameNumbers d (heard_state net rounds inverses t came d)
  numbers_heard t Nothing d = numbers_refl d
  numbers_heard t Opened d = numbers_opened net (asked_round rounds inverses d.stage) t d
  numbers_heard t Answered d = numbers_answered (running_round rounds d.stage) t d
  numbers_heard t (Replied text) d = record { first = refl; next = refl }
  numbers_heard t (Broke cause) d = record { first = refl; next = refl }

  pub numbers_byte : (t : SwitchId) (b : ℕ) (d : DriverState) → SameNumbers d (fed_byte net rounds inverses t b d)
  unfolding fed_byte
  numbers_byte t b d =
      let p = peer_at d t in
      let h = numbers_heard t (heard_by p.channel (after_byte b p.channel)) (with_peer t (peer_after b p) d) in
      cond_both p.is_dead d (heard_byte net rounds inverses t b d) (SameNumbers d) (λ _. numbers_refl d) (λ _. record { first = h.first; next = h.next })

  pub numbers_fed : (t : SwitchId) (bytes : List ℕ) (d : DriverState) → SameNumbers d (state_after_bytes net rounds inverses t bytes d)
  numbers_fed t [] d = numbers_refl d
  numbers_fed t (b ∷ bytes) d =
      let a = numbers_byte t b d in
      let h = numbers_fed t bytes (fed_byte net rounds inverses t b d) in
      record { first = h.first ∙ a.first; next = h.next ∙ a.next }

  pub numbers_dead : (t : SwitchId) (d : DriverState) → SameNumbers d (dead_driver rounds t d)
  numbers_dead t d =
      let e = with_peer t (dead_peer (peer_at d t)) d in
      let round = running_round rounds d.stage in
      let h = numbers_if_answered round e in
      cond_both (peer_at d t).is_dead d (settled_if_answered round e) (SameNumbers d) (λ _. numbers_refl d) (λ _. record { first = h.first; next = h.next })

-- the messages of a round took the next xids
pub record TakesNumbers (net : Network) (changes : Option (List Change)) (d e : DriverState) : Type 0 where
  pub first : e.first ≡ option_map_or (λ _. d.next) changes d.first
  pub next : e.next ≡ option_map_or (λ cs. xid_behind d.next (length (batch_of net d.next cs))) changes d.next

module _ (v : DriverView) where
  pub takes_sent : (round changes : List Change) (stage : Stage) (d : DriverState) → TakesNumbers v.net (Some changes) d (settled_if_answered round (sent_out v.net changes stage d))
  unfolding sent_out
  takes_sent round changes stage d = let h = numbers_if_answered round (sent_out v.net changes stage d) in record { first = h.first; next = h.next }

  pub takes_start : (stage : Stage) (d : DriverState) → TakesNumbers v.net (start_asks v stage) d (started_in v.net v.rounds stage d)
  takes_start (Settled k) d = let h = takes_sent (round_after k v.rounds) (round_after k v.rounds) (Onward k) (flagged_state false (with_said (Log logged.Start ∷ []) d)) in record { first = h.first; next = h.next }
  takes_start (Onward k) d = record { first = refl; next = refl }
  takes_start (Undone k) d = record { first = refl; next = refl }

  pub takes_back : (stage : Stage) (d : DriverState) → TakesNumbers v.net (back_asks v stage) d (turned_in v.net v.rounds v.inverses stage d)
  takes_back (Settled zero) d = record { first = refl; next = refl }
  takes_back (Settled (suc k)) d = let h = takes_sent (round_after k v.rounds) (round_after k v.inverses) (Undone k) (flagged_state true (with_said (Log logged.Back ∷ []) d)) in record { first = h.first; next = h.next }
  takes_back (Onward k) d = takes_sent (round_after k v.rounds) (round_after k v.inverses) (Undone k) d
  takes_back (Undone k) d = record { first = refl; next = refl }

  abbrev pub Takes : Option (List Change) → DriverView → Type 0
  Takes changes w = TakesNumbers v.net changes v.state w.state

  pub takes_call : (c : Call) → Takes (asked_by v c) (after_call v c)
  takes_call Start =
      elim (is_none (start_fault v)) as (λ b. Takes (cond b (start_asks v v.state.stage) None) (cond b (started_view v) v)) [
        | true ↦ takes_start v.state.stage v.state
        | false ↦ record { first = refl; next = refl }
      ]
  takes_call Back =
      elim (is_none (back_fault v)) as (λ b. Takes (cond b (back_asks v v.state.stage) None) (cond b (turned_view v) v)) [
        | true ↦ takes_back v.state.stage v.state
        | false ↦ record { first = refl; next = refl }
      ]
  takes_call (Reopen t) = record { first = refl; next = refl }
  takes_call (Feed t bytes) = let h = numbers_fed v.net v.rounds v.inverses t bytes v.state in record { first = h.first; next = h.next }
  takes_call (Dead t) = let h = numbers_dead v.net v.rounds v.inverses t v.state in record { first = h.first; next = h.next }

  pub goes_on : (c : Call) → GoesOn v (after_call v c) c
  goes_on c = let h = takes_call c in record { first = h.first; next = h.next }
