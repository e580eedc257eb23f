-- What sends nothing to a switch, and which messages are to it.
use Rattle.std.proofs.Common.{◌≡◌, ◌≢◌, ℕ, suc, Bool, true, false, cond, ◌&&◌, List, [], ◌∷◌, ◌++◌, map, set, get_or, refl, sym, ap, ◌∙◌, inl, inr, append-nil}
use Rattle.std.specs.Prelude.{Some, None, is_some, filter}
use Rattle.std.specs.List.{cons_option}
use Rattle.std.proofs.lemmas.Bool.{cases_Bool, cond_both, eqb-true, ne_eqb}
use Rattle.std.proofs.lemmas.List.Elements.{filter_map-append}
use Rattle.net_base.specs.declared.ids.SwitchId.{SwitchId}
use Rattle.update_model.specs.declared.Change.{Change}
use Rattle.switch_session.specs.Channels.{is_open}
use Rattle.turned_rounds.specs.declared.outgoing.Outgoing.{Outgoing}
use Rattle.two_way_driver.specs.PeerStates.{PeerState}
use Rattle.two_way_driver.specs.Peers.{first_peer, answers}
use Rattle.two_way_driver.specs.Drivers.{DriverState, peer_at, with_peer, send_if, sends, is_to_open, is_to, settled_in, all_answered, settled_if_answered, log_if, change_notes, undo_notes, is_change_at, is_dead_made, is_dead_unmade, made_state, undone_state, carried_out, answered_state}
use Rattle.two_way_driver.specs.Sending.{text_to, texts_to, texts_for}
use Rattle.two_way_driver.specs.declared.Stage.{Stage}
use Rattle.two_way_driver.specs.declared.Stage.TheVariants.{Settled, Onward, Undone}
use Rattle.two_way_driver.specs.declared.DriverEvent.{DriverEvent}
use Rattle.two_way_driver.specs.declared.DriverEvent.TheVariants as logged
use Rattle.two_way_driver.specs.declared.DriverOutput.{DriverOutput}
use Rattle.two_way_driver.specs.declared.DriverOutput.TheVariants.{Log}

-- ---- words that send nothing to a switch

module _ (s : SwitchId) where
  pub texts-append : (a b : List DriverOutput) → texts_to s (a ++ b) ≡ texts_to s a ++ texts_to s b
  texts-append a b = filter_map-append (text_to s) a b

  pub quiet : (a b : List DriverOutput) → texts_to s b ≡ [] → texts_to s (a ++ b) ≡ texts_to s a
  quiet a b none = texts-append a b ∙ ap (λ (l : List (List ℕ)). texts_to s a ++ l) none ∙ append-nil (texts_to s a)

  log_quiet : (on : Bool) (e : DriverEvent) → texts_to s (log_if on e) ≡ []
  log_quiet true e = refl
  log_quiet false e = refl

  pub changes_quiet : (wanted : Change → Bool) (i : ℕ) (changes : List Change) → texts_to s (change_notes wanted i changes) ≡ []
  changes_quiet wanted i [] = refl
  changes_quiet wanted i (c ∷ changes) =
      let one = log_if (wanted c) (logged.Change i) in
      texts-append one (change_notes wanted (suc i) changes) ∙ ap (λ (l : List (List ℕ)). l ++ texts_to s (change_notes wanted (suc i) changes)) (log_quiet (wanted c) (logged.Change i))
      ∙ changes_quiet wanted (suc i) changes

  undos_quiet : (wanted : Change → Bool) (i : ℕ) (changes : List Change) → texts_to s (undo_notes wanted i changes) ≡ []
  undos_quiet wanted i [] = refl
  undos_quiet wanted i (c ∷ changes) =
      let one = log_if (wanted c) (logged.Undo i) in
      quiet (undo_notes wanted (suc i) changes) one (log_quiet (wanted c) (logged.Undo i)) ∙ undos_quiet wanted (suc i) changes

  -- a step sends nothing to the switch
  abbrev pub Quiet : DriverState → DriverState → Type 0
  Quiet d e = texts_to s e.said ≡ texts_to s d.said

  pub settled_quiet : (round : List Change) (stage : Stage) (d : DriverState) → Quiet d (settled_in round stage d)
  unfolding settled_in
  settled_quiet round (Settled k) d = refl
  settled_quiet round (Onward k) d =
      let notes = change_notes (is_dead_unmade d.peers d.in_force) 0 round in
      quiet (d.said ++ notes) (Log logged.Settle ∷ []) refl ∙ quiet d.said notes (changes_quiet (is_dead_unmade d.peers d.in_force) 0 round)
  settled_quiet round (Undone k) d =
      let notes = undo_notes (is_dead_made d.peers d.in_force) 0 round in
      quiet (d.said ++ notes) (Log logged.SettleBack ∷ []) refl ∙ quiet d.said notes (undos_quiet (is_dead_made d.peers d.in_force) 0 round)

  pub if_answered_quiet : (round : List Change) (d : DriverState) → Quiet d (settled_if_answered round d)
  unfolding settled_if_answered
  if_answered_quiet round d = cond_both (all_answered d.peers) (settled_in round d.stage d) d (Quiet d) (λ _. settled_quiet round d.stage d) (λ _. refl)

  made_quiet : (round : List Change) (t : SwitchId) (d : DriverState) → Quiet d (made_state round t d)
  unfolding made_state
  made_quiet round t d = quiet d.said (change_notes (is_change_at t) 0 round) (changes_quiet (is_change_at t) 0 round)

  undone_quiet : (round : List Change) (t : SwitchId) (d : DriverState) → Quiet d (undone_state round t d)
  unfolding undone_state
  undone_quiet round t d =
      cond_both (get_or d.in_force t.0 false) (record d { in_force = set d.in_force t.0 false; said = d.said ++ undo_notes (is_change_at t) 0 round }) d (Quiet d)
      (λ _. quiet d.said (undo_notes (is_change_at t) 0 round) (undos_quiet (is_change_at t) 0 round)) (λ _. refl)

  carried_quiet : (round : List Change) (t : SwitchId) (stage : Stage) (d : DriverState) → Quiet d (carried_out round t stage d)
  carried_quiet round t (Settled k) d = refl
  carried_quiet round t (Onward k) d = made_quiet round t d
  carried_quiet round t (Undone k) d = undone_quiet round t d

  pub answered_quiet : (round : List Change) (t : SwitchId) (d : DriverState) → Quiet d (answered_state round t d)
  unfolding answered_state
  answered_quiet round t d =
      let e = with_peer t (answers (peer_at d t)) d in
      cond_both (is_some (peer_at d t).behind) (made_state round t e) (settled_if_answered round (carried_out round t e.stage e)) (Quiet d) (λ _. made_quiet round t e)
      (λ _. if_answered_quiet round (carried_out round t e.stage e) ∙ carried_quiet round t e.stage e)

  -- ---- messages to a switch

  -- one message, which is sent or not, and is to the switch or not
  one_sent : (wanted here : Bool) (m : Outgoing) (rest : List DriverOutput) → is_to s m ≡ here → texts_to s (send_if wanted m ++ rest) ≡ cond (wanted && here) (m.text ∷ texts_to s rest) (texts_to s rest)
  one_sent true here m rest e = ap (λ b. cons_option (cond b (Some m.text) None) (texts_to s rest)) e ∙ chosen here
    where
      chosen : (b : Bool) → cons_option (cond b (Some m.text) None) (texts_to s rest) ≡ cond b (m.text ∷ texts_to s rest) (texts_to s rest)
      chosen true = refl
      chosen false = refl
  one_sent false here m rest e = refl

  here_one : (b : Bool) (m : Outgoing) (ms : List Outgoing) (later : List (List ℕ)) → later ≡ map (λ (o : Outgoing). o.text) ms → cond (b && b) (m.text ∷ later) later ≡ map (λ (o : Outgoing). o.text) (cond b (m ∷ ms) ms)
  here_one true m ms later e = ap (λ (l : List (List ℕ)). m.text ∷ l) e
  here_one false m ms later e = e

  pub texts_here : (ms : List Outgoing) → texts_to s (sends (is_to s) ms) ≡ texts_for s ms
  texts_here [] = refl
  texts_here (m ∷ ms) =
      one_sent (is_to s m) (is_to s m) m (sends (is_to s) ms) refl ∙ here_one (is_to s m) m (filter (is_to s) ms) (texts_to s (sends (is_to s) ms)) (texts_here ms)

  pub texts_away : (t : SwitchId) (ms : List Outgoing) → t.0 ≢ s.0 → texts_to s (sends (is_to t) ms) ≡ []
  texts_away t [] ne = refl
  texts_away t (m ∷ ms) ne =
      let rest = texts_to s (sends (is_to t) ms) in
      one_sent (is_to t m) (is_to s m) m (sends (is_to t) ms) refl
      ∙ elim (cases_Bool (is_to t m)) [
        | inl there ↦ ap (λ b. cond (is_to t m && b) (m.text ∷ rest) rest) (ne_eqb m.switch.0 s.0 (λ e. ne (sym (eqb-true m.switch.0 t.0 there) ∙ e))) ∙ none (is_to t m) rest
        | inr off ↦ ap (λ b. cond (b && is_to s m) (m.text ∷ rest) rest) off
      ]
      ∙ texts_away t ms ne
    where
      none : (b : Bool) (rest : List (List ℕ)) → cond (b && false) (m.text ∷ rest) rest ≡ rest
      none true rest = refl
      none false rest = refl

  open_one : (text : List ℕ) (later others : List (List ℕ)) (wanted here open_now : Bool) → (here ≡ true → wanted ≡ open_now) → later ≡ cond open_now others []
      → cond (wanted && here) (text ∷ later) later ≡ cond open_now (cond here (text ∷ others) others) []
  open_one text later others true true true same rest = ap (λ (l : List (List ℕ)). text ∷ l) rest
  open_one text later others false true false same rest = rest
  open_one text later others true true false same rest = absurd (let e : true ≡ false = same refl in cc)
  open_one text later others false true true same rest = absurd (let e : false ≡ true = same refl in cc)
  open_one text later others true false open_now same rest = rest
  open_one text later others false false open_now same rest = rest

  first_text : (here : Bool) (m : Outgoing) (ms : List Outgoing) → map (λ (o : Outgoing). o.text) (cond here (m ∷ ms) ms) ≡ cond here (m.text ∷ map (λ (o : Outgoing). o.text) ms) (map (λ (o : Outgoing). o.text) ms)
  first_text true m ms = refl
  first_text false m ms = refl

  -- those to switches with open sessions: to this one all, or none
  pub texts_open : (peers : List PeerState) (ms : List Outgoing) → texts_to s (sends (is_to_open peers) ms) ≡ cond (is_open (get_or peers s.0 first_peer).channel.session) (texts_for s ms) []
  texts_open peers [] = none (is_open (get_or peers s.0 first_peer).channel.session)
    where
      none : (b : Bool) → [] ≡ cond b (map (λ (o : Outgoing). o.text) []) []
      none true = refl
      none false = refl
  texts_open peers (m ∷ ms) =
      one_sent (is_to_open peers m) (is_to s m) m (sends (is_to_open peers) ms) refl
      ∙ open_one m.text (texts_to s (sends (is_to_open peers) ms)) (texts_for s ms) (is_to_open peers m) (is_to s m) (is_open (get_or peers s.0 first_peer).channel.session)
      (λ e. ap (λ (n : ℕ). is_open (get_or peers n first_peer).channel.session) (eqb-true m.switch.0 s.0 e)) (texts_open peers ms)
      ∙ ap (λ (l : List (List ℕ)). cond (is_open (get_or peers s.0 first_peer).channel.session) l []) (sym (first_text (is_to s m) m (filter (is_to s) ms)))
