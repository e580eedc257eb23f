-- What was said before makes no difference: each step says the same behind it, and leaves the same else.
use Rattle.std.proofs.Common.{◌≡◌, ℕ, zero, suc, Bool, true, false, cond, List, [], ◌∷◌, ◌++◌, map, set, refl, sym, ap, ◌∙◌, append_assoc, append-nil}
use Rattle.std.specs.Prelude.{Option, Some, None, is_some, is_none, slice_index_or}
use Rattle.std.specs.Option.{option_map_or}
use Rattle.net_base.specs.declared.ids.SwitchId.{SwitchId}
use Rattle.topology.specs.Networks.{Network}
use Rattle.update_model.specs.Changes.{round_after}
use Rattle.update_model.specs.declared.Change.{Change}
use Rattle.switch_session.specs.Channels.{after_byte}
use Rattle.two_way_driver.specs.Peers.{heard_by, peer_after, answers, dead_peer, settled_peer}
use Rattle.two_way_driver.specs.Drivers.{DriverState, peer_at, with_peer, with_said, sent_out, settled_in, all_answered, settled_if_answered, change_notes, undo_notes, is_change_at, is_dead_made, is_dead_unmade, made_state, undone_state, carried_out, answered_state, sent_again, opened_state, running_round, asked_round, heard_state, heard_byte, fed_byte, state_after_bytes, flagged_state, started_with, undone_with, turned_with, started_in, turned_in, dead_driver}
use Rattle.two_way_driver.specs.Calls.{DriverView, silent_view, start_fault, back_fault, started_view, turned_view}
use Rattle.two_way_driver.specs.Laws.{Call, Start, Back, Reopen, Feed, Dead, after_call, after_calls}
use Rattle.two_way_driver.specs.Words.{said_first, with_words, after_call_anew, after_calls_anew, said_by_each, joined_words}
use Rattle.two_way_driver.specs.declared.DriverOutput.{DriverOutput}
use Rattle.two_way_driver.specs.declared.DriverEvent.TheVariants as logged
use Rattle.two_way_driver.specs.declared.DriverOutput.TheVariants.{Log}
use Rattle.two_way_driver.specs.declared.Stage.{Stage}
use Rattle.two_way_driver.specs.declared.Stage.TheVariants.{Settled, Onward, Undone}
use Rattle.two_way_driver.specs.declared.peers.ByteOutcome.{ByteOutcome}
use Rattle.two_way_driver.specs.declared.peers.ByteOutcome.TheVariants.{Nothing, Opened, Answered, Replied, Broke}

module _ (w : List DriverOutput) where
  -- words behind others
  more : (d : DriverState) (base : DriverState) (words : List DriverOutput) → record base { said = (w ++ d.said) ++ words } ≡ said_first w (record base { said = d.said ++ words })
  more d base words = ap (λ (l : List DriverOutput). record base { said = l }) (append_assoc w d.said words)

  more_both : (d : DriverState) (base : DriverState) (a b : List DriverOutput) → record base { said = ((w ++ d.said) ++ a) ++ b } ≡ said_first w (record base { said = (d.said ++ a) ++ b })
  more_both d base a b =
      ap (λ (l : List DriverOutput). record base { said = l ++ b }) (append_assoc w d.said a) ∙ ap (λ (l : List DriverOutput). record base { said = l }) (append_assoc w (d.said ++ a) b)

  first_settled : (round : List Change) (stage : Stage) (d : DriverState) → settled_in round stage (said_first w d) ≡ said_first w (settled_in round stage d)
  unfolding settled_in
  first_settled round (Settled k) d = refl
  first_settled round (Onward k) d =
      more_both d (record d { stage = Settled (suc k); peers = map settled_peer d.peers }) (change_notes (is_dead_unmade d.peers d.in_force) 0 round) (Log logged.Settle ∷ [])
  first_settled round (Undone k) d =
      more_both d (record d { stage = Settled k; peers = map settled_peer d.peers }) (undo_notes (is_dead_made d.peers d.in_force) 0 round) (Log logged.SettleBack ∷ [])

  first_if_answered : (round : List Change) (d : DriverState) → settled_if_answered round (said_first w d) ≡ said_first w (settled_if_answered round d)
  unfolding settled_if_answered
  first_if_answered round d =
      elim (all_answered d.peers) as (λ b. cond b (settled_in round d.stage (said_first w d)) (said_first w d) ≡ said_first w (cond b (settled_in round d.stage d) d)) [
        | true ↦ first_settled round d.stage d
        | false ↦ refl
      ]

  first_made : (round : List Change) (s : SwitchId) (d : DriverState) → made_state round s (said_first w d) ≡ said_first w (made_state round s d)
  unfolding made_state
  first_made round s d = more d (record d { in_force = set d.in_force s.0 true }) (change_notes (is_change_at s) 0 round)

  first_undone : (round : List Change) (s : SwitchId) (d : DriverState) → undone_state round s (said_first w d) ≡ said_first w (undone_state round s d)
  unfolding undone_state
  first_undone round s d =
      let next : List DriverOutput → DriverState = λ said. record d { in_force = set d.in_force s.0 false; said = said } in
      elim (slice_index_or d.in_force s.0 false) as (λ b. cond b (next ((w ++ d.said) ++ undo_notes (is_change_at s) 0 round)) (said_first w d) ≡ said_first w (cond b (next (d.said ++ undo_notes (is_change_at s) 0 round)) d)) [
        | true ↦ more d (record d { in_force = set d.in_force s.0 false }) (undo_notes (is_change_at s) 0 round)
        | false ↦ refl
      ]

  first_carried : (round : List Change) (s : SwitchId) (stage : Stage) (d : DriverState) → carried_out round s stage (said_first w d) ≡ said_first w (carried_out round s stage d)
  first_carried round s (Settled k) d = refl
  first_carried round s (Onward k) d = first_made round s d
  first_carried round s (Undone k) d = first_undone round s d

  first_answered : (round : List Change) (s : SwitchId) (d : DriverState) → answered_state round s (said_first w d) ≡ said_first w (answered_state round s d)
  unfolding answered_state
  first_answered round s d =
      let e = with_peer s (answers (peer_at d s)) d in
      elim (is_some (peer_at d s).behind) as (λ b. cond b (made_state round s (said_first w e)) (settled_if_answered round (carried_out round s e.stage (said_first w e))) ≡ said_first w (cond b (made_state round s e) (settled_if_answered round (carried_out round s e.stage e)))) [
        | true ↦ first_made round s e
        | false ↦ ap (settled_if_answered round) (first_carried round s e.stage e) ∙ first_if_answered round (carried_out round s e.stage e)
      ]

  first_opened : (net : Network) (changes : List Change) (s : SwitchId) (d : DriverState) → opened_state net changes s (said_first w d) ≡ said_first w (opened_state net changes s d)
  unfolding opened_state
  first_opened net changes s d =
      elim (peer_at d s).asked as (λ (o : Option ℕ). option_map_or (λ x. sent_again net changes s x (said_first w d)) o (said_first w d) ≡ said_first w (option_map_or (λ x. sent_again net changes s x d) o d)) [
        | None ↦ refl
        | Some x ↦ more d (with_peer s _ d) _
      ]

  module _ (net : Network) (rounds inverses : List (List Change)) where
    first_heard : (s : SwitchId) (came : ByteOutcome) (d : DriverState) → heard_state net rounds inverses s came (said_first w d) ≡ said_first w (heard_state net rounds inverses s came d)
    first_heard s Nothing d = refl
    first_heard s Opened d = first_opened net (asked_round rounds inverses d.stage) s d
    first_heard s Answered d = first_answered (running_round rounds d.stage) s d
    first_heard s (Replied text) d = more d d _
    first_heard s (Broke cause) d = more d d _

    pub first_byte : (s : SwitchId) (b : ℕ) (d : DriverState) → fed_byte net rounds inverses s b (said_first w d) ≡ said_first w (fed_byte net rounds inverses s b d)
    unfolding fed_byte
    first_byte s b d =
        let before = peer_at d s in
        let heard : DriverState → DriverState = heard_byte net rounds inverses s b in
        elim before.is_dead as (λ t. cond t (said_first w d) (heard (said_first w d)) ≡ said_first w (cond t d (heard d))) [
          | true ↦ refl
          | false ↦ first_heard s (heard_by before.channel (after_byte b before.channel)) (with_peer s (peer_after b before) d)
        ]

    first_dead : (s : SwitchId) (d : DriverState) → dead_driver rounds s (said_first w d) ≡ said_first w (dead_driver rounds s d)
    first_dead s d =
        let round = running_round rounds d.stage in
        let e = with_peer s (dead_peer (peer_at d s)) d in
        elim (peer_at d s).is_dead as (λ t. cond t (said_first w d) (settled_if_answered round (said_first w e)) ≡ said_first w (cond t d (settled_if_answered round e))) [
          | true ↦ refl
          | false ↦ first_if_answered round e
        ]

    pub first_fed : (s : SwitchId) (bytes : List ℕ) (d : DriverState) → state_after_bytes net rounds inverses s bytes (said_first w d) ≡ said_first w (state_after_bytes net rounds inverses s bytes d)
    first_fed s [] d = refl
    first_fed s (b ∷ bytes) d = ap (state_after_bytes net rounds inverses s bytes) (first_byte s b d) ∙ first_fed s bytes (fed_byte net rounds inverses s b d)

  first_sent : (net : Network) (changes : List Change) (stage : Stage) (d : DriverState) → sent_out net changes stage (said_first w d) ≡ said_first w (sent_out net changes stage d)
  unfolding sent_out
  first_sent net changes stage d = more d (record d { stage = stage; first = _; next = _; peers = _ }) _

  first_turned_with : (net : Network) (round changes : List Change) (k : ℕ) (d : DriverState) → turned_with net round changes k (said_first w d) ≡ said_first w (turned_with net round changes k d)
  first_turned_with net round changes k d = ap (settled_if_answered round) (first_sent net changes (Undone k) d) ∙ first_if_answered round (sent_out net changes (Undone k) d)

  first_flagged : (on : Bool) (words : List DriverOutput) (d : DriverState) → flagged_state on (with_said words (said_first w d)) ≡ said_first w (flagged_state on (with_said words d))
  first_flagged on words d = ap (flagged_state on) (more d d words)

  first_undone_with : (net : Network) (round changes : List Change) (k : ℕ) (d : DriverState) → undone_with net round changes k (said_first w d) ≡ said_first w (undone_with net round changes k d)
  first_undone_with net round changes k d =
      ap (turned_with net round changes k) (first_flagged true (Log logged.Back ∷ []) d) ∙ first_turned_with net round changes k (flagged_state true (with_said (Log logged.Back ∷ []) d))

  first_started_with : (net : Network) (round : List Change) (k : ℕ) (d : DriverState) → started_with net round k (said_first w d) ≡ said_first w (started_with net round k d)
  first_started_with net round k d =
      let e = flagged_state false (with_said (Log logged.Start ∷ []) d) in
      ap (λ (x : DriverState). settled_if_answered round (sent_out net round (Onward k) x)) (first_flagged false (Log logged.Start ∷ []) d)
      ∙ ap (settled_if_answered round) (first_sent net round (Onward k) e) ∙ first_if_answered round (sent_out net round (Onward k) e)

  first_started : (net : Network) (rounds : List (List Change)) (stage : Stage) (d : DriverState) → started_in net rounds stage (said_first w d) ≡ said_first w (started_in net rounds stage d)
  first_started net rounds (Settled k) d = first_started_with net (round_after k rounds) k d
  first_started net rounds (Onward k) d = refl
  first_started net rounds (Undone k) d = refl

  first_turned : (net : Network) (rounds inverses : List (List Change)) (stage : Stage) (d : DriverState) → turned_in net rounds inverses stage (said_first w d) ≡ said_first w (turned_in net rounds inverses stage d)
  first_turned net rounds inverses (Settled zero) d = refl
  first_turned net rounds inverses (Settled (suc k)) d = first_undone_with net (round_after k rounds) (round_after k inverses) k d
  first_turned net rounds inverses (Onward k) d = first_turned_with net (round_after k rounds) (round_after k inverses) k d
  first_turned net rounds inverses (Undone k) d = refl

  abbrev as_view : DriverView → DriverState → DriverView
  as_view v d = record v { state = d }

  pub first_call : (v : DriverView) (c : Call) → after_call (with_words w v) c ≡ with_words w (after_call v c)
  first_call v Start =
      elim (is_none (start_fault v)) as (λ b. cond b (started_view (with_words w v)) (with_words w v) ≡ with_words w (cond b (started_view v) v)) [
        | true ↦ ap (as_view v) (first_started v.net v.rounds v.state.stage v.state)
        | false ↦ refl
      ]
  first_call v Back =
      elim (is_none (back_fault v)) as (λ b. cond b (turned_view (with_words w v)) (with_words w v) ≡ with_words w (cond b (turned_view v) v)) [
        | true ↦ ap (as_view v) (first_turned v.net v.rounds v.inverses v.state.stage v.state)
        | false ↦ refl
      ]
  first_call v (Reopen s) = ap (as_view v) (more v.state (with_peer s _ v.state) _)
  first_call v (Feed s bytes) = ap (as_view v) (first_fed v.net v.rounds v.inverses s bytes v.state)
  first_call v (Dead s) = ap (as_view v) (first_dead v.net v.rounds v.inverses s v.state)

-- a driver is itself without its words, with them in front
with_own_words : (v : DriverView) → with_words v.state.said (silent_view v) ≡ v
with_own_words v = ap (λ (l : List DriverOutput). record v { state = record v.state { said = l } }) (append-nil v.state.said)

pub call_is : (v : DriverView) (c : Call) → after_call v c ≡ with_words v.state.said (after_call_anew v c)
call_is v c = ap (λ (x : DriverView). after_call x c) (sym (with_own_words v)) ∙ first_call v.state.said (silent_view v) c

-- what each call says doesn't depend on what was said before, nor does what is left else
same_said : (w : List DriverOutput) (v : DriverView) (calls : List Call) → said_by_each (with_words w v) calls ≡ said_by_each v calls
same_said w v [] = refl
same_said w v (c ∷ calls) = refl

same_kept : (w : List DriverOutput) (v : DriverView) (calls : List Call) → silent_view (after_calls_anew (with_words w v) calls) ≡ silent_view (after_calls_anew v calls)
same_kept w v [] = refl
same_kept w v (c ∷ calls) = refl

pub calls_said : (v : DriverView) (calls : List Call) → (after_calls v calls).state.said ≡ v.state.said ++ joined_words (said_by_each v calls)
calls_said v [] = sym (append-nil v.state.said)
calls_said v (c ∷ calls) =
    let u = after_call_anew v c in
    let w = v.state.said in
    calls_said (after_call v c) calls ∙ ap (λ (x : DriverView). x.state.said ++ joined_words (said_by_each x calls)) (call_is v c)
    ∙ ap (λ (l : List (List DriverOutput)). (w ++ u.state.said) ++ joined_words l) (same_said w u calls) ∙ append_assoc w u.state.said (joined_words (said_by_each u calls))

pub calls_kept : (v : DriverView) (calls : List Call) → silent_view (after_calls v calls) ≡ silent_view (after_calls_anew v calls)
calls_kept v [] = refl
calls_kept v (c ∷ calls) =
    let u = after_call_anew v c in
    calls_kept (after_call v c) calls ∙ ap (λ (x : DriverView). silent_view (after_calls_anew x calls)) (call_is v c) ∙ same_kept v.state.said u calls
