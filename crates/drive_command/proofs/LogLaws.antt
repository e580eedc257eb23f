-- The log of a driver is short, so that each of its events has a line.
use Rattle.std.proofs.Common.{◌≡◌, ℕ, zero, suc, ◌+◌, ◌*◌, ◌^◌, ◌<◌, ◌≤◌, false, List, [], ◌∷◌, length, subst, arith}
use Rattle.std.specs.Prelude.{sum_by}
use Rattle.std.specs.List.{AllByRecursion}
use Rattle.std.proofs.lemmas.List.Sums.{sum_by-cons}
use Rattle.topology.specs.Networks.{IsNetwork}
use Rattle.update_model.specs.Mixtures.{Rollout, AreGoodRounds}
use Rattle.update_model.specs.Runs.{IsRun, AreEnabled}
use Rattle.update_model.specs.States.{State, first_state, state_after_event}
use Rattle.update_model.specs.declared.Change.{Change}
use Rattle.update_model.specs.declared.Event.{Event}
use Rattle.update_model.specs.declared.Event.TheVariants as event
use Rattle.update_model.specs.declared.Phase.{Phase}
use Rattle.update_model.specs.declared.Phase.TheVariants.{Running}
use Rattle.update_model.proofs.OneRoundLaws.{Sound, TablesAre, sound_after, first_sound}
use Rattle.schedule_pilot.proofs.MeasureLaws.{rounds_left, start_lowers, change_lowers, settle_lowers, left_first}
use Rattle.schedule_replay.specs.EventTexts.{HasLine}
use Rattle.schedule_replay.proofs.RunLines.{AreShort, lines_of_run}
use Rattle.update_driver.specs.Laws.{IsOfUpdate}

module _ (u : Rollout) (good : AreGoodRounds u) where
  -- each event of the update lowers what is left of its rounds
  short_from : (st : State) (events : List Event) → Sound u st → AllByRecursion IsOfUpdate events → AreEnabled u.net u.rounds st events → length events ≤ rounds_left st.phase st.pending u.rounds
  short_from st [] sound own enabled = omega arith
  short_from st (event.Start ∷ events) sound own enabled =
      let may = enabled.0 in
      let less = start_lowers st.phase st.pending u.rounds may.k may.settled may.more in
      let rest = short_from (state_after_event u.net u.rounds st event.Start) events (sound_after u good st event.Start sound may) own.1 enabled.1 in
      omega arith
  short_from st (event.Change i ∷ events) sound own enabled =
      let may = enabled.0 in
      let less = change_lowers st.phase st.pending u.rounds may.k i may.running may.pending in
      let rest = short_from (state_after_event u.net u.rounds st (event.Change i)) events (sound_after u good st (event.Change i) sound may) own.1 enabled.1 in
      omega arith
  short_from st (event.Settle ∷ events) sound own enabled =
      let may = enabled.0 in
      let rest = short_from (state_after_event u.net u.rounds st event.Settle) events (sound_after u good st event.Settle sound may) own.1 enabled.1 in
      settle_case may.k may.running may.none_pending rest
    where
      settle_case : (k : ℕ) → st.phase ≡ Running k → AllByRecursion (λ b. b ≡ false) st.pending
          → length events ≤ rounds_left (state_after_event u.net u.rounds st event.Settle).phase (state_after_event u.net u.rounds st event.Settle).pending u.rounds
          → length (event.Settle ∷ events) ≤ rounds_left st.phase st.pending u.rounds
      settle_case zero is off rest = absurd (subst (λ (x : Phase). TablesAre u x st.tables st.pending) is sound.tables)
      settle_case (suc k) is off rest = let less = settle_lowers st.phase st.pending u.rounds k is off in omega arith
  short_from st (event.Enter place dst ∷ events) sound own enabled = absurd own.0
  short_from st (event.Hop i ∷ events) sound own enabled = absurd own.0
  short_from st (event.Lose i ∷ events) sound own enabled = absurd own.0

  pub log_short : (log : List Event) → IsRun u log → AllByRecursion IsOfUpdate log → length log ≤ sum_by length u.rounds + 2 * length u.rounds
  log_short log run own =
      let all = short_from (first_state u.old) log (first_sound u good) own run in
      let first = left_first 0 u.rounds [] (first_state u.old).pending in
      omega arith

-- no round of few changes is too long for the numbers of 32 bits
each_short : (rounds : List (List Change)) → sum_by length rounds ≤ 2200000 → AreShort rounds
each_short [] few = tt
each_short (round ∷ rounds) few =
    let sum = sum_by-cons (λ (x : List Change). length x) round rounds in
    (omega arith, each_short rounds (omega arith))

-- each event of a log has a line
pub log_lines : (u : Rollout) → IsNetwork u.net → sum_by length u.rounds ≤ 2200000 → (log : List Event) → IsRun u log → length log ≤ 4000000 → AllByRecursion (HasLine u.net) log
log_lines u keeps few log run short = lines_of_run u.net keeps u.rounds (each_short u.rounds few) (first_state u.old) log (omega arith) run
