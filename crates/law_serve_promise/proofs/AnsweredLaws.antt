-- What the blocks of a certified plan say of the answers of switches, of turning, and of failures.
use Rattle.std.proofs.Common.{◌≡◌, ℕ, ◌<◌, false, List, [], ◌∷◌, refl, sym, ap, ◌∙◌, subst, Result, Ok, Err}
use Rattle.std.specs.Prelude.{Option, Some, None}
use Rattle.std.specs.List.{AllByRecursion, cons_option}
use Rattle.file_access.specs.Outside.{Files}
use Rattle.net_base.specs.declared.ids.SwitchId.{SwitchId}
use Rattle.topology.specs.Networks.{Network, switch_count}
use Rattle.update_model.specs.declared.Change.{Change}
use Rattle.certificates.specs.Certified.{IsCertified}
use Rattle.certificates.specs.Updates.{rollout}
use Rattle.round_inverses.specs.Rounds.{inverse_rounds}
use Rattle.law_two_way_runs.specs.Runs.{state_after_two_way}
use Rattle.two_way_driver.specs.Calls.{DriverView, silent_view}
use Rattle.two_way_driver.specs.Laws.{Call, Feed, IsCall, events_in}
use Rattle.two_way_driver.specs.Words.{after_call_anew}
use Rattle.two_way_driver.specs.declared.DriverOutput.{DriverOutput}
use Rattle.law_wire_answers.specs.Exchanges.{is_reopened}
use Rattle.law_wire_answers.specs.Answering.{stage_in, IsAnsweredWord}
use Rattle.law_wire_answers.specs.Turning.{goes_back, TurnsAsAsked}
use Rattle.law_wire_answers.specs.Failing.{FailsByRules, FailureWasSaid, IsQuietTo}
use Rattle.law_wire_answers.proofs.CallLaws.{says_answered}
use Rattle.law_wire_answers.proofs.TurningLaws.{turns_as_asked}
use Rattle.law_wire_answers.proofs.FailingLaws.{fails_by_rules, stays_quiet}
use Rattle.serve_lines.specs.Lines.{line_in}
use Rattle.serve_lines.specs.declared.fault.LineFault.{LineFault}
use Rattle.serve_lines.specs.declared.line.ServeLine.{ServeLine}
use Rattle.serve_lines.specs.declared.line.ServeLine.TheVariants as line
use Rattle.serve_command.specs.Served.{after_read}
use Rattle.check_base.specs.Checks.{CheckMeaning, task_in, FilesMeanPlan}
use Rattle.check_base.specs.Names.{CheckNames}
use Rattle.law_serve_promise.specs.Told.{told_line, driver_of, driver_behind, call_read, call_in, calls_in}
use Rattle.law_serve_promise.specs.Running.{state_on}
use Rattle.law_serve_promise.specs.Answered.{talk_on, said_on, SaysBehindAnswers, IsAnsweredBlock, TurnsAsLinesAsk, TellsOfByte, KeepsSession, IsQuietBlock}
use Rattle.law_serve_promise.proofs.BlockLaws.{keeps_lines, words_are, driver_is, calls_within}
use Rattle.law_serve_promise.proofs.FileLaws.{good_rounds, turnable}

-- what a driver says at a call, if there is one
abbrev said_by : DriverView → Option Call → List DriverOutput
said_by w None = []
said_by w (Some c) = (after_call_anew w c).state.said

said_read : (w : DriverView) (r : Result ServeLine LineFault) → (after_read (silent_view w) r).state.said ≡ said_by w (call_read r)
said_read w (Ok line.Comment) = refl
said_read w (Ok line.Start) = refl
said_read w (Ok line.Back) = refl
said_read w (Ok (line.Reopen s)) = refl
said_read w (Ok (line.Feed s bytes)) = refl
said_read w (Ok (line.Dead s)) = refl
said_read w (Err bad) = refl

module _ (files : Files) (names : CheckNames) (m : CheckMeaning) (mean : FilesMeanPlan files names m) where
  abbrev net : Network
  net = m.update.net

  abbrev rounds : List (List Change)
  rounds = m.plan.rounds

  abbrev inverses : List (List Change)
  inverses = inverse_rounds m.update.old m.plan.rounds

  abbrev calls : List (List ℕ) → List Call
  calls lines = calls_in net lines

  -- a block says what the driver says at the call
  said_is : (lines : List (List ℕ)) (line : List ℕ) → said_on m lines line ≡ said_by (driver_of m (calls lines)) (call_in net line)
  said_is lines line =
      let w = driver_of m (calls lines) in
      let w_net : w.net ≡ net = ap (λ (v : DriverView). v.net) (sym (driver_is m lines)) ∙ (keeps_lines (silent_view (driver_of m [])) lines).net in
      ap (λ (v : DriverView). (told_line v line).said) (driver_is m lines) ∙ said_read w (line_in w.net line) ∙ ap (λ (n : Network). said_by w (call_in n line)) w_net

  call_within : (line : List ℕ) → AllByRecursion (IsCall net) (cons_option (call_in net line) [])
  call_within line = calls_within net (line ∷ [])

  -- ---- answers

  answered_by : (lines : List (List ℕ)) (o : Option Call) → AllByRecursion (IsCall net) (cons_option o []) → SaysBehindAnswers m lines o (said_by (driver_of m (calls lines)) o)
  answered_by lines None ok = refl
  answered_by lines (Some c) ok =
      subst (λ (v : DriverView). AllByRecursion (IsAnsweredWord (driver_of m []) (calls lines) c (stage_in v.state.stage c)) (after_call_anew (driver_of m (calls lines)) c).state.said) (sym (driver_is m lines))
      (says_answered net rounds inverses (turnable files names m mean) (calls lines) c (calls_within net lines) ok.0)

  pub block_answered : (lines : List (List ℕ)) (line : List ℕ) → IsAnsweredBlock m lines line
  block_answered lines line =
      subst (SaysBehindAnswers m lines (call_in net line)) (sym (said_is lines line)) (answered_by lines (call_in net line) (call_within line))

  -- ---- turning

  pub turns_as_lines_ask : IsCertified (task_in m) m.plan.evidence → (lines : List (List ℕ)) → TurnsAsLinesAsk m lines
  turns_as_lines_ask certified lines =
      let back = goes_back (driver_of m []) (calls lines) in
      subst (λ (v : DriverView). TurnsAsAsked v (state_on m lines).phase back) (sym (driver_is m lines))
      (subst (λ (w : List DriverOutput). TurnsAsAsked (silent_view (driver_of m (calls lines))) (state_after_two_way (rollout (task_in m)) (events_in w)).phase back) (sym (words_are m lines))
      (turns_as_asked net rounds inverses (turnable files names m mean) m.update.old (calls lines) (good_rounds files names m mean certified) (calls_within net lines)))

  -- ---- failures

  pub tells_of_byte : (lines : List (List ℕ)) (line : List ℕ) (s : SwitchId) (byte : ℕ) → TellsOfByte m lines line s byte
  tells_of_byte lines line s byte = λ feeds less.
      subst (FailsByRules (talk_on m lines s) s byte) (sym (said_is lines line ∙ ap (said_by (driver_of m (calls lines))) feeds))
      (fails_by_rules net rounds inverses (turnable files names m mean) (calls lines) s byte (calls_within net lines) less)

  quiet_by : (lines : List (List ℕ)) (s : SwitchId) (o : Option Call) → AllByRecursion (IsCall net) (cons_option o []) → s.0 < switch_count net → FailureWasSaid (talk_on m lines s) → KeepsSession s o
      → IsQuietTo s (said_by (driver_of m (calls lines)) o)
  quiet_by lines s None ok less failed keeps = record { texts = refl; failures = refl }
  quiet_by lines s (Some c) ok less failed keeps = stays_quiet net rounds inverses (turnable files names m mean) (calls lines) s c (calls_within net lines) ok.0 less failed keeps

  pub quiet_block : (lines : List (List ℕ)) (line : List ℕ) (s : SwitchId) → IsQuietBlock m lines line s
  quiet_block lines line s = λ less failed keeps.
      subst (IsQuietTo s) (sym (said_is lines line)) (quiet_by lines s (call_in net line) (call_within line) less failed keeps)
