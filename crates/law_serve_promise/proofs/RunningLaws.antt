-- What the blocks of a certified plan say of its update.
use Rattle.std.proofs.Common.{◌≡◌, ◌≢◌, ℕ, ◌<◌, Result, Ok, Err, List, [], ◌∷◌, ◌++◌, map, refl, sym, ap, ◌∙◌, subst}
use Rattle.std.specs.Prelude.{Option, Some, None}
use Rattle.std.specs.List.{concat}
use Rattle.file_access.specs.Outside.{Files}
use Rattle.net_base.specs.declared.ids.SwitchId.{SwitchId}
use Rattle.topology.specs.Networks.{Network, switch_count}
use Rattle.update_model.specs.Mixtures.{Rollout}
use Rattle.update_model.specs.declared.Change.{Change}
use Rattle.certificates.specs.Certified.{IsCertified, is_two_phase}
use Rattle.certificates.specs.Updates.{rollout}
use Rattle.round_inverses.specs.Rounds.{inverse_rounds}
use Rattle.law_two_way_runs.specs.Laws.{IsTwoWayConsistent}
use Rattle.law_two_way_runs.specs.Runs.{IsTwoWayRun, state_after_two_way}
use Rattle.law_two_way_runs.proofs.Consistent.{both_ways_consistent}
use Rattle.switch_session.specs.Channels.{hello}
use Rattle.driver_input.specs.Inputs.{AreInputs}
use Rattle.driver_input.specs.declared.inputs.InputLine.{InputLine}
use Rattle.update_driver.specs.Calls as onward
use Rattle.update_driver.specs.Drivers.{DriverState as OnwardState}
use Rattle.two_way_driver.specs.Calls.{DriverView, silent_view, start_fault, back_fault, fed_view}
use Rattle.two_way_driver.specs.Laws.{Call, events_in, phase_of, SaysRun, BeginsAnswered, after_call}
use Rattle.two_way_driver.specs.Laws as call
use Rattle.two_way_driver.specs.Words.{with_words, after_call_anew}
use Rattle.two_way_driver.specs.Sending.{texts_to, Sends}
use Rattle.two_way_driver.specs.declared.DriverOutput.{DriverOutput}
use Rattle.two_way_driver.specs.declared.Stage.{Stage}
use Rattle.two_way_driver.specs.declared.faults.CallFault.{CallFault}
use Rattle.two_way_driver.proofs.RunLaws.{says_run, begins_answered}
use Rattle.two_way_driver.proofs.SendingLaws.{each_call, none_to_dead, all_calls}
use Rattle.two_way_driver.proofs.ServingLaws.{fed-append}
use Rattle.two_way_driver.proofs.WordLaws.{call_is}
use Rattle.two_way_driver.proofs.XidLaws.{goes_on}
use Rattle.update_driver.specs.Agreement.{two_way_call, Agree}
use Rattle.update_driver.proofs.AgreeLaws.{both_agree}
use Rattle.drive_command.specs.Driving.{driven_by, calls_of}
use Rattle.drive_command.proofs.InputLaws.{are_calls, driven_calls}
use Rattle.serve_lines.specs.Lines.{line_in}
use Rattle.serve_lines.specs.declared.fault.LineFault.{LineFault}
use Rattle.serve_lines.specs.declared.line.ServeLine.{ServeLine}
use Rattle.serve_lines.specs.declared.line.ServeLine.TheVariants.{Comment, Start, Back, Reopen, Feed, Dead}
use Rattle.serve_lines.specs.declared.blocks.LineOutcome.TheVariants.{Went}
use Rattle.serve_command.specs.Served.{call_outcome, after_read, outcome_read, after_line}
use Rattle.check_base.specs.Checks.{CheckMeaning, task_in, FilesMeanPlan}
use Rattle.check_base.specs.Names.{CheckNames}
use Rattle.law_serve_promise.specs.Told.{told_first, told_line, driver_of, driver_behind, call_read, call_in, calls_in, said_in, told_on}
use Rattle.law_serve_promise.specs.Running.{state_on, TellsRun, TellsPhase, SendsBy, SilentBy, GoesOnBy, SendsAsAsked, AreCut, SaysTheSame, AreTaken, TellsAs}
use Rattle.law_serve_promise.proofs.BlockLaws.{keeps_lines, behind-append, given, line_behind, words_are, driver_is, calls_within}
use Rattle.law_serve_promise.proofs.DriveLaws.{refused_goes, takes_inputs}
use Rattle.law_serve_promise.proofs.FileLaws.{old_user, new_user, good_rounds, turnable, drivable}
use Rattle.law_wire.proofs.Ends.{certified_safe, certified_tables, certified_never_stuck}
use Rattle.law_wire.specs.Laws.{IsWireConsistent, AreTablesOnWire, IsNeverStuck}
use Rattle.law_wire.specs.Network.{driver_at}

-- ---- how a line ended

went_ended : (o : Option CallFault) (v : DriverView) (stage : Stage) → call_outcome o v ≡ Went stage → v.state.stage ≡ stage
went_ended None v stage e = let f : Went v.state.stage ≡ Went stage = e in cc
went_ended (Some f) v stage e = absurd (refused_goes f stage e)

-- `ok` names the stage of the driver behind the line
went_read : (v : DriverView) (r : Result ServeLine LineFault) (stage : Stage) → outcome_read v r ≡ Went stage → (after_read v r).state.stage ≡ stage
went_read v (Ok Comment) stage e = went_ended None v stage e
went_read v (Ok Start) stage e = went_ended (start_fault v) (after_call v call.Start) stage e
went_read v (Ok Back) stage e = went_ended (back_fault v) (after_call v call.Back) stage e
went_read v (Ok (Reopen s)) stage e = went_ended None (after_call v (call.Reopen s)) stage e
went_read v (Ok (Feed s bytes)) stage e = went_ended None (after_call v (call.Feed s bytes)) stage e
went_read v (Ok (Dead s)) stage e = went_ended None (after_call v (call.Dead s)) stage e
went_read v (Err bad) stage e = absurd (cc)

went_line : (v : DriverView) (line : List ℕ) (stage : Stage) → (told_line v line).outcome ≡ Went stage → (after_line v line).state.stage ≡ stage
unfolding after_line
went_line v line stage e = went_read v (line_in v.net line) stage e

-- ---- what a line sends

-- what each call sends, a line sends
sends_read : (w : DriverView) (s : SwitchId) (r : Result ServeLine LineFault) → ((c : Call) → Sends w (after_call_anew w c) s c (texts_to s (after_call_anew w c).state.said))
    → SendsBy (silent_view w) s (call_read r) (texts_to s (after_read (silent_view w) r).state.said)
sends_read w s (Ok Comment) each = refl
sends_read w s (Ok Start) each = each call.Start
sends_read w s (Ok Back) each = each call.Back
sends_read w s (Ok (Reopen t)) each = each (call.Reopen t)
sends_read w s (Ok (Feed t bytes)) each = let sent = each (call.Feed t bytes) in record { here = sent.here; dead = sent.dead; others = sent.others }
sends_read w s (Ok (Dead t)) each = each (call.Dead t)
sends_read w s (Err bad) each = refl

-- a call that sends nothing to a switch, as a line
silent_read : (w : DriverView) (s : SwitchId) (r : Result ServeLine LineFault) → ((c : Call) → c ≢ call.Reopen s → texts_to s (after_call_anew w c).state.said ≡ []) → call_read r ≢ Some (call.Reopen s)
    → texts_to s (after_read (silent_view w) r).state.said ≡ []
silent_read w s (Ok Comment) each other = refl
silent_read w s (Ok Start) each other = each call.Start (λ e. other (ap Some e))
silent_read w s (Ok Back) each other = each call.Back (λ e. other (ap Some e))
silent_read w s (Ok (Reopen t)) each other = each (call.Reopen t) (λ e. other (ap Some e))
silent_read w s (Ok (Feed t bytes)) each other = each (call.Feed t bytes) (λ e. other (ap Some e))
silent_read w s (Ok (Dead t)) each other = each (call.Dead t) (λ e. other (ap Some e))
silent_read w s (Err bad) each other = refl

goes_on_read : (w : DriverView) (o : Option Call) → GoesOnBy (silent_view w) (silent_view (given w o)) o
goes_on_read w None = refl
goes_on_read w (Some c) = let on = goes_on (silent_view w) c in record { first = on.first; next = on.next }

-- ---- bytes that are cut

module _ (v : DriverView) (line : List ℕ) (s : SwitchId) (bytes : List ℕ) (feeds : line_in v.net line ≡ Ok (Feed s bytes)) where
  fed_said : (told_line v line).said ≡ (fed_view s bytes v).state.said
  fed_said = ap (λ (r : Result ServeLine LineFault). (after_read v r).state.said) feeds

  fed_behind : after_line v line ≡ silent_view (fed_view s bytes v)
  unfolding after_line
  fed_behind = ap (λ (r : Result ServeLine LineFault). silent_view (after_read v r)) feeds

-- behind bytes a driver says what it says behind these when it forgot what it said, and is the same else
module _ (v : DriverView) (s : SwitchId) (a b : List ℕ) where
  fed_twice : fed_view s (a ++ b) v ≡ with_words (fed_view s a v).state.said (fed_view s b (silent_view (fed_view s a v)))
  fed_twice = fed-append s a b v ∙ call_is (fed_view s a v) (call.Feed s b)

  said_twice : (fed_view s (a ++ b) v).state.said ≡ (fed_view s a v).state.said ++ (fed_view s b (silent_view (fed_view s a v))).state.said
  said_twice = ap (λ (x : DriverView). x.state.said) fed_twice

  behind_twice : silent_view (fed_view s (a ++ b) v) ≡ silent_view (fed_view s b (silent_view (fed_view s a v)))
  behind_twice = ap silent_view fed_twice

-- ---- of a certified plan that files mean

module _ (files : Files) (names : CheckNames) (m : CheckMeaning) (mean : FilesMeanPlan files names m) where
  abbrev net : Network
  net = m.update.net

  abbrev inverses : List (List Change)
  inverses = inverse_rounds m.update.old m.plan.rounds

  abbrev u : Rollout
  u = rollout (task_in m)

  module _ (certified : IsCertified (task_in m) m.plan.evidence) where
    says : (lines : List (List ℕ)) → SaysRun u (driver_of m (calls_in net lines)).state
    says lines = says_run net m.plan.rounds inverses m.update.old (good_rounds files names m mean certified) (turnable files names m mean) (calls_in net lines) (calls_within net lines)

    waits : (lines : List (List ℕ)) → BeginsAnswered (driver_of m (calls_in net lines))
    waits lines = begins_answered net m.plan.rounds inverses m.update.old (good_rounds files names m mean certified) (turnable files names m mean) (calls_in net lines) (calls_within net lines)

    waits_silent : (v : DriverView) → BeginsAnswered v → BeginsAnswered (silent_view v)
    waits_silent v h = record { start = h.start; back = h.back }

    phase_is : (lines : List (List ℕ)) → (state_on m lines).phase ≡ phase_of (driver_behind m lines).state.stage
    phase_is lines =
        ap (λ (w : List DriverOutput). (state_after_two_way u (events_in w)).phase) (words_are m lines) ∙ (says lines).phase
        ∙ sym (ap (λ (v : DriverView). phase_of v.state.stage) (driver_is m lines))

    pub tells_run : (lines : List (List ℕ)) → TellsRun m lines
    tells_run lines = record {
      run = subst (λ (w : List DriverOutput). IsTwoWayRun u (events_in w)) (sym (words_are m lines)) (says lines).run;
      no_packets = subst (λ (w : List DriverOutput). (state_after_two_way u (events_in w)).packets ≡ []) (sym (words_are m lines)) (says lines).no_packets;
      phase = phase_is lines;
      waits = subst BeginsAnswered (sym (driver_is m lines)) (waits_silent (driver_of m (calls_in net lines)) (waits lines));
    }

    pub tells_phase : (lines : List (List ℕ)) (line : List ℕ) → TellsPhase m lines line
    tells_phase lines line = λ stage went.
        phase_is (lines ++ line ∷ []) ∙ ap (λ (v : DriverView). phase_of v.state.stage) (behind-append m lines (line ∷ []))
        ∙ ap phase_of (went_line (driver_behind m lines) line stage went)

    pub both_ways : IsTwoWayConsistent m.update m.plan.rounds (is_two_phase m.plan.evidence)
    both_ways = both_ways_consistent (task_in m) (old_user files names m mean) (new_user files names m mean) m.plan.evidence certified

    pub safe_on_wire : IsWireConsistent m.update m.plan.rounds (is_two_phase m.plan.evidence)
    safe_on_wire = certified_safe (task_in m) m.plan.evidence (old_user files names m mean) (new_user files names m mean) certified (turnable files names m mean)

    pub tables_on_wire : AreTablesOnWire (rollout (task_in m))
    tables_on_wire = certified_tables (task_in m) m.plan.evidence (old_user files names m mean) (new_user files names m mean) certified (turnable files names m mean)

    pub is_never_stuck : IsNeverStuck (rollout (task_in m))
    is_never_stuck = certified_never_stuck (task_in m) m.plan.evidence (old_user files names m mean) (new_user files names m mean) certified (turnable files names m mean)

    pub wire_says : (lines : List (List ℕ)) → said_in (told_on m lines) ≡ (driver_at (rollout (task_in m)) (calls_in m.update.net lines)).state.said
    wire_says lines = words_are m lines

    -- lines that ask for what inputs of `drive` are
    pub as_drive : (lines : List (List ℕ)) (inputs : List InputLine) (one : OnwardState) → AreInputs net inputs → calls_in net lines ≡ map two_way_call (calls_of inputs) → driven_by net m.plan.rounds inputs ≡ Ok one → TellsAs m lines one
    as_drive lines inputs one are same driven =
        let rounds = m.plan.rounds in
        let calls = calls_of inputs in
        let both : Agree net rounds (onward.driver_after net rounds calls) (driver_of m (map two_way_call calls)) = both_agree net rounds inverses (drivable files names m mean) calls (are_calls net inputs are) in
        let agree : Agree net rounds one (driver_of m (calls_in net lines)) =
        subst (λ (d : OnwardState). Agree net rounds d (driver_of m (calls_in net lines))) (sym (driven_calls net rounds inputs one driven))
        (subst (λ (cs : List Call). Agree net rounds (onward.driver_after net rounds calls) (driver_of m cs)) (sym same) both)
        in
        record {
          sent = λ s less. ap (λ (w : List DriverOutput). concat (texts_to s w)) (words_are m lines) ∙ agree.sent s less;
          events = ap events_in (words_are m lines) ∙ agree.events;
          phase = ap (λ (w : List DriverOutput). (state_after_two_way u (events_in w)).phase) (words_are m lines) ∙ (says lines).phase ∙ agree.phase;
        }

    -- lines that are taken are inputs that `drive` takes
    pub drive_takes : (lines : List (List ℕ)) (inputs : List InputLine) → AreInputs net inputs → calls_in net lines ≡ map two_way_call (calls_of inputs) → AreTaken m lines
        → (one : OnwardState) × (driven_by net m.plan.rounds inputs ≡ Ok one)
    drive_takes lines inputs are same taken =
        let rounds = m.plan.rounds in
        let agree = both_agree net rounds inverses (drivable files names m mean) in
        (onward.driver_after net rounds (calls_of inputs), takes_inputs net rounds (driver_of m []) lines inputs refl agree are same taken)

  -- ---- messages

  pub greets : (s : SwitchId) → s.0 < switch_count net → texts_to s (told_first (driver_of m [])).said ≡ hello ∷ []
  greets s less = all_calls s net m.plan.rounds inverses [] less

  behind_net : (lines : List (List ℕ)) → (driver_behind m lines).net ≡ net
  behind_net lines = (keeps_lines (silent_view (driver_of m [])) lines).net

  pub sends_as_asked : (lines : List (List ℕ)) (line : List ℕ) → SendsAsAsked m lines line
  sends_as_asked lines line =
      let w = driver_of m (calls_in net lines) in
      let w_net : w.net ≡ net = ap (λ (v : DriverView). v.net) (sym (driver_is m lines)) ∙ behind_net lines in
      let By : DriverView → Network → SwitchId → Type 0 = λ v n s. SendsBy v s (call_in n line) (texts_to s (told_line v line).said) in
      let Silent : DriverView → Network → SwitchId → Type 0 = λ v n s. SilentBy v s (call_in n line) (texts_to s (told_line v line).said) in
      let after : after_line (silent_view w) line ≡ silent_view (given w (call_in w.net line)) = line_behind w line in
      record {
        sends = λ s less.
            subst (λ (v : DriverView). By v net s) (sym (driver_is m lines))
            (subst (λ (n : Network). By (silent_view w) n s) w_net
            (sends_read w s (line_in w.net line) (λ c. each_call net m.plan.rounds inverses (calls_in net lines) c s (calls_within net lines) less)));
        silent = λ s less.
            subst (λ (v : DriverView). Silent v net s) (sym (driver_is m lines))
            (subst (λ (n : Network). Silent (silent_view w) n s) w_net
            (λ dead other. silent_read w s (line_in w.net line) (λ c differs. none_to_dead net m.plan.rounds inverses (calls_in net lines) c s (calls_within net lines) less dead differs) other));
        xids =
            subst (λ (v : DriverView). GoesOnBy v (driver_behind m (lines ++ line ∷ [])) (call_in net line)) (sym (driver_is m lines))
            (subst (λ (v : DriverView). GoesOnBy (silent_view w) v (call_in net line))
            (sym (behind-append m lines (line ∷ []) ∙ ap (λ (v : DriverView). after_line v line) (driver_is m lines) ∙ after))
            (subst (λ (n : Network). GoesOnBy (silent_view w) (silent_view (given w (call_in w.net line))) (call_in n line)) w_net (goes_on_read w (call_in w.net line))));
      }

  -- ---- bytes that are cut

  pub cut_says : (lines : List (List ℕ)) (front rest whole : List ℕ) → AreCut m front rest whole → SaysTheSame m lines front rest whole
  cut_says lines front rest whole cut =
      let v = driver_behind m lines in
      let s = cut.switch in
      let a = cut.front_bytes in
      let b = cut.rest_bytes in
      let is_net : v.net ≡ net = behind_net lines in
      let front_feeds : line_in v.net front ≡ Ok (Feed s a) = ap (λ (n : Network). line_in n front) is_net ∙ cut.front_feeds in
      let whole_feeds : line_in v.net whole ≡ Ok (Feed s (a ++ b)) = ap (λ (n : Network). line_in n whole) is_net ∙ cut.whole_feeds in
      let w = silent_view (fed_view s a v) in
      let rest_feeds : line_in w.net rest ≡ Ok (Feed s b) = ap (λ (n : Network). line_in n rest) is_net ∙ cut.rest_feeds in
      let w_is : driver_behind m (lines ++ front ∷ []) ≡ w = behind-append m lines (front ∷ []) ∙ fed_behind v front s a front_feeds in
      let one : (told_line w rest).said ≡ (fed_view s b w).state.said = fed_said w rest s b rest_feeds in
      record {
        said =
            fed_said v whole s (a ++ b) whole_feeds ∙ said_twice v s a b ∙ ap (λ (t : List DriverOutput). t ++ (fed_view s b w).state.said) (sym (fed_said v front s a front_feeds))
            ∙ ap (λ (t : List DriverOutput). (told_line v front).said ++ t) (sym one) ∙ ap (λ (x : DriverView). (told_line v front).said ++ (told_line x rest).said) (sym w_is);
        driver =
            behind-append m lines (whole ∷ []) ∙ fed_behind v whole s (a ++ b) whole_feeds ∙ behind_twice v s a b
            ∙ sym (behind-append m lines (front ∷ rest ∷ []) ∙ ap (λ (x : DriverView). after_line x rest) (fed_behind v front s a front_feeds) ∙ fed_behind w rest s b rest_feeds);
      }
