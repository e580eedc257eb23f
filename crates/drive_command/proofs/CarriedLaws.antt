-- A driver that was given inputs carries the update out, and the report on it is its log.
use Rattle.std.proofs.Common.{◌≡◌, ℕ, ◌+◌, ◌*◌, ◌≤◌, List, length, Ok, refl, sym, ap, ◌∙◌, subst, arith}
use Rattle.std.specs.Prelude.{sum_by}
use Rattle.std.specs.List.{AllByRecursion}
use Rattle.topology.specs.Networks.{Network, IsNetwork}
use Rattle.update_model.specs.Mixtures.{Rollout, AreGoodRounds}
use Rattle.update_model.specs.declared.Change.{Change}
use Rattle.schedule_replay.specs.Schedules.{schedule_in}
use Rattle.driver_input.specs.Inputs.{AreInputs}
use Rattle.driver_input.specs.declared.inputs.InputLine.{InputLine}
use Rattle.update_driver.specs.Calls.{Call, IsCall, AreDrivable, DriverView, bytes_from, driver_after}
use Rattle.update_driver.specs.Laws.{SendsOnly}
use Rattle.update_driver.proofs.LogLaws.{log_is_run, waits_for_barriers}
use Rattle.update_driver.proofs.SentLaws.{sends_only}
use Rattle.drive_command.specs.Driving.{driven_by, calls_of, DifferInPieces}
use Rattle.drive_command.specs.Driven.{CarriesOut, IsReport}
use Rattle.drive_command.specs.Reports.{report_text}
use Rattle.drive_command.proofs.InputLaws.{are_calls, driven_calls, steps_begin, driven_pieces, bytes_pieces}
use Rattle.drive_command.proofs.LogLaws.{log_short, log_lines}
use Rattle.drive_command.proofs.ReportLaws.{report_read}

module _ (u : Rollout) (good : AreGoodRounds u) where
  carried_after : (calls : List Call) → AreDrivable u.net u.rounds → AllByRecursion (IsCall u.net) calls → (inputs : List InputLine) → calls_of inputs ≡ calls → CarriesOut u inputs (driver_after u.net u.rounds calls)
  carried_after calls drivable ok inputs same =
      let log = log_is_run u.net u.rounds calls drivable ok in
      record {
        run = log.run u.old good;
        no_packets = log.no_packets;
        sends = λ s lt. subst (λ (cs : List Call). SendsOnly u.net u.rounds (bytes_from s cs) (driver_after u.net u.rounds calls) s) (sym same) (sends_only u.net u.rounds drivable.plan calls ok s lt);
        waits = waits_for_barriers u.net u.rounds calls;
        begins = steps_begin u.net u.rounds inputs;
      }

  module _ (v : DriverView) (net_is : v.net ≡ u.net) (rounds_is : v.rounds ≡ u.rounds) (may : AreDrivable v.net v.rounds) where
    drivable : AreDrivable u.net u.rounds
    drivable = subst (λ (n : Network). AreDrivable n u.rounds) net_is (subst (λ (r : List (List Change)). AreDrivable v.net r) rounds_is may)

    carried : (inputs : List InputLine) → AreInputs u.net inputs → driven_by u.net u.rounds inputs ≡ Ok v.state → CarriesOut u inputs v.state
    carried inputs are driven =
        subst (CarriesOut u inputs) (sym (driven_calls u.net u.rounds inputs v.state driven)) (carried_after (calls_of inputs) drivable (are_calls u.net inputs are) inputs refl)

    -- the report on it
    pub report_of : IsNetwork u.net → (inputs : List InputLine) → AreInputs u.net inputs → driven_by u.net u.rounds inputs ≡ Ok v.state → (text : List ℕ) → text ≡ report_text u.net u.rounds v.state → IsReport u inputs text
    report_of keeps inputs are driven text text_is =
        let carries = carried inputs are driven in
        let most = log_short u good v.state.log carries.run carries.no_packets in
        let few_rounds = drivable.few_rounds in
        let few_changes = drivable.few_changes in
        let short : length v.state.log ≤ 4000000 = omega arith in
        let lines = log_lines u keeps few_changes v.state.log carries.run short in
        record {
          driver = v.state;
          driven = driven;
          carries_out = carries;
          text_is = text_is;
          means = ap (schedule_in u.net) text_is ∙ report_read v.state u.net keeps u.rounds keeps.few lines short;
        }

-- the report on inputs is that on others that differ in pieces
pub report_pieces : (u : Rollout) (a b : List InputLine) (text : List ℕ) → DifferInPieces a b → IsReport u a text → IsReport u b text
report_pieces u a b text same r =
    let carries = r.carries_out in
    record {
      driver = r.driver;
      driven = driven_pieces u.net u.rounds a b r.driver same r.driven;
      carries_out = record {
        run = carries.run;
        no_packets = carries.no_packets;
        sends = λ s lt. subst (λ (came : List ℕ). SendsOnly u.net u.rounds came r.driver s) (bytes_pieces s a b same) (carries.sends s lt);
        waits = carries.waits;
        begins = steps_begin u.net u.rounds b;
      };
      text_is = r.text_is;
      means = r.means;
    }
