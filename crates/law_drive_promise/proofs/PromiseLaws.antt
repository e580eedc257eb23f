-- What a run of `drive` says, on the wire too.
use Rattle.std.proofs.Common.{◌≡◌, ◌<◌, ℕ, List, [], ◌∷◌, ◌++◌, Ok, sym, ap, ◌∙◌, subst}
use Rattle.std.specs.declared.option.Option.{Option}
use Rattle.std.specs.List.{AllByRecursion}
use Rattle.file_access.specs.Outside.{Files}
use Rattle.net_base.specs.declared.ids.SwitchId.{SwitchId}
use Rattle.net_base.proofs.MemberLaws.{each_first, each_last}
use Rattle.topology.specs.Networks.{Network, switch_count}
use Rattle.update_model.specs.Mixtures.{Rollout}
use Rattle.update_model.specs.declared.Change.{Change}
use Rattle.certificates.specs.Certified.{is_two_phase}
use Rattle.certificates.specs.Updates.{rollout}
use Rattle.round_inverses.specs.Rounds.{inverse_rounds}
use Rattle.driver_input.specs.Inputs.{AreInputs}
use Rattle.driver_input.specs.Lines.{IsInput}
use Rattle.driver_input.specs.declared.inputs.InputLine.{InputLine}
use Rattle.update_driver.specs.Agreement.{two_way_call}
use Rattle.update_driver.specs.Calls as onward
use Rattle.update_driver.specs.Drivers.{DriverState, channel_at, driver_after_bytes}
use Rattle.two_way_driver.specs.Calls.{AreTurnable}
use Rattle.command_base.specs.declared.status.Status.{Status}
use Rattle.command_base.specs.Runs.{IsComplete, Answered}
use Rattle.check_base.specs.Checks.{task_in, FilesMeanPlan}
use Rattle.drive_command.specs.Driving.{driven_by, IsStep, call_of, calls_of}
use Rattle.drive_command.specs.Names.{DriveNames}
use Rattle.drive_command.specs.Driven.{DriveMeaning, drive_dialogue, IsDriveAnswer, FilesAreDrivable}
use Rattle.drive_command.proofs.DriveLaws as command
use Rattle.drive_command.proofs.InputLaws.{are_calls, driven_calls, taken_input}
use Rattle.law_serve_promise.proofs.FileLaws.{old_user, new_user, turnable, drivable}
use Rattle.law_wire.proofs.Ends.{certified_safe, certified_tables, certified_never_stuck}
use Rattle.law_wire.specs.Laws.{IsWireConsistent, AreTablesOnWire, IsNeverStuck}
use Rattle.law_wire.specs.Network.{driver_at}
use Rattle.law_wire_answers.specs.Answering.{SaysAnswered}
use Rattle.law_drive_promise.specs.Wired.{wire_calls, IsSameOnWire, SaysAsOnWire, SessionFails, SendsNoneFailed}
use Rattle.law_drive_promise.specs.Promise.{DriveWirePromise}
use Rattle.law_drive_promise.proofs.InputsWithin.{inputs_within}
use Rattle.law_drive_promise.proofs.WiredLaws.{same_on_wire, says_as_on_wire, call_answered, session_fails, failed_quiet}

-- ---- a plan that can be driven

module _ (files : Files) (names : DriveNames) (m : DriveMeaning) (can : FilesAreDrivable files names m) where
  abbrev mean : FilesMeanPlan files names.check m.check
  mean = can.mean.check_is

  abbrev u : Rollout
  u = rollout (task_in m.check)

  abbrev net : Network
  net = m.check.update.net

  abbrev rounds : List (List Change)
  rounds = m.check.plan.rounds

  abbrev may_drive : onward.AreDrivable net rounds
  may_drive = drivable files names.check m.check mean

  abbrev may_turn : AreTurnable net rounds (inverse_rounds m.check.update.old rounds)
  may_turn = turnable files names.check m.check mean

  safe_on_wire : IsWireConsistent m.check.update rounds (is_two_phase m.check.plan.evidence)
  safe_on_wire = certified_safe (task_in m.check) m.check.plan.evidence (old_user files names.check m.check mean) (new_user files names.check m.check mean) can.certified may_turn

  tables_on_wire : AreTablesOnWire u
  tables_on_wire = certified_tables (task_in m.check) m.check.plan.evidence (old_user files names.check m.check mean) (new_user files names.check m.check mean) can.certified may_turn

  is_never_stuck : IsNeverStuck u
  is_never_stuck = certified_never_stuck (task_in m.check) m.check.plan.evidence (old_user files names.check m.check mean) (new_user files names.check m.check mean) can.certified may_turn

  -- ---- inputs

  same_driver : (inputs : List InputLine) (d : DriverState) → AreInputs net inputs → driven_by net rounds inputs ≡ Ok d → IsSameOnWire u (calls_of inputs) d
  same_driver inputs d are driven =
      subst (IsSameOnWire u (calls_of inputs)) (sym (driven_calls net rounds inputs d driven)) (same_on_wire u may_drive may_turn (calls_of inputs) (are_calls net inputs are))

  -- an input behind others
  module _ (inputs : List InputLine) (before after : DriverState) (are : AreInputs net inputs) (step : IsStep net rounds inputs before after) where
    abbrev calls : List onward.Call
    calls = calls_of step.front

    abbrev next : onward.Call
    next = call_of step.next.input

    all : AreInputs net (step.front ++ step.next ∷ step.rest)
    all = subst (AreInputs net) step.inputs_are are

    front_are : AllByRecursion (onward.IsCall net) calls
    front_are = are_calls net step.front (each_first (λ (l : InputLine). IsInput net l.input) step.front (step.next ∷ step.rest) all)

    next_is : onward.IsCall net next
    next_is = (are_calls net (step.next ∷ step.rest) (each_last (λ (l : InputLine). IsInput net l.input) step.front (step.next ∷ step.rest) all)).0

    before_is : before ≡ onward.driver_after net rounds calls
    before_is = driven_calls net rounds step.front before step.before_is

    after_is : after ≡ onward.after_call net rounds (onward.driver_after net rounds calls) next
    after_is = (taken_input net rounds step.next.line step.next.input before after step.after_is).1 ∙ ap (λ (d : DriverState). onward.after_call net rounds d next) before_is

    says : SaysAsOnWire u calls next before after
    says =
        subst (λ (d : DriverState). SaysAsOnWire u calls next d after) (sym before_is)
        (subst (SaysAsOnWire u calls next (onward.driver_after net rounds calls)) (sym after_is) (says_as_on_wire u may_drive may_turn calls next front_are next_is))

    answers : SaysAnswered (driver_at u []) (wire_calls calls) (two_way_call next)
    answers = call_answered u may_drive may_turn calls next front_are next_is

    quiet : (s : SwitchId) → s.0 < switch_count net → SendsNoneFailed (channel_at before s) (channel_at after s)
    quiet s less =
        subst (λ (d : DriverState). SendsNoneFailed (channel_at d s) (channel_at after s)) (sym before_is)
        (subst (λ (d : DriverState). SendsNoneFailed (channel_at (onward.driver_after net rounds calls) s) (channel_at d s)) (sym after_is)
        (failed_quiet u may_drive may_turn calls next front_are next_is s less))

  fails : (inputs : List InputLine) (d : DriverState) (s : SwitchId) (byte : ℕ) → AreInputs net inputs → driven_by net rounds inputs ≡ Ok d → s.0 < switch_count net
      → SessionFails u (calls_of inputs) s byte (channel_at d s) (channel_at (driver_after_bytes rounds s (byte ∷ []) d) s)
  fails inputs d s byte are driven less =
      subst (λ (e : DriverState). SessionFails u (calls_of inputs) s byte (channel_at e s) (channel_at (driver_after_bytes rounds s (byte ∷ []) e) s)) (sym (driven_calls net rounds inputs d driven))
      (session_fails u may_drive may_turn (calls_of inputs) s byte (are_calls net inputs are) less)

-- ---- a run of `drive`

pub promised : (files : Files) (names : DriveNames) (old new : Option (List ℕ)) (result : Status) → (IsComplete result → Answered IsDriveAnswer files (drive_dialogue names) old new result) → DriveWirePromise files names old new result
promised files names old new result answered = record {
  of_files = command.promised files names old new result answered;
  safe_on_the_wire = λ m can. safe_on_wire files names m can;
  tables_on_the_wire = λ m can. tables_on_wire files names m can;
  never_stuck = λ m can. is_never_stuck files names m can;
  within = λ m mean. inputs_within m.check.update.net mean.input_is.bytes m.inputs mean.input_is.means;
  as_on_the_wire = λ m inputs d can are driven. same_driver files names m can inputs d are driven;
  wire_inputs = λ m inputs before after can are step. says files names m can inputs before after are step;
  answers = λ m inputs before after can are step. answers files names m can inputs before after are step;
  failed = λ m inputs d s byte can are driven less. fails files names m can inputs d s byte are driven less;
  quiet = λ m inputs before after s can are step less. quiet files names m can inputs before after are step s less;
}
