-- Where no line is refused, `drive` takes the inputs for which the lines ask.
use Rattle.std.proofs.Common.{◌≡◌, ℕ, true, Result, Ok, Err, List, [], ◌∷◌, map, refl, sym, ap, ◌∙◌, subst}
use Rattle.std.specs.Prelude.{Option, Some, None, is_none}
use Rattle.std.specs.List.{AllByRecursion, cons_option}
use Rattle.std.proofs.lemmas.Bool.{cond-true}
use Rattle.net_base.specs.Reading.{◌>>=◌}
use Rattle.topology.specs.Networks.{Network}
use Rattle.update_model.specs.declared.Change.{Change}
use Rattle.driver_input.specs.Inputs.{AreInputs}
use Rattle.driver_input.specs.declared.inputs.Input.{Input}
use Rattle.driver_input.specs.declared.inputs.Input.TheVariants as input
use Rattle.driver_input.specs.declared.inputs.InputLine.{InputLine}
use Rattle.update_driver.specs.Calls as onward
use Rattle.update_driver.specs.Drivers as one
use Rattle.update_driver.specs.Drivers.{DriverState as OnwardState}
use Rattle.two_way_driver.specs.Calls.{DriverView, silent_view, start_fault}
use Rattle.two_way_driver.specs.Laws.{Call, after_call, after_calls}
use Rattle.two_way_driver.specs.Laws as call
use Rattle.two_way_driver.specs.Words.{after_call_anew, after_calls_anew}
use Rattle.two_way_driver.specs.declared.faults.CallFault.{CallFault}
use Rattle.two_way_driver.specs.declared.faults.CallFault.TheVariants as fault
use Rattle.two_way_driver.specs.declared.Stage.{Stage}
use Rattle.two_way_driver.proofs.WordLaws.{calls_kept}
use Rattle.update_driver.specs.Agreement.{two_way_call, Agree}
use Rattle.drive_command.specs.declared.driving.DriveFault.{DriveFault}
use Rattle.drive_command.specs.declared.driving.DriveFault.TheVariants.{NotARun}
use Rattle.drive_command.specs.Driving.{after_input, after_inputs, driven_by, call_of, calls_of}
use Rattle.drive_command.proofs.InputLaws.{are_calls}
use Rattle.serve_lines.specs.Lines.{line_in}
use Rattle.serve_lines.specs.declared.fault.LineFault.{LineFault}
use Rattle.serve_lines.specs.declared.line.ServeLine.{ServeLine}
use Rattle.serve_lines.specs.declared.line.ServeLine.TheVariants.{Comment, Start, Back, Reopen, Feed, Dead}
use Rattle.serve_lines.specs.declared.blocks.LineOutcome.TheVariants.{Went}
use Rattle.serve_command.specs.Served.{call_outcome, refusal_of}
use Rattle.law_serve_promise.specs.Told.{told_read, told_lines, call_read, call_in, calls_in}
use Rattle.law_serve_promise.specs.Running.{EndsOk}
use Rattle.law_serve_promise.proofs.BlockLaws.{given, given_net, line_behind}

-- ---- lines that are taken ask for starts that aren't refused

abbrev MayCall : DriverView → Call → Type 0
MayCall w call.Start = is_none (start_fault w) ≡ true
MayCall w call.Back = Unit {0}
MayCall w (call.Reopen s) = Unit {0}
MayCall w (call.Feed s bytes) = Unit {0}
MayCall w (call.Dead s) = Unit {0}

abbrev MayCallAll : DriverView → List Call → Type 0
MayCallAll w [] = Unit {0}
MayCallAll w (c ∷ calls) = MayCall w c × MayCallAll (after_call_anew w c) calls

-- a refusal is no way on
pub refused_goes : (f : CallFault) (stage : Stage) → refusal_of f ≡ Went stage → ⊥
refused_goes fault.Running stage e = absurd (cc)
refused_goes fault.Finished stage e = absurd (cc)
refused_goes fault.NotBegun stage e = absurd (cc)
refused_goes (fault.NotOpen s) stage e = absurd (cc)
refused_goes fault.Memory stage e = absurd (cc)

-- a call that has a fault doesn't end with `ok`
went_free : (o : Option CallFault) (v : DriverView) (stage : Stage) → call_outcome o v ≡ Went stage → is_none o ≡ true
went_free None v stage e = refl
went_free (Some f) v stage e = absurd (refused_goes f stage e)

may_read : (w : DriverView) (r : Result ServeLine LineFault) (calls : List Call) → EndsOk (told_read (silent_view w) r) → MayCallAll (given w (call_read r)) calls → MayCallAll w (cons_option (call_read r) calls)
may_read w (Ok Comment) calls ok rest = rest
may_read w (Ok Start) calls ok rest = (went_free (start_fault (silent_view w)) (after_call (silent_view w) call.Start) ok.0 ok.1, rest)
may_read w (Ok Back) calls ok rest = (tt, rest)
may_read w (Ok (Reopen s)) calls ok rest = (tt, rest)
may_read w (Ok (Feed s bytes)) calls ok rest = (tt, rest)
may_read w (Ok (Dead s)) calls ok rest = (tt, rest)
may_read w (Err bad) calls ok rest = rest

may_lines : (net : Network) (w : DriverView) (lines : List (List ℕ)) → w.net ≡ net → AllByRecursion EndsOk (told_lines (silent_view w) lines) → MayCallAll w (calls_in net lines)
may_lines net w [] same all = tt
may_lines net w (line ∷ lines) same all =
    let o = call_in w.net line in
    let calls = calls_in net lines in
    let behind = subst (λ (v : DriverView). AllByRecursion EndsOk (told_lines v lines)) (line_behind w line) all.1 in
    let rest : MayCallAll (given w o) calls = may_lines net (given w o) lines (given_net w o ∙ same) behind in
    subst (λ (n : Network). MayCallAll w (cons_option (call_in n line) calls)) same (may_read w (line_in w.net line) calls all.0 rest)

-- ---- the driver of `drive` takes these starts too

module _ (net : Network) (rounds : List (List Change)) where
  -- both drivers refuse to start in the same cases, behind whatever calls come
  abbrev RefuseAlike : OnwardState → DriverView → Type 0
  RefuseAlike d w = (calls : List onward.Call) → AllByRecursion (onward.IsCall net) calls
      → is_none (start_fault (after_calls_anew w (map two_way_call calls))) ≡ is_none (one.start_fault net rounds (onward.after_calls net rounds d calls))

  take_input : (line : ℕ) (i : Input) (d : OnwardState) (w : DriverView) → is_none (start_fault w) ≡ is_none (one.start_fault net rounds d) → MayCall w (two_way_call (call_of i))
      → after_input net rounds line i d ≡ Ok (onward.after_call net rounds d (call_of i))
  take_input line input.Start d w alike may =
      let test = is_none (one.start_fault net rounds d) in
      let free : test ≡ true = sym alike ∙ may in
      cond-true test (Ok (one.started_driver net rounds d)) (Err (NotARun line)) free ∙ ap Ok (sym (cond-true test (one.started_driver net rounds d) d free))
  take_input line (input.Feed s bytes) d w alike may = refl

  take_inputs : (d : OnwardState) (w : DriverView) (inputs : List InputLine) → RefuseAlike d w → AllByRecursion (onward.IsCall net) (calls_of inputs) → MayCallAll w (map two_way_call (calls_of inputs))
      → after_inputs net rounds d inputs ≡ Ok (onward.after_calls net rounds d (calls_of inputs))
  take_inputs d w [] alike are may = refl
  take_inputs d w (l ∷ inputs) alike are may =
      let c = call_of l.input in
      ap (λ (r : Result OnwardState DriveFault). r >>= λ next. after_inputs net rounds next inputs) (take_input l.line l.input d w (alike [] tt) may.0)
      ∙ take_inputs (onward.after_call net rounds d c) (after_call_anew w (two_way_call c)) inputs (λ calls ok. alike (c ∷ calls) (are.0, ok)) are.1 may.1

  -- the inputs of `drive` for which lines ask that are taken, where both drivers agree behind whatever calls
  pub takes_inputs : (v : DriverView) (lines : List (List ℕ)) (inputs : List InputLine) → v.net ≡ net
      → ((calls : List onward.Call) → AllByRecursion (onward.IsCall net) calls → Agree net rounds (onward.driver_after net rounds calls) (after_calls v (map two_way_call calls)))
      → AreInputs net inputs → calls_in net lines ≡ map two_way_call (calls_of inputs) → AllByRecursion EndsOk (told_lines (silent_view v) lines)
      → driven_by net rounds inputs ≡ Ok (onward.driver_after net rounds (calls_of inputs))
  takes_inputs v lines inputs same agree are asked taken =
      let alike : RefuseAlike (one.first_driver net) v = λ calls ok.
      ap (λ (w : DriverView). is_none (start_fault w)) (sym (calls_kept v (map two_way_call calls))) ∙ (agree calls ok).refused
      in
      take_inputs (one.first_driver net) v inputs alike (are_calls net inputs are) (subst (MayCallAll v) asked (may_lines net v lines same taken))
