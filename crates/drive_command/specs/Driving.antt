-- A driver that is given the inputs of a file.
use Rattle.std.specs.Prelude.{◌≡◌, ℕ, List, [], ◌∷◌, ◌++◌, map, Result, Ok, Err, is_none, if◌then◌else◌}
use Rattle.net_base.specs.Reading.{◌>>=◌}
use Rattle.topology.specs.Networks.{Network}
use Rattle.update_model.specs.declared.Change.{Change}
use Rattle.driver_input.specs.declared.inputs.Input.{Input}
use Rattle.driver_input.specs.declared.inputs.Input.TheVariants.{Start, Feed}
use Rattle.driver_input.specs.declared.inputs.InputLine.{InputLine}
use Rattle.update_driver.specs.Drivers.{DriverState, first_driver, driver_after_bytes, started_driver, start_fault}
use Rattle.update_driver.specs.Calls as call
use Rattle.update_driver.specs.Calls.{Call, byte_by_byte}
use Rattle.drive_command.specs.declared.driving.DriveFault.{DriveFault}
use Rattle.drive_command.specs.declared.driving.DriveFault.TheVariants.{NotARun}

-- a driver after the input of this line; a start that is refused is none
abbrev pub after_input : Network → List (List Change) → ℕ → Input → DriverState → Result DriverState DriveFault
after_input net rounds line Start d = if is_none (start_fault net rounds d) then Ok (started_driver net rounds d) else Err (NotARun line)
after_input net rounds line (Feed s bytes) d = Ok (driver_after_bytes rounds s bytes d)

-- a driver after inputs in order, or the line of the first start that is refused
abbrev pub after_inputs : Network → List (List Change) → DriverState → List InputLine → Result DriverState DriveFault
after_inputs net rounds d [] = Ok d
after_inputs net rounds d (l ∷ inputs) = after_input net rounds l.line l.input d >>= λ next. after_inputs net rounds next inputs

-- the driver of these rounds that is made and then given the inputs
abbrev pub driven_by : Network → List (List Change) → List InputLine → Result DriverState DriveFault
driven_by net rounds inputs = after_inputs net rounds (first_driver net) inputs

-- a front of the inputs, the one behind it, and the driver before and after that one
pub record IsStep (net : Network) (rounds : List (List Change)) (inputs : List InputLine) (before after : DriverState) : Type 0 where
  pub front : List InputLine
  pub next : InputLine
  pub rest : List InputLine
  pub inputs_are : inputs ≡ front ++ next ∷ rest
  pub before_is : driven_by net rounds front ≡ Ok before
  pub after_is : after_input net rounds next.line next.input before ≡ Ok after

-- the calls of a driver that inputs are
abbrev pub call_of : Input → Call
call_of Start = call.Start
call_of (Feed s bytes) = call.Feed s bytes

abbrev pub calls_of : List InputLine → List Call
calls_of inputs = map (λ l. call_of l.input) inputs

-- inputs that say the same but for the pieces in which bytes come, and for the lines: byte by byte they are the same
abbrev pub DifferInPieces : List InputLine → List InputLine → Type 0
DifferInPieces a b = byte_by_byte (calls_of a) ≡ byte_by_byte (calls_of b)
