-- The inputs of a file, one a line.
use Rattle.std.specs.Prelude.{ℕ, List, [], ◌∷◌, ◌++◌, length, nat_lt, Result, Ok, if◌then◌else◌}
use Rattle.std.specs.List.{AllByRecursion}
use Rattle.net_base.specs.Reading.{◌>>=◌, check, in_turn}
use Rattle.topology.specs.Networks.{Network}
use Rattle.net_base.specs.Lines.{lines_of, is_comment}
use Rattle.driver_input.specs.declared.fault.InputFault.{InputFault}
use Rattle.driver_input.specs.declared.fault.InputFault.TheVariants.{TooMany}
use Rattle.driver_input.specs.declared.inputs.InputLine.{InputLine}
use Rattle.driver_input.specs.Lines.{input_in, IsInput}

-- these inputs and the one of a line, of which there are at most 1,000,000
unfoldable pub input_at : Network → ℕ → List InputLine → List ℕ → Result (List InputLine) InputFault
input_at net number before line = do
  input ← input_in net number line
  _ ← check (nat_lt (length before) 1000000) TooMany
  Ok (before ++ record { line = number; input = input } ∷ [])

-- these inputs and that of a line, if it isn't a comment
abbrev pub line_at : Network → ℕ → List InputLine → List ℕ → Result (List InputLine) InputFault
line_at net number before line = if is_comment line then Ok before else input_at net number before line

-- the inputs of the file, each with the number of its line, from 1; or the first refusal
abbrev pub inputs_in : Network → List ℕ → Result (List InputLine) InputFault
inputs_in net bytes = in_turn (line_at net) 1 [] (lines_of bytes)

-- each piece comes from a switch of the network
abbrev pub AreInputs : Network → List InputLine → Type 0
AreInputs net inputs = AllByRecursion (λ l. IsInput net l.input) inputs
