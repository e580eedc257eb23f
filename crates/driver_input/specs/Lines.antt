-- The inputs that the lines of a file spell.
use Rattle.std.specs.Prelude.{ℕ, ◌<◌, List, codes, Result, Ok, Err, if◌then◌else◌}
use Rattle.std.specs.Str.{bytes_eq, is_utf8}
use Rattle.net_base.specs.Reading.{◌>>=◌, need}
use Rattle.net_base.specs.Text.{cut_first}
use Rattle.text_lines.specs.Words.{bytes_in}
use Rattle.topology.specs.Networks.{Network, switch_count, switch_named}
use Rattle.driver_input.specs.declared.fault.InputFault.{InputFault}
use Rattle.driver_input.specs.declared.fault.InputFault.TheVariants.{BadLine}
use Rattle.driver_input.specs.declared.inputs.Input.{Input}
use Rattle.driver_input.specs.declared.inputs.Input.TheVariants.{Start, Feed}

-- the piece in a text: the name of a switch of the network, one space, and digits
unfoldable pub fed_in : Network → ℕ → List ℕ → Result Input InputFault
fed_in net number text = do
  parts ← need (cut_first 32 text) (BadLine number)
  switch ← need (switch_named net.names parts.0) (BadLine number)
  bytes ← need (bytes_in parts.1) (BadLine number)
  Ok (Feed (record { 0 = switch }) bytes)

-- the input of a word and what stands behind one space; `feed` is the one word of this kind
unfoldable pub worded_in : Network → ℕ → List ℕ → Result Input InputFault
worded_in net number text = do
  parts ← need (cut_first 32 text) (BadLine number)
  if bytes_eq parts.0 (codes "feed") then fed_in net number parts.1 else Err (BadLine number)

-- the input that a text spells: `start`, or `feed SWITCH HEX`
abbrev pub text_in : Network → ℕ → List ℕ → Result Input InputFault
text_in net number text = if bytes_eq text (codes "start") then Ok Start else worded_in net number text

-- the input that a line spells; bytes that are no text (UTF-8) spell none
abbrev pub input_in : Network → ℕ → List ℕ → Result Input InputFault
input_in net number line = if is_utf8 line then text_in net number line else Err (BadLine number)

-- the switch of a piece is one of the network
abbrev pub IsInput : Network → Input → Type 0
IsInput net Start = Unit {0}
IsInput net (Feed s bytes) = s.0 < switch_count net
