-- The lines that a controller's core is given, and what each asks for.
use Rattle.std.specs.Prelude.{ℕ, ◌-◌, ◌<◌, nat_lt, List, [], ◌∷◌, ◌++◌, length, take, slice_index_or, codes, Result, Ok, Err, if◌then◌else◌}
use Rattle.std.specs.Str.{bytes_eq, is_utf8}
use Rattle.net_base.specs.Lines.{lines_of, is_comment}
use Rattle.net_base.specs.Reading.{◌>>=◌, need}
use Rattle.net_base.specs.Text.{cut_first}
use Rattle.text_lines.specs.Words.{bytes_in}
use Rattle.topology.specs.Networks.{Network, switch_count, switch_named}
use Rattle.serve_lines.specs.declared.fault.LineFault.{LineFault}
use Rattle.serve_lines.specs.declared.fault.LineFault.TheVariants.{Bad}
use Rattle.serve_lines.specs.declared.line.ServeLine.{ServeLine}
use Rattle.serve_lines.specs.declared.line.ServeLine.TheVariants.{Comment, Start, Back, Reopen, Feed, Dead}

-- ---- what a line asks for

-- the name of a switch of the network, whose session is opened again
unfoldable pub reopened_in : Network → List ℕ → Result ServeLine LineFault
reopened_in net name = do
  switch ← need (switch_named net.names name) Bad
  Ok (Reopen (record { 0 = switch }))

-- the name of a switch of the network, which is dead
unfoldable pub dead_in : Network → List ℕ → Result ServeLine LineFault
dead_in net name = do
  switch ← need (switch_named net.names name) Bad
  Ok (Dead (record { 0 = switch }))

-- the name of a switch of the network, one space, and the hexadecimal digits of a piece that comes from it
unfoldable pub fed_in : Network → List ℕ → Result ServeLine LineFault
fed_in net text = do
  parts ← need (cut_first 32 text) Bad
  switch ← need (switch_named net.names parts.0) Bad
  bytes ← need (bytes_in parts.1) Bad
  Ok (Feed (record { 0 = switch }) bytes)

-- a word, `feed`, `reopen` or `dead`, one space, and what stands behind it
unfoldable pub worded_in : Network → List ℕ → Result ServeLine LineFault
worded_in net text = do
  parts ← need (cut_first 32 text) Bad
  if bytes_eq parts.0 (codes "feed") then fed_in net parts.1
      else if bytes_eq parts.0 (codes "reopen") then reopened_in net parts.1
      else if bytes_eq parts.0 (codes "dead") then dead_in net parts.1
      else Err Bad

-- what a text asks for: `start`, `back`, `reopen SWITCH`, `feed SWITCH HEX`, or `dead SWITCH`
unfoldable pub text_in : Network → List ℕ → Result ServeLine LineFault
text_in net text = if bytes_eq text (codes "start") then Ok Start else if bytes_eq text (codes "back") then Ok Back else worded_in net text

-- bytes that are no text (UTF-8) ask for nothing
unfoldable pub spelled_in : Network → List ℕ → Result ServeLine LineFault
spelled_in net line = if is_utf8 line then text_in net line else Err Bad

-- what a line without its line end asks for; one of more than 262,144 bytes is bad, also one that begins as a comment
abbrev pub line_in : Network → List ℕ → Result ServeLine LineFault
line_in net line = if nat_lt 262144 (length line) then Err Bad else if is_comment line then Ok Comment else spelled_in net line

-- a switch that a line names is one of the network
abbrev pub IsLineOf : Network → ServeLine → Type 0
IsLineOf net Comment = Unit {0}
IsLineOf net Start = Unit {0}
IsLineOf net Back = Unit {0}
IsLineOf net (Reopen s) = s.0 < switch_count net
IsLineOf net (Feed s bytes) = s.0 < switch_count net
IsLineOf net (Dead s) = s.0 < switch_count net

-- ---- lines that come in pieces

-- what is kept of a line: as many bytes as a line may have, and one more
abbrev pub kept_bytes : List ℕ → List ℕ
kept_bytes line = take 262145 line

-- the lines that have their line end
abbrev pub ended_lines : List ℕ → List (List ℕ)
ended_lines bytes = take (length (lines_of bytes) - 1) (lines_of bytes)

-- what stands behind the last line end
abbrev pub open_line : List ℕ → List ℕ
open_line bytes = slice_index_or (lines_of bytes) (length (lines_of bytes) - 1) []

-- the last line, which lacks its line end, if anything stands there
abbrev pub last_line : List ℕ → List (List ℕ)
last_line [] = []
last_line (b ∷ bs) = (b ∷ bs) ∷ []

-- the lines of an input, of which the last may lack its line end
abbrev pub lines_in : List ℕ → List (List ℕ)
lines_in bytes = ended_lines bytes ++ last_line (open_line bytes)
