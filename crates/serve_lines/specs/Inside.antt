-- What is kept of a line that isn't ended yet.
use Rattle.std.specs.Prelude.{◌≤◌, vec_len}
use Rattle.serve_lines.specs.declared.open_line.OpenLine.TheInside.{Inside}

-- no more than shows that a line is too long
abbrev pub IsWithin : Inside → Type 0
IsWithin l = vec_len l.bytes ≤ 262145
