-- A sink of bytes in memory, and what a put does to it.
use Rattle.std.specs.Prelude.{ℕ, ◌-◌, ◌==◌, ◌||◌, min, List, ◌++◌, Bool, length, take, if◌then◌else◌}
use Rattle.file_access.specs.Causes.{raised_count}
use Rattle.file_access.specs.Shelf.{fails_next}

pub record Drawer : Type 0 where
  -- the most bytes that it holds
  pub room : ℕ
  -- the most bytes that a put takes
  pub piece : ℕ
  -- the numbers of the puts that fail
  pub failing : List ℕ
  pub bytes : List ℕ
  -- the puts made, up to the last value of 64 bits
  pub calls : ℕ
  pub faults : ℕ

-- the next put fails
abbrev pub refuses : Drawer → Bool
refuses s = fails_next s.failing s.calls || (s.room - length s.bytes == 0)

-- how many of so many bytes a put takes
abbrev pub accepted_count : Drawer → ℕ → ℕ
accepted_count s n = min (min s.piece (s.room - length s.bytes)) n

-- after a put of these bytes
abbrev pub put_into : Drawer → List ℕ → Drawer
put_into s bytes =
    if refuses s
    then record s { calls = raised_count s.calls 1; faults = raised_count s.faults 1 }
    else record s { bytes = s.bytes ++ take (accepted_count s (length bytes)) bytes; calls = raised_count s.calls 1 }
