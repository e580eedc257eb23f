-- A source of files in memory, and what each call does to it.
use Rattle.std.specs.Prelude.{ℕ, ◌==◌, min, List, [], ◌∷◌, ◌++◌, Bool, length, drop, None, if◌then◌else◌, unwrap_or, is_some}
use Rattle.std.specs.declared.option.Option.{Option}
use Rattle.std.specs.Option.{option_map}
use Rattle.std.specs.List.{list_any}
use Rattle.std.specs.Map.{lookup}
use Rattle.std.specs.Str.{bytes_eq}
use Rattle.file_access.specs.Causes.{raised_count}

pub record Shelf : Type 0 where
  -- the most bytes that a take gives
  pub piece : ℕ
  -- the numbers of the calls that fail
  pub failing : List ℕ
  -- names and what they hold
  pub files : List (List ℕ × List ℕ)
  -- the name of the current file, empty where none is current
  pub name : List ℕ
  -- the bytes left of the current file
  pub left : Option (List ℕ)
  -- the bytes taken since the last select
  pub taken : ℕ
  -- the calls made, up to the last value of 64 bits
  pub calls : ℕ
  pub faults : ℕ

-- what the name holds
abbrev pub file_of : List (List ℕ × List ℕ) → List ℕ → Option (List ℕ)
file_of files name = lookup (λ n. bytes_eq n name) files

-- the next call is one of those that fail
abbrev pub fails_next : List ℕ → ℕ → Bool
fails_next failing calls = list_any (λ n. n == raised_count calls 1) failing

-- the name of the file that the name finds, empty where it finds none
abbrev pub found_name : List (List ℕ × List ℕ) → List ℕ → List ℕ
found_name files name = if is_some (file_of files name) then name else []

-- after a select of the name
abbrev pub after_select : Shelf → List ℕ → Shelf
after_select s name =
    if fails_next s.failing s.calls
    then record s { name = []; left = None; taken = 0; calls = raised_count s.calls 1; faults = raised_count s.faults 1 }
    else record s { name = found_name s.files name; left = file_of s.files name; taken = 0; calls = raised_count s.calls 1 }

-- how many bytes a take into so much room gives
abbrev pub given_count : Shelf → ℕ → ℕ
given_count s room = min (min s.piece room) (length (unwrap_or s.left []))

-- after a take into so much room
abbrev pub taken_from : Shelf → ℕ → Shelf
taken_from s room =
    if fails_next s.failing s.calls
    then record s { calls = raised_count s.calls 1; faults = raised_count s.faults 1 }
    else record s { left = option_map (drop (given_count s room)) s.left; taken = raised_count s.taken (given_count s room); calls = raised_count s.calls 1 }

-- with one file more
abbrev pub with_file : Shelf → List ℕ → List ℕ → Shelf
with_file s name bytes = record s { files = s.files ++ (name, bytes) ∷ [] }
