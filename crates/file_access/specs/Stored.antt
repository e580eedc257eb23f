-- What the fields of a source in memory stand for.
use Rattle.std.specs.Prelude.{ℕ, ◌≤◌, List, [], None, Some, map, length, drop, slice_get, string_bytes, unwrap_or, MatchOption}
use Rattle.std.specs.declared.option.Option.{Option}
use Rattle.std.specs.Option.{option_map}
use Rattle.file_access.specs.declared.in_memory.StoredFile.{StoredFile}
use Rattle.file_access.specs.declared.in_memory.MemorySource.TheInside.{Inside}
use Rattle.file_access.specs.Shelf.{Shelf}

-- the name and the bytes
abbrev pub pair_of : StoredFile → List ℕ × List ℕ
pair_of f = (string_bytes f.name, f.bytes.items)

-- what is left of the current file
abbrev pub left_of : List StoredFile → Option ℕ → ℕ → Option (List ℕ)
left_of files None at = None
left_of files (Some i) at = option_map (λ f. drop at f.bytes.items) (slice_get files i)

-- the name of the current file, empty where none is current
abbrev pub name_of : List StoredFile → Option ℕ → List ℕ
name_of files None = []
name_of files (Some i) = unwrap_or (option_map (λ f. string_bytes f.name) (slice_get files i)) []

abbrev pub shelf_of : Inside → Shelf
shelf_of a = record {
  piece = a.piece;
  failing = a.failing.items;
  files = map pair_of a.files.items;
  name = name_of a.files.items a.current;
  left = left_of a.files.items a.current a.at;
  taken = a.taken;
  calls = a.calls;
  faults = a.faults;
}

-- the place lies in the current file
abbrev pub IsWithin : List StoredFile → Option ℕ → ℕ → Type 0
IsWithin files None at = Unit {0}
IsWithin files (Some i) at = MatchOption (slice_get files i) ⊥ (λ f. at ≤ length f.bytes.items)

pub record IsSound (a : Inside) : Type 0 where
  pub piece : 1 ≤ a.piece
  pub place : IsWithin a.files.items a.current a.at
