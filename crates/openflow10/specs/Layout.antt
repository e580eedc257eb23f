-- Structs of the wire as tables of fields. All numbers are big-endian (OpenFlow 1.0.0, section 5).
use Rattle.std.specs.Prelude.{◌≡◌, ℕ, ◌+◌, List, [], ◌∷◌}
use Rattle.std.specs.List.{flat_map, AllByRecursion}
use Rattle.byteorder.specs.Endian.{big_from, big_bytes}

-- a number in n bytes, the highest first
unfoldable pub number_bytes : ℕ → ℕ → List ℕ
number_bytes n x = big_bytes n x

-- the number in the n bytes from an offset on, the highest first
unfoldable pub number_at : ℕ → ℕ → List ℕ → ℕ
number_at offset n bytes = big_from offset n bytes

-- a field: its offset from the first byte of the message, how many bytes it has, and its value
pub record Row : Type 0 where
  pub offset : ℕ
  pub bytes : ℕ
  pub value : ℕ

-- the field at an offset, of so many bytes, with a value
abbrev pub field : ℕ → ℕ → ℕ → Row
field offset bytes value = record { offset = offset; bytes = bytes; value = value }

-- the bytes of the fields, one after the other
abbrev pub text_of : List Row → List ℕ
text_of rows = flat_map (λ row. number_bytes row.bytes row.value) rows

-- from a first offset to an end each field begins where the one before it ends
abbrev pub Spans : ℕ → List Row → ℕ → Type 0
Spans first [] end = first ≡ end
Spans first (row ∷ rows) end = (row.offset ≡ first) × Spans (first + row.bytes) rows end

-- the bytes have the value of each field at its offset
abbrev pub Holds : List ℕ → List Row → Type 0
Holds bytes rows = AllByRecursion (λ row. number_at row.offset row.bytes bytes ≡ row.value) rows
