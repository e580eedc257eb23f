-- The marks of the atoms that a round touches.
use Rattle.std.specs.Prelude.{◌≡◌, ℕ, ◌%◌, Bool, false, List, slice_index_or}
use Rattle.dest_classes.specs.Classes.{ClassList, atom_count, IsClass}
use Rattle.dest_classes.specs.declared.Class.{Class}
use Rattle.update_model.specs.declared.Change.{Change}
use Rattle.check_reasons.specs.Touched.{touches}

-- whether the atom with this number is marked
abbrev pub is_marked : List Bool → ℕ → Bool
is_marked marks atom = slice_index_or marks atom false

-- the atom of a class, which is what its number leaves by the atoms, is marked exactly where a change of the round covers the address of the class
abbrev pub AreTouched : ClassList → List Change → List Bool → Type 0
AreTouched classes round marks = (n : ℕ) (class : Class) → IsClass classes n class → is_marked marks (n % atom_count classes) ≡ touches round class.first
