-- The words of `drive`.
use Rattle.std.specs.Prelude.{List, [], ◌∷◌, ℕ, Option, None, Some}
use Rattle.check_base.specs.Names as files
use Rattle.check_base.specs.Names.{CheckNames}
use Rattle.drive_command.specs.declared.names.DriveNames as code

-- the names of the files of an update, of its plan, and of the inputs
pub record DriveNames : Type 0 where
  pub check : CheckNames
  pub input : List ℕ

-- TOPO OLD NEW POLICY PLAN INPUT
abbrev pub names_in : List (List ℕ) → Option DriveNames
names_in (topology ∷ old ∷ new ∷ policy ∷ plan ∷ input ∷ []) =
    Some (record { check = record { update = record { topology = topology; old = old; new = new; policy = policy }; plan = plan }; input = input })
names_in _ = None

-- the names without where they lie in memory
abbrev pub names_seen : code.DriveNames → DriveNames
names_seen names = record { check = files.names_seen names.check; input = names.input.now }
