-- The words of `simulate`.
use Rattle.std.specs.Prelude.{List, [], ◌∷◌, ℕ, Option, None, Some}
use Rattle.net_base.specs.Text.{decimal_in}
use Rattle.check_base.specs.Names as files
use Rattle.check_base.specs.Names.{CheckNames}
use Rattle.simulate_command.specs.declared.names.SimulateNames as code

-- the names of the files of an update and of its plan, the number that names the events, and how many packets enter
pub record SimulateNames : Type 0 where
  pub check : CheckNames
  pub start : ℕ
  pub count : ℕ

-- the names with both numbers, if both are spelled
abbrev pub with_numbers : CheckNames → Option ℕ → Option ℕ → Option SimulateNames
with_numbers check (Some start) (Some count) = Some (record { check = check; start = start; count = count })
with_numbers check (Some start) None = None
with_numbers check None count = None

-- TOPO OLD NEW POLICY PLAN START COUNT, with decimals: START of 64 bits, COUNT at most 1000
abbrev pub names_in : List (List ℕ) → Option SimulateNames
names_in (topology ∷ old ∷ new ∷ policy ∷ plan ∷ start ∷ count ∷ []) =
    with_numbers (record { update = record { topology = topology; old = old; new = new; policy = policy }; plan = plan }) (decimal_in start 18446744073709551615) (decimal_in count 1000)
names_in _ = None

-- the names without where they lie in memory
abbrev pub names_seen : code.SimulateNames → SimulateNames
names_seen names = record { check = files.names_seen names.check; start = names.start; count = names.count }
