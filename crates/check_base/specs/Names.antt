-- The words of `check`.
use Rattle.std.specs.Prelude.{List, [], ◌∷◌, ℕ, Option, None, Some}
use Rattle.command_base.specs.Names as base
use Rattle.command_base.specs.Names.{UpdateNames}
use Rattle.check_base.specs.declared.names.CheckNames as code

-- the names of the files of an update, and of its plan
pub record CheckNames : Type 0 where
  pub update : UpdateNames
  pub plan : List ℕ

-- TOPO OLD NEW POLICY PLAN
abbrev pub names_in : List (List ℕ) → Option CheckNames
names_in (topology ∷ old ∷ new ∷ policy ∷ plan ∷ []) = Some (record { update = record { topology = topology; old = old; new = new; policy = policy }; plan = plan })
names_in _ = None

-- the names without where they lie in memory
abbrev pub names_seen : code.CheckNames → CheckNames
names_seen names = record { update = base.names_seen names.update; plan = names.plan.now }
