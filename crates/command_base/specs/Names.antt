-- The names of files that several commands take.
use Rattle.std.specs.Prelude.{List, [], ◌∷◌, ℕ, Option, None, Some}
use Rattle.command_base.specs.declared.names.UpdateNames as update_code
use Rattle.command_base.specs.declared.names.PlanNames as plan_code

-- the names of the files of an update: the network, the old and the new configuration, and the policy
pub record UpdateNames : Type 0 where
  pub topology : List ℕ
  pub old : List ℕ
  pub new : List ℕ
  pub policy : List ℕ

-- TOPO OLD NEW POLICY
abbrev pub update_names_in : List (List ℕ) → Option UpdateNames
update_names_in (topology ∷ old ∷ new ∷ policy ∷ []) = Some (record { topology = topology; old = old; new = new; policy = policy })
update_names_in _ = None

-- the names of an update without where they lie in memory
abbrev pub names_seen : update_code.UpdateNames → UpdateNames
names_seen names = record { topology = names.topology.now; old = names.old.now; new = names.new.now; policy = names.policy.now }

-- the names of a network and a plan of it
pub record PlanNames : Type 0 where
  pub topology : List ℕ
  pub plan : List ℕ

-- TOPO PLAN
abbrev pub plan_names_in : List (List ℕ) → Option PlanNames
plan_names_in (topology ∷ plan ∷ []) = Some (record { topology = topology; plan = plan })
plan_names_in _ = None

-- the names of a network and a plan without where they lie in memory
abbrev pub plan_names_seen : plan_code.PlanNames → PlanNames
plan_names_seen names = record { topology = names.topology.now; plan = names.plan.now }
