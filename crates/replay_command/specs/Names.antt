-- The words of `replay`.
use Rattle.std.specs.Prelude.{List, [], ◌∷◌, ℕ, Option, None, Some}
use Rattle.replay_command.specs.declared.names.ReplayNames as code

-- the names of the network, the old configuration, the plan and the schedule
pub record ReplayNames : Type 0 where
  pub topology : List ℕ
  pub old : List ℕ
  pub plan : List ℕ
  pub schedule : List ℕ

-- TOPO OLD PLAN SCHEDULE
abbrev pub names_in : List (List ℕ) → Option ReplayNames
names_in (topology ∷ old ∷ plan ∷ schedule ∷ []) = Some (record { topology = topology; old = old; plan = plan; schedule = schedule })
names_in _ = None

-- the names without where they lie in memory
abbrev pub names_seen : code.ReplayNames → ReplayNames
names_seen names = record { topology = names.topology.now; old = names.old.now; plan = names.plan.now; schedule = names.schedule.now }
