-- The words of `config`.
use Rattle.std.specs.Prelude.{List, [], ◌∷◌, ℕ, Option, None, Some, option_map}
use Rattle.config_command.specs.declared.names.ConfigNames as code

-- the names of the network, the configuration, and the policy if there is one
pub record ConfigNames : Type 0 where
  pub topology : List ℕ
  pub config : List ℕ
  pub policy : Option (List ℕ)

-- TOPO CONFIG, or TOPO CONFIG POLICY
abbrev pub names_in : List (List ℕ) → Option ConfigNames
names_in (topology ∷ config ∷ []) = Some (record { topology = topology; config = config; policy = None })
names_in (topology ∷ config ∷ policy ∷ []) = Some (record { topology = topology; config = config; policy = Some policy })
names_in _ = None

-- the names without where they lie in memory
abbrev pub names_seen : code.ConfigNames → ConfigNames
names_seen names = record { topology = names.topology.now; config = names.config.now; policy = option_map (λ p. p.now) names.policy }
