-- The words of `import`.
use Rattle.std.specs.Prelude.{List, [], ◌∷◌, ℕ, Option, None, Some}
use Rattle.import_command.specs.declared.names.ImportNames as code

-- the names of the network and the flow statistics
pub record ImportNames : Type 0 where
  pub topology : List ℕ
  pub replies : List ℕ

-- TOPO REPLIES
abbrev pub names_in : List (List ℕ) → Option ImportNames
names_in (topology ∷ replies ∷ []) = Some (record { topology = topology; replies = replies })
names_in _ = None

-- the names without where they lie in memory
abbrev pub names_seen : code.ImportNames → ImportNames
names_seen names = record { topology = names.topology.now; replies = names.replies.now }
