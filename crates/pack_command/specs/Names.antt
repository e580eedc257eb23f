-- The words of `pack`.
use Rattle.std.specs.Prelude.{List, [], ◌∷◌, ℕ, codes, if◌then◌else◌, Option, None, Some, option_map}
use Rattle.std.specs.Str.{bytes_eq}
use Rattle.command_base.specs.Names as base
use Rattle.command_base.specs.Names.{UpdateNames}
use Rattle.pack_command.specs.declared.names.PackNames as code
use Rattle.pack_command.specs.declared.names.PackKind.{PackKind}
use Rattle.pack_command.specs.declared.names.PackKind.TheVariants as pack_kind

-- the names of the files of an update, and which plans of it may be written
pub record PackNames : Type 0 where
  pub files : UpdateNames
  pub kind : PackKind

-- the kind that a word names, if it names one
abbrev pub kind_in : List ℕ → Option PackKind
kind_in word =
    if bytes_eq word (codes "ordered") then Some pack_kind.Ordered
    else if bytes_eq word (codes "two-phase") then Some pack_kind.TwoPhase
    else None

-- TOPO OLD NEW POLICY, or TOPO OLD NEW POLICY KIND
abbrev pub names_in : List (List ℕ) → Option PackNames
names_in (topology ∷ old ∷ new ∷ policy ∷ []) = Some (record { files = record { topology = topology; old = old; new = new; policy = policy }; kind = pack_kind.Any })
names_in (topology ∷ old ∷ new ∷ policy ∷ kind ∷ []) = option_map (λ k. record { files = record { topology = topology; old = old; new = new; policy = policy }; kind = k }) (kind_in kind)
names_in _ = None

-- the names without where they lie in memory
abbrev pub names_seen : code.PackNames → PackNames
names_seen names = record { files = base.names_seen names.files; kind = names.kind }
