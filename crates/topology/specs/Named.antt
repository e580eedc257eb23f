-- Switches by their names.
use Rattle.std.specs.Prelude.{ℕ, List, map, String, string_bytes}
use Rattle.std.specs.declared.alloc.Global.{Global}
use Rattle.std.specs.declared.hash.FoldHasher.{FoldHasher}
use Rattle.std.specs.declared.hash.BuildHasherDefault.{BuildHasherDefault}
use Rattle.indexmap.specs.IndexMap.{IndexMap}

-- the names of the switches and their capacities, by their numbers
pub record Named : Type 0 where
  pub names : List (List ℕ)
  pub capacities : List ℕ

-- the entries in their order
abbrev pub named_entries : IndexMap (String Global) ℕ (BuildHasherDefault FoldHasher) → Named
named_entries m = record { names = map (λ e. string_bytes e.0) m.entries; capacities = map (λ e. e.1) m.entries }
