-- The lists of a tree while it is read.
use Rattle.std.specs.Prelude.{◌≡◌, ℕ, List, [], ◌++◌, length, map, Bool, true}
use Rattle.std.specs.List.{list_all}
use Rattle.serde_json.specs.Data.{Data}
use Rattle.flat_json.specs.Nodes.{meaning, meanings, is_within, are_ordered}
use Rattle.flat_json.specs.declared.node.Node.{Node}
use Rattle.flat_json.specs.declared.store.Store.{Store}

-- its texts
abbrev pub texts_of : Store → List (List ℕ)
texts_of s = map (λ t. t.now) s.texts.items

-- what a node means
unfoldable pub data_in : Store → Node → Data
data_in s n = meaning (texts_of s) (meanings (texts_of s) [] s.nodes.items) n

-- whether each node speaks only of those before it
unfoldable pub is_ordered : Store → Bool
is_ordered s = are_ordered (length (texts_of s)) 0 s.nodes.items

-- whether a node speaks only of what is there
unfoldable pub is_known : Store → Node → Bool
is_known s n = is_within (length (texts_of s)) (length s.nodes.items) n

-- whether all these nodes do
unfoldable pub are_known : Store → List Node → Bool
are_known s ns = list_all (is_known s) ns

-- nodes and texts were added at the end alone
pub record IsGrown (old new : Store) : Type 0 where
  pub texts : (more : List (List ℕ)) × (texts_of new ≡ texts_of old ++ more)
  pub nodes : (more : List Node) × (new.nodes.items ≡ old.nodes.items ++ more)

-- after reading, the tree is ordered, has grown, and knows the nodes that were read
pub record Keeps (old new : Store) (read : List Node) : Type 0 where
  pub ordered : is_ordered new ≡ true
  pub grown : IsGrown old new
  pub known : are_known new read ≡ true
