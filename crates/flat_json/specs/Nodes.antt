-- What the nodes of a tree mean, and that they speak only of what stands before them.
use Rattle.std.specs.Prelude.{ℕ, suc, ◌+◌, ◌&&◌, List, [], ◌∷◌, ◌++◌, take, drop, slice_get, Bool, true, nat_lt, nat_le}
use Rattle.std.specs.Option.{option_map_or}
use Rattle.serde_json.specs.Data.{Data, null, boolean, number, string, array, object, unsigned, negative, float, Members, no_members, put}
use Rattle.serde_json.specs.View.{items_of}
use Rattle.flat_json.specs.declared.node.Node.{Node}
use Rattle.flat_json.specs.declared.node.Node.TheVariants as node

-- so many from a place on
abbrev pub part : {A : Type 0} → ℕ → ℕ → List A → List A
part first count xs = take count (drop first xs)

-- the members with these keys and values, after those found; the last of equal keys stays
abbrev pub with_members : List (List ℕ) → List Data → Members → Members
with_members [] ds found = found
with_members (k ∷ ks) [] found = found
with_members (k ∷ ks) (d ∷ ds) found = with_members ks ds (put k d found)

-- what a node means, by the texts and by what the nodes before it mean
abbrev pub meaning : List (List ℕ) → List Data → Node → Data
meaning texts before node.Null = null
meaning texts before (node.Bool b) = boolean b
meaning texts before (node.Whole n) = number (unsigned n)
meaning texts before (node.Negative z) = number (negative z)
meaning texts before (node.Float x) = number (float x)
meaning texts before (node.Text place) = option_map_or string (slice_get texts place) null
meaning texts before (node.List first count) = array (items_of (part first count before))
meaning texts before (node.Object key first count) = object (with_members (part key count texts) (part first count before) no_members)

-- what nodes mean, one after the other, after these
abbrev pub meanings : List (List ℕ) → List Data → List Node → List Data
meanings texts before [] = before
meanings texts before (n ∷ ns) = meanings texts (before ++ meaning texts before n ∷ []) ns

-- whether a node speaks of so many texts and so many nodes at most
abbrev pub is_within : ℕ → ℕ → Node → Bool
is_within texts nodes node.Null = true
is_within texts nodes (node.Bool b) = true
is_within texts nodes (node.Whole n) = true
is_within texts nodes (node.Negative z) = true
is_within texts nodes (node.Float x) = true
is_within texts nodes (node.Text place) = nat_lt place texts
is_within texts nodes (node.List first count) = nat_le (first + count) nodes
is_within texts nodes (node.Object key first count) = nat_le (key + count) texts && nat_le (first + count) nodes

-- whether each of the nodes, numbered from the number, speaks only of those before it
abbrev pub are_ordered : ℕ → ℕ → List Node → Bool
are_ordered texts from [] = true
are_ordered texts from (n ∷ ns) = is_within texts from n && are_ordered texts (suc from) ns
