-- Atoms of addresses, and the numbers of classes.
use Rattle.std.specs.Prelude.{◌≡◌, ℕ, ◌+◌, ◌*◌, ◌^◌, cond, nat_lt, ◌==◌, List, [], ◌∷◌, length, flat_map, filter, slice_get, Some}
use Rattle.net_base.specs.Blocks.{Block, block_size}
use Rattle.net_base.specs.Places.{stop_of}
use Rattle.net_base.specs.declared.ids.Stop.{Stop}
use Rattle.net_base.specs.declared.ids.Vlan.{Vlan}
use Rattle.dest_classes.specs.declared.Class.{Class}
use Rattle.topology.specs.Networks.{Network}

-- the number put into an ascending list, once
abbrev pub with_number : ℕ → List ℕ → List ℕ
with_number x [] = x ∷ []
with_number x (y ∷ ys) = cond (nat_lt x y) (x ∷ y ∷ ys) (cond (x == y) (y ∷ ys) (y ∷ with_number x ys))

-- the numbers of a list, ascending and each once
abbrev pub ascending_numbers : List ℕ → List ℕ
ascending_numbers [] = []
ascending_numbers (x ∷ xs) = with_number x (ascending_numbers xs)

-- a prefix's first address, and the address after its last
abbrev pub block_ends : Block → List ℕ
block_ends b = b.base ∷ (b.base + block_size b) ∷ []

-- the boundaries that the prefixes make between addresses: the first addresses of the atoms
abbrev pub boundaries : List Block → List ℕ
boundaries blocks = ascending_numbers (0 ∷ filter (λ a. nat_lt a (2 ^ 32)) (flat_map block_ends blocks))

-- the host ports and declared VLANs of a network, and the prefixes that tell addresses apart
pub record ClassList : Type 0 where
  pub hosts : List Stop
  pub vlans : List Vlan
  pub prefixes : List Block

-- the classes of a network for these prefixes
abbrev pub classes_of : Network → List Block → ClassList
classes_of net blocks = record { hosts = net.hosts; vlans = net.vlans; prefixes = blocks }

-- how many atoms there are
abbrev pub atom_count : ClassList → ℕ
atom_count classes = length (boundaries classes.prefixes)

-- how many classes there are
abbrev pub class_count : ClassList → ℕ
class_count classes = length classes.hosts * length classes.vlans * atom_count classes

-- class n is made of the host port, VLAN and atom with these numbers
pub record IsClass (classes : ClassList) (n : ℕ) (class : Class) : Type 0 where
  pub host : ℕ
  pub vlan : ℕ
  pub atom : ℕ
  pub number : n ≡ (host * length classes.vlans + vlan) * atom_count classes + atom
  pub host_is : slice_get classes.hosts host ≡ Some (stop_of class.entry)
  pub vlan_is : slice_get classes.vlans vlan ≡ Some class.entry.vlan
  pub atom_is : slice_get (boundaries classes.prefixes) atom ≡ Some class.first
