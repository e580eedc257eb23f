-- The classes are those of entries and of addresses.
use Rattle.std.proofs.Common.{ℕ, ◌<◌, ◌^◌, List, ◌∷◌, inl, inr, arith}
use Rattle.std.specs.Prelude.{filter, flat_map, nat_lt}
use Rattle.std.proofs.lemmas.Bool.{ltb-true}
use Rattle.net_base.proofs.MemberLaws.{in_from_filter}
use Rattle.net_base.proofs.ItemLaws.{in_from_get}
use Rattle.net_base.specs.Places.{stop_of}
use Rattle.net_base.specs.Blocks.{Block}
use Rattle.topology.specs.Networks.{Network, IsEntry}
use Rattle.dest_classes.specs.Classes.{IsClass, classes_of, boundaries, block_ends}
use Rattle.dest_classes.specs.declared.Class.{Class}
use Rattle.dest_classes.proofs.RisingLaws.{in_from_ascending}

-- a class is one of an entry, and its first address is an address
pub class_entry : (net : Network) (blocks : List Block) (n : ℕ) (class : Class) → IsClass (classes_of net blocks) n class → IsEntry net class.entry
class_entry net blocks n class is = record {
  host = in_from_get net.hosts is.host (stop_of class.entry) is.host_is;
  declared = in_from_get net.vlans is.vlan class.entry.vlan is.vlan_is;
}

pub class_small : (net : Network) (blocks : List Block) (n : ℕ) (class : Class) → IsClass (classes_of net blocks) n class → class.first < 2 ^ 32
class_small net blocks n class is =
    let i = in_from_get (boundaries blocks) is.atom class.first is.atom_is in
    elim (in_from_ascending class.first (0 ∷ filter (λ a. nat_lt a (2 ^ 32)) (flat_map block_ends blocks)) i) [
      | inl e ↦ omega arith
      | inr j ↦ ltb-true class.first (2 ^ 32) (in_from_filter (λ a. nat_lt a (2 ^ 32)) class.first (flat_map block_ends blocks) j).1
    ]
