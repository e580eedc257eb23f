-- Tags for declared VLANs.
use Rattle.std.specs.Prelude.{ℕ, suc, ◌-◌, ◌==◌, not, Bool, false, List, [], ◌∷◌, filter, Option, Some, None}
use Rattle.std.specs.List.{list_any}
use Rattle.net_base.specs.Numbers.{numbers_from}
use Rattle.net_base.specs.declared.ids.Vlan.{Vlan}
use Rattle.net_base.specs.declared.ids.Vlan.TheVariants as vlan
use Rattle.topology.specs.Networks.{Network, TagRange}

-- the ids of a tag range, ascending
abbrev pub ids_of : Option TagRange → List ℕ
ids_of None = []
ids_of (Some t) = numbers_from t.first (suc t.last - t.first)

-- whether a VLAN has the id
abbrev pub has_id : ℕ → Vlan → Bool
has_id id vlan.Untagged = false
has_id id (vlan.Id n) = n == id

-- the available tags, ascending: the ids of the range that no declared VLAN has
abbrev pub available_tags : Network → List ℕ
available_tags net = filter (λ id. not (list_any (has_id id) net.vlans)) (ids_of net.tags)

-- a declared VLAN with its tag
pub record Tagged : Type 0 where
  pub user : Vlan
  pub tag : ℕ

-- the i-th declared VLAN gets the i-th available tag
abbrev pub tags_paired : List Vlan → List ℕ → List Tagged
tags_paired [] tags = []
tags_paired (v ∷ vs) [] = []
tags_paired (v ∷ vs) (t ∷ ts) = record { user = v; tag = t } ∷ tags_paired vs ts

-- the declared VLANs with their tags
abbrev pub tags_of : Network → List Tagged
tags_of net = tags_paired net.vlans (available_tags net)
