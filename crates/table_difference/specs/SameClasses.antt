-- The classes of an update whose rounds bring in no prefix of their own.
use Rattle.std.specs.Prelude.{◌≡◌, ◌⊎◌, List, [], ◌++◌}
use Rattle.net_base.specs.Blocks.{Block}
use Rattle.net_base.specs.Members.{IsIn}
use Rattle.topology.specs.Networks.{Network}
use Rattle.flow_rules.specs.Tables.{table_blocks}
use Rattle.flow_rules.specs.declared.rules.Rule.{Rule}
use Rattle.dest_classes.specs.Classes.{ClassList, boundaries, classes_of}
use Rattle.demands.specs.Duties.{DemandView}
use Rattle.update_model.specs.Changes.{round_blocks}
use Rattle.update_model.specs.declared.Change.{Change}
use Rattle.certificates.specs.Certified.{blocks_of}

-- the same host ports, VLANs and atoms
pub record HasSameClasses (a b : ClassList) : Type 0 where
  pub hosts : a.hosts ≡ b.hosts
  pub vlans : a.vlans ≡ b.vlans
  pub atoms : boundaries a.prefixes ≡ boundaries b.prefixes

-- the classes of both configurations and the demands
abbrev pub classes_before : Network → List (List Rule) → List (List Rule) → List DemandView → ClassList
classes_before net old new demands = classes_of net (blocks_of old new demands [])

-- all addresses
abbrev pub every_address : Block
every_address = record { base = 0; len = 0 }

-- each prefix of the rounds is one of the configurations, or that of all addresses
abbrev pub BringNoPrefix : List (List Rule) → List (List Rule) → List (List Change) → Type 0
BringNoPrefix old new rounds = (b : Block) → IsIn b (round_blocks rounds) → IsIn b (table_blocks old ++ table_blocks new) ⊎ (b ≡ every_address)

-- such rounds make no new classes
abbrev pub MakeNoClasses : Network → List (List Rule) → List (List Rule) → Type 0
MakeNoClasses net old new =
    (demands : List DemandView) (rounds : List (List Change)) → BringNoPrefix old new rounds
    → HasSameClasses (classes_of net (blocks_of old new demands rounds)) (classes_before net old new demands)
