-- Good paths for all entries and addresses.
use Rattle.std.specs.Prelude.{ℕ, ◌<◌, ◌^◌, List}
use Rattle.std.specs.List.{AllByRecursion}
use Rattle.net_base.specs.Blocks.{Block}
use Rattle.net_base.specs.Members.{IsIn}
use Rattle.net_base.specs.declared.ids.Place.{Place}
use Rattle.topology.specs.Networks.{Network, IsEntry}
use Rattle.flow_rules.specs.Tables.{table_blocks}
use Rattle.flow_rules.specs.declared.rules.Rule.{Rule}
use Rattle.demands.specs.Duties.{DemandView}
use Rattle.demands.specs.Good.{HasGoodPath}

-- the list has the prefixes of the tables and of the demands
pub record HasPrefixes (prefixes : List Block) (tables : List (List Rule)) (demands : List DemandView) : Type 0 where
  pub of_tables : (b : Block) → IsIn b (table_blocks tables) → IsIn b prefixes
  pub of_demands : AllByRecursion (λ (d : DemandView). IsIn d.dst prefixes) demands

-- the tables have a good path for each entry of the network and each address
abbrev pub HasGoodPathEverywhere : Network → List (List Rule) → List DemandView → Type 0
HasGoodPathEverywhere net tables demands = (entry : Place) (dst : ℕ) → IsEntry net entry → dst < 2 ^ 32 → HasGoodPath net tables demands entry dst
