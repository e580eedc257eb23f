-- The rows of a listing: of each class its path and its mark.
use Rattle.std.specs.Prelude.{◌≡◌, ℕ, Bool, true, false, List, length, map, slice_get, Some}
use Rattle.std.specs.List.{list_any}
use Rattle.net_base.specs.Places.{stop_of}
use Rattle.net_base.specs.declared.ids.Stop.{Stop}
use Rattle.topology.specs.Networks.{Network}
use Rattle.flow_rules.specs.declared.rules.Rule.{Rule}
use Rattle.dest_classes.specs.Classes.{IsClass}
use Rattle.dest_classes.specs.declared.Class.{Class}
use Rattle.path_walk.specs.Walked.{PathEndsAs}
use Rattle.path_walk.specs.declared.PlacesEnd.{PlacesEnd}
use Rattle.demands.specs.Duties.{DemandView, demand_covers, duties_of}
use Rattle.demands.specs.Good.{HasGoodPath}
use Rattle.config_check.specs.Broken.{BreaksSo}
use Rattle.config_command.specs.Configs.{ConfigMeaning, config_count}
use Rattle.config_command.specs.Verdicts.{classes_under}
use Rattle.paths_command.specs.declared.marks.Row as code
use Rattle.paths_command.specs.declared.marks.Mark.{Mark}
use Rattle.paths_command.specs.declared.marks.Mark.TheVariants.{Good, Free, Breaks}

-- a class, the stops of its path, how they end, and its mark
pub record ClassRow : Type 0 where
  pub class : Class
  pub stops : List Stop
  pub end : PlacesEnd
  pub mark : Mark

-- a row without where its places lie in memory
abbrev pub row_seen : code.Row → ClassRow
row_seen row =
    record { class = row.class; stops = map stop_of row.places.now; end = row.end; mark = row.mark }

-- whether some demand covers the class: its entry, its VLAN and its first address
abbrev pub is_covered : List DemandView → Class → Bool
is_covered demands class = list_any (λ d. demand_covers d class.entry class.first) demands

-- the mark is the verdict on the path of the class, judged alone
abbrev pub IsMark : Network → List (List Rule) → List DemandView → Class → Mark → Type 0
IsMark net tables demands class Good =
    HasGoodPath net tables demands class.entry class.first × (is_covered demands class ≡ true)
IsMark net tables demands class Free =
    HasGoodPath net tables demands class.entry class.first × (is_covered demands class ≡ false)
IsMark net tables demands class (Breaks how) =
    BreaksSo net tables (duties_of demands class.entry class.first) class.entry class.first how

-- the row is that of class n: its path, and the verdict on it
pub record IsRow (m : ConfigMeaning) (n : ℕ) (row : ClassRow) : Type 0 where
  pub class_is : IsClass (classes_under m.net m.tables m.demands) n row.class
  pub path : PathEndsAs m.net m.tables row.class.entry row.class.first row.stops row.end
  pub marked : IsMark m.net m.tables m.demands row.class row.mark

-- so many rows, those of the first classes in the order of their numbers
pub record AreFirstRows (m : ConfigMeaning) (count : ℕ) (rows : List ClassRow) : Type 0 where
  pub count_is : length rows ≡ count
  pub each : (n : ℕ) (row : ClassRow) → slice_get rows n ≡ Some row → IsRow m n row

-- one row for each class, in the order of their numbers
abbrev pub AreRows : ConfigMeaning → List ClassRow → Type 0
AreRows m rows = AreFirstRows m (config_count m) rows
