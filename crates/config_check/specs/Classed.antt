-- Classes with their duties.
use Rattle.std.specs.Prelude.{◌≡◌, ◌≤◌, List}
use Rattle.dest_classes.specs.Classes.{ClassList, class_count}
use Rattle.demands.specs.Duties.{DemandView}
use Rattle.config_check.specs.declared.classed.Classed.{Classed}

-- the map is that of these classes, which are few enough, and the duties are those of the demands over them
pub record AreClassed (classes : ClassList) (demands : List DemandView) (c : Classed) : Type 0 where
  pub map : c.map ≡ classes
  pub few : class_count classes ≤ 8192
  pub duties : c.duties ≡ record { demands = demands; classes = c.map }
