-- The classes of a map, as a list.
use Rattle.std.specs.Prelude.{◌≡◌, ℕ, List, length, slice_get, Some}
use Rattle.dest_classes.specs.Classes.{ClassList, class_count, IsClass}
use Rattle.dest_classes.specs.declared.Class.{Class}

-- these are the classes of a map, in the order of their numbers
pub record AreClasses (classes : ClassList) (list : List Class) : Type 0 where
  pub count : length list ≡ class_count classes
  pub each : (n : ℕ) (class : Class) → slice_get list n ≡ Some class → IsClass classes n class
