-- Classes with their numbers, the number of the class of an entry and an address, and why there is no class map.
use Rattle.std.specs.Prelude.{◌≡◌, ℕ, ◌<◌}
use Rattle.net_base.specs.declared.ids.Place.{Place}
use Rattle.dest_classes.specs.declared.NumberedClass.{NumberedClass}
use Rattle.dest_classes.specs.declared.ClassFault.{ClassFault}
use Rattle.dest_classes.specs.declared.ClassFault.TheVariants.{TooManyClasses, Memory}
use Rattle.dest_classes.specs.Classes.{ClassList, IsClass, class_count, boundaries}
use Rattle.dest_classes.specs.Atoms.{IsAtomOf}

-- the class is the one of the map with its number
abbrev pub IsNumbered : ClassList → NumberedClass → Type 0
IsNumbered classes numbered = IsClass classes numbered.number numbered.class

-- class n is that of the entry and the address: it has this entry, and its atom has the address
pub record IsClassOf (classes : ClassList) (n : ℕ) (entry : Place) (address : ℕ) : Type 0 where
  pub first : ℕ
  pub is : IsClass classes n (record { entry = entry; first = first })
  pub atom : IsAtomOf (boundaries classes.prefixes) is.atom address

-- there are more than 8192 classes, so many
abbrev pub IsCauseOf : ClassList → ClassFault → Type 0
IsCauseOf classes (TooManyClasses n) = (n ≡ class_count classes) × (8192 < n)
IsCauseOf classes Memory = Unit {0}
