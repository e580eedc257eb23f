-- What the calls of a driver answer.
use Rattle.std.specs.Prelude.{◌≡◌, Option, Some, None}
use Rattle.update_driver.specs.Drivers.{DriverState}
use Rattle.update_driver.specs.Calls.{DriverView}
use Rattle.update_driver.specs.declared.StartFault.{StartFault}
use Rattle.update_driver.specs.declared.StartFault.TheVariants.{Running, Finished, NotOpen, Memory}

-- the driver with another state
abbrev pub with_state : DriverState → DriverView → DriverView
with_state d v = record v { state = d }

-- the refusal of a start that has this fault, if it has one: want of memory comes only where it has none
abbrev pub IsStartRefusal : Option StartFault → StartFault → Type 0
IsStartRefusal fault Running = fault ≡ Some Running
IsStartRefusal fault Finished = fault ≡ Some Finished
IsStartRefusal fault (NotOpen s) = fault ≡ Some (NotOpen s)
IsStartRefusal fault Memory = fault ≡ None
