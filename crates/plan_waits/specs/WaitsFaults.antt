-- The faults of a plan's waits: number, name, member and place, as those of a plan.
use Rattle.std.specs.Prelude.{ℕ, List, Option, None, Some, codes}
use Rattle.plan_waits.specs.declared.fault.WaitsFault.{WaitsFault}
use Rattle.plan_waits.specs.declared.fault.WaitsFault.TheVariants.{Shape, BadIndex, Memory}

-- the number of a refusal; want of memory is none
abbrev pub waits_fault_number : WaitsFault → ℕ
waits_fault_number (Shape place) = 2
waits_fault_number (BadIndex place) = 6
waits_fault_number Memory = 0

-- the printed word
abbrev pub waits_fault_name : WaitsFault → List ℕ
waits_fault_name (Shape place) = codes "Shape"
waits_fault_name (BadIndex place) = codes "BadIndex"
waits_fault_name Memory = codes "Memory"

-- the member that is named beside it
abbrev pub waits_fault_field : WaitsFault → Option (List ℕ)
waits_fault_field (Shape place) = Some (codes "waits")
waits_fault_field (BadIndex place) = None
waits_fault_field Memory = None

-- the place
abbrev pub waits_fault_place : WaitsFault → ℕ
waits_fault_place (Shape place) = place
waits_fault_place (BadIndex place) = place
waits_fault_place Memory = 0
