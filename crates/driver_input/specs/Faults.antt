-- The faults of a file of inputs: number, name and place.
use Rattle.std.specs.Prelude.{ℕ, List, codes}
use Rattle.driver_input.specs.declared.fault.InputFault.{InputFault}
use Rattle.driver_input.specs.declared.fault.InputFault.TheVariants.{BadLine, TooMany, Memory}

-- the number of a refusal; want of memory is none
abbrev pub fault_number : InputFault → ℕ
fault_number (BadLine line) = 1
fault_number TooMany = 2
fault_number Memory = 0

-- the printed word
abbrev pub fault_name : InputFault → List ℕ
fault_name (BadLine line) = codes "BadLine"
fault_name TooMany = codes "TooMany"
fault_name Memory = codes "Memory"

-- the place: the line, from 1; a fault of the whole file has place 0
abbrev pub fault_place : InputFault → ℕ
fault_place (BadLine line) = line
fault_place TooMany = 0
fault_place Memory = 0
