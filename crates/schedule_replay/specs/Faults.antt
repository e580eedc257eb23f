-- The faults of a schedule: number, name, member and place.
use Rattle.std.specs.Prelude.{ℕ, List, Option, None, codes}
use Rattle.net_base.specs.declared.field.Field.{Field}
use Rattle.schedule_replay.specs.declared.fault.ScheduleFault.{ScheduleFault}
use Rattle.schedule_replay.specs.declared.fault.ScheduleFault.TheVariants.{BadLine, TooMany, Memory}

-- the number of a refusal; want of memory is none
abbrev pub fault_number : ScheduleFault → ℕ
fault_number (BadLine line) = 1
fault_number TooMany = 2
fault_number Memory = 0

-- the printed word
abbrev pub fault_name : ScheduleFault → List ℕ
fault_name (BadLine line) = codes "BadLine"
fault_name TooMany = codes "TooMany"
fault_name Memory = codes "Memory"

-- the member that is named beside it; a schedule has none
abbrev pub fault_field : ScheduleFault → Option Field
fault_field fault = None

-- the place: the line, from 1; a fault of the whole file has place 0
abbrev pub fault_place : ScheduleFault → ℕ
fault_place (BadLine line) = line
fault_place TooMany = 0
fault_place Memory = 0
