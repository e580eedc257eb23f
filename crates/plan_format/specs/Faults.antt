-- The faults of a plan: number, name, member and place.
use Rattle.std.specs.Prelude.{ℕ, List, Option, None, Some, codes}
use Rattle.net_base.specs.declared.field.Field.{Field}
use Rattle.flat_json.specs.declared.fault.JsonFault.{JsonFault}
use Rattle.flat_json.specs.declared.fault.JsonFault.TheVariants as json
use Rattle.plan_format.specs.declared.fault.PlanFault.{PlanFault}
use Rattle.plan_format.specs.declared.fault.PlanFault.TheVariants.{NotJson, Shape, BadFormat, UnknownSwitch, BadRule, BadIndex, TooMany, Memory}

-- how the faults of the tree are told
abbrev pub of_json : JsonFault → PlanFault
of_json json.NotJson = NotJson
of_json json.Memory = Memory

-- the number of a refusal; want of memory is none
abbrev pub fault_number : PlanFault → ℕ
fault_number NotJson = 1
fault_number (Shape member place) = 2
fault_number BadFormat = 3
fault_number (UnknownSwitch place) = 4
fault_number (BadRule place) = 5
fault_number (BadIndex place) = 6
fault_number (TooMany member) = 7
fault_number Memory = 0

-- the printed word
abbrev pub fault_name : PlanFault → List ℕ
fault_name NotJson = codes "NotJson"
fault_name (Shape member place) = codes "Shape"
fault_name BadFormat = codes "BadFormat"
fault_name (UnknownSwitch place) = codes "UnknownSwitch"
fault_name (BadRule place) = codes "BadRule"
fault_name (BadIndex place) = codes "BadIndex"
fault_name (TooMany member) = codes "TooMany"
fault_name Memory = codes "Memory"

-- the member that is named beside it
abbrev pub fault_field : PlanFault → Option Field
fault_field (Shape member place) = Some member
fault_field (TooMany member) = Some member
fault_field other = None

-- the place; a fault of the whole file has place 0
abbrev pub fault_place : PlanFault → ℕ
fault_place NotJson = 0
fault_place (Shape member place) = place
fault_place BadFormat = 0
fault_place (UnknownSwitch place) = place
fault_place (BadRule place) = place
fault_place (BadIndex place) = place
fault_place (TooMany member) = 0
fault_place Memory = 0
