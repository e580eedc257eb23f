-- The faults of a configuration: number, name, member and place.
use Rattle.std.specs.Prelude.{ℕ, List, Option, None, Some, codes}
use Rattle.net_base.specs.declared.field.Field.{Field}
use Rattle.flat_json.specs.declared.fault.JsonFault.{JsonFault}
use Rattle.flat_json.specs.declared.fault.JsonFault.TheVariants as json
use Rattle.config_files.specs.declared.fault.ConfigFault.{ConfigFault}
use Rattle.config_files.specs.declared.fault.ConfigFault.TheVariants.{NotJson, Shape, UnknownSwitch, BadPriority, BadPort, BadVlan, ReservedVlan, BadPrefix, KeyTwice, Overlap, OverCapacity, TooMany, Memory}

-- how the faults of the tree are told
abbrev pub of_json : JsonFault → ConfigFault
of_json json.NotJson = NotJson
of_json json.Memory = Memory

-- the number of a refusal; want of memory is none
abbrev pub fault_number : ConfigFault → ℕ
fault_number NotJson = 1
fault_number (Shape member place) = 2
fault_number (UnknownSwitch place) = 3
fault_number (BadPriority place) = 4
fault_number (BadPort place) = 5
fault_number (BadVlan place) = 6
fault_number (ReservedVlan place) = 7
fault_number (BadPrefix place) = 8
fault_number (KeyTwice place) = 9
fault_number (Overlap place) = 10
fault_number (OverCapacity switch) = 11
fault_number (TooMany place) = 12
fault_number Memory = 0

-- the printed word
abbrev pub fault_name : ConfigFault → List ℕ
fault_name NotJson = codes "NotJson"
fault_name (Shape member place) = codes "Shape"
fault_name (UnknownSwitch place) = codes "UnknownSwitch"
fault_name (BadPriority place) = codes "BadPriority"
fault_name (BadPort place) = codes "BadPort"
fault_name (BadVlan place) = codes "BadVlan"
fault_name (ReservedVlan place) = codes "ReservedVlan"
fault_name (BadPrefix place) = codes "BadPrefix"
fault_name (KeyTwice place) = codes "KeyTwice"
fault_name (Overlap place) = codes "Overlap"
fault_name (OverCapacity switch) = codes "OverCapacity"
fault_name (TooMany place) = codes "TooMany"
fault_name Memory = codes "Memory"

-- the member that is named beside it
abbrev pub fault_field : ConfigFault → Option Field
fault_field (Shape member place) = Some member
fault_field other = None

-- the place; a fault of the whole file has place 0, a table that is too long the number of its switch
abbrev pub fault_place : ConfigFault → ℕ
fault_place NotJson = 0
fault_place (Shape member place) = place
fault_place (UnknownSwitch place) = place
fault_place (BadPriority place) = place
fault_place (BadPort place) = place
fault_place (BadVlan place) = place
fault_place (ReservedVlan place) = place
fault_place (BadPrefix place) = place
fault_place (KeyTwice place) = place
fault_place (Overlap place) = place
fault_place (OverCapacity switch) = switch.0
fault_place (TooMany place) = place
fault_place Memory = 0
