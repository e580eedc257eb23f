-- The faults of a topology: number, name, member and place.
use Rattle.std.specs.Prelude.{ℕ, List, Option, None, Some, codes}
use Rattle.net_base.specs.declared.field.Field.{Field}
use Rattle.flat_json.specs.declared.fault.JsonFault.{JsonFault}
use Rattle.flat_json.specs.declared.fault.JsonFault.TheVariants as json
use Rattle.topology_files.specs.declared.fault.NetFault.{NetFault}
use Rattle.topology_files.specs.declared.fault.NetFault.TheVariants.{NotJson, Shape, BadName, DoubleName, UnknownSwitch, BadPort, PortTwice, BadVlan, VlanTwice, BadTags, BadCapacity, TooMany, BadFormat, BadField, Memory}

-- how the faults of the tree are told
abbrev pub of_json : JsonFault → NetFault
of_json json.NotJson = NotJson
of_json json.Memory = Memory

-- the number of a refusal; want of memory is none
abbrev pub fault_number : NetFault → ℕ
fault_number NotJson = 1
fault_number (Shape member place) = 2
fault_number (BadName place) = 3
fault_number (DoubleName place) = 4
fault_number (UnknownSwitch place) = 5
fault_number (BadPort place) = 6
fault_number (PortTwice place) = 7
fault_number (BadVlan place) = 8
fault_number (VlanTwice place) = 9
fault_number BadTags = 10
fault_number (BadCapacity place) = 11
fault_number (TooMany member place) = 12
fault_number BadFormat = 13
fault_number (BadField place) = 14
fault_number Memory = 0

-- the printed word
abbrev pub fault_name : NetFault → List ℕ
fault_name NotJson = codes "NotJson"
fault_name (Shape member place) = codes "Shape"
fault_name (BadName place) = codes "BadName"
fault_name (DoubleName place) = codes "DoubleName"
fault_name (UnknownSwitch place) = codes "UnknownSwitch"
fault_name (BadPort place) = codes "BadPort"
fault_name (PortTwice place) = codes "PortTwice"
fault_name (BadVlan place) = codes "BadVlan"
fault_name (VlanTwice place) = codes "VlanTwice"
fault_name BadTags = codes "BadTags"
fault_name (BadCapacity place) = codes "BadCapacity"
fault_name (TooMany member place) = codes "TooMany"
fault_name BadFormat = codes "BadFormat"
fault_name (BadField place) = codes "BadField"
fault_name Memory = codes "Memory"

-- the member that is named beside it
abbrev pub fault_field : NetFault → Option Field
fault_field (Shape member place) = Some member
fault_field (TooMany member place) = Some member
fault_field other = None

-- the place; a fault of the whole file has place 0
abbrev pub fault_place : NetFault → ℕ
fault_place NotJson = 0
fault_place (Shape member place) = place
fault_place (BadName place) = place
fault_place (DoubleName place) = place
fault_place (UnknownSwitch place) = place
fault_place (BadPort place) = place
fault_place (PortTwice place) = place
fault_place (BadVlan place) = place
fault_place (VlanTwice place) = place
fault_place BadTags = 0
fault_place (BadCapacity place) = place
fault_place (TooMany member place) = place
fault_place BadFormat = 0
fault_place (BadField place) = place
fault_place Memory = 0
