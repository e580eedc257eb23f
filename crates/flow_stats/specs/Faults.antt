-- The faults of flow statistics: number, name and place.
use Rattle.std.specs.Prelude.{ℕ, List, codes}
use Rattle.flow_stats.specs.declared.fault.StatsFault.{StatsFault}
use Rattle.flow_stats.specs.declared.fault.StatsFault.TheVariants.{BadLine, BadMessage, Incomplete, Profile, KeyTwice, Overlap, BadPort, ReservedVlan, OverCapacity, TooMany, Memory}
use Rattle.flow_stats.specs.declared.fault.StatsField.{StatsField}
use Rattle.flow_stats.specs.declared.fault.StatsField.TheVariants.{Wildcards, InPort, Vlan, DlType, Priority, Timeouts, Actions}

-- the number of a refusal; want of memory is none
abbrev pub fault_number : StatsFault → ℕ
fault_number (BadLine line) = 1
fault_number (BadMessage line) = 2
fault_number (Incomplete switch) = 3
fault_number (Profile entry field) = 4
fault_number (KeyTwice entry) = 5
fault_number (Overlap entry) = 6
fault_number (BadPort entry) = 7
fault_number (ReservedVlan entry) = 8
fault_number (OverCapacity switch) = 9
fault_number TooMany = 10
fault_number Memory = 0

-- the printed words of an entry outside the profile, by its field
abbrev pub field_name : StatsField → List ℕ
field_name Wildcards = codes "Profile Wildcards"
field_name InPort = codes "Profile InPort"
field_name Vlan = codes "Profile Vlan"
field_name DlType = codes "Profile DlType"
field_name Priority = codes "Profile Priority"
field_name Timeouts = codes "Profile Timeouts"
field_name Actions = codes "Profile Actions"

-- the printed words
abbrev pub fault_name : StatsFault → List ℕ
fault_name (BadLine line) = codes "BadLine"
fault_name (BadMessage line) = codes "BadMessage"
fault_name (Incomplete switch) = codes "Incomplete"
fault_name (Profile entry field) = field_name field
fault_name (KeyTwice entry) = codes "KeyTwice"
fault_name (Overlap entry) = codes "Overlap"
fault_name (BadPort entry) = codes "BadPort"
fault_name (ReservedVlan entry) = codes "ReservedVlan"
fault_name (OverCapacity switch) = codes "OverCapacity"
fault_name TooMany = codes "TooMany"
fault_name Memory = codes "Memory"

-- the place: the line, from 1; the entry, from 0 over the file; the switch's number; a fault of the whole file has place 0
abbrev pub fault_place : StatsFault → ℕ
fault_place (BadLine line) = line
fault_place (BadMessage line) = line
fault_place (Incomplete switch) = switch.0
fault_place (Profile entry field) = entry
fault_place (KeyTwice entry) = entry
fault_place (Overlap entry) = entry
fault_place (BadPort entry) = entry
fault_place (ReservedVlan entry) = entry
fault_place (OverCapacity switch) = switch.0
fault_place TooMany = 0
fault_place Memory = 0
