-- The texts of places and events.
use Rattle.std.specs.Prelude.{ℕ, ◌<◌, ◌^◌, List, [], ◌++◌, map, slice_index_or, codes, decimal}
use Rattle.net_base.specs.declared.ids.SwitchId.{SwitchId}
use Rattle.net_base.specs.declared.ids.Stop.{Stop}
use Rattle.net_base.specs.declared.ids.Place.{Place}
use Rattle.net_base.specs.Places.{stop_of}
use Rattle.net_base.specs.Text.{vlan_text, address_text}
use Rattle.topology.specs.Networks.{Network, switch_count, IsPortNumber, IsVlan}
use Rattle.update_model.specs.declared.Event.{Event}
use Rattle.update_model.specs.declared.Event.TheVariants.{Start, Settle, Change, Enter, Hop, Lose}
use Rattle.net_base.specs.Lines.{text_of}

-- the name of a switch; empty where the network has no such switch
abbrev pub switch_text : Network → SwitchId → List ℕ
switch_text net s = slice_index_or net.names s.0 []

-- a port of a switch: `SWITCH:PORT`
abbrev pub stop_text : Network → Stop → List ℕ
stop_text net stop = switch_text net stop.switch ++ codes ":" ++ decimal stop.port.0

-- a place: `SWITCH:PORT VLAN`
abbrev pub place_text : Network → Place → List ℕ
place_text net place = stop_text net (stop_of place) ++ codes " " ++ vlan_text place.vlan

-- a packet's entry and its address: `SWITCH:PORT VLAN ADDRESS`
abbrev pub entry_text : Network → Place → ℕ → List ℕ
entry_text net place dst = place_text net place ++ codes " " ++ address_text dst

-- the line of an event
abbrev pub event_text : Network → Event → List ℕ
event_text net Start = codes "start"
event_text net Settle = codes "settle"
event_text net (Change i) = codes "change " ++ decimal i
event_text net (Enter place dst) = codes "enter " ++ entry_text net place dst
event_text net (Hop i) = codes "hop " ++ decimal i
event_text net (Lose i) = codes "lose " ++ decimal i

-- a schedule: each event in a line of its own
abbrev pub schedule_text : Network → List Event → List ℕ
schedule_text net events = text_of (map (event_text net) events)

-- an event that a line has room for: its numbers are at most 4294967295, and an entry names a switch of the network, a port from
-- 1 to 65279, and a VLAN that is untagged or from 1 to 4094
abbrev pub HasLine : Network → Event → Type 0
HasLine net Start = Unit {0}
HasLine net Settle = Unit {0}
HasLine net (Change i) = i < 2 ^ 32
HasLine net (Enter place dst) = (place.switch.0 < switch_count net) × IsPortNumber place.port.0 × IsVlan place.vlan × (dst < 2 ^ 32)
HasLine net (Hop i) = i < 2 ^ 32
HasLine net (Lose i) = i < 2 ^ 32
