-- The traces of the packets of a world, as text.
use Rattle.std.specs.Prelude.{ℕ, suc, List, [], ◌∷◌, ◌++◌, map, flat_map, length, codes, decimal}
use Rattle.net_base.specs.declared.ids.Stop.{Stop}
use Rattle.path_walk.specs.declared.Ended.{Ended}
use Rattle.path_walk.specs.declared.Ended.TheVariants.{UnderWay, Left, Dropped, Lost}
use Rattle.topology.specs.Networks.{Network}
use Rattle.update_model.specs.Worlds.{WorldState}
use Rattle.update_model.specs.declared.Event.{Event}
use Rattle.update_model.specs.declared.Packet.{Packet}
use Rattle.update_model.specs.declared.Phase.{Phase}
use Rattle.update_model.specs.declared.Phase.TheVariants.{Settled, Running}
use Rattle.net_base.specs.Lines.{text_of}
use Rattle.schedule_replay.specs.EventTexts.{switch_text, stop_text, place_text, entry_text, event_text}

-- where a packet entered, to which address, and how many rounds were settled then: `packet I SWITCH:PORT VLAN ADDRESS born B:`
abbrev pub packet_text : Network → ℕ → Packet → List ℕ
packet_text net i p = codes "packet " ++ decimal i ++ codes " " ++ entry_text net p.entry p.dst ++ codes " born " ++ decimal p.born ++ codes ":"

-- the stops, each after a space
abbrev pub stops_text : Network → List Stop → List ℕ
stops_text net stops = flat_map (λ stop. codes " " ++ stop_text net stop) stops

-- how a packet ended, after a space
abbrev pub end_text : Network → Ended → List ℕ
end_text net UnderWay = codes " under way"
end_text net (Left switch port vlan) = codes " left " ++ place_text net (record { switch = switch; port = port; vlan = vlan })
end_text net (Dropped switch) = codes " dropped " ++ switch_text net switch
end_text net Lost = codes " lost"

-- the trace of packet i
abbrev pub packet_line : Network → ℕ → Packet → List ℕ
packet_line net i p = packet_text net i p ++ stops_text net p.visits ++ end_text net p.ended

-- the traces of packets in a row, the first with this number
abbrev pub packet_lines : Network → ℕ → List Packet → List (List ℕ)
packet_lines net i [] = []
packet_lines net i (p ∷ ps) = packet_line net i p ∷ packet_lines net (suc i) ps

-- how many of so many rounds are settled, or which is running
abbrev pub phase_line : Phase → ℕ → List ℕ
phase_line (Settled k) rounds = codes "settled " ++ decimal k ++ codes " of " ++ decimal rounds
phase_line (Running k) rounds = codes "running " ++ decimal k ++ codes " of " ++ decimal rounds

-- one line for each packet, in the order of entry, and one for the phase
abbrev pub trace_lines : Network → WorldState → List (List ℕ)
trace_lines net w = packet_lines net 0 w.state.packets ++ phase_line w.state.phase (length w.rounds) ∷ []

-- the traces
abbrev pub traces_text : Network → WorldState → List ℕ
traces_text net w = text_of (trace_lines net w)

-- lines, each with a mark before it
abbrev pub marked_lines : List ℕ → List (List ℕ) → List (List ℕ)
marked_lines mark lines = map (λ line. mark ++ line) lines

-- the record of a run: its events, and after them the traces as comments
abbrev pub record_text : Network → List Event → WorldState → List ℕ
record_text net events w = text_of (map (event_text net) events ++ marked_lines (codes "# ") (trace_lines net w))
