-- The events that the lines of a schedule spell.
use Rattle.std.specs.Prelude.{ℕ, List, nat_le, Option, None, Some, option_map, codes, if◌then◌else◌}
use Rattle.std.specs.Str.{bytes_eq, is_utf8}
use Rattle.net_base.specs.declared.ids.Stop.{Stop}
use Rattle.net_base.specs.Text.{cut_first, cut_last, decimal_in, address_in}
use Rattle.text_lines.specs.Words.{◌>>=◌, vlan_in}
use Rattle.topology.specs.Networks.{Network, switch_named}
use Rattle.update_model.specs.declared.Event.{Event}
use Rattle.update_model.specs.declared.Event.TheVariants.{Start, Settle, Change, Enter, Hop, Lose}

-- a port of a switch of the network, `SWITCH:PORT` with a port from 1 to 65279
unfoldable pub stop_in : Network → List ℕ → Option Stop
stop_in net text = do
  parts ← cut_last 58 text
  switch ← switch_named net.names parts.0
  port ← decimal_in parts.1 65279
  if nat_le 1 port then Some (record { switch = record { 0 = switch }; port = record { 0 = port } }) else None

-- an entry, `SWITCH:PORT VLAN ADDRESS`
unfoldable pub entry_in : Network → List ℕ → Option Event
entry_in net text = do
  first ← cut_first 32 text
  second ← cut_first 32 first.1
  stop ← stop_in net first.0
  vlan ← vlan_in second.0
  dst ← address_in second.1
  Some (Enter (record { switch = stop.switch; port = stop.port; vlan = vlan }) dst)

-- the number of a change or of a packet, at most 4294967295
abbrev pub number_in : List ℕ → Option ℕ
number_in text = decimal_in text 4294967295

-- the event of this word with what stands behind it
abbrev pub event_of_word : Network → List ℕ → List ℕ → Option Event
event_of_word net word rest =
    if bytes_eq word (codes "enter") then entry_in net rest
    else if bytes_eq word (codes "change") then option_map Change (number_in rest)
    else if bytes_eq word (codes "hop") then option_map Hop (number_in rest)
    else if bytes_eq word (codes "lose") then option_map Lose (number_in rest)
    else None

-- the event of a word and what stands behind a space
unfoldable pub worded_event : Network → List ℕ → Option Event
worded_event net line = do
  parts ← cut_first 32 line
  event_of_word net parts.0 parts.1

-- the event that a text spells
abbrev pub spelled_event : Network → List ℕ → Option Event
spelled_event net line =
    if bytes_eq line (codes "start") then Some Start
    else if bytes_eq line (codes "settle") then Some Settle
    else worded_event net line

-- the event that a line spells; bytes that are no text (UTF-8) spell none
abbrev pub event_in : Network → List ℕ → Option Event
event_in net line = if is_utf8 line then spelled_event net line else None
