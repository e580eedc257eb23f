-- What is at the used ports.
use Rattle.std.specs.Prelude.{◌≡◌, ℕ, ◌<◌, length, Bool, true, false, List, [], ◌∷◌, ◌++◌, map, flat_map, count_by, slice_index_or}
use Rattle.net_base.specs.declared.ids.SwitchId.{SwitchId}
use Rattle.net_base.specs.declared.ids.Stop.{Stop}
use Rattle.topology.specs.Networks.{Network, IsPortNumber, is_on}
use Rattle.topology.specs.declared.net.Link.{Link}
use Rattle.topology.specs.declared.net.End.{End}
use Rattle.topology.specs.declared.net.End.TheVariants as at

-- whether a host is there
abbrev pub is_host_end : End → Bool
is_host_end at.Host = true
is_host_end other = false

-- each used port with what is there: the ends of the links, then the host ports
abbrev pub port_ends : List Link → List Stop → List (Stop × End)
port_ends links hosts =
    flat_map (λ l. (l.one, at.Link l.other.switch l.other.port) ∷ (l.other, at.Link l.one.switch l.one.port) ∷ []) links ++ map (λ h. (h, at.Host)) hosts

-- a port of a switch of the network, by a number that a network may use
abbrev pub IsPort : Network → Stop → Type 0
IsPort net stop = (stop.switch.0 < length net.names) × IsPortNumber stop.port.0

-- the numbers say for each switch how many of these ports it has
abbrev pub AreCounts : List ℕ → List Stop → Type 0
AreCounts counts ports = (s : SwitchId) → slice_index_or counts s.0 0 ≡ count_by (is_on s) ports
