-- What becomes of a packet at a place: it is discarded, leaves the network, or goes to another place.
use Rattle.std.specs.Prelude.{ℕ, ◌==◌, cond, List}
use Rattle.net_base.specs.declared.ids.Port.{Port}
use Rattle.net_base.specs.declared.ids.Place.{Place}
use Rattle.net_base.specs.declared.ids.Vlan.{Vlan}
use Rattle.net_base.specs.declared.ids.Vlan.TheVariants as vlan
use Rattle.topology.specs.Networks.{Network, end_at}
use Rattle.topology.specs.declared.net.End.{End}
use Rattle.topology.specs.declared.net.End.TheVariants as at
use Rattle.flow_rules.specs.Patterns.{Header}
use Rattle.flow_rules.specs.Tables.{lookup}
use Rattle.flow_rules.specs.declared.rules.Rewrite.{Rewrite}
use Rattle.flow_rules.specs.declared.rules.Rewrite.TheVariants.{Keep, Set, Strip}
use Rattle.flow_rules.specs.declared.rules.Action.{Action}
use Rattle.flow_rules.specs.declared.rules.Action.TheVariants as action
use Rattle.flow_rules.specs.declared.rules.Rule.{Rule}
use Rattle.path_walk.specs.declared.Outcome.{Outcome}
use Rattle.path_walk.specs.declared.Outcome.TheVariants.{Discard, Leave, Go}

-- what a lookup at the place sees of a packet to the address
abbrev pub header_at : Place → ℕ → Header
header_at place dst = record { port = place.port; vlan = place.vlan; dst = dst }

-- the VLAN after a rewrite
abbrev pub rewritten_vlan : Rewrite → Vlan → Vlan
rewritten_vlan Keep v = v
rewritten_vlan (Set id) v = vlan.Id id
rewritten_vlan Strip v = vlan.Untagged

-- what becomes of a packet with this VLAN that is sent out of the port with this end
abbrev pub sent_outcome : End → Port → Vlan → Outcome
sent_outcome at.Nothing port v = Discard
sent_outcome at.Host port v = Leave port v
sent_outcome (at.Link s p) port v = Go (record { switch = s; port = p; vlan = v })

-- what an action makes of a packet; nothing is sent back out of its ingress port
abbrev pub action_outcome : Network → Place → Action → Outcome
action_outcome net place action.Discard = Discard
action_outcome net place (action.Out port rewrite) =
    cond (port.0 == place.port.0) Discard
    (sent_outcome (end_at net (record { switch = place.switch; port = port })) port (rewritten_vlan rewrite place.vlan))

-- the outcome of the place for the address, in a table with these rules
abbrev pub outcome : Network → List Rule → Place → ℕ → Outcome
outcome net rules place dst = action_outcome net place (lookup (header_at place dst) rules)
