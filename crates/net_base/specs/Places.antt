-- The stop of a place.
use Rattle.net_base.specs.declared.ids.Place.{Place}
use Rattle.net_base.specs.declared.ids.Stop.{Stop}

-- the switch and the ingress port, without the VLAN
abbrev pub stop_of : Place → Stop
stop_of p = record { switch = p.switch; port = p.port }
