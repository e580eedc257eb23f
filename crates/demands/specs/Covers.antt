-- What a demand covers.
use Rattle.std.specs.Prelude.{ℕ, ◌&&◌, Bool}
use Rattle.net_base.specs.Blocks.{in_block}
use Rattle.net_base.specs.declared.ids.Place.{Place}
use Rattle.flow_rules.specs.Patterns.{admits_vlan}
use Rattle.demands.specs.Duties.{admits_entry}
use Rattle.demands.specs.declared.Cover.{Cover}

-- whether packets that enter there, to this address, are covered
abbrev pub is_covered : Cover → Place → ℕ → Bool
is_covered c entry dst = admits_entry c.from entry && admits_vlan c.vlan entry.vlan && in_block c.dst dst
