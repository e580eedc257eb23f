-- Which addresses and classes a round touches.
use Rattle.std.specs.Prelude.{ℕ, ◌&&◌, Bool, List}
use Rattle.std.specs.List.{list_any}
use Rattle.net_base.specs.Blocks.{in_block}
use Rattle.flow_rules.specs.Patterns.{admits_vlan}
use Rattle.dest_classes.specs.declared.Class.{Class}
use Rattle.update_model.specs.Changes.{rule_of}
use Rattle.update_model.specs.declared.Change.{Change}

-- whether a change of the round covers the address
abbrev pub touches : List Change → ℕ → Bool
touches round address = list_any (λ c. in_block (rule_of c).key.pattern.dst address) round

-- whether a change covers packets to the address of a class with the VLAN of its entry, at some port or at each
abbrev pub may_cover : Change → Class → Bool
may_cover c class = in_block (rule_of c).key.pattern.dst class.first && admits_vlan (rule_of c).key.pattern.vlan class.entry.vlan
