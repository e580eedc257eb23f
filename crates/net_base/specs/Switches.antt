-- How many switches there may be, and sets of them.
use Rattle.std.specs.Prelude.{◌==◌, ℕ, Bool}
use Rattle.std.specs.Int.{bit_at}
use Rattle.net_base.specs.declared.ids.SwitchId.{SwitchId}

-- how many switches a network may have at most: the numbers of switches are below it
abbrev pub most_switches : ℕ
most_switches = 128

-- whether the set has the switch: the bit of its number is set
abbrev pub has : ℕ → SwitchId → Bool
has set s = bit_at set s.0 == 1
