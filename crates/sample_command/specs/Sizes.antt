-- The words of `sample`.
use Rattle.std.specs.Prelude.{ℕ, nat_le, List, [], ◌∷◌, Option, None, Some, if◌then◌else◌}
use Rattle.net_base.specs.Text.{decimal_in}
use Rattle.net_base.specs.Switches.{most_switches}

-- from four on
abbrev pub from_four : Option ℕ → Option ℕ
from_four None = None
from_four (Some n) = if nat_le 4 n then Some n else None

-- N, a decimal from 4 to 128
abbrev pub size_in : List (List ℕ) → Option ℕ
size_in (word ∷ []) = from_four (decimal_in word most_switches)
size_in _ = None
