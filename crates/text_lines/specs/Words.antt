-- What words of a line spell.
use Rattle.std.specs.Prelude.{ℕ, nat_le, List, [], ◌∷◌, Option, None, Some, option_and_then, codes, if◌then◌else◌}
use Rattle.std.specs.Result.{result_ok}
use Rattle.std.specs.Str.{bytes_eq}
use Rattle.hex.specs.Hex.{decode_of}
use Rattle.net_base.specs.declared.ids.Vlan.{Vlan}
use Rattle.net_base.specs.declared.ids.Vlan.TheVariants as vlan
use Rattle.net_base.specs.Text.{decimal_in}

-- the bytes of pairs of hexadecimal digits of either case, at least one pair
abbrev pub bytes_in : List ℕ → Option (List ℕ)
bytes_in [] = None
bytes_in (d ∷ ds) = result_ok (decode_of (d ∷ ds))

infixl 10 ◌>>=◌
abbrev pub ◌>>=◌ : {A B : Type 0} → Option A → (A → Option B) → Option B
o >>= f = option_and_then f o

-- an id from 1 to 4094
unfoldable pub id_in : List ℕ → Option Vlan
id_in text = do
  id ← decimal_in text 4094
  if nat_le 1 id then Some (vlan.Id id) else None

-- a VLAN: `untagged`, or its id
abbrev pub vlan_in : List ℕ → Option Vlan
vlan_in text = if bytes_eq text (codes "untagged") then Some vlan.Untagged else id_in text
