-- Small texts.
use Rattle.std.specs.Prelude.{ℕ, ◌+◌, ◌*◌, ◌/◌, ◌%◌, ◌^◌, ◌-◌, ◌&&◌, ◌||◌, ◌==◌, List, [], ◌∷◌, ◌++◌, length, slice_index, Bool, not, nat_lt, nat_le, if◌then◌else◌, Option, Some, None, option_map, option_and_then, decimal, codes}
use Rattle.std.specs.Char.{is_ascii_digit}
use Rattle.std.specs.List.{list_all}
use Rattle.std.specs.Str.Parse.{digits_value}
use Rattle.net_base.specs.Blocks.{Block}
use Rattle.net_base.specs.declared.ids.Vlan.{Vlan}
use Rattle.net_base.specs.declared.ids.Vlan.TheVariants as vlan

-- ---- decimals

-- digits, with no 0 before another
abbrev pub is_decimal : List ℕ → Bool
is_decimal s = nat_lt 0 (length s) && list_all is_ascii_digit s && (length s == 1 || not (slice_index s 0 == 48))

-- the number that the text is, where it is a decimal of at most this
unfoldable pub decimal_in : List ℕ → ℕ → Option ℕ
decimal_in s most = if is_decimal s && nat_le (digits_value 10 s) most then Some (digits_value 10 s) else None

-- ---- the parts round a byte

-- round the first
abbrev pub cut_first : ℕ → List ℕ → Option (List ℕ × List ℕ)
cut_first c [] = None
cut_first c (b ∷ bs) = if b == c then Some ([], bs) else option_map (λ p. (b ∷ p.0, p.1)) (cut_first c bs)

abbrev pub later_cut : ℕ → ℕ → List ℕ → Option (List ℕ × List ℕ) → Option (List ℕ × List ℕ)
later_cut c b bs (Some p) = Some (b ∷ p.0, p.1)
later_cut c b bs None = if b == c then Some ([], bs) else None

-- round the last
abbrev pub cut_last : ℕ → List ℕ → Option (List ℕ × List ℕ)
cut_last c [] = None
cut_last c (b ∷ bs) = later_cut c b bs (cut_last c bs)

-- ---- addresses and prefixes

infixl 10 ◌>>=◌
abbrev ◌>>=◌ : {A B : Type 0} → Option A → (A → Option B) → Option B
o >>= f = option_and_then f o

-- four decimals joined by `.`
unfoldable pub address_in : List ℕ → Option ℕ
address_in s = do
  a ← cut_first 46 s
  b ← cut_first 46 a.1
  c ← cut_first 46 b.1
  w ← decimal_in a.0 255
  x ← decimal_in b.0 255
  y ← decimal_in c.0 255
  z ← decimal_in c.1 255
  Some (((w * 256 + x) * 256 + y) * 256 + z)

-- the bits below the length are zero
abbrev pub is_based : ℕ → ℕ → Bool
is_based base len = base % 2 ^ (32 - len) == 0

-- an address, `/` and a length
unfoldable pub prefix_in : List ℕ → Option Block
prefix_in s = do
  parts ← cut_first 47 s
  base ← address_in parts.0
  len ← decimal_in parts.1 32
  if is_based base len then Some (record { base = base; len = len }) else None

-- the one spelling of an address
abbrev pub address_text : ℕ → List ℕ
address_text a = decimal (a / 2 ^ 24) ++ 46 ∷ (decimal (a / 2 ^ 16 % 256) ++ 46 ∷ (decimal (a / 2 ^ 8 % 256) ++ 46 ∷ decimal (a % 256)))

-- the one spelling of a prefix
abbrev pub prefix_text : Block → List ℕ
prefix_text b = address_text b.base ++ 47 ∷ decimal b.len

-- the one spelling of a VLAN
abbrev pub vlan_text : Vlan → List ℕ
vlan_text vlan.Untagged = codes "untagged"
vlan_text (vlan.Id id) = decimal id
