-- Texts of bytes from some byte on, below 127.
use Rattle.std.proofs.Common.{◌≡◌, ℕ, zero, suc, ◌+◌, ◌/◌, ◌%◌, ◌^◌, ◌<◌, ◌≤◌, Bool, true, false, cond, ◌&&◌, ◌||◌, ◌⊎◌, eqb, leb, ltb, List, [], ◌∷◌, ◌++◌, get_or, decimal, IsTrue, refl, ◌∙◌, inl, inr, arith}
use Rattle.std.specs.Fmt.{digit_glyph, digits_onto, digits}
use Rattle.std.specs.List.{AllByRecursion, list_all}
use Rattle.std.specs.Str.{IsAscii, is_utf8}
use Rattle.std.proofs.lemmas.Bool.{and_parts, and_from, le-leb, lt-ltb, leb-true, ltb-true, eqb-true}
use Rattle.std.proofs.lemmas.List.Folds.{list_all-append}
use Rattle.std.proofs.lemmas.Str.{IsUtf8-from_ascii, is_utf8-from_IsUtf8}
use Rattle.net_base.proofs.Cuts.{Lacks}
use Rattle.net_base.specs.Text.{address_text, vlan_text}
use Rattle.net_base.specs.declared.ids.Vlan.{Vlan}
use Rattle.net_base.specs.declared.ids.Vlan.TheVariants as vlan
use Rattle.topology.specs.Networks.{IsName, is_name_byte}

-- whether the byte is from low on, and below 127
abbrev pub is_from : ℕ → ℕ → Bool
is_from low b = leb low b && ltb b 127

-- whether all bytes are
abbrev pub are_from : ℕ → List ℕ → Bool
are_from low bs = list_all (is_from low) bs

pub from-append : (low : ℕ) (xs ys : List ℕ) → are_from low xs ≡ true → are_from low ys ≡ true → are_from low (xs ++ ys) ≡ true
from-append low xs ys hx hy = list_all-append (is_from low) xs ys ∙ and_from _ _ hx hy

from_lower : (low lower b : ℕ) → lower ≤ low → is_from low b ≡ true → is_from lower b ≡ true
from_lower low lower b le h =
    let p = and_parts (leb low b) (ltb b 127) h in
    let above : low ≤ b = leb-true low b p.0 in
    and_from (leb lower b) (ltb b 127) (le-leb lower b (omega arith)) p.1

pub are_lower : (low lower : ℕ) (bs : List ℕ) → lower ≤ low → are_from low bs ≡ true → are_from lower bs ≡ true
are_lower low lower [] le h = refl
are_lower low lower (b ∷ bs) le h =
    let p = and_parts (is_from low b) (are_from low bs) h in
    and_from _ _ (from_lower low lower b le p.0) (are_lower low lower bs le p.1)

-- a lower byte doesn't stand in it
pub Lacks-from : (low c : ℕ) (bs : List ℕ) → c < low → are_from low bs ≡ true → Lacks c bs
Lacks-from low c [] less h i lt = absurd (omega arith)
Lacks-from low c (b ∷ bs) less h zero lt =
    let p = and_parts (is_from low b) (are_from low bs) h in
    let q = and_parts (leb low b) (ltb b 127) p.0 in
    let above : low ≤ b = leb-true low b q.0 in
    λ e. omega arith
Lacks-from low c (b ∷ bs) less h (suc i) lt =
    let p = and_parts (is_from low b) (are_from low bs) h in
    Lacks-from low c bs less p.1 i (omega arith)

-- it is text
ascii_from : (low : ℕ) (bs : List ℕ) → are_from low bs ≡ true → IsAscii bs
ascii_from low [] h i = omega arith
ascii_from low (b ∷ bs) h zero =
    let p = and_parts (is_from low b) (are_from low bs) h in
    let q = and_parts (leb low b) (ltb b 127) p.0 in
    let below : b < 127 = ltb-true b 127 q.1 in
    omega arith
ascii_from low (b ∷ bs) h (suc i) =
    let p = and_parts (is_from low b) (are_from low bs) h in
    ascii_from low bs p.1 i

pub is_utf8-from : (low : ℕ) (bs : List ℕ) → are_from low bs ≡ true → is_utf8 bs ≡ true
is_utf8-from low bs h = is_utf8-from_IsUtf8 bs (IsUtf8-from_ascii bs (ascii_from low bs h))

-- ---- decimals

glyph_from : (n : ℕ) → is_from 48 (digit_glyph false (n % 10)) ≡ true
glyph_from n =
    let below : n % 10 < 10 = omega arith in
    rw (lt-ltb (n % 10) 10 below) (and_from _ _ (le-leb 48 (48 + n % 10) (omega arith)) (lt-ltb (48 + n % 10) 127 (omega arith)))

onto_from : (k n : ℕ) (acc : List ℕ) → are_from 48 acc ≡ true → are_from 48 (digits_onto k 10 false n acc) ≡ true
onto_from zero n acc h = h
onto_from (suc k) n acc h =
    let more : are_from 48 (digit_glyph false (n % 10) ∷ acc) ≡ true = and_from _ _ (glyph_from n) h in
    elim (eqb (n / 10) 0) as (λ b. are_from 48 (cond b (digit_glyph false (n % 10) ∷ acc) (digits_onto k 10 false (n / 10) (digit_glyph false (n % 10) ∷ acc))) ≡ true) [
      | true ↦ more
      | false ↦ onto_from k (n / 10) (digit_glyph false (n % 10) ∷ acc) more
    ]

pub decimal_from : (n : ℕ) → are_from 48 (decimal n) ≡ true
unfolding digits
decimal_from n = onto_from 64 n [] refl

from-join : (low c : ℕ) (xs ys : List ℕ) → are_from low xs ≡ true → is_from low c ≡ true → are_from low ys ≡ true → are_from low (xs ++ c ∷ ys) ≡ true
from-join low c xs ys hx hc hy = from-append low xs (c ∷ ys) hx (and_from _ _ hc hy)

pub address_from : (a : ℕ) → are_from 46 (address_text a) ≡ true
address_from a =
    let w : List ℕ = decimal (a / 2 ^ 24) in
    let x : List ℕ = decimal (a / 2 ^ 16 % 256) in
    let y : List ℕ = decimal (a / 2 ^ 8 % 256) in
    let z : List ℕ = decimal (a % 256) in
    let d : (n : ℕ) → are_from 46 (decimal n) ≡ true = λ n. are_lower 48 46 (decimal n) (omega arith) (decimal_from n) in
    let yz : are_from 46 (y ++ 46 ∷ z) ≡ true = from-join 46 46 y z (d (a / 2 ^ 8 % 256)) refl (d (a % 256)) in
    let xyz : are_from 46 (x ++ 46 ∷ (y ++ 46 ∷ z)) ≡ true = from-join 46 46 x (y ++ 46 ∷ z) (d (a / 2 ^ 16 % 256)) refl yz in
    from-join 46 46 w (x ++ 46 ∷ (y ++ 46 ∷ z)) (d (a / 2 ^ 24)) refl xyz

pub vlan_from : (v : Vlan) → are_from 48 (vlan_text v) ≡ true
vlan_from vlan.Untagged = refl
vlan_from (vlan.Id id) = decimal_from id

-- ---- names

either : (a b : Bool) → (a || b) ≡ true → (a ≡ true) ⊎ (b ≡ true)
either true b h = inl refl
either false b h = inr h

in_span : (first last c : ℕ) → 45 ≤ first → last ≤ 126 → (leb first c && leb c last) ≡ true → is_from 45 c ≡ true
in_span first last c low high h =
    let p = and_parts (leb first c) (leb c last) h in
    let above : first ≤ c = leb-true first c p.0 in
    let below : c ≤ last = leb-true c last p.1 in
    and_from (leb 45 c) (ltb c 127) (le-leb 45 c (omega arith)) (lt-ltb c 127 (omega arith))

at_byte : (b c : ℕ) → 45 ≤ b → b ≤ 126 → eqb c b ≡ true → is_from 45 c ≡ true
at_byte b c low high h =
    let same : c ≡ b = eqb-true c b h in
    and_from (leb 45 c) (ltb c 127) (le-leb 45 c (omega arith)) (lt-ltb c 127 (omega arith))

name_byte_from : (c : ℕ) → is_name_byte c ≡ true → is_from 45 c ≡ true
name_byte_from c h =
    elim (either _ (eqb c 95) h) [
      | inr e ↦ at_byte 95 c (omega arith) (omega arith) e
      | inl h1 ↦ elim (either _ (eqb c 45) h1) [
        | inr e ↦ at_byte 45 c (omega arith) (omega arith) e
        | inl h2 ↦ elim (either _ (leb 97 c && leb c 122) h2) [
          | inr e ↦ in_span 97 122 c (omega arith) (omega arith) e
          | inl h3 ↦ elim (either (leb 48 c && leb c 57) (leb 65 c && leb c 90) h3) [
            | inl e ↦ in_span 48 57 c (omega arith) (omega arith) e
            | inr e ↦ in_span 65 90 c (omega arith) (omega arith) e
          ]
        ]
      ]
    ]

name_bytes_from : (bs : List ℕ) → AllByRecursion (λ c. IsTrue (is_name_byte c)) bs → are_from 45 bs ≡ true
name_bytes_from [] h = refl
name_bytes_from (b ∷ bs) h = and_from _ _ (name_byte_from b h.0) (name_bytes_from bs h.1)

-- a name of the list, or nothing past its end
pub name_from : (names : List (List ℕ)) (i : ℕ) → AllByRecursion IsName names → are_from 45 (get_or names i []) ≡ true
name_from [] i h = refl
name_from (name ∷ names) zero h = name_bytes_from name h.0.2
name_from (name ∷ names) (suc i) h = name_from names i h.1
