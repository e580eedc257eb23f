-- The names of the ring's switches, and references to their ports.
use Rattle.std.proofs.Common.{◌≡◌, ℕ, zero, suc, ◌+◌, ◌%◌, ◌<◌, ◌≤◌, ◌^◌, ◌||◌, ◌⊎◌, Bool, true, false, List, [], ◌∷◌, ◌++◌, length, map, get_or, codes, decimal, Some, None, Ok, inl, inr, refl, sym, ap, subst, ◌∙◌, append_assoc, arith}
use Rattle.std.specs.List.{range_with_len, position_or_len, list_all}
use Rattle.std.specs.Option.{option_and_then, option_map}
use Rattle.std.specs.Char.{is_ascii_digit}
use Rattle.std.specs.Str.{bytes_eq}
use Rattle.std.proofs.lemmas.Bool.{cases_lt, and_from, and_parts, or_left, lt-ltb, le-ltb, le-leb, false_from_ne_true}
use Rattle.std.proofs.lemmas.Fmt.{decimal_injective, digits_decimal, length-decimal-le}
use Rattle.std.proofs.lemmas.List.FromFn.{length-map-range_with_len, get_or-map-range_with_len}
use Rattle.std.proofs.lemmas.List.Sums.{position_or_len_is}
use Rattle.std.proofs.lemmas.Slice.Eq.{bytes_eq-Decides}
use Rattle.std.proofs.lemmas.Str.Parse.{not_in_digits}
use Rattle.std.proofs.Math.Nat.{mod-eq_of_lt, mod_self}
use Rattle.net_base.specs.declared.field.Field.{Field}
use Rattle.net_base.proofs.Cuts.{Lacks, cut_last-at}
use Rattle.net_base.proofs.Decimals.{own, decimal_in-decimal}
use Rattle.net_base.specs.Text.{cut_last, decimal_in}
use Rattle.topology.specs.Networks.{Network, switch_named, is_name_byte, is_name}
use Rattle.topology.specs.References.{reference_parts}
use Rattle.topology_files.specs.Topology.{reference}
use Rattle.ring_sample.specs.Ring.{numbers_below, ring_name, ring_stop}
use Rattle.ring_sample.specs.RingTrees.{port_text}
use Rattle.net_base.specs.Switches.{most_switches}

-- ---- the next switch

pub next_cases : (n i : ℕ) → i < n → ((i + 1 < n) × ((i + 1) % n ≡ i + 1)) ⊎ ((i + 1 ≡ n) × ((i + 1) % n ≡ 0))
next_cases n i lt = elim (cases_lt (i + 1) n) [
  | inl less ↦ inl (less, mod-eq_of_lt less)
  | inr past ↦ (let last : i + 1 ≡ n = omega arith in inr (last, ap (λ m. m % n) last ∙ mod_self n))
]

pub next_apart : (n i k : ℕ) → i < k → k < n → ¬ ((i + 1) % n ≡ (k + 1) % n)
next_apart n i k less lt same =
    elim (next_cases n i (omega arith)) [
      | inl a ↦ elim (next_cases n k lt) [
        | inl b ↦ omega (arith, a.1, b.1, same)
        | inr b ↦ omega (arith, a.1, b.1, same)
      ]
      | inr a ↦ omega (arith, a.0)
    ]

-- ---- names

name_injective : (i k : ℕ) → i < 2 ^ 64 → k < 2 ^ 64 → ring_name i ≡ ring_name k → i ≡ k
unfolding ring_name
name_injective i k hi hk same = let e : decimal i ≡ decimal k = cc in decimal_injective i k hi hk e

same_bytes : (s : List ℕ) → bytes_eq s s ≡ true
same_bytes s = (bytes_eq-Decides s s).1 refl

other_name : (i k : ℕ) → i < 2 ^ 64 → k < 2 ^ 64 → ¬ (i ≡ k) → bytes_eq (ring_name i) (ring_name k) ≡ false
other_name i k hi hk apart =
    false_from_ne_true (bytes_eq (ring_name i) (ring_name k)) (λ e. apart (name_injective i k hi hk ((bytes_eq-Decides (ring_name i) (ring_name k)).0 e)))

module _ (n k : ℕ) (few : n ≤ most_switches) (within : k ≤ n) where
  abbrev is_it : List ℕ → Bool
  is_it m = bytes_eq (ring_name k) m

  abbrev names : List (List ℕ)
  names = map ring_name (numbers_below n)

  many : length names ≡ n
  many = length-map-range_with_len ring_name 0 n

  before : (j : ℕ) → j < k → is_it (get_or names j []) ≡ false
  before j less = rw (get_or-map-range_with_len ring_name 0 n j j [] (omega arith) (omega arith)) (other_name k j (omega arith) (omega arith) (λ e. omega arith))

  at_it : k < length names → is_it (get_or names k []) ≡ true
  at_it less = rw (get_or-map-range_with_len ring_name 0 n k k [] (omega (arith, many)) (omega arith)) (same_bytes (ring_name k))

  pub place_is : position_or_len is_it names ≡ k
  place_is = position_or_len_is is_it names k [] (omega (arith, many)) before at_it

-- the name of the next switch is none of those before
pub new_name : (k : ℕ) → k < most_switches → switch_named (map ring_name (numbers_below k)) (ring_name k) ≡ None
new_name k lt = rw (place_is k k (omega arith) (omega arith), length-map-range_with_len ring_name 0 k, le-ltb k k (omega arith)) refl

-- each name is that of its switch
pub named : (n k : ℕ) → n ≤ most_switches → k < n → switch_named (map ring_name (numbers_below n)) (ring_name k) ≡ Some k
named n k few lt = rw (place_is n k few (omega arith), length-map-range_with_len ring_name 0 n, lt-ltb k n lt) refl

digit_passes : (c : ℕ) → is_ascii_digit c ≡ true → is_name_byte c ≡ true
digit_passes c h = or_left _ _ (or_left _ _ (or_left _ _ (or_left _ _ h)))

digits_pass : (cs : List ℕ) → list_all is_ascii_digit cs ≡ true → list_all is_name_byte cs ≡ true
digits_pass [] h = refl
digits_pass (c ∷ cs) h = let (first, rest) = and_parts (is_ascii_digit c) (list_all is_ascii_digit cs) h in and_from _ _ (digit_passes c first) (digits_pass cs rest)

-- each is a name that a switch may have
pub name_form : (k : ℕ) → k < most_switches → is_name (ring_name k) ≡ true
unfolding ring_name
name_form k lt =
    let short : length (decimal k) ≤ 3 = length-decimal-le 3 k (omega arith) (omega arith) (omega arith) in
    let bytes = digits_pass (decimal k) (digits_decimal own k (omega arith)) in
    rw (le-leb 1 (suc (length (decimal k))) (omega arith), le-leb (suc (length (decimal k))) 32 (omega arith), bytes) refl

-- ---- references

no_colon : (n : ℕ) → n < 2 ^ 64 → Lacks 58 (decimal n)
no_colon n small = not_in_digits own (decimal n) 58 (digits_decimal own n small) (λ r. omega arith)

pub parts_again : (i port : ℕ) → port ≤ 99999 → reference_parts (port_text i port) ≡ Some (ring_name i, port)
unfolding reference_parts port_text
parts_again i port few =
    let joined : port_text i port ≡ ring_name i ++ 58 ∷ decimal port = append_assoc (ring_name i) (codes ":") (decimal port) in
    rw (joined, cut_last-at 58 (ring_name i) (decimal port) (no_colon port (omega arith)), decimal_in-decimal port 99999 few (omega arith)) refl

pub reference_again : (net : Network) (n i port : ℕ) (field : Field) (place : ℕ) → net.names ≡ map ring_name (numbers_below n) → n ≤ most_switches → i < n → 1 ≤ port → port ≤ 9
    → reference net field place (port_text i port) ≡ Ok (ring_stop i port)
unfolding reference
reference_again net n i port field place names few lt low high =
    rw (parts_again i port (omega arith), names, named n i few lt, le-leb 1 port low, le-leb port 65279 (omega arith)) refl
