-- Which bytes stand in the parts of a line.
use Rattle.std.proofs.Common.{◌≡◌, ℕ, zero, suc, ◌^◌, ◌<◌, ◌≤◌, true, List, [], ◌∷◌, ◌++◌, length, get_or, decimal, IsTrue, arith}
use Rattle.std.specs.Char.{is_ascii_digit}
use Rattle.std.specs.List.{AllByRecursion}
use Rattle.std.specs.Int.{byte_at, bytes_high_first}
use Rattle.std.proofs.lemmas.List.Elements.{All-get_or}
use Rattle.std.proofs.lemmas.List.Sums.{AllPass-from_list_all}
use Rattle.std.proofs.lemmas.Fmt.{digits_decimal}
use Rattle.hex.specs.Hex.{IsBytes, is_hex_digit, encode_lower}
use Rattle.hex.proofs.HexLemmas.{decode_pairs-encode_with, decode_pairs-ok, IsDigits-lower_digits}
use Rattle.hex.specs.Hex.{lower_digits}
use Rattle.net_base.proofs.Cuts.{Lacks}
use Rattle.net_base.proofs.Decimals.{own}
use Rattle.net_base.proofs.MemberLaws.{each_weaker}
use Rattle.topology.specs.Networks.{is_name_byte}
use Rattle.openflow10.specs.Layout.{Row, number_bytes, text_of}
use Rattle.openflow10.specs.Messages.{wire_text, message_table}
use Rattle.openflow10.specs.declared.Message.{Message}

-- each byte is above this one
abbrev pub AreAbove : ℕ → List ℕ → Type 0
AreAbove c bs = AllByRecursion (λ b. c < b) bs

pub lacks : (c : ℕ) (bs : List ℕ) → AreAbove c bs → Lacks c bs
lacks c [] h i lt e = absurd (omega arith)
lacks c (b ∷ bs) h zero lt e = omega (arith, h.0, e)
lacks c (b ∷ bs) h (suc i) lt e = lacks c bs h.1 i (omega arith) e

pub above_more : (c d : ℕ) (bs : List ℕ) → d ≤ c → AreAbove c bs → AreAbove d bs
above_more c d bs le h = each_weaker (λ b. c < b) (λ b. d < b) (λ b lt. omega arith) bs h

-- by the place of a byte
above_from : (c : ℕ) (bs : List ℕ) → ((i : ℕ) → i < length bs → c < get_or bs i 0) → AreAbove c bs
above_from c [] h = tt
above_from c (b ∷ bs) h = (h 0 (omega arith), above_from c bs (λ i lt. h (suc i) (omega arith)))

-- ---- a decimal

digit_above : (c : ℕ) → is_ascii_digit c ≡ true → 32 < c
digit_above c h = grind (arith)

pub decimal_above : (n : ℕ) → n < 2 ^ 64 → AreAbove 32 (decimal n)
decimal_above n small =
    let digits = AllPass-from_list_all is_ascii_digit (decimal n) (digits_decimal own n small) in
    above_from 32 (decimal n) (λ i lt. digit_above (get_or (decimal n) i 0) (All-get_or (λ c. is_ascii_digit c ≡ true) (decimal n) i 0 lt digits))

-- ---- a name

name_byte_above : (c : ℕ) → IsTrue (is_name_byte c) → 32 < c
name_byte_above c h = grind (arith)

pub name_above : (name : List ℕ) → AllByRecursion (λ c. IsTrue (is_name_byte c)) name → AreAbove 32 name
name_above name h = each_weaker (λ c. IsTrue (is_name_byte c)) (λ c. 32 < c) name_byte_above name h

-- ---- hexadecimal

hex_digit_above : (c : ℕ) → is_hex_digit c ≡ true → 32 < c
hex_digit_above c h = grind (arith)

pub hex_above : (bytes : List ℕ) → IsBytes bytes → AreAbove 32 (encode_lower bytes)
hex_above bytes h =
    let parts = decode_pairs-ok 0 (encode_lower bytes) bytes (decode_pairs-encode_with lower_digits IsDigits-lower_digits 0 bytes h) in
    above_from 32 (encode_lower bytes) (λ i lt. hex_digit_above (get_or (encode_lower bytes) i 0) (All-get_or (λ c. is_hex_digit c ≡ true) (encode_lower bytes) i 0 lt parts.0))

-- ---- the bytes of a message

bytes_append : (xs ys : List ℕ) → IsBytes xs → IsBytes ys → IsBytes (xs ++ ys)
bytes_append [] ys h k i = k i
bytes_append (x ∷ xs) ys h k zero = h 0
bytes_append (x ∷ xs) ys h k (suc i) = bytes_append xs ys (λ j. h (suc j)) k i

byte_below : (k x : ℕ) → byte_at k x < 256
byte_below zero x = omega arith
byte_below (suc k) x = omega arith

bytes_number : (n x : ℕ) → IsBytes (bytes_high_first n x)
bytes_number zero x i = omega arith
bytes_number (suc n) x zero = byte_below n x
bytes_number (suc n) x (suc i) = bytes_number n x i

bytes_rows : (rows : List Row) → IsBytes (text_of rows)
unfolding number_bytes
bytes_rows [] = λ i. omega arith
bytes_rows (row ∷ rows) = bytes_append (number_bytes row.bytes row.value) (text_of rows) (bytes_number row.bytes row.value) (bytes_rows rows)

pub bytes_wire : (m : Message) → IsBytes (wire_text m)
unfolding wire_text
bytes_wire m = bytes_rows (message_table m)
