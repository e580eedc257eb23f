-- A number that is read is the number that was written, and what was read is written again.
use Rattle.std.proofs.Common.{◌/◌, ◌%◌, ◌≡◌, ℕ, zero, suc, ◌+◌, ◌-◌, ◌*◌, ◌^◌, ◌<◌, ◌≤◌, List, [], ◌∷◌, ◌++◌, length, take, drop, get_or, slice_index, refl, sym, ap, ◌∙◌, arith}
use Rattle.std.proofs.Math.Nat.{add-mul-div_right, div-one, mul-add-mod_self_right, mod-eq_of_lt, one-le-pow, pow-suc}
use Rattle.std.proofs.lemmas.Nat.{div-mul-add, pow-add}
use Rattle.std.proofs.lemmas.List.{get_or-drop, drop_more, take_rest}
use Rattle.std.specs.Int.{byte_at, bytes_high_first}
use Rattle.byteorder.specs.Endian.{big_from}
use Rattle.byteorder.specs.Numbers.{big_from-cons, big_from-lt, big_number-reads_back, length-bytes_high_first}
use Rattle.openflow10.specs.Layout.{number_at, number_bytes}

-- every byte is below 256
pub record IsBytes (bytes : List ℕ) : Type 0 where
  pub below : (i : ℕ) → get_or bytes i 0 < 256

-- the number behind the first k bytes
big_from-drop : (i n k : ℕ) (xs : List ℕ) → big_from i n (drop k xs) ≡ big_from (k + i) n xs
big_from-drop i zero k xs = refl
big_from-drop i (suc n) k xs =
    let byte = get_or-drop k xs i 0 in
    let rest = big_from-drop (suc i) n k xs in
    let place : k + suc i ≡ suc (k + i) = omega arith in
    rw (byte, rest, place) refl

-- the number in the part of a slice from an offset on
pub number_at-part : (offset n : ℕ) (bytes : List ℕ) → big_from 0 n (take (length bytes - offset) (drop offset bytes)) ≡ number_at offset n bytes
unfolding number_at
number_at-part offset n bytes =
    let place : offset + 0 ≡ offset = omega arith in
    ap (big_from 0 n) (take_rest bytes offset) ∙ big_from-drop 0 n offset bytes ∙ ap (λ (o : ℕ). big_from o n bytes) place

pub number_at-lt : (offset n : ℕ) (bytes : List ℕ) → IsBytes bytes → number_at offset n bytes < 256 ^ n
unfolding number_at
number_at-lt offset n bytes h = big_from-lt offset n bytes h.below

pub length-number_bytes : (n x : ℕ) → length (number_bytes n x) ≡ n
unfolding number_bytes
length-number_bytes n x = length-bytes_high_first n x

-- a number behind a list of bytes
big_from-append : (xs ys : List ℕ) (n : ℕ) → big_from (length xs) n (xs ++ ys) ≡ big_from 0 n ys
big_from-append [] ys n = refl
big_from-append (x ∷ xs) ys n = big_from-cons (length xs) n x (xs ++ ys) ∙ big_from-append xs ys n

-- what was written is read
pub number_at-append : (front : List ℕ) (n x : ℕ) (rest : List ℕ) → x < 256 ^ n → number_at (length front) n (front ++ (number_bytes n x ++ rest)) ≡ x
unfolding number_at number_bytes
number_at-append front n x rest h = big_from-append front (bytes_high_first n x ++ rest) n ∙ big_number-reads_back n x rest h

-- a byte of a number, by its place
byte_at-pow : (k x : ℕ) → byte_at k x ≡ x / 256 ^ k % 256
byte_at-pow zero x = ap (λ (y : ℕ). y % 256) (sym (div-one x))
byte_at-pow (suc k) x = refl

pow_above : (n : ℕ) → zero < 256 ^ n
pow_above n = let h = one-le-pow n 256 (omega arith) in omega arith

-- a byte doesn't depend on what stands above it
byte_at-above : (k m a r : ℕ) → byte_at k (a * 256 ^ (suc k + m) + r) ≡ byte_at k r
byte_at-above k m a r =
    let power : 256 ^ (suc k + m) ≡ 256 ^ m * 256 * 256 ^ k = ap (λ (e : ℕ). 256 ^ e) (omega arith) ∙ pow-add 256 (suc m) k ∙ ap (λ (p : ℕ). p * 256 ^ k) (pow-suc 256 m) in
    let whole : a * 256 ^ (suc k + m) + r ≡ r + a * 256 ^ m * 256 * 256 ^ k = rw power (omega arith) in
    byte_at-pow k (a * 256 ^ (suc k + m) + r)
    ∙ ap (λ (x : ℕ). x / 256 ^ k % 256) whole
    ∙ ap (λ (x : ℕ). x % 256) (add-mul-div_right r (a * 256 ^ m * 256) (pow_above k))
    ∙ ap (λ (x : ℕ). x % 256) (omega arith)
    ∙ mul-add-mod_self_right (a * 256 ^ m) 256 (r / 256 ^ k)
    ∙ sym (byte_at-pow k r)

bytes_high_first-above : (n m a r : ℕ) → bytes_high_first n (a * 256 ^ (n + m) + r) ≡ bytes_high_first n r
bytes_high_first-above zero m a r = refl
bytes_high_first-above (suc n) m a r =
    let top = byte_at-above n m a r in
    let place : n + suc m ≡ suc n + m = omega arith in
    let rest = ap (λ (e : ℕ). bytes_high_first n (a * 256 ^ e + r)) (sym place) ∙ bytes_high_first-above n (suc m) a r in
    rw (top, rest) refl

-- the bytes of a number with another byte in front
bytes_high_first-top : (n b r : ℕ) → b < 256 → r < 256 ^ n → bytes_high_first (suc n) (b * 256 ^ n + r) ≡ b ∷ bytes_high_first n r
bytes_high_first-top n b r hb hr =
    let top : byte_at n (b * 256 ^ n + r) ≡ b = byte_at-pow n (b * 256 ^ n + r) ∙ ap (λ (x : ℕ). x % 256) (div-mul-add b (256 ^ n) r hr) ∙ mod-eq_of_lt hb in
    let rest : bytes_high_first n (b * 256 ^ n + r) ≡ bytes_high_first n r = ap (λ (e : ℕ). bytes_high_first n (b * 256 ^ e + r)) (omega arith) ∙ bytes_high_first-above n 0 b r in
    rw (top, rest) refl

-- what was read is written again
drop-big_from : (n i : ℕ) (bytes : List ℕ) → IsBytes bytes → i + n ≤ length bytes → drop i bytes ≡ bytes_high_first n (big_from i n bytes) ++ drop (i + n) bytes
drop-big_from zero i bytes h room = let e : i + 0 ≡ i = omega arith in rw e refl
drop-big_from (suc n) i bytes h room =
    let here : i < length bytes = omega arith in
    let rest = drop-big_from n (suc i) bytes h (omega arith) in
    let lt = big_from-lt (suc i) n bytes h.below in
    let written = bytes_high_first-top n (slice_index bytes i) (big_from (suc i) n bytes) (h.below i) lt in
    let next : i + 1 ≡ suc i = omega arith in
    let place : suc i + n ≡ i + suc n = omega arith in
    let b = slice_index bytes i in
    let number = big_from (suc i) n bytes in
    drop_more bytes i 0 here
    ∙ ap (λ (k : ℕ). b ∷ drop k bytes) next
    ∙ ap (λ (t : List ℕ). b ∷ t) rest
    ∙ ap (λ (k : ℕ). b ∷ (bytes_high_first n number ++ drop k bytes)) place
    ∙ ap (λ (t : List ℕ). t ++ drop (i + suc n) bytes) (sym written)

pub drop-number_at : (n offset : ℕ) (bytes : List ℕ) → IsBytes bytes → offset + n ≤ length bytes → drop offset bytes ≡ number_bytes n (number_at offset n bytes) ++ drop (offset + n) bytes
unfolding number_at number_bytes
drop-number_at n offset bytes h room = drop-big_from n offset bytes h room
