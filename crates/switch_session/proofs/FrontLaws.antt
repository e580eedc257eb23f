-- What stands at the front of bytes stays there when more come.
use Rattle.std.proofs.Common.{◌≡◌, ℕ, ◌+◌, ◌<◌, ◌≤◌, Bool, true, false, cond, eqb, ltb, List, [], ◌∷◌, ◌++◌, length, refl, sym, ap, ◌∙◌, subst, ◌⊎◌, inl, inr, length-append, arith}
use Rattle.std.proofs.lemmas.Bool.{eqb-true, ltb-true, ltb-false, lt-ltb, le-ltb, cases_Bool, cond-true, cond-false}
use Rattle.std.proofs.lemmas.List.{take_at}
use Rattle.byteorder.specs.Endian.{big_from}
use Rattle.byteorder.specs.Numbers.{big_from-take}
use Rattle.openflow10.specs.Layout.{number_at}
use Rattle.switch_session.specs.Fronts.{version_in, type_in, length_in, is_wrong_version, is_wrong_length, front_of}
use Rattle.switch_session.specs.declared.Cause.{Cause}
use Rattle.switch_session.specs.declared.Cause.TheVariants as cause
use Rattle.switch_session.specs.declared.fronts.Front.{Front}
use Rattle.switch_session.specs.declared.fronts.Front.TheVariants.{Short, Fault, Message}

-- a number in the first bytes
pub number_at-front : (o n : ℕ) (x y : List ℕ) → o + n ≤ length x → number_at o n (x ++ y) ≡ number_at o n x
unfolding number_at
number_at-front o n x y h = sym (big_from-take o n (length x) (x ++ y) h) ∙ ap (big_from o n) (take_at x y (length x) refl)

-- ---- the three tests of a header

abbrev chosen : Bool → Bool → Bool → ℕ → Front
chosen version wrong short n = cond version (Fault cause.Version) (cond wrong (Fault cause.Length) (cond short Short (Message n)))

chosen-fault : (a b s t : Bool) (n : ℕ) (c : Cause) → chosen a b s n ≡ Fault c → chosen a b t n ≡ Fault c
chosen-fault true b s t n c e = e
chosen-fault false true s t n c e = e
chosen-fault false false true t n c e = absurd (let f : Short ≡ Fault c = e in cc)
chosen-fault false false false t n c e = absurd (let f : Message n ≡ Fault c = e in cc)

chosen-message : (a b s : Bool) (n m : ℕ) → chosen a b s n ≡ Message m → (a ≡ false) × (b ≡ false) × (s ≡ false) × (n ≡ m)
chosen-message true b s n m e = absurd (let f : Fault cause.Version ≡ Message m = e in cc)
chosen-message false true s n m e = absurd (let f : Fault cause.Length ≡ Message m = e in cc)
chosen-message false false true n m e = absurd (let f : Short ≡ Message m = e in cc)
chosen-message false false false n m e = (refl, refl, refl, (let f : Message n ≡ Message m = e in cc))

chosen-short : (a b s : Bool) (n : ℕ) → chosen a b s n ≡ Short → s ≡ true
chosen-short true b s n e = absurd (let f : Fault cause.Version ≡ Short = e in cc)
chosen-short false true s n e = absurd (let f : Fault cause.Length ≡ Short = e in cc)
chosen-short false false true n e = refl
chosen-short false false false n e = absurd (let f : Message n ≡ Short = e in cc)

-- ---- with the number of bytes

abbrev chosen_of : List ℕ → Front
chosen_of bytes = chosen (is_wrong_version (version_in bytes) (type_in bytes)) (is_wrong_length (type_in bytes) (length_in bytes)) (ltb (length bytes) (length_in bytes)) (length_in bytes)

front_below : (bytes : List ℕ) → length bytes < 8 → front_of bytes ≡ Short
unfolding front_of
front_below bytes lt = cond-true (ltb (length bytes) 8) Short (chosen_of bytes) (lt-ltb (length bytes) 8 lt)

front_above : (bytes : List ℕ) → 8 ≤ length bytes → front_of bytes ≡ chosen_of bytes
unfolding front_of
front_above bytes le = cond-false (ltb (length bytes) 8) Short (chosen_of bytes) (le-ltb (length bytes) 8 le)

-- a header has come, or not
header_come : (bytes : List ℕ) → (length bytes < 8) ⊎ (8 ≤ length bytes)
header_come bytes = elim (cases_Bool (ltb (length bytes) 8)) [ inl e ↦ inl (ltb-true (length bytes) 8 e) | inr e ↦ inr (ltb-false (length bytes) 8 e) ]

pub has_header : (bytes : List ℕ) → (front_of bytes ≡ Short → ⊥) → 8 ≤ length bytes
has_header bytes some = elim (header_come bytes) [ inl lt ↦ absurd (some (front_below bytes lt)) | inr le ↦ le ]

-- a whole message stands at the front
pub record HasMessage (bytes : List ℕ) (n : ℕ) : Type 0 where
  pub header : 8 ≤ length bytes
  pub version : is_wrong_version (version_in bytes) (type_in bytes) ≡ false
  pub right : is_wrong_length (type_in bytes) (length_in bytes) ≡ false
  pub said : length_in bytes ≡ n
  pub whole : n ≤ length bytes

pub has_message : (bytes : List ℕ) (n : ℕ) → front_of bytes ≡ Message n → HasMessage bytes n
has_message bytes n e =
    let header = has_header bytes (λ s. let f : Short ≡ Message n = sym s ∙ e in cc) in
    let (a, b, s, same) = chosen-message (is_wrong_version (version_in bytes) (type_in bytes)) (is_wrong_length (type_in bytes) (length_in bytes)) (ltb (length bytes) (length_in bytes)) (length_in bytes) n (sym (front_above bytes header) ∙ e) in
    let whole = ltb-false (length bytes) (length_in bytes) s in
    record { header = header; version = a; right = b; said = same; whole = omega arith }

chosen_is : (a b s : Bool) (n m : ℕ) → a ≡ false → b ≡ false → s ≡ false → n ≡ m → chosen a b s n ≡ Message m
chosen_is a b s n m ea eb es en = rw (ea, eb, es, en) refl

pub is_message : (bytes : List ℕ) (n : ℕ) → HasMessage bytes n → front_of bytes ≡ Message n
is_message bytes n h =
    let said = h.said in
    let whole = h.whole in
    front_above bytes h.header
    ∙ chosen_is (is_wrong_version (version_in bytes) (type_in bytes)) (is_wrong_length (type_in bytes) (length_in bytes)) (ltb (length bytes) (length_in bytes)) (length_in bytes) n h.version h.right
    (le-ltb (length bytes) (length_in bytes) (omega arith)) h.said

-- ---- more bytes come

module _ (x y : List ℕ) (header : 8 ≤ length x) where
  same_version : version_in (x ++ y) ≡ version_in x
  same_version = number_at-front 0 1 x y (omega arith)

  same_type : type_in (x ++ y) ≡ type_in x
  same_type = number_at-front 1 1 x y (omega arith)

  same_length : length_in (x ++ y) ≡ length_in x
  same_length = number_at-front 2 2 x y (omega arith)

  same_chosen : (c : Cause) → chosen_of x ≡ Fault c → chosen_of (x ++ y) ≡ Fault c
  same_chosen c e =
      let Chosen : ℕ → ℕ → ℕ → Type 0 = λ v t l. chosen (is_wrong_version v t) (is_wrong_length t l) (ltb (length (x ++ y)) l) l ≡ Fault c in
      subst (λ v. Chosen v (type_in (x ++ y)) (length_in (x ++ y))) (sym same_version)
      (subst (λ t. Chosen (version_in x) t (length_in (x ++ y))) (sym same_type)
      (subst (λ l. Chosen (version_in x) (type_in x) l) (sym same_length)
      (chosen-fault (is_wrong_version (version_in x) (type_in x)) (is_wrong_length (type_in x) (length_in x)) (ltb (length x) (length_in x)) (ltb (length (x ++ y)) (length_in x)) (length_in x) c e)))

pub fault_grows : (x y : List ℕ) (c : Cause) → front_of x ≡ Fault c → front_of (x ++ y) ≡ Fault c
fault_grows x y c e =
    let header = has_header x (λ s. let f : Short ≡ Fault c = sym s ∙ e in cc) in
    let count = length-append x y in
    front_above (x ++ y) (omega arith) ∙ same_chosen x y header c (sym (front_above x header) ∙ e)

pub message_grows : (x y : List ℕ) (n : ℕ) → front_of x ≡ Message n → front_of (x ++ y) ≡ Message n
message_grows x y n e =
    let h = has_message x n e in
    let count = length-append x y in
    let header = h.header in
    let whole = h.whole in
    let v = same_version x y header in
    let t = same_type x y header in
    let l = same_length x y header in
    is_message (x ++ y) n (record {
      header = omega arith;
      version = ap (λ k. is_wrong_version k (type_in (x ++ y))) v ∙ ap (λ k. is_wrong_version (version_in x) k) t ∙ h.version;
      right = ap (λ k. is_wrong_length k (length_in (x ++ y))) t ∙ ap (λ k. is_wrong_length (type_in x) k) l ∙ h.right;
      said = l ∙ h.said;
      whole = omega arith;
    })

-- ---- lengths

-- a length that isn't wrong is at least a header's
pub at_least_header : (type said : ℕ) → is_wrong_length type said ≡ false → 8 ≤ said
at_least_header type said e =
    elim (cases_Bool (ltb said 8)) [
      | inl wrong ↦ absurd (let f : is_wrong_length type said ≡ true = rw wrong refl in cc)
      | inr right ↦ ltb-false said 8 right
    ]

-- a version that isn't wrong is 1, in a message of another type than HELLO
pub right_version : (version type : ℕ) → is_wrong_version version type ≡ false → type ≡ 2 → version ≡ 1
right_version version type e is =
    let here : is_wrong_version version 2 ≡ false = subst (λ t. is_wrong_version version t ≡ false) is e in
    elim (cases_Bool (eqb version 1)) [
      | inl one ↦ eqb-true version 1 one
      | inr other ↦ elim (cases_Bool (eqb version 0)) [
        | inl zero ↦ absurd (let f : is_wrong_version version 2 ≡ true = rw zero refl in cc)
        | inr some ↦ absurd (let f : is_wrong_version version 2 ≡ true = rw (some, other) refl in cc)
      ]
    ]

-- an error's is at least 12
pub at_least_error : (type said : ℕ) → is_wrong_length type said ≡ false → type ≡ 1 → 12 ≤ said
at_least_error type said e is =
    let here : is_wrong_length 1 said ≡ false = subst (λ t. is_wrong_length t said ≡ false) is e in
    let long = at_least_header type said e in
    let first : ltb said 8 ≡ false = le-ltb said 8 long in
    elim (cases_Bool (ltb said 12)) [
      | inl wrong ↦ absurd (let f : is_wrong_length 1 said ≡ true = rw (first, wrong) refl in cc)
      | inr right ↦ ltb-false said 12 right
    ]

-- where too little stood and one byte more makes a message whole, it is the last byte of the message
pub message_ends : (u : List ℕ) (b n : ℕ) → front_of u ≡ Short → front_of (u ++ b ∷ []) ≡ Message n → length (u ++ b ∷ []) ≡ n
message_ends u b n short e =
    let h = has_message (u ++ b ∷ []) n e in
    let count = length-append u (b ∷ []) in
    let whole = h.whole in
    let said = h.said in
    elim (header_come u) [
      | inl lt ↦ (let long = at_least_header (type_in (u ++ b ∷ [])) (length_in (u ++ b ∷ [])) h.right in omega arith)
      | inr header ↦ (
          let above = chosen-short (is_wrong_version (version_in u) (type_in u)) (is_wrong_length (type_in u) (length_in u)) (ltb (length u) (length_in u)) (length_in u) (sym (front_above u header) ∙ short) in
          let less = ltb-true (length u) (length_in u) above in
          let same = same_length u (b ∷ []) header in
          omega arith)
    ]
