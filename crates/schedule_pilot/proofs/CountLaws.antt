-- Sums of neighbours, and the way up and down through the rows of a tree of counts.
use Rattle.std.proofs.Common.{◌≡◌, ℕ, zero, suc, ◌+◌, ◌-◌, ◌*◌, ◌/◌, ◌%◌, ◌<◌, ◌≤◌, Bool, true, false, List, [], ◌∷◌, ◌++◌, map, length, set, get_or, sum, Vec, Global, refl, sym, ◌∙◌, subst, ap, inl, inr, arith, length-append}
use Rattle.std.specs.Prelude.{slice_get, Some, None}
use Rattle.std.proofs.lemmas.List.{map-set, length-set, get_or_append_left, get_or_push}
use Rattle.std.proofs.lemmas.List.Sums.{sum_by-cons}
use Rattle.std.proofs.lemmas.Bool.{cases_lt}
use Rattle.schedule_pilot.specs.Agendas.{numbers_on}
use Rattle.schedule_pilot.specs.Counts.{one_if_on, pair_sums, AreSumRows, IsTreeOf, last_row, position_above, with_one_less, CountsUpFrom, AreLowered, sum_before, IsCountedAt}

-- twice and half
abbrev double : ℕ → ℕ
double zero = zero
double (suc n) = suc (suc (double n))

double_is : (n : ℕ) → double n ≡ 2 * n
double_is zero = omega arith
double_is (suc n) = let rest = double_is n in omega arith

abbrev half : ℕ → ℕ
half zero = zero
half (suc zero) = zero
half (suc (suc n)) = suc (half n)

half_is : (n : ℕ) → half n ≡ n / 2
half_is zero = omega arith
half_is (suc zero) = omega arith
half_is (suc (suc n)) = let rest = half_is n in omega arith

sum-cons : (n : ℕ) (row : List ℕ) → sum (n ∷ row) ≡ n + sum row
sum-cons n row = sum_by-cons (λ (x : ℕ). x) n row

-- what neighbours add up to
pair_at : (row : List ℕ) (i : ℕ) → get_or (pair_sums row) i 0 ≡ get_or row (double i) 0 + get_or row (suc (double i)) 0
pair_at [] i = omega arith
pair_at (a ∷ []) zero = omega arith
pair_at (a ∷ []) (suc i) = omega arith
pair_at (a ∷ b ∷ row) zero = refl
pair_at (a ∷ b ∷ row) (suc i) = pair_at row i

pub pair_at_twice : (row : List ℕ) (i : ℕ) → get_or (pair_sums row) i 0 ≡ get_or row (2 * i) 0 + get_or row (suc (2 * i)) 0
pair_at_twice row i = subst (λ j. get_or (pair_sums row) i 0 ≡ get_or row j 0 + get_or row (suc j) 0) (double_is i) (pair_at row i)

before_pairs : (row : List ℕ) (i : ℕ) → sum_before (pair_sums row) i ≡ sum_before row (double i)
before_pairs [] i = refl
before_pairs (a ∷ []) zero = refl
before_pairs (a ∷ []) (suc i) = omega arith
before_pairs (a ∷ b ∷ row) zero = refl
before_pairs (a ∷ b ∷ row) (suc i) = let rest = before_pairs row i in omega arith

pub before_twice : (row : List ℕ) (i : ℕ) → sum_before (pair_sums row) i ≡ sum_before row (2 * i)
before_twice row i = before_pairs row i ∙ ap (sum_before row) (double_is i)

-- one number more before a position
pub before_next : (row : List ℕ) (i : ℕ) → sum_before row (suc i) ≡ sum_before row i + get_or row i 0
before_next [] i = refl
before_next (n ∷ []) zero = omega arith
before_next (n ∷ m ∷ row) zero = omega arith
before_next (n ∷ row) (suc i) = let rest = before_next row i in omega arith

none_before : (row : List ℕ) → sum_before row 0 ≡ 0
none_before [] = refl
none_before (n ∷ row) = refl

-- where the sum of two neighbours isn't 0 the first of them stands in the row
twice_within : (row : List ℕ) (i : ℕ) → 0 < get_or (pair_sums row) i 0 → double i < length row
twice_within [] i some = absurd (omega arith)
twice_within (a ∷ []) zero some = omega arith
twice_within (a ∷ []) (suc i) some = absurd (omega arith)
twice_within (a ∷ b ∷ row) zero some = omega arith
twice_within (a ∷ b ∷ row) (suc i) some = let rest = twice_within row i some in omega arith

pub first_within : (row : List ℕ) (i : ℕ) → 0 < get_or (pair_sums row) i 0 → 2 * i < length row
first_within row i some = let less = twice_within row i some in let e = double_is i in omega arith

-- so many sums
pub pair_count : (row : List ℕ) → length (pair_sums row) ≡ length row / 2 + length row % 2
pair_count [] = omega arith
pair_count (a ∷ []) = omega arith
pair_count (a ∷ b ∷ row) = let rest = pair_count row in omega arith

-- they are fewer than two or more numbers, and add up to as much
pub fewer_pairs : (row : List ℕ) → 1 < length row → length (pair_sums row) < length row
fewer_pairs row many = let count = pair_count row in omega arith

pub same_sum : (row : List ℕ) → sum (pair_sums row) ≡ sum row
same_sum [] = refl
same_sum (a ∷ []) = refl
same_sum (a ∷ b ∷ row) =
    let rest = same_sum row in
    let sums = sum-cons (a + b) (pair_sums row) in
    let first = sum-cons a (b ∷ row) in
    let second = sum-cons b row in
    omega arith

-- two numbers are no more than all
pub two_fit : (row : List ℕ) (i : ℕ) → get_or row i 0 + get_or row (suc i) 0 ≤ sum row
two_fit [] i = omega arith
two_fit (a ∷ []) zero = let first = sum-cons a [] in omega arith
two_fit (a ∷ b ∷ row) zero = let first = sum-cons a (b ∷ row) in let second = sum-cons b row in omega arith
two_fit (a ∷ row) (suc i) = let rest = two_fit row i in let first = sum-cons a row in omega arith

-- a row of one number
pub one_sum : (row : List ℕ) → length row ≤ 1 → sum row ≡ get_or row 0 0
one_sum [] few = refl
one_sum (a ∷ []) few = let first = sum-cons a [] in omega arith
one_sum (a ∷ b ∷ row) few = absurd (omega arith)

-- one less in a row is one less in the sums
less_halved : (row : List ℕ) (i : ℕ) → 1 ≤ get_or row i 0 → pair_sums (with_one_less i row) ≡ with_one_less (half i) (pair_sums row)
less_halved [] i some = absurd (omega arith)
less_halved (a ∷ []) zero some = refl
less_halved (a ∷ []) (suc i) some = absurd (omega arith)
less_halved (a ∷ b ∷ row) zero some = let e : a - 1 + b ≡ a + b - 1 = omega arith in ap (λ n. n ∷ pair_sums row) e
less_halved (a ∷ b ∷ row) (suc zero) some = let e : a + (b - 1) ≡ a + b - 1 = omega arith in ap (λ n. n ∷ pair_sums row) e
less_halved (a ∷ b ∷ row) (suc (suc i)) some = ap (λ l. (a + b) ∷ l) (less_halved row i some)

pub less_above : (row : List ℕ) (i : ℕ) → 1 ≤ get_or row i 0 → pair_sums (with_one_less i row) ≡ with_one_less (i / 2) (pair_sums row)
less_above row i some = less_halved row i some ∙ ap (λ j. with_one_less j (pair_sums row)) (half_is i)

covered : (row : List ℕ) (i : ℕ) → get_or row i 0 ≤ get_or (pair_sums row) (half i) 0
covered [] i = omega arith
covered (a ∷ []) zero = omega arith
covered (a ∷ []) (suc i) = omega arith
covered (a ∷ b ∷ row) zero = omega arith
covered (a ∷ b ∷ row) (suc zero) = omega arith
covered (a ∷ b ∷ row) (suc (suc i)) = covered row i

-- the way up from a number that isn't 0 meets none
pub counts_up : (lowest : List ℕ) (rows : List (List ℕ)) (i : ℕ) → AreSumRows lowest rows → 1 ≤ get_or lowest i 0 → CountsUpFrom i rows
counts_up lowest rows i are some zero less = subst (λ (row : List ℕ). 1 ≤ get_or row i 0) (sym are.lowest_is) some
counts_up lowest rows i are some (suc j) less =
    let here : 1 ≤ get_or (get_or rows j []) (position_above i j) 0 = counts_up lowest rows i are some j (omega arith) in
    let over : get_or (get_or rows j []) (position_above i j) 0 ≤ get_or (pair_sums (get_or rows j [])) (position_above i j / 2) 0 =
    subst (λ p. get_or (get_or rows j []) (position_above i j) 0 ≤ get_or (pair_sums (get_or rows j [])) p 0) (half_is (position_above i j)) (covered (get_or rows j []) (position_above i j)) in
    let there : 1 ≤ get_or (pair_sums (get_or rows j [])) (position_above i j / 2) 0 = omega arith in
    subst (λ (row : List ℕ). 1 ≤ get_or row (position_above i j / 2) 0) (sym (are.above j less)) there

-- one row more
pub rows_next : (lowest : List ℕ) (rows next : List (List ℕ)) (row : List ℕ) → AreSumRows lowest rows → row ≡ pair_sums (last_row rows) → next ≡ rows ++ row ∷ [] → AreSumRows lowest next
rows_next lowest rows next row are is next_is = subst (AreSumRows lowest) (sym next_is) (record {
  some = let count = length-append rows (row ∷ []) in let some = are.some in omega arith;
  lowest_is = let some : 0 < length rows = are.some in get_or_append_left rows (row ∷ []) [] 0 some ∙ are.lowest_is;
  above = rise;
})
  where
    rise : (j : ℕ) → suc j < length (rows ++ row ∷ []) → get_or (rows ++ row ∷ []) (suc j) [] ≡ pair_sums (get_or (rows ++ row ∷ []) j [])
    rise j less =
        let count = length-append rows (row ∷ []) in
        let here : j < length rows = omega arith in
        elim (cases_lt (suc j) (length rows)) [
          | inl inside ↦ get_or_append_left rows (row ∷ []) [] (suc j) inside ∙ are.above j inside ∙ ap pair_sums (sym (get_or_append_left rows (row ∷ []) [] j here))
          | inr outside ↦
              let last : length rows ≡ suc j = omega arith in
              let before : length rows - 1 ≡ j = omega arith in
              get_or_push rows row [] (suc j) last ∙ is ∙ ap pair_sums (ap (λ n. get_or rows n []) before ∙ sym (get_or_append_left rows (row ∷ []) [] j here))
        ]

-- the top of one row more
pub top_next : (rows next : List (List ℕ)) (row : List ℕ) → next ≡ rows ++ row ∷ [] → last_row next ≡ row
top_next rows next row is =
    ap last_row is ∙ (let count : length rows ≡ length (rows ++ row ∷ []) - 1 = (let l = length-append rows (row ∷ []) in omega arith) in get_or_push rows row [] (length (rows ++ row ∷ []) - 1) count)

-- all rows add up to the same
pub row_sum : (lowest : List ℕ) (rows : List (List ℕ)) (j : ℕ) → AreSumRows lowest rows → j < length rows → sum (get_or rows j []) ≡ sum lowest
row_sum lowest rows zero are less = ap (λ (row : List ℕ). sum row) are.lowest_is
row_sum lowest rows (suc j) are less =
    ap (λ (row : List ℕ). sum row) (are.above j less) ∙ same_sum (get_or rows j []) ∙ row_sum lowest rows j are (omega arith)

pub top_sum : (lowest : List ℕ) (rows : List (List ℕ)) → AreSumRows lowest rows → sum (last_row rows) ≡ sum lowest
top_sum lowest rows are = let some = are.some in row_sum lowest rows (length rows - 1) are (omega arith)

-- the flags that are on
pub sum_ones : (n : ℕ) (flags : List Bool) → sum (map one_if_on flags) ≡ length (numbers_on n flags)
sum_ones n [] = refl
sum_ones n (true ∷ flags) = let rest = sum_ones (suc n) flags in let first = sum-cons 1 (map one_if_on flags) in omega arith
sum_ones n (false ∷ flags) = let rest = sum_ones (suc n) flags in let first = sum-cons 0 (map one_if_on flags) in omega arith

pub few_on : (n : ℕ) (flags : List Bool) → length (numbers_on n flags) ≤ length flags
few_on n [] = omega arith
few_on n (true ∷ flags) = let rest = few_on (suc n) flags in omega arith
few_on n (false ∷ flags) = let rest = few_on (suc n) flags in omega arith

pub one_on : (flags : List Bool) (i : ℕ) → slice_get flags i ≡ Some true → get_or (map one_if_on flags) i 0 ≡ 1
one_on [] i on = absurd (let f : None ≡ Some true = on in cc)
one_on (b ∷ flags) zero on = let f : Some b ≡ Some true = on in let g : b ≡ true = cc in ap one_if_on g
one_on (b ∷ flags) (suc i) on = one_on flags i on

-- where the k-th of the flags that are on stands
kth_from : (n : ℕ) (flags : List Bool) (k i rest : ℕ) → sum_before (map one_if_on flags) i + rest ≡ k → rest < get_or (map one_if_on flags) i 0 → slice_get (numbers_on n flags) k ≡ Some (n + i)
kth_from n [] k i rest before here = absurd (omega arith)
kth_from n (true ∷ flags) zero zero rest before here = let e : n ≡ n + 0 = omega arith in ap (λ m. Some m) e
kth_from n (true ∷ flags) (suc k) zero rest before here = absurd (omega arith)
kth_from n (false ∷ flags) k zero rest before here = absurd (omega arith)
kth_from n (true ∷ flags) zero (suc i) rest before here = absurd (omega arith)
kth_from n (true ∷ flags) (suc k) (suc i) rest before here =
    let e : suc n + i ≡ n + suc i = omega arith in
    let less : sum_before (map one_if_on flags) i + rest ≡ k = omega arith in
    kth_from (suc n) flags k i rest less here ∙ ap (λ m. Some m) e
kth_from n (false ∷ flags) k (suc i) rest before here =
    let e : suc n + i ≡ n + suc i = omega arith in
    let less : sum_before (map one_if_on flags) i + rest ≡ k = omega arith in
    kth_from (suc n) flags k i rest less here ∙ ap (λ m. Some m) e

pub kth_is : (flags : List Bool) (k i rest : ℕ) → IsCountedAt (map one_if_on flags) k i rest → slice_get (numbers_on 0 flags) k ≡ Some i
kth_is flags k i rest at = let e : 0 + i ≡ i = omega arith in kth_from 0 flags k i rest at.before at.here ∙ ap (λ m. Some m) e

-- what the top of a tree counts
pub top_is : (flags : List Bool) (rows : List (List ℕ)) → IsTreeOf flags rows → get_or (last_row rows) 0 0 ≡ length (numbers_on 0 flags)
top_is flags rows tree = sym (one_sum (last_row rows) tree.top) ∙ top_sum (map one_if_on flags) rows tree.rows_are ∙ sum_ones 0 flags

-- a whole row of one number counts all
pub top_counts : (row : List ℕ) (k : ℕ) → length row ≤ 1 → k < sum row → IsCountedAt row k 0 k
top_counts row k few less = record {
  before = let none = none_before row in omega arith;
  here = let one = one_sum row few in omega arith;
}

-- one row down, to the first of two neighbours or to the second
pub down_first : (row : List ℕ) (k i rest at : ℕ) → at ≡ 2 * i → rest < get_or row at 0 → IsCountedAt (pair_sums row) k i rest → IsCountedAt row k at rest
down_first row k i rest at is less h = record {
  before = let here : sum_before (pair_sums row) i ≡ sum_before row at = before_twice row i ∙ ap (sum_before row) (sym is) in let before = h.before in omega arith;
  here = less;
}

pub down_second : (row : List ℕ) (k i rest at left next : ℕ) → at ≡ 2 * i → get_or row at 0 ≤ rest → next ≡ suc at → left ≡ rest - get_or row at 0 → IsCountedAt (pair_sums row) k i rest → IsCountedAt row k next left
down_second row k i rest at left next is more next_is left_is h = subst (λ p. IsCountedAt row k p left) (sym next_is) (record {
  before =
      let here : sum_before (pair_sums row) i ≡ sum_before row at = before_twice row i ∙ ap (sum_before row) (sym is) in
      let step = before_next row at in
      let before = h.before in
      omega arith;
  here =
      let pair : get_or (pair_sums row) i 0 ≡ get_or row at 0 + get_or row (suc at) 0 =
      subst (λ j. get_or (pair_sums row) i 0 ≡ get_or row j 0 + get_or row (suc j) 0) (sym is) (pair_at_twice row i) in
      let inside = h.here in
      omega arith;
})

-- the rows after a flag is turned off
pub way_up : (flags : List Bool) (i : ℕ) → slice_get flags i ≡ Some true → (rows : List (List ℕ)) → IsTreeOf flags rows → CountsUpFrom i rows
way_up flags i on rows tree = counts_up (map one_if_on flags) rows i tree.rows_are (let one = one_on flags i on in omega arith)

module _ (flags : List Bool) (i : ℕ) (on : slice_get flags i ≡ Some true) (old new : List (List ℕ)) (tree : IsTreeOf flags old) (lowered : AreLowered i (length old) old new) where
  pub turned_off : IsTreeOf (set flags i false) new
  turned_off = record {
    rows_are = record {
      some = let count = lowered.count in let some = tree.rows_are.some in omega arith;
      lowest_is =
          lowered.below 0 tree.rows_are.some ∙ ap (with_one_less i) tree.rows_are.lowest_is
          ∙ ap (λ n. set (map one_if_on flags) i (n - 1)) (one_on flags i on) ∙ sym (map-set one_if_on flags i false);
      above = λ j less.
          let count = lowered.count in
          let inside : suc j < length old = omega arith in
          let under : j < length old = omega arith in
          lowered.below (suc j) inside ∙ ap (with_one_less (position_above i j / 2)) (tree.rows_are.above j inside)
          ∙ sym (less_above (get_or old j []) (position_above i j) (way_up flags i on old tree j under)) ∙ ap pair_sums (sym (lowered.below j under));
    };
    top =
        let count = lowered.count in
        let some = tree.rows_are.some in
        let last : length old - 1 < length old = omega arith in
        let there : last_row new ≡ with_one_less (position_above i (length old - 1)) (last_row old) = ap (λ n. get_or new (n - 1) []) count ∙ lowered.below (length old - 1) last in
        let same : length (last_row new) ≡ length (last_row old) = ap (λ (row : List ℕ). length row) there ∙ length-set (last_row old) (position_above i (length old - 1)) _ in
        let top = tree.top in
        omega arith;
  }

-- the rows as they stand in memory, after a number of one of them is lowered
pub row_lowered : (list : List (Vec ℕ Global)) (j i : ℕ) (v d : Vec ℕ Global) → j < length list → v.items ≡ with_one_less i (get_or list j d).items
    → map (λ r. r.items) (set list j v) ≡ set (map (λ r. r.items) list) j (with_one_less i (get_or (map (λ r. r.items) list) j []))
row_lowered [] j i v d less is = absurd (omega arith)
row_lowered (x ∷ list) zero i v d less is = ap (λ l. l ∷ map (λ r. r.items) list) is
row_lowered (x ∷ list) (suc j) i v d less is = ap (λ l. x.items ∷ l) (row_lowered list j i v d (omega arith) is)
