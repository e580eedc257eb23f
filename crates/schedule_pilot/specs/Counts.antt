-- A tree of counts over flags: rows of numbers, each with the sums of neighbours in the row below it.
use Rattle.std.specs.Prelude.{◌≡◌, ℕ, zero, suc, ◌+◌, ◌-◌, ◌/◌, ◌<◌, ◌≤◌, Bool, cond, List, [], ◌∷◌, length, map, slice_index, slice_index_or, slice_set}

-- 1 for a flag that is on, otherwise 0
abbrev pub one_if_on : Bool → ℕ
one_if_on on = cond on 1 0

-- the sums of neighbours: of the first two numbers, of the next two, and so on; a last one by itself stays
abbrev pub pair_sums : List ℕ → List ℕ
pair_sums [] = []
pair_sums (a ∷ []) = a ∷ []
pair_sums (a ∷ b ∷ row) = (a + b) ∷ pair_sums row

-- rows above a lowest one, each with the sums of neighbours in the row below it
pub record AreSumRows (lowest : List ℕ) (rows : List (List ℕ)) : Type 0 where
  pub some : 1 ≤ length rows
  pub lowest_is : slice_index_or rows 0 [] ≡ lowest
  pub above : (j : ℕ) → suc j < length rows → slice_index_or rows (suc j) [] ≡ pair_sums (slice_index_or rows j [])

-- the last of the rows
abbrev pub last_row : List (List ℕ) → List ℕ
last_row rows = slice_index_or rows (length rows - 1) []

-- rows above the flags, up to one that has at most one number
pub record IsTreeOf (flags : List Bool) (rows : List (List ℕ)) : Type 0 where
  pub rows_are : AreSumRows (map one_if_on flags) rows
  pub top : length (last_row rows) ≤ 1

-- where the way up from a position comes to, so many rows above
abbrev pub position_above : ℕ → ℕ → ℕ
position_above i zero = i
position_above i (suc j) = position_above i j / 2

-- a row whose number at a position is one less
abbrev pub with_one_less : ℕ → List ℕ → List ℕ
with_one_less i row = slice_set row i (slice_index row i - 1)

-- the way up from a position meets no 0
abbrev pub CountsUpFrom : ℕ → List (List ℕ) → Type 0
CountsUpFrom i rows = (j : ℕ) → j < length rows → 1 ≤ slice_index (slice_index_or rows j []) (position_above i j)

-- in the first n rows the number on the way up from a position is one less than before
pub record AreLowered (i n : ℕ) (old new : List (List ℕ)) : Type 0 where
  pub count : length new ≡ length old
  pub below : (j : ℕ) → j < n → slice_index_or new j [] ≡ with_one_less (position_above i j) (slice_index_or old j [])
  pub above : (j : ℕ) → n ≤ j → slice_index_or new j [] ≡ slice_index_or old j []

-- the sum of the numbers before a position
abbrev pub sum_before : List ℕ → ℕ → ℕ
sum_before [] i = 0
sum_before (n ∷ row) zero = 0
sum_before (n ∷ row) (suc i) = n + sum_before row i

-- of all that the numbers of a row count, number k is counted at a position, after `rest` more that are counted there
pub record IsCountedAt (row : List ℕ) (k position rest : ℕ) : Type 0 where
  pub before : sum_before row position + rest ≡ k
  pub here : rest < slice_index row position
