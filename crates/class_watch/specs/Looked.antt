-- The next of the atoms that are marked.
use Rattle.std.specs.Prelude.{◌≡◌, ℕ, ◌%◌, ◌<◌, ◌≤◌, Bool, true, false, List, length, slice_get, Some}
use Rattle.check_reasons.specs.AtomMarks.{is_marked}

-- this atom or a later one is the first marked one from an atom on, or all are passed and it is past the end
pub record IsNext (marks : List Bool) (atom next : ℕ) : Type 0 where
  pub from : atom ≤ next
  pub passed : (a : ℕ) → atom ≤ a → a < next → is_marked marks a ≡ false
  pub marked : next < length marks → is_marked marks next ≡ true

-- of each atom, of which there are 1 to 8192, the next marked one
pub record AreNext (marks : List Bool) (next : List ℕ) : Type 0 where
  pub some : 0 < length marks
  pub few : length marks ≤ 8192
  pub count : length next ≡ length marks
  pub each : (atom n : ℕ) → slice_get next atom ≡ Some n → (n ≤ length marks) × IsNext marks atom n

-- the first class number from one on whose atom, what the number leaves by the atoms, is marked
pub record IsNextNumber (marks : List Bool) (number next : ℕ) : Type 0 where
  pub from : number ≤ next
  pub passed : (n : ℕ) → number ≤ n → n < next → is_marked marks (n % length marks) ≡ false
  pub marked : is_marked marks (next % length marks) ≡ true
