-- Numbers in slots, of which each leads back to the one before it in its slot.
use Rattle.std.specs.Prelude.{◌≡◌, ◌≢◌, ℕ, ◌-◌, ◌<◌, ◌≤◌, List, length, slice_index_or}

-- Things in a row, of which the list has the slot of each. A slot names the last thing that is in it, by its number from 1, and 0 where there is none;
-- so does each thing the one before it in its slot.
pub record IsChained (slot_of slots before : List ℕ) : Type 0 where
  pub long : length before ≡ length slot_of
  pub last : (n i : ℕ) → slice_index_or slots n 0 ≤ i → i < length slot_of → slice_index_or slot_of i 0 ≢ n
  pub own : (n : ℕ) → 0 < slice_index_or slots n 0 → slice_index_or slot_of (slice_index_or slots n 0 - 1) 0 ≡ n
  pub earlier : (i : ℕ) → i < length slot_of → slice_index_or before i 0 ≤ i
  pub between : (i j : ℕ) → i < length slot_of → slice_index_or before i 0 ≤ j → j < i → slice_index_or slot_of j 0 ≢ slice_index_or slot_of i 0
  pub same : (i : ℕ) → i < length slot_of → 0 < slice_index_or before i 0 → slice_index_or slot_of (slice_index_or before i 0 - 1) 0 ≡ slice_index_or slot_of i 0
