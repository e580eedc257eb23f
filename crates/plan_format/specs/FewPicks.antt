-- How much evidence picks can have.
use Rattle.std.specs.Prelude.{ℕ, ◌+◌, ◌*◌, ◌≤◌, min, List, [], ◌∷◌, length}
use Rattle.certificates.specs.declared.OrderedPick.{OrderedPick}
use Rattle.plan_format.specs.declared.picks.PickTable.{PickTable}

-- how many picks may stand up to the last, counted by round and class
abbrev pub rank_of : List OrderedPick → ℕ
rank_of [] = 0
rank_of (p ∷ []) = p.round * 8192 + min p.class 8191 + 1
rank_of (p ∷ q ∷ rest) = rank_of (q ∷ rest)

-- there is no more evidence than picks, and no more picks than 4200 rounds of 8192 classes have
pub record HasFew (t : PickTable) : Type 0 where
  pub uses : length t.uses ≤ rank_of t.picks
  pub picks : rank_of t.picks ≤ 34414592
