use Rattle.std.proofs.Common.{◌≡◌, ℕ, ◌<◌, get_or, vec_capacity, IsPermutation}
use Rattle.round_mix.specs.Kinds.{AreKindsApart}
use Rattle.round_mix.specs.declared.kinds.Pair.{Pair}
use Rattle.round_mix.proofs.kinds.tell_pairs.Given as goal

abbrev pub invariant-loop-pair : goal.invariant-loop-pair
invariant-loop-pair l =
    IsPermutation l.initial.marks.items l.marks.items
    × ((j : ℕ) (d : Pair) → j < l.pair-index → AreKindsApart (get_or l.pairs j d) l.marks.items)
    × (vec_capacity l.marks ≡ vec_capacity l.initial.marks)
