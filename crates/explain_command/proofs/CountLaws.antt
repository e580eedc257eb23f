-- No round of few changes is too long for the numbers of 32 bits.
use Rattle.std.proofs.Common.{◌^◌, ◌≤◌, List, [], ◌∷◌, length, arith}
use Rattle.std.specs.Prelude.{sum_by}
use Rattle.std.specs.List.{AllByRecursion}
use Rattle.std.proofs.lemmas.List.Sums.{sum_by-cons}
use Rattle.update_model.specs.declared.Change.{Change}

pub each_short : (rounds : List (List Change)) → sum_by length rounds ≤ 2200000 → AllByRecursion (λ round. length round ≤ 2 ^ 32) rounds
each_short [] few = tt
each_short (round ∷ rounds) few =
    let sum = sum_by-cons (λ (x : List Change). length x) round rounds in
    (omega arith, each_short rounds (omega arith))
