-- The first of a table's changes insert no more than all.
use Rattle.std.proofs.Common.{ℕ, zero, suc, ◌≤◌, List, [], ◌∷◌, length, take, arith}
use Rattle.std.proofs.lemmas.List.{length-append}
use Rattle.flow_rules.specs.declared.rules.Rule.{Rule}
use Rattle.update_model.specs.declared.Change.{Change}
use Rattle.update_model.specs.declared.Change.TheVariants.{Insert, Delete, Replace}
use Rattle.round_mix.specs.Marks.{inserted_rules, all_rules}

inserted_few : (n : ℕ) (cs : List Change) → length (inserted_rules (take n cs)) ≤ length (inserted_rules cs)
inserted_few zero cs = omega arith
inserted_few (suc n) [] = omega arith
inserted_few (suc n) (Insert s r ∷ cs) = let rest = inserted_few n cs in omega arith
inserted_few (suc n) (Delete s r ∷ cs) = inserted_few n cs
inserted_few (suc n) (Replace s r ∷ cs) = inserted_few n cs

pub leading_few : (table : List Rule) (n : ℕ) (cs : List Change) → length (all_rules table (take n cs)) ≤ length (all_rules table cs)
leading_few table n cs =
    let few = inserted_few n cs in
    let one = length-append table (inserted_rules (take n cs)) in
    let two = length-append table (inserted_rules cs) in
    omega arith
