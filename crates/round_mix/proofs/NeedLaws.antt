-- How many entries a table needs while changes of it are made.
use Rattle.std.proofs.Common.{◌≤◌, not, refl, List, length, filter, arith}
use Rattle.std.proofs.lemmas.List.Filters.{length-filter_both}
use Rattle.update_model.specs.declared.Change.{Change}
use Rattle.update_model.specs.Mixtures.{is_insert}

-- the inserts among some changes are no more than these
pub few_inserts : (changes : List Change) → length (filter is_insert changes) ≤ length changes
few_inserts changes = let both = length-filter_both is_insert (λ x. not (is_insert x)) (λ x. refl) changes in omega arith
