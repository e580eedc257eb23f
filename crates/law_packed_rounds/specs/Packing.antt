-- Packed rounds: each takes, in the order of what remains, every change that can stand in it beside those taken before.
use Rattle.std.specs.Prelude.{◌≡◌, ◌≢◌, ◌⊎◌, List, [], ◌∷◌, ◌++◌}
use Rattle.flow_rules.specs.declared.rules.Rule.{Rule}
use Rattle.update_model.specs.Changes.{tables_after}
use Rattle.update_model.specs.Remaining.{remaining_changes}
use Rattle.update_model.specs.declared.Change.{Change}
use Rattle.certificates.specs.Rounds.{CanBeRound}
use Rattle.table_difference.specs.Targets.{Target}

-- going through a list, each change is taken with which what was taken so far can stand, and the others are left
abbrev pub IsFilled : (List Change → Type 0) → List Change → List Change → List Change → Type 0
IsFilled can taken [] round = round ≡ taken
IsFilled can taken (c ∷ rest) round =
    (can (taken ++ c ∷ []) × IsFilled can (taken ++ c ∷ []) rest round) ⊎ ((¬ can (taken ++ c ∷ [])) × IsFilled can taken rest round)

-- the changes can be a round at the tables
abbrev pub CanStand : Target → List (List Rule) → List Change → Type 0
CanStand to tables changes = CanBeRound to.net to.demands to.classes tables changes

-- the packed round at the tables
abbrev pub IsPackedRound : Target → List (List Rule) → List Change → Type 0
IsPackedRound to tables round = IsFilled (CanStand to tables) [] (remaining_changes tables to.new) round

-- each round is the packed round of the tables before it, and isn't empty
abbrev pub ArePacked : Target → List (List Rule) → List (List Change) → Type 0
ArePacked to tables [] = Unit {0}
ArePacked to tables (round ∷ rounds) = IsPackedRound to tables round × (round ≢ []) × ArePacked to (tables_after round tables) rounds

-- all tables after these rounds
abbrev pub tables_past : List (List Change) → List (List Rule) → List (List Rule)
tables_past [] tables = tables
tables_past (round ∷ rounds) tables = tables_past rounds (tables_after round tables)

-- packing ends ordered with these rounds: none of the changes remains after them
pub record PacksOrdered (to : Target) (old : List (List Rule)) (rounds : List (List Change)) : Type 0 where
  pub packed : ArePacked to old rounds
  pub none_remains : remaining_changes (tables_past rounds old) to.new ≡ []

-- packing ends stuck after these rounds: some changes remain, and none of them can stand in a round
pub record PacksStuck (to : Target) (old : List (List Rule)) (rounds : List (List Change)) : Type 0 where
  pub packed : ArePacked to old rounds
  pub some_remain : remaining_changes (tables_past rounds old) to.new ≢ []
  pub none_stands : IsPackedRound to (tables_past rounds old) []
