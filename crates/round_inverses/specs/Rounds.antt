-- Rounds one after the other, and those that take them back.
use Rattle.std.specs.Prelude.{List, [], ◌∷◌}
use Rattle.flow_rules.specs.declared.rules.Rule.{Rule}
use Rattle.update_model.specs.Changes.{tables_after, IsGoodRound}
use Rattle.update_model.specs.declared.Change.{Change}
use Rattle.law_two_way_runs.specs.Inverse.{inverse_round}

-- each round is good over the tables that the rounds before it leave
abbrev pub AreGoodFrom : List (List Rule) → List (List Change) → Type 0
AreGoodFrom tables [] = Unit {0}
AreGoodFrom tables (round ∷ rounds) = IsGoodRound tables round × AreGoodFrom (tables_after round tables) rounds

-- for each round its inverse over the tables before it
abbrev pub inverse_rounds : List (List Rule) → List (List Change) → List (List Change)
inverse_rounds tables [] = []
inverse_rounds tables (round ∷ rounds) = inverse_round tables round ∷ inverse_rounds (tables_after round tables) rounds
