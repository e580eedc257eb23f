-- What a place may meet where only the rules at some positions count.
use Rattle.std.specs.Prelude.{◌≡◌, ◌↔◌, ℕ, ◌<◌, Bool, List, [], ◌∷◌, map, filter, slice_get}
use Rattle.std.specs.List.{list_any}
use Rattle.std.specs.Option.{option_map_or}
use Rattle.net_base.specs.Blocks.{Block}
use Rattle.net_base.specs.Members.{IsIn}
use Rattle.net_base.specs.declared.ids.Place.{Place}
use Rattle.topology.specs.Networks.{Network}
use Rattle.flow_rules.specs.Patterns.{key_eq}
use Rattle.flow_rules.specs.declared.rules.Key.{Key}
use Rattle.flow_rules.specs.declared.rules.Rule.{Rule}
use Rattle.path_walk.specs.Outcomes.{outcome}
use Rattle.path_walk.specs.declared.Outcome.{Outcome}
use Rattle.update_model.specs.Mixtures.{IsMixture}
use Rattle.update_model.specs.declared.Change.{Change}
use Rattle.table_index.specs.Candidates.{IsCandidate}
use Rattle.round_mix.specs.Marks.{rules_of}
use Rattle.round_mix.specs.declared.MarkedRule.{MarkedRule}

-- the prefixes of marked rules
abbrev pub blocks_of : List MarkedRule → List Block
blocks_of marks = map (λ m. m.rule.key.pattern.dst) marks

-- each position is one in the list
abbrev pub ArePositionsBelow : List ℕ → ℕ → Type 0
ArePositionsBelow positions size = (i : ℕ) → IsIn i positions → i < size

-- the marked rules at the positions
abbrev pub picked_marks : List MarkedRule → List ℕ → List MarkedRule
picked_marks marks [] = []
picked_marks marks (i ∷ is) = option_map_or (λ m. m ∷ picked_marks marks is) (slice_get marks i) (picked_marks marks is)

-- whether the key stands at one of the positions
abbrev pub stands_at : List MarkedRule → List ℕ → Key → Bool
stands_at marks positions k = list_any (λ r. key_eq r.key k) (rules_of (picked_marks marks positions))

-- an outcome in some mixture from which every rule is left out whose key doesn't stand at one of the positions
pub record MayBeAmong (net : Network) (table : List Rule) (changes : List Change) (marks : List MarkedRule) (positions : List ℕ) (place : Place) (dst : ℕ) (found : Outcome) : Type 0 where
  pub mixed : List Rule
  pub held : IsMixture table changes mixed
  pub is : found ≡ outcome net (filter (λ r. stands_at marks positions r.key) mixed) place dst

-- exactly these outcomes
abbrev pub AreOutcomesAmong : Network → List Rule → List Change → List MarkedRule → List ℕ → Place → ℕ → List Outcome → Type 0
AreOutcomesAmong net table changes marks positions place dst list = (found : Outcome) → IsIn found list ↔ MayBeAmong net table changes marks positions place dst found

-- all positions of marked rules whose prefix holds the address are among them
abbrev pub HoldCandidates : List MarkedRule → ℕ → List ℕ → Type 0
HoldCandidates marks dst positions = (i : ℕ) → IsCandidate (blocks_of marks) dst i → IsIn i positions
