-- What one pass over the places of the mixed walks of an entry shows.
use Rattle.std.specs.Prelude.{ℕ, List}
use Rattle.net_base.specs.Members.{IsIn, IsDistinct}
use Rattle.net_base.specs.Walks.{end_of}
use Rattle.net_base.specs.declared.ids.SwitchId.{SwitchId}
use Rattle.net_base.specs.declared.ids.Place.{Place}
use Rattle.path_walk.specs.declared.Outcome.{Outcome}
use Rattle.path_walk.specs.declared.Outcome.TheVariants.{Discard, Go}
use Rattle.acyclic_numbering.specs.Heights.{IsEdge}
use Rattle.acyclic_numbering.specs.declared.Edge.{Edge}
use Rattle.update_model.specs.Mixtures.{Rollout, IsPossible, IsMixedWalk}
use Rattle.certificates.specs.Steps.{switches_along}

-- on no mixed walk a packet may be discarded
abbrev pub NeverDrops : Rollout → ℕ → ℕ → Place → Type 0
NeverDrops u k dst entry = (rest : List Place) → IsMixedWalk u k dst entry rest → ¬ IsPossible u k dst (end_of entry rest) Discard

-- on no mixed walk a switch stands twice
abbrev pub NeverRepeats : Rollout → ℕ → ℕ → Place → Type 0
NeverRepeats u k dst entry = (rest : List Place) → IsMixedWalk u k dst entry rest → IsDistinct (switches_along entry rest)

-- the steps from the switch by these outcomes are added
pub record AreAdded (old : List Edge) (from : SwitchId) (found : List Outcome) (new : List Edge) : Type 0 where
  pub kept : (s t : SwitchId) → IsEdge old s t → IsEdge new s t
  pub added : (place : Place) → IsIn (Go place) found → IsEdge new from place.switch
