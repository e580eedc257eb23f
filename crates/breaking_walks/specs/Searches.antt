-- What a search among mixed walks looks for.
use Rattle.std.specs.Prelude.{ℕ, List}
use Rattle.net_base.specs.Members.{IsSubsequence}
use Rattle.net_base.specs.Walks.{end_of}
use Rattle.net_base.specs.declared.ids.SwitchId.{SwitchId}
use Rattle.net_base.specs.declared.ids.Place.{Place}
use Rattle.net_base.specs.declared.ids.Port.{Port}
use Rattle.net_base.specs.declared.ids.Vlan.{Vlan}
use Rattle.path_walk.specs.declared.Outcome.TheVariants.{Discard, Leave}
use Rattle.update_model.specs.Mixtures.{Rollout, IsPossible, IsMixedWalk}
use Rattle.certificates.specs.Steps.{switches_along}
use Rattle.breaking_walks.specs.declared.search.Aim.{Aim}
use Rattle.breaking_walks.specs.declared.search.Aim.TheVariants.{Meet, LeaveUnmet, Drop}

-- a packet may leave there
pub record MayLeaveAt (u : Rollout) (k dst : ℕ) (place : Place) : Type 0 where
  pub port : Port
  pub vlan : Vlan
  pub leaves : IsPossible u k dst place (Leave port vlan)

-- a walk is of the kind that is looked for: it meets the chain; or a packet may leave at its end and the chain isn't met; or it may be
-- discarded there
abbrev pub IsAimed : Rollout → ℕ → ℕ → Place → List SwitchId → Aim → List Place → Type 0
IsAimed u k dst entry chain Meet rest = IsSubsequence chain (switches_along entry rest)
IsAimed u k dst entry chain LeaveUnmet rest = (¬ IsSubsequence chain (switches_along entry rest)) × MayLeaveAt u k dst (end_of entry rest)
IsAimed u k dst entry chain Drop rest = IsPossible u k dst (end_of entry rest) Discard

-- a mixed walk that is looked for
pub record IsFound (u : Rollout) (k dst : ℕ) (entry : Place) (chain : List SwitchId) (aim : Aim) (rest : List Place) : Type 0 where
  pub walk : IsMixedWalk u k dst entry rest
  pub aimed : IsAimed u k dst entry chain aim rest

-- no mixed walk is
abbrev pub IsNoneFound : Rollout → ℕ → ℕ → Place → List SwitchId → Aim → Type 0
IsNoneFound u k dst entry chain aim = (rest : List Place) → ¬ IsFound u k dst entry chain aim rest
