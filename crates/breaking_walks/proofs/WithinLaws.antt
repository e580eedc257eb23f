-- Mixed walks stay within the network.
use Rattle.std.proofs.Common.{ℕ, ◌<◌, List, [], ◌∷◌, sym}
use Rattle.net_base.specs.Walks.{IsWalk, end_of}
use Rattle.net_base.specs.declared.ids.Place.{Place}
use Rattle.topology.specs.Networks.{IsNetwork, switch_count}
use Rattle.path_walk.proofs.StayLaws.{hop_within}
use Rattle.update_model.specs.Mixtures.{Rollout, MayGo}

-- a packet may go to no switch beyond
pub goes_within : (u : Rollout) → IsNetwork u.net → (k dst : ℕ) (place next : Place) → MayGo u k dst place next → next.switch.0 < switch_count u.net
goes_within u valid k dst place next goes = hop_within u.net valid goes.mixed dst place next (sym goes.is)

-- the last place of a mixed walk is at a switch of the network
pub end_within : (u : Rollout) → IsNetwork u.net → (k dst : ℕ) (start : Place) (rest : List Place) → start.switch.0 < switch_count u.net → IsWalk (MayGo u k dst) start rest
    → (end_of start rest).switch.0 < switch_count u.net
end_within u valid k dst start [] within walk = within
end_within u valid k dst start (next ∷ rest) within walk = end_within u valid k dst next rest (goes_within u valid k dst start next walk.0) walk.1
