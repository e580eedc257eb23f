-- The stops of a mixed walk stay within the network.
use Rattle.std.proofs.Common.{ℕ, ◌<◌, List, [], ◌∷◌, map, sym}
use Rattle.std.specs.List.{AllByRecursion}
use Rattle.net_base.specs.Places.{stop_of}
use Rattle.net_base.specs.Walks.{IsWalk}
use Rattle.net_base.specs.declared.ids.Place.{Place}
use Rattle.topology.specs.Networks.{IsNetwork, switch_count}
use Rattle.path_walk.proofs.StayLaws.{hop_within}
use Rattle.update_model.specs.Mixtures.{Rollout, MayGo}

-- each stop of a mixed walk is at a switch of the network
pub walk_within : (u : Rollout) → IsNetwork u.net → (k dst : ℕ) (start : Place) (rest : List Place) → start.switch.0 < switch_count u.net → IsWalk (MayGo u k dst) start rest
    → AllByRecursion (λ s. s.0 < switch_count u.net) (map (λ stop. stop.switch) (map stop_of (start ∷ rest)))
walk_within u valid k dst start [] within walk = (within, tt)
walk_within u valid k dst start (next ∷ rest) within walk =
    (within, walk_within u valid k dst next rest (hop_within u.net valid walk.0.mixed dst start next (sym walk.0.is)) walk.1)
