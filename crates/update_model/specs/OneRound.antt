-- A packet that walked through the mixtures of one round.
use Rattle.std.specs.Prelude.{◌≡◌, List, ◌∷◌, map}
use Rattle.net_base.specs.Walks.{end_of}
use Rattle.net_base.specs.Places.{stop_of}
use Rattle.net_base.specs.declared.ids.Place.{Place}
use Rattle.path_walk.specs.declared.Outcome.TheVariants.{Discard, Leave}
use Rattle.path_walk.specs.declared.Ended.{Ended}
use Rattle.path_walk.specs.declared.Ended.TheVariants.{UnderWay, Left, Dropped, Lost}
use Rattle.update_model.specs.Mixtures.{Rollout, IsMixedWalk, IsPossible}
use Rattle.update_model.specs.declared.Packet.{Packet}

-- where a packet ended by leaving or by a drop, this was possible at its place
abbrev pub EndWasPossible : Rollout → Packet → Ended → Type 0
EndWasPossible u p (Left switch port vlan) = (switch ≡ p.at.switch) × IsPossible u p.born p.dst p.at (Leave port vlan)
EndWasPossible u p (Dropped switch) = (switch ≡ p.at.switch) × IsPossible u p.born p.dst p.at Discard
EndWasPossible u p UnderWay = Unit {0}
EndWasPossible u p Lost = Unit {0}

-- the packet walked through the mixtures of one round, the one after the rounds that were settled at its entry
pub record WalkedOneRound (u : Rollout) (p : Packet) : Type 0 where
  pub rest : List Place
  pub walk : IsMixedWalk u p.born p.dst p.entry rest
  pub at_is : end_of p.entry rest ≡ p.at
  pub visits_are : p.visits ≡ map stop_of (p.entry ∷ rest)
  pub ended : EndWasPossible u p p.ended
