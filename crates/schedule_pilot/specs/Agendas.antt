-- What is under way in a state of a run.
use Rattle.std.specs.Prelude.{◌≡◌, ◌==◌, ℕ, suc, not, Bool, true, false, List, [], ◌∷◌, ◌++◌, map, filter}
use Rattle.update_model.specs.States.{State}
use Rattle.update_model.specs.Worlds.{goes_on}
use Rattle.update_model.specs.declared.Event.{Event}
use Rattle.update_model.specs.declared.Packet.{Packet}
use Rattle.schedule_pilot.specs.Offered.{AreThose}

-- the numbers of the flags that are on, where the first flag has number n
abbrev pub numbers_on : ℕ → List Bool → List ℕ
numbers_on n [] = []
numbers_on n (true ∷ flags) = n ∷ numbers_on (suc n) flags
numbers_on n (false ∷ flags) = numbers_on (suc n) flags

-- the numbers of the packets that are under way
abbrev pub numbers_under_way : List Packet → List ℕ
numbers_under_way packets = numbers_on 0 (map (λ p. goes_on p.ended) packets)

-- the lists name the changes that are pending and the packets that are under way
pub record IsAgenda (state : State) (pending under_way : List ℕ) : Type 0 where
  pub pending_are : pending ≡ numbers_on 0 state.pending
  pub under_way_are : under_way ≡ numbers_under_way state.packets

-- the numbers but one
abbrev pub numbers_without : ℕ → List ℕ → List ℕ
numbers_without i numbers = filter (λ k. not (k == i)) numbers

-- those of the candidates that the fact holds of are added to the events, in order
abbrev pub AddsThose : (Event → Type 0) → List Event → List Event → List Event → Type 0
AddsThose P candidates old new = (more : List Event) × AreThose P candidates more × (new ≡ old ++ more)
