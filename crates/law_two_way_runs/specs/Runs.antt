-- Runs both ways: lists of events, each enabled in the state that the events before it lead to.
use Rattle.std.specs.Prelude.{List, [], ◌∷◌}
use Rattle.update_model.specs.Mixtures.{Rollout}
use Rattle.law_two_way_runs.specs.States.{TwoWayEvent, TwoWayState, first_two_way, IsTwoWayEnabled, two_way_after}

-- each event is enabled in turn
abbrev pub AreTwoWayEnabled : Rollout → TwoWayState → List TwoWayEvent → Type 0
AreTwoWayEnabled u st [] = Unit {0}
AreTwoWayEnabled u st (e ∷ es) = IsTwoWayEnabled u st e × AreTwoWayEnabled u (two_way_after u st e) es

-- the state that the events lead to
abbrev pub two_way_state : Rollout → TwoWayState → List TwoWayEvent → TwoWayState
two_way_state u st [] = st
two_way_state u st (e ∷ es) = two_way_state u (two_way_after u st e) es

-- a run of an update in which it may be turned back, and onward again, at any moment
abbrev pub IsTwoWayRun : Rollout → List TwoWayEvent → Type 0
IsTwoWayRun u events = AreTwoWayEnabled u (first_two_way u.old) events

-- the state after such a run
abbrev pub state_after_two_way : Rollout → List TwoWayEvent → TwoWayState
state_after_two_way u events = two_way_state u (first_two_way u.old) events
