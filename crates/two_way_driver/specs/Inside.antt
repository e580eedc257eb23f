-- What a driver keeps, as contracts see it.
use Rattle.std.specs.Prelude.{ℕ, ◌+◌, ◌<◌, ◌^◌, if◌then◌else◌, List, [], ◌∷◌}
use Rattle.net_base.specs.declared.ids.SwitchId.{SwitchId}
use Rattle.update_model.specs.declared.Change.{Change}
use Rattle.switch_session.specs.Channels.{after_byte}
use Rattle.two_way_driver.specs.Peers.{heard_by, peer_after, dead_peer}
use Rattle.two_way_driver.specs.Drivers.{DriverState, peer_at, with_peer, with_said, settled_if_answered, opened_state, answered_state, undone_with, turned_with}
use Rattle.two_way_driver.specs.Calls.{DriverView}
use Rattle.two_way_driver.specs.declared.DriverOutput.TheVariants.{Send, Failed}
use Rattle.two_way_driver.specs.declared.legs.Leg.{Leg}
use Rattle.two_way_driver.specs.declared.legs.TurnablePlan.{TurnablePlan}
use Rattle.two_way_driver.specs.declared.peers.ByteOutcome.{ByteOutcome}
use Rattle.two_way_driver.specs.declared.peers.ByteOutcome.TheVariants.{Nothing, Opened, Answered, Replied, Broke}
use Rattle.two_way_driver.specs.declared.Stage.{Stage}
use Rattle.two_way_driver.specs.declared.Stage.TheVariants.{Settled, Onward, Undone}
use Rattle.two_way_driver.specs.declared.talks.Talks.{Talks}

-- the state of what is said with all switches
abbrev pub state_of : Talks → DriverState
state_of t = record { stage = t.stage; first = t.first; next = t.next; peers = t.peers.items; in_force = t.in_force.items; said = t.said.items }

-- a driver of a plan, of which this is said with all switches
abbrev pub view_of : TurnablePlan → Talks → DriverView
view_of plan t = record { net = plan.net.now; rounds = plan.rounds.now; inverses = plan.inverses.now; state = state_of t }

-- a round that is carried out has a next one whose number fits
abbrev pub FitsNext : Stage → Type 0
FitsNext (Settled k) = Unit {0}
FitsNext (Onward k) = k + 1 < 2 ^ 32
FitsNext (Undone k) = Unit {0}

-- a driver after this came of a byte from a switch, where the running round is this one
abbrev pub heard_on : Leg → SwitchId → ByteOutcome → DriverState → DriverState
heard_on leg s Nothing d = d
heard_on leg s Opened d = opened_state leg.net.now leg.asked.now s d
heard_on leg s Answered d = answered_state leg.round.now s d
heard_on leg s (Replied text) d = with_said (Send s text ∷ []) d
heard_on leg s (Broke cause) d = with_said (Failed s cause ∷ []) d

-- a driver after a byte from a switch, where the running round is this one; what comes from a dead one does nothing
abbrev pub fed_on : Leg → SwitchId → ℕ → DriverState → DriverState
fed_on leg s b d =
    let before = peer_at d s in
    if before.is_dead then d else heard_on leg s (heard_by before.channel (after_byte b before.channel)) (with_peer s (peer_after b before) d)

-- a driver after a switch died, where the running round is this one
abbrev pub dead_on : List Change → SwitchId → DriverState → DriverState
dead_on round s d =
    if (peer_at d s).is_dead then d else settled_if_answered round (with_peer s (dead_peer (peer_at d s)) d)

-- a driver after the round of a leg begins to be taken back, and after it is turned back
abbrev pub undone_on : Leg → ℕ → DriverState → DriverState
undone_on leg k d = undone_with leg.net.now leg.round.now leg.asked.now k d

abbrev pub turned_on : Leg → ℕ → DriverState → DriverState
turned_on leg k d = turned_with leg.net.now leg.round.now leg.asked.now k d
