-- A driver that can turn back and isn't turned, beside one that can't.
use Rattle.std.specs.Prelude.{◌≡◌, ◌<◌, List, is_none}
use Rattle.std.specs.List.{concat}
use Rattle.net_base.specs.declared.ids.SwitchId.{SwitchId}
use Rattle.topology.specs.Networks.{Network, switch_count}
use Rattle.update_model.specs.declared.Change.{Change}
use Rattle.law_two_way_runs.specs.Laws.{onward_events}
use Rattle.update_driver.specs.Calls as onward
use Rattle.update_driver.specs.Drivers.{DriverState as OnwardState, channel_at, start_fault as onward_fault}
use Rattle.two_way_driver.specs.Drivers.{peer_at}
use Rattle.two_way_driver.specs.Calls.{DriverView, start_fault}
use Rattle.two_way_driver.specs.Laws.{Call, Start, Feed, events_in, phase_of}
use Rattle.two_way_driver.specs.Sending.{texts_to}

-- a call of the one driver as a call of the other
abbrev pub two_way_call : onward.Call → Call
two_way_call onward.Start = Start
two_way_call (onward.Feed s bytes) = Feed s bytes

-- both drivers sent the same bytes to each switch, logged the same events, are as far, and refuse to start in the same cases
pub record Agree (net : Network) (rounds : List (List Change)) (one : OnwardState) (v : DriverView) : Type 0 where
  pub sent : (s : SwitchId) → s.0 < switch_count net → concat (texts_to s v.state.said) ≡ (channel_at one s).sent
  pub sessions : (s : SwitchId) → s.0 < switch_count net → (peer_at v.state s).channel.session ≡ (channel_at one s).session
  pub events : events_in v.state.said ≡ onward_events one.log
  pub phase : phase_of v.state.stage ≡ one.phase
  pub refused : is_none (start_fault v) ≡ is_none (onward_fault net rounds one)
