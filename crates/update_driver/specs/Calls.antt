-- Drivers that come about by calls.
use Rattle.std.specs.Prelude.{◌≡◌, ◌==◌, ◌≤◌, ◌<◌, ℕ, List, [], ◌∷◌, length, map, flat_map, sum_by, if◌then◌else◌, is_none}
use Rattle.std.specs.List.{AllByRecursion}
use Rattle.net_base.specs.declared.ids.SwitchId.{SwitchId}
use Rattle.topology.specs.Networks.{Network, switch_count}
use Rattle.update_model.specs.Ranges.{IsPlanChange}
use Rattle.update_model.specs.declared.Change.{Change}
use Rattle.update_driver.specs.Drivers.{DriverState, first_driver, driver_after_bytes, started_driver, start_fault}

-- a call: the next round is to start, or bytes come from a switch
pub data Call : Type 0 where
  Start : Call
  Feed : SwitchId → List ℕ → Call

-- bytes come from a switch that there is
abbrev pub IsCall : Network → Call → Type 0
IsCall net Start = Unit {0}
IsCall net (Feed s bytes) = s.0 < switch_count net

-- a driver after a call; a start that is refused leaves it as it was
abbrev pub after_call : Network → List (List Change) → DriverState → Call → DriverState
after_call net rounds d Start = if is_none (start_fault net rounds d) then started_driver net rounds d else d
after_call net rounds d (Feed s bytes) = driver_after_bytes rounds s bytes d

-- a driver after calls
abbrev pub after_calls : Network → List (List Change) → DriverState → List Call → DriverState
after_calls net rounds d [] = d
after_calls net rounds d (c ∷ calls) = after_calls net rounds (after_call net rounds d c) calls

-- the driver that was made and then called
abbrev pub driver_after : Network → List (List Change) → List Call → DriverState
driver_after net rounds calls = after_calls net rounds (first_driver net) calls

-- the bytes that came from a switch in a call
abbrev pub bytes_in : SwitchId → Call → List ℕ
bytes_in s Start = []
bytes_in s (Feed t bytes) = if t.0 == s.0 then bytes else []

-- the bytes that came from a switch in calls, in order
abbrev pub bytes_from : SwitchId → List Call → List ℕ
bytes_from s calls = flat_map (bytes_in s) calls

-- a call, with each of its bytes fed by itself
abbrev pub each_byte : Call → List Call
each_byte Start = Start ∷ []
each_byte (Feed s bytes) = map (λ b. Feed s (b ∷ [])) bytes

-- calls, with each byte fed by itself: they say the same as others exactly where only the pieces differ in which bytes come
abbrev pub byte_by_byte : List Call → List Call
byte_by_byte calls = flat_map each_byte calls

-- rounds that a driver takes: few, and each change is at a switch of the network, with numbers in range
pub record AreDrivable (net : Network) (rounds : List (List Change)) : Type 0 where
  pub few_rounds : length rounds ≤ 4200
  pub few_changes : sum_by length rounds ≤ 2200000
  pub plan : AllByRecursion (AllByRecursion (IsPlanChange net)) rounds

-- a driver of rounds over a network: what contracts see
pub record DriverView : Type 0 where
  pub net : Network
  pub rounds : List (List Change)
  pub state : DriverState

-- the driver came about by calls
pub record IsMadeByCalls (v : DriverView) : Type 0 where
  pub calls : List Call
  pub are_calls : AllByRecursion (IsCall v.net) calls
  pub state_is : v.state ≡ driver_after v.net v.rounds calls
