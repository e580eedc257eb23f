-- What the blocks that answer lines say of the update.
use Rattle.std.specs.Prelude.{◌≡◌, ◌≢◌, ◌<◌, true, ℕ, List, [], ◌∷◌, ◌++◌, map, Option, None, Some, Ok}
use Rattle.std.specs.List.{AllByRecursion, concat}
use Rattle.net_base.specs.declared.ids.SwitchId.{SwitchId}
use Rattle.topology.specs.Networks.{switch_count}
use Rattle.certificates.specs.Updates.{rollout}
use Rattle.law_two_way_runs.specs.States as two_way
use Rattle.law_two_way_runs.specs.States.{TwoWayEvent, TwoWayState}
use Rattle.law_two_way_runs.specs.Runs.{IsTwoWayRun, state_after_two_way}
use Rattle.update_driver.specs.Drivers.{DriverState as OnwardState, channel_at}
use Rattle.two_way_driver.specs.Calls.{DriverView}
use Rattle.two_way_driver.specs.Drivers.{peer_at}
use Rattle.two_way_driver.specs.Laws.{Call, Reopen, events_in, phase_of, BeginsAnswered}
use Rattle.two_way_driver.specs.Words.{after_call_anew}
use Rattle.two_way_driver.specs.Sending.{texts_to, Sends, GoesOn}
use Rattle.two_way_driver.specs.declared.Stage.{Stage}
use Rattle.serve_lines.specs.Lines.{line_in}
use Rattle.serve_lines.specs.declared.line.ServeLine.TheVariants.{Feed}
use Rattle.serve_lines.specs.declared.blocks.LineOutcome.TheVariants.{Went}
use Rattle.check_base.specs.Checks.{CheckMeaning, task_in}
use Rattle.law_serve_promise.specs.Told.{BlockContent, told_line, told_lines, told_on, said_in, driver_behind, call_in}

-- ---- events

-- the events of the blocks that answer lines, in order
abbrev pub events_on : CheckMeaning → List (List ℕ) → List TwoWayEvent
events_on m lines = events_in (said_in (told_on m lines))

-- the state to which they lead from the old tables
abbrev pub state_on : CheckMeaning → List (List ℕ) → TwoWayState
state_on m lines = state_after_two_way (rollout (task_in m)) (events_on m lines)

-- The events of all blocks are a run both ways from the old tables, without packets. It is as far as the driver, and no round is
-- begun or turned back while a barrier request of another round isn't answered.
pub record TellsRun (m : CheckMeaning) (lines : List (List ℕ)) : Type 0 where
  pub run : IsTwoWayRun (rollout (task_in m)) (events_on m lines)
  pub no_packets : (state_on m lines).packets ≡ []
  pub phase : (state_on m lines).phase ≡ phase_of (driver_behind m lines).state.stage
  pub waits : BeginsAnswered (driver_behind m lines)

-- where the block of the line behind others ends with `ok`, the phase that it says is that of the run
abbrev pub TellsPhase : CheckMeaning → List (List ℕ) → List ℕ → Type 0
TellsPhase m lines line =
    (stage : Stage) → (told_line (driver_behind m lines) line).outcome ≡ Went stage → (state_on m (lines ++ line ∷ [])).phase ≡ phase_of stage

-- ---- messages

-- what a block sends to a switch, by the driver before the line and the call for which it asks: nothing where it asks for none
abbrev pub SendsBy : DriverView → SwitchId → Option Call → List (List ℕ) → Type 0
SendsBy v s None texts = texts ≡ []
SendsBy v s (Some c) texts = Sends v (after_call_anew v c) s c texts

-- a dead switch is sent nothing, but by the line that opens its session again
abbrev pub SilentBy : DriverView → SwitchId → Option Call → List (List ℕ) → Type 0
SilentBy v s asked texts = (peer_at v.state s).is_dead ≡ true → asked ≢ Some (Reopen s) → texts ≡ []

-- how the xids go on behind a line
abbrev pub GoesOnBy : DriverView → DriverView → Option Call → Type 0
GoesOnBy before after None = after ≡ before
GoesOnBy before after (Some c) = GoesOn before after c

-- what the block of the line behind others sends to each switch, and how the xids go on behind it
pub record SendsAsAsked (m : CheckMeaning) (lines : List (List ℕ)) (line : List ℕ) : Type 0 where
  pub sends : (s : SwitchId) → s.0 < switch_count m.update.net
      → SendsBy (driver_behind m lines) s (call_in m.update.net line) (texts_to s (told_line (driver_behind m lines) line).said)
  pub silent : (s : SwitchId) → s.0 < switch_count m.update.net
      → SilentBy (driver_behind m lines) s (call_in m.update.net line) (texts_to s (told_line (driver_behind m lines) line).said)
  pub xids : GoesOnBy (driver_behind m lines) (driver_behind m (lines ++ line ∷ [])) (call_in m.update.net line)

-- ---- other lines

-- two lines feed bytes from a switch, and a third one all of them at once
pub record AreCut (m : CheckMeaning) (front rest whole : List ℕ) : Type 0 where
  pub switch : SwitchId
  pub front_bytes : List ℕ
  pub rest_bytes : List ℕ
  pub front_feeds : line_in m.update.net front ≡ Ok (Feed switch front_bytes)
  pub rest_feeds : line_in m.update.net rest ≡ Ok (Feed switch rest_bytes)
  pub whole_feeds : line_in m.update.net whole ≡ Ok (Feed switch (front_bytes ++ rest_bytes))

-- behind the same lines the two say together what the third one says, and leave the same driver
pub record SaysTheSame (m : CheckMeaning) (lines : List (List ℕ)) (front rest whole : List ℕ) : Type 0 where
  pub said : (told_line (driver_behind m lines) whole).said
      ≡ (told_line (driver_behind m lines) front).said ++ (told_line (driver_behind m (lines ++ front ∷ [])) rest).said
  pub driver : driver_behind m (lines ++ whole ∷ []) ≡ driver_behind m (lines ++ front ∷ rest ∷ [])

-- a block ends with `ok`, so that its line wasn't refused and isn't bad
abbrev pub EndsOk : BlockContent → Type 0
EndsOk told = (stage : Stage) × (told.outcome ≡ Went stage)

-- each block that answers one of these lines ends with `ok`
abbrev pub AreTaken : CheckMeaning → List (List ℕ) → Type 0
AreTaken m lines = AllByRecursion EndsOk (told_lines (driver_behind m []) lines)

-- the blocks of lines send to each switch the bytes, and log the events, of a driver that can't turn back, and lead to its phase
pub record TellsAs (m : CheckMeaning) (lines : List (List ℕ)) (one : OnwardState) : Type 0 where
  pub sent : (s : SwitchId) → s.0 < switch_count m.update.net → concat (texts_to s (said_in (told_on m lines))) ≡ (channel_at one s).sent
  pub events : events_on m lines ≡ map two_way.Onward one.log
  pub phase : (state_on m lines).phase ≡ one.phase
