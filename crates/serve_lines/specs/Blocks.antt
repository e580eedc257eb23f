-- The block of text that answers a line.
use Rattle.std.specs.Prelude.{ℕ, List, [], ◌∷◌, ◌++◌, map, codes, decimal}
use Rattle.net_base.specs.Lines.{text_of}
use Rattle.topology.specs.Networks.{Network}
use Rattle.schedule_replay.specs.EventTexts.{switch_text}
use Rattle.schedule_replay.specs.Traces.{phase_line}
use Rattle.switch_session.specs.Lines.{bytes_line, cause_line}
use Rattle.switch_session.specs.declared.Cause.{Cause}
use Rattle.two_way_driver.specs.Laws.{phase_of}
use Rattle.two_way_driver.specs.declared.DriverEvent.{DriverEvent}
use Rattle.two_way_driver.specs.declared.DriverEvent.TheVariants as logged
use Rattle.two_way_driver.specs.declared.DriverOutput.{DriverOutput}
use Rattle.two_way_driver.specs.declared.DriverOutput.TheVariants.{Send, Failed, Log}
use Rattle.serve_lines.specs.declared.blocks.LineOutcome.{LineOutcome}
use Rattle.serve_lines.specs.declared.blocks.LineOutcome.TheVariants.{Went, Running, Finished, NotBegun, NotOpen, BadLine}

-- an event, as in a schedule; a round that is taken back settles too
abbrev pub event_text : DriverEvent → List ℕ
event_text logged.Start = codes "start"
event_text (logged.Change i) = codes "change " ++ decimal i
event_text logged.Settle = codes "settle"
event_text logged.Back = codes "back"
event_text (logged.Undo i) = codes "undo " ++ decimal i
event_text logged.SettleBack = codes "settle"

-- a message to a switch of this name: `send SWITCH HEX`
abbrev pub send_line : List ℕ → List ℕ → List ℕ
send_line name bytes = bytes_line (codes "send ") name bytes

-- a session that failed, with a switch of this name: `failed SWITCH CAUSE`
abbrev pub failed_line : List ℕ → Cause → List ℕ
failed_line name c = cause_line (codes "failed ") name c

-- the line on what a driver says
abbrev pub said_line : Network → DriverOutput → List ℕ
said_line net (Send s bytes) = send_line (switch_text net s) bytes
said_line net (Failed s c) = failed_line (switch_text net s) c
said_line net (Log e) = event_text e

-- the last line of a block: how far the update of so many rounds is, or why the line isn't carried out
abbrev pub outcome_line : Network → ℕ → LineOutcome → List ℕ
outcome_line net rounds (Went stage) = codes "ok " ++ phase_line (phase_of stage) rounds
outcome_line net rounds Running = codes "no running"
outcome_line net rounds Finished = codes "no finished"
outcome_line net rounds NotBegun = codes "no begun"
outcome_line net rounds (NotOpen s) = codes "no open " ++ switch_text net s
outcome_line net rounds BadLine = codes "bad line"

-- a block: what the driver says, in order, and how the line ended
unfoldable pub block_text : Network → ℕ → List DriverOutput → LineOutcome → List ℕ
block_text net rounds said outcome = text_of (map (said_line net) said ++ outcome_line net rounds outcome ∷ [])
