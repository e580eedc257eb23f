-- What a driver makes of lines, and the blocks that answer them.
use Rattle.std.specs.Prelude.{ℕ, List, [], ◌∷◌, ◌++◌, length, Option, None, Some, Result, Ok, Err}
use Rattle.topology.specs.Networks.{Network}
use Rattle.update_model.specs.declared.Change.{Change}
use Rattle.two_way_driver.specs.Calls.{DriverView, start_fault, back_fault, silent_view}
use Rattle.two_way_driver.specs.Laws.{after_call, driver_after}
use Rattle.two_way_driver.specs.Laws as call
use Rattle.two_way_driver.specs.declared.faults.CallFault.{CallFault}
use Rattle.two_way_driver.specs.declared.faults.CallFault.TheVariants as fault
use Rattle.serve_lines.specs.Lines.{line_in}
use Rattle.serve_lines.specs.Blocks.{block_text}
use Rattle.serve_lines.specs.declared.fault.LineFault.{LineFault}
use Rattle.serve_lines.specs.declared.line.ServeLine.{ServeLine}
use Rattle.serve_lines.specs.declared.line.ServeLine.TheVariants.{Comment, Start, Back, Reopen, Feed, Dead}
use Rattle.serve_lines.specs.declared.blocks.LineOutcome.{LineOutcome}
use Rattle.serve_lines.specs.declared.blocks.LineOutcome.TheVariants as outcome

-- a driver after the call that a line asks for
abbrev pub after_asked : DriverView → ServeLine → DriverView
after_asked v Comment = v
after_asked v Start = after_call v call.Start
after_asked v Back = after_call v call.Back
after_asked v (Reopen s) = after_call v (call.Reopen s)
after_asked v (Feed s bytes) = after_call v (call.Feed s bytes)
after_asked v (Dead s) = after_call v (call.Dead s)

-- how a call ended that has this fault; want of memory is none
abbrev pub refusal_of : CallFault → LineOutcome
refusal_of fault.Running = outcome.Running
refusal_of fault.Finished = outcome.Finished
refusal_of fault.NotBegun = outcome.NotBegun
refusal_of (fault.NotOpen s) = outcome.NotOpen s
refusal_of fault.Memory = outcome.BadLine

-- how a call ended, which has a fault or leads to this driver
abbrev pub call_outcome : Option CallFault → DriverView → LineOutcome
call_outcome None v = outcome.Went v.state.stage
call_outcome (Some fault) v = refusal_of fault

-- how the line that asks for this ended
abbrev pub outcome_asked : DriverView → ServeLine → LineOutcome
outcome_asked v Comment = call_outcome None v
outcome_asked v Start = call_outcome (start_fault v) (after_asked v Start)
outcome_asked v Back = call_outcome (back_fault v) (after_asked v Back)
outcome_asked v (Reopen s) = call_outcome None (after_asked v (Reopen s))
outcome_asked v (Feed s bytes) = call_outcome None (after_asked v (Feed s bytes))
outcome_asked v (Dead s) = call_outcome None (after_asked v (Dead s))

-- a bad line leaves the driver as it is
abbrev pub after_read : DriverView → Result ServeLine LineFault → DriverView
after_read v (Ok line) = after_asked v line
after_read v (Err bad) = v

abbrev pub outcome_read : DriverView → Result ServeLine LineFault → LineOutcome
outcome_read v (Ok line) = outcome_asked v line
outcome_read v (Err bad) = outcome.BadLine

-- a driver behind a line, whose block is written: what was said is forgotten
unfoldable pub after_line : DriverView → List ℕ → DriverView
after_line v line = silent_view (after_read v (line_in v.net line))

-- the block of a line
unfoldable pub line_block : DriverView → List ℕ → List ℕ
line_block v line = block_text v.net (length v.rounds) (after_read v (line_in v.net line)).state.said (outcome_read v (line_in v.net line))

-- a driver behind lines
abbrev pub after_lines : DriverView → List (List ℕ) → DriverView
after_lines v [] = v
after_lines v (line ∷ lines) = after_lines (after_line v line) lines

-- the blocks of lines, one after the other
abbrev pub blocks : DriverView → List (List ℕ) → List ℕ
blocks v [] = []
blocks v (line ∷ lines) = line_block v line ++ blocks (after_line v line) lines

-- the block of line 0: what a driver says that was just made
abbrev pub first_block : DriverView → List ℕ
first_block v = block_text v.net (length v.rounds) v.state.said (call_outcome None v)

-- the text that answers lines: the driver that was made says its first block, and then one for each line
unfoldable pub served_text : Network → List (List Change) → List (List Change) → List (List ℕ) → List ℕ
served_text net rounds inverses lines =
    first_block (driver_after net rounds inverses []) ++ blocks (silent_view (driver_after net rounds inverses [])) lines
