-- What the blocks tell that answer lines, and the calls of the driver for which lines ask.
use Rattle.std.specs.Prelude.{ℕ, List, [], ◌∷◌, flat_map, filter_map, Option, None, Some, Result, Ok, Err}
use Rattle.topology.specs.Networks.{Network}
use Rattle.round_inverses.specs.Rounds.{inverse_rounds}
use Rattle.two_way_driver.specs.Calls.{DriverView, silent_view}
use Rattle.two_way_driver.specs.Laws.{Call, driver_after}
use Rattle.two_way_driver.specs.Laws as call
use Rattle.two_way_driver.specs.declared.DriverOutput.{DriverOutput}
use Rattle.serve_lines.specs.Lines.{line_in}
use Rattle.serve_lines.specs.Blocks.{block_text}
use Rattle.serve_lines.specs.declared.fault.LineFault.{LineFault}
use Rattle.serve_lines.specs.declared.line.ServeLine.{ServeLine}
use Rattle.serve_lines.specs.declared.line.ServeLine.TheVariants.{Comment, Start, Back, Reopen, Feed, Dead}
use Rattle.serve_lines.specs.declared.blocks.LineOutcome.{LineOutcome}
use Rattle.serve_command.specs.Served.{call_outcome, after_read, outcome_read, after_line, after_lines}
use Rattle.check_base.specs.Checks.{CheckMeaning}

-- ---- blocks

-- what a block tells: what the driver says, in order, and how the line ended
pub record BlockContent : Type 0 where
  pub said : List DriverOutput
  pub outcome : LineOutcome

-- the block that tells it, in an update of so many rounds
abbrev pub block_of : Network → ℕ → BlockContent → List ℕ
block_of net rounds told = block_text net rounds told.said told.outcome

-- what the block of line 0 tells of a driver that was just made
abbrev pub told_first : DriverView → BlockContent
told_first v = record { said = v.state.said; outcome = call_outcome None v }

-- what the block of a line tells, by what the line asks for
abbrev pub told_read : DriverView → Result ServeLine LineFault → BlockContent
told_read v read = record { said = (after_read v read).state.said; outcome = outcome_read v read }

abbrev pub told_line : DriverView → List ℕ → BlockContent
told_line v line = told_read v (line_in v.net line)

-- what the blocks of lines tell, one after the other
abbrev pub told_lines : DriverView → List (List ℕ) → List BlockContent
told_lines v [] = []
told_lines v (line ∷ lines) = told_line v line ∷ told_lines (after_line v line) lines

-- all that blocks tell of what the driver says, in order
abbrev pub said_in : List BlockContent → List DriverOutput
said_in tolds = flat_map (λ t. t.said) tolds

-- ---- the driver of a plan

-- the driver of a plan, which can take each of its rounds back, behind these calls
abbrev pub driver_of : CheckMeaning → List Call → DriverView
driver_of m calls = driver_after m.update.net m.plan.rounds (inverse_rounds m.update.old m.plan.rounds) calls

-- the driver that answers the line behind these
abbrev pub driver_behind : CheckMeaning → List (List ℕ) → DriverView
driver_behind m lines = after_lines (silent_view (driver_of m [])) lines

-- what the blocks tell that answer lines, that of line 0 first
abbrev pub told_on : CheckMeaning → List (List ℕ) → List BlockContent
told_on m lines = told_first (driver_of m []) ∷ told_lines (silent_view (driver_of m [])) lines

-- ---- calls

-- the call for which a line asks; a comment asks for none
abbrev pub call_asked : ServeLine → Option Call
call_asked Comment = None
call_asked Start = Some call.Start
call_asked Back = Some call.Back
call_asked (Reopen s) = Some (call.Reopen s)
call_asked (Feed s bytes) = Some (call.Feed s bytes)
call_asked (Dead s) = Some (call.Dead s)

-- a bad line asks for none
abbrev pub call_read : Result ServeLine LineFault → Option Call
call_read (Ok line) = call_asked line
call_read (Err bad) = None

abbrev pub call_in : Network → List ℕ → Option Call
call_in net line = call_read (line_in net line)

-- the calls for which lines ask, in order
abbrev pub calls_in : Network → List (List ℕ) → List Call
calls_in net lines = filter_map (call_in net) lines
