-- The steps that the lines of a schedule spell.
use Rattle.std.specs.Prelude.{ℕ, List, Option, None, Some, option_map, codes, if◌then◌else◌}
use Rattle.std.specs.Option.{option_map_or}
use Rattle.std.specs.Str.{bytes_eq, is_utf8}
use Rattle.net_base.specs.Text.{cut_first}
use Rattle.text_lines.specs.Words.{◌>>=◌}
use Rattle.topology.specs.Networks.{Network}
use Rattle.schedule_replay.specs.EventLines.{number_in, event_in}
use Rattle.two_way_replay.specs.declared.schedule.TwoWayStep.{TwoWayStep}
use Rattle.two_way_replay.specs.declared.schedule.TwoWayStep.TheVariants as step

-- a change that is taken back, its number behind `undo` and a space
unfoldable pub undo_in : List ℕ → Option TwoWayStep
undo_in text = do
  parts ← cut_first 32 text
  if bytes_eq parts.0 (codes "undo") then option_map step.Undo (number_in parts.1) else None

-- `back`, or a change that is taken back
abbrev pub spelled_turn : List ℕ → Option TwoWayStep
spelled_turn text = if bytes_eq text (codes "back") then Some step.Back else undo_in text

-- the same of a line; bytes that are no text (UTF-8) spell none
abbrev pub turn_in : List ℕ → Option TwoWayStep
turn_in line = if is_utf8 line then spelled_turn line else None

-- the step that a line spells: the event that it spells in a run that is never turned back, or else `back` or `undo N`
abbrev pub step_in : Network → List ℕ → Option TwoWayStep
step_in net line = option_map_or (λ e. Some (step.Event e)) (event_in net line) (turn_in line)
