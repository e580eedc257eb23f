-- What is written of a driver: what it sent, which sessions failed, its log and how far the update is.
use Rattle.std.specs.Prelude.{ℕ, suc, ◌+◌, List, [], ◌∷◌, ◌++◌, map, length, codes}
use Rattle.topology.specs.Networks.{Network}
use Rattle.update_model.specs.declared.Change.{Change}
use Rattle.schedule_replay.specs.EventTexts.{event_text, schedule_text}
use Rattle.net_base.specs.Lines.{text_of}
use Rattle.schedule_replay.specs.Traces.{phase_line}
use Rattle.round_messages.specs.Requests.{switch_numbered}
use Rattle.switch_session.specs.Lines.{bytes_line, cause_line}
use Rattle.switch_session.specs.declared.Cause.{Cause}
use Rattle.switch_session.specs.declared.Session.{Session}
use Rattle.switch_session.specs.declared.Session.TheVariants.{Waiting, Open, Failed}
use Rattle.update_driver.specs.Drivers.{DriverState, channel_at}

-- all bytes that were sent to a switch of this name: `# sent SWITCH HEX`
abbrev pub sent_line : List ℕ → List ℕ → List ℕ
sent_line name bytes = bytes_line (codes "# sent ") name bytes

-- a session that failed, with a switch of this name: `# failed SWITCH CAUSE`
abbrev pub failed_line : List ℕ → Cause → List ℕ
failed_line name c = cause_line (codes "# failed ") name c

-- the line on a session, if it failed
abbrev pub session_lines : List ℕ → Session → List (List ℕ)
session_lines name Waiting = []
session_lines name Open = []
session_lines name (Failed c) = failed_line name c ∷ []

-- the lines on the switches with these names, of which the first has number i
abbrev pub by_switch : (ℕ → List ℕ → List (List ℕ)) → ℕ → List (List ℕ) → List (List ℕ)
by_switch lines i [] = []
by_switch lines i (name ∷ names) = lines i name ++ by_switch lines (suc i) names

-- what was sent to switch i of this name
abbrev pub sent_to : DriverState → ℕ → List ℕ → List (List ℕ)
sent_to d i name = sent_line name (channel_at d (switch_numbered i)).sent ∷ []

-- whether the session with switch i of this name failed
abbrev pub session_of : DriverState → ℕ → List ℕ → List (List ℕ)
session_of d i name = session_lines name (channel_at d (switch_numbered i)).session

-- what was sent, and which sessions failed, each by switch, ascending
abbrev pub front_lines : Network → DriverState → List (List ℕ)
front_lines net d = by_switch (sent_to d) 0 net.names ++ by_switch (session_of d) 0 net.names

-- the number of the first line behind these, where the log begins
abbrev pub first_line : Network → DriverState → ℕ
first_line net d = 1 + length (front_lines net d)

-- how many of so many rounds are settled, or which is running, as a comment
abbrev pub last_line : DriverState → ℕ → List ℕ
last_line d rounds = codes "# " ++ phase_line d.phase rounds

-- the log as a schedule, and a comment on the phase
abbrev pub log_text : Network → DriverState → ℕ → List ℕ
log_text net d rounds = schedule_text net d.log ++ (last_line d rounds ++ 10 ∷ [])

-- the report: comments on the switches, the log as a schedule, and a comment on the phase
unfoldable pub report_text : Network → List (List Change) → DriverState → List ℕ
report_text net rounds d = text_of (front_lines net d ++ (map (event_text net) d.log ++ (last_line d (length rounds) ∷ [])))
