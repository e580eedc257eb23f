use Rattle.std.proofs.Common.{◌≡◌, ◌++◌, drop}
use Rattle.net_base.specs.Lines.{text_of}
use Rattle.drive_command.specs.Reports.{by_switch, session_of}
use Rattle.drive_command.proofs.report.add_sessions.Given as goal

abbrev pub invariant-loop-number : goal.invariant-loop-number
invariant-loop-number l =
    l.text.items ++ text_of (by_switch (session_of l.driver.state) l.number (drop l.number l.net.names)) ≡ l.initial.text.items ++ text_of (by_switch (session_of l.driver.state) 0 l.net.names)
