use Rattle.std.proofs.Common.{ℕ, List, ◌++◌, ap, ◌∙◌}
use Rattle.net_base.specs.Lines.{text_of}
use Rattle.drive_command.specs.Reports.{by_switch, sent_to, session_of, log_text}
use Rattle.drive_command.proofs.ReportLaws.{report_parts}
use Rattle.drive_command.proofs.report.report_text.Goals as goal

pub returns : goal.returns
returns c =
    let net = c.args.net.now in
    let d = c.args.driver.now.state in
    let sent : List ℕ = text_of (by_switch (sent_to d) 0 net.names) in
    let sessions : List ℕ = text_of (by_switch (session_of d) 0 net.names) in
    c.in_ok-add_log.ensures
    ∙ ap (λ (t : List ℕ). t ++ log_text net d c.args.rounds)
    (c.in_ok-add_sessions.ensures ∙ ap (λ (t : List ℕ). t ++ sessions) (c.in_ok-add_sent.ensures ∙ ap (λ (t : List ℕ). t ++ sent) c.new-text.ensures.items))
    ∙ ap (λ (n : ℕ). sent ++ sessions ++ log_text net d n) c.requires.rounds
    ∙ report_parts net c.args.driver.now.rounds d
