use Rattle.std.proofs.Common.{◌≡◌, ℕ, List, length, ap, ◌∙◌}
use Rattle.topology.specs.Networks.{Network}
use Rattle.two_way_driver.specs.Calls.{DriverView, silent_view}
use Rattle.two_way_driver.specs.declared.DriverOutput.{DriverOutput}
use Rattle.serve_lines.specs.Lines.{line_in}
use Rattle.serve_lines.specs.Blocks.{block_text}
use Rattle.serve_lines.specs.declared.blocks.LineOutcome.{LineOutcome}
use Rattle.serve_command.specs.Served.{after_read, after_line, line_block}
use Rattle.serve_command.proofs.answers.answer.Goals as goal

pub returns-clause-block : goal.returns-clause-block
unfolding line_block
returns-clause-block c =
    let d : DriverView = c.args.driver.now in
    let next : DriverView = after_read d (line_in d.net c.args.line.now) in
    let said : c.said.result.now ≡ next.state.said = c.said.ensures ∙ ap (λ (x : DriverView). x.state.said) c.in_ok-outcome.ensures.ok in
    c.in_ok-block.ensures
    ∙ ap (λ (n : Network). block_text n c.args.update.now.rounds c.said.result.now c.in_ok-outcome.outcome) c.requires.net
    ∙ ap (λ (k : ℕ). block_text d.net k c.said.result.now c.in_ok-outcome.outcome) c.requires.rounds
    ∙ ap (λ (t : List DriverOutput). block_text d.net (length d.rounds) t c.in_ok-outcome.outcome) said
    ∙ ap (λ (o : LineOutcome). block_text d.net (length d.rounds) next.state.said o) c.in_ok-outcome.ensures.outcome

pub returns-clause-behind : goal.returns-clause-behind
unfolding after_line
returns-clause-behind c = c.forget.ensures.ok ∙ ap silent_view c.in_ok-outcome.ensures.ok
