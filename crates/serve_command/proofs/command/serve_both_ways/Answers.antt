use Rattle.std.proofs.Common.{◌++◌, subst}
use Rattle.two_way_driver.specs.Calls.{DriverView, silent_view}
use Rattle.serve_command.specs.Served.{blocks, first_block, served_text}
use Rattle.serve_command.specs.Stops.{EndsServing}
use Rattle.serve_command.proofs.command.serve_both_ways.Goals as goal

pub returns-in-Ok-clause-ends : goal.returns-in-Ok-clause-ends
unfolding served_text
returns-in-Ok-clause-ends g c =
    subst
    (λ (x : DriverView).
    EndsServing (λ lines. first_block x ++ blocks (silent_view x) lines) (g.S.Source.held c.args.source.now) (g.K.Sink.written c.args.sink.now) (g.K.Sink.written c.serve_desk-status.new.sink) (g.S.Source.taken c.serve_desk-status.new.source) (g.S.SourceBeside.takes c.serve_desk-status.new.source) c.serve_desk-status.result)
    c.in-Ok.ensures.made c.serve_desk-status.ensures.ends
