use Rattle.std.proofs.Common.{subst}
use Rattle.two_way_driver.specs.Calls.{DriverView, silent_view}
use Rattle.serve_command.specs.Served.{blocks, first_block}
use Rattle.serve_command.specs.Stops.{EndsStandardInput}
use Rattle.serve_command.proofs.ServeLaws.{ends_greeted}
use Rattle.serve_command.proofs.greeting.serve_desk.Goals as goal

pub returns-in-Ok-clause-ends : goal.returns-in-Ok-clause-ends
returns-in-Ok-clause-ends g c =
    ends_greeted (first_block c.args.desk.now.driver) (silent_view c.args.desk.now.driver) _ _ _ c.in-Ok.ensures.all _ _ _ _
    (subst (λ (x : DriverView). EndsStandardInput (blocks x) (g.S.Source.held c.args.source.now) (g.K.Sink.written c.greet.new.sink) (g.K.Sink.written c.serve_selected.new.sink) (g.S.Source.taken c.serve_selected.new.source) (g.S.SourceBeside.takes c.serve_selected.new.source) c.serve_selected.result)
    c.in-Ok.ensures.behind c.serve_selected.ensures.ends)
