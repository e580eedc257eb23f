use Rattle.serve_command.proofs.ServeLaws.{ends_there, ends_unbegun}
use Rattle.serve_command.proofs.greeting.serve_selected.Goals as goal

pub returns-in-Ok-clause-ends : goal.returns-in-Ok-clause-ends
returns-in-Ok-clause-ends g c =
    ends_there c.args.desk.now.driver (g.S.Source.held c.args.source.now) _ _ _ _ _ _ c.in-Ok.ensures.missing c.in-Ok.ensures.left c.serve_input.ensures.ends

pub returns-in-Err-clause-ends : goal.returns-in-Err-clause-ends
returns-in-Err-clause-ends g c = ends_unbegun _ _ _ _ _ c.begin.ensures.taken c.begin.ensures.begins
