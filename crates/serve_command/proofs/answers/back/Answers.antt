use Rattle.two_way_driver.specs.Calls.{back_fault, turned_view}
use Rattle.serve_command.proofs.AnswerLaws.{refused_call, refused_outcome, refused_serving}
use Rattle.serve_command.proofs.answers.back.Goals as goal

pub returns-in-Err-clause-ok : goal.returns-in-Err-clause-ok
returns-in-Err-clause-ok c = refused_call _ _ _ _ (back_fault c.args.driver.now) c.in-Err.ensures.err c.in-Err.ensures.refused c.refusal.ensures (turned_view c.args.driver.now)

pub returns-in-Err-clause-outcome : goal.returns-in-Err-clause-outcome
returns-in-Err-clause-outcome c = refused_outcome _ _ _ _ (back_fault c.args.driver.now) c.in-Err.ensures.err c.in-Err.ensures.refused c.refusal.ensures _

pub returns-in-Err-clause-serving : goal.returns-in-Err-clause-serving
returns-in-Err-clause-serving c = refused_serving _ _ _ _ (back_fault c.args.driver.now) c.in-Err.ensures.err c.in-Err.ensures.refused c.refusal.ensures c.requires
