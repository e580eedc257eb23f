use Rattle.two_way_driver.proofs.WordLaws.{first_call, calls_said, calls_kept}
use Rattle.two_way_driver.proofs.words.said_call_by_call.Goals as goal

pub returns-clause-call : goal.returns-clause-call
returns-clause-call c = λ words v call. first_call words v call

pub returns-clause-said : goal.returns-clause-said
returns-clause-said c = λ v calls. calls_said v calls

pub returns-clause-kept : goal.returns-clause-kept
returns-clause-kept c = λ v calls. calls_kept v calls
