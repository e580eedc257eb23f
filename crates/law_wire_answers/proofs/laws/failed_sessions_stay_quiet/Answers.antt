use Rattle.law_wire_answers.proofs.FailingLaws.{stays_quiet}
use Rattle.law_wire_answers.proofs.laws.failed_sessions_stay_quiet.Goals as goal

pub returns : goal.returns
returns c = λ net rounds inverses calls s call turnable ok here less failed open_not. stays_quiet net rounds inverses turnable calls s call ok here less failed open_not
