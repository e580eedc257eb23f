use Rattle.law_wire_answers.proofs.CallLaws.{says_answered}
use Rattle.law_wire_answers.proofs.laws.events_wait_for_answers.Goals as goal

pub returns : goal.returns
returns c = λ net rounds inverses calls call turnable ok here. says_answered net rounds inverses turnable calls call ok here
