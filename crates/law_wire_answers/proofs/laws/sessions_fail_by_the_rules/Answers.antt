use Rattle.law_wire_answers.proofs.FailingLaws.{fails_by_rules}
use Rattle.law_wire_answers.proofs.laws.sessions_fail_by_the_rules.Goals as goal

pub returns : goal.returns
returns c = λ net rounds inverses calls s byte turnable ok less. fails_by_rules net rounds inverses turnable calls s byte ok less
