use Rattle.law_wire_answers.proofs.TurningLaws.{turns_as_asked, dead_as_told}
use Rattle.law_wire_answers.proofs.laws.rounds_turn_as_asked.Goals as goal

pub returns-clause-turns : goal.returns-clause-turns
returns-clause-turns c = λ net rounds inverses old calls good turnable ok. turns_as_asked net rounds inverses turnable old calls good ok

pub returns-clause-dead : goal.returns-clause-dead
returns-clause-dead c = λ net rounds inverses calls s turnable ok less. dead_as_told net rounds inverses turnable calls s ok less
