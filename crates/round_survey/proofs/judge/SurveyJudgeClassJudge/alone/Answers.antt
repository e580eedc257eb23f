use Rattle.dest_classes.proofs.MapLaws.{number_fits}
use Rattle.round_survey.specs.Rounds.{round_rollout}
use Rattle.round_survey.proofs.SeenLaws.{covers_walked}
use Rattle.round_survey.proofs.judge.SurveyJudgeClassJudge.alone.Goals as goal

pub see-requires : goal.see-requires
see-requires c = c.requires.walked.steps_within

pub chains-wants_gates-requires : goal.chains-wants_gates-requires
chains-wants_gates-requires c = number_fits c.args.self.now.duties.now.classes c.args.numbered.number c.args.numbered.class c.requires.class

pub keeps_duties-requires-clause-number : goal.keeps_duties-requires-clause-number
keeps_duties-requires-clause-number c = number_fits c.args.self.now.duties.now.classes c.args.numbered.number c.args.numbered.class c.requires.class

pub returns-in-Ok-clause-held : goal.returns-in-Ok-clause-held
returns-in-Ok-clause-held c on =
    let judge = c.args.self.now in
    let u = round_rollout judge.round in
    let k = judge.round.number in
    let class = c.args.numbered.class in
    c.keeps_duties.ensures u k (c.in-Ok.ensures u k class (covers_walked u k class.first class.entry c.args.walk.now c.requires.walked)) on
