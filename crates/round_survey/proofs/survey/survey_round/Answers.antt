use Rattle.std.proofs.Common.{List, subst}
use Rattle.dest_classes.specs.declared.Class.{Class}
use Rattle.round_survey.specs.Rounds.{PassesOver}
use Rattle.round_survey.proofs.survey.survey_round.Goals as goal

pub judge-requires-clause-looked : goal.judge-requires-clause-looked
judge-requires-clause-looked c = subst (λ (classes : List Class). PassesOver c.args.round classes c.in_ok-looked.looked) c.deref.ensures.value c.in_ok-looked.ensures
