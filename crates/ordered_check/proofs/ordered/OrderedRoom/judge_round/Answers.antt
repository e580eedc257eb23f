use Rattle.ordered_check.proofs.RoundLaws.{first_of_all, none_of_all}
use Rattle.ordered_check.proofs.ordered.OrderedRoom.judge_round.Goals as goal

pub returns-clause-none : goal.returns-clause-none
returns-clause-none c = none_of_all c.args.of.now.task c.args.of.now.evidence c.args.k c.judge_classes.result c.judge_classes.ensures.found

pub returns-clause-some : goal.returns-clause-some
returns-clause-some c = first_of_all c.args.of.now.task c.args.of.now.evidence c.args.k c.judge_classes.result c.judge_classes.ensures.found
