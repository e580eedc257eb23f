use Rattle.command_base.specs.Updates.{meaning_of}
use Rattle.plan_command.proofs.NewPlanLaws.{good_ends, broken_end, break_fits}
use Rattle.plan_command.proofs.ends.judge_classes.Goals as goal

pub class-class-requires : goal.class-class-requires
class-class-requires c = break_fits (meaning_of c.args.files.now) c.args.classed c.requires.classed c.in-Some.end c.in-Some.ensures.some

pub returns-in-Some : goal.returns-in-Some
returns-in-Some c =
    broken_end (meaning_of c.args.files.now) c.args.classed c.requires.classed c.in-Some.end c.class-class.result c.in-Some.ensures.some c.in-Some.ensures.fails c.class-class.ensures.is

pub returns-in-None : goal.returns-in-None
returns-in-None c = good_ends (meaning_of c.args.files.now) c.args.classed c.requires.classed c.in-None.ensures.none
