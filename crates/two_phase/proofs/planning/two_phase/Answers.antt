use Rattle.flow_rules.specs.Tables.{rules_of_all}
use Rattle.two_phase.specs.declared.layers.Layering.TheVariants.{ByRank}
use Rattle.two_phase.proofs.OwnClasses.{own_classes}
use Rattle.two_phase.proofs.planning.two_phase.Goals as goal

pub returns-clause-classes : goal.returns-clause-classes
returns-clause-classes c = own_classes c.args.net.now (rules_of_all c.args.old.now) (rules_of_all c.args.new.now) c.requires.old.count ByRank c.rounds_make_no_classes.ensures
