use Rattle.flow_rules.specs.Tables.{rules_of_all}
use Rattle.two_phase.specs.declared.layers.Layering.TheVariants.{ByDepth}
use Rattle.two_phase.proofs.OwnClasses.{own_classes}
use Rattle.two_phase.proofs.by_depth.two_phase_by_depth.Goals as goal

pub returns-clause-classes : goal.returns-clause-classes
returns-clause-classes c = own_classes c.args.net.now (rules_of_all c.args.old.now) (rules_of_all c.args.new.now) c.requires.old.count ByDepth c.rounds_make_no_classes.ensures
