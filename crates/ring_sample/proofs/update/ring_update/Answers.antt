use Rattle.flow_rules.specs.Tables.{rules_of_all}
use Rattle.ring_sample.proofs.ReadLaws.{read_tree, read_classes, read_changes}
use Rattle.ring_sample.proofs.update.ring_update.Goals as goal

pub returns-clause-tree : goal.returns-clause-tree
returns-clause-tree c =
    read_tree c.args.size.switches c.args.size.least c.in_ok-net.net (rules_of_all c.in_ok-old.old) (rules_of_all c.in_ok-new.new) c.in_ok-demands.demands
    c.in_ok-net.ensures c.in_ok-old.ensures.tables c.in_ok-new.ensures.tables c.in_ok-demands.ensures c.keeps_rules.ensures

pub returns-clause-classes : goal.returns-clause-classes
returns-clause-classes c =
    read_classes c.args.size.switches c.args.size.least c.in_ok-net.net (rules_of_all c.in_ok-old.old) (rules_of_all c.in_ok-new.new) c.in_ok-demands.demands
    c.in_ok-net.ensures c.in_ok-old.ensures.tables c.in_ok-new.ensures.tables c.in_ok-demands.ensures

pub returns-clause-differ : goal.returns-clause-differ
returns-clause-differ c =
    read_changes c.args.size.switches c.args.size.least c.in_ok-net.net (rules_of_all c.in_ok-old.old) (rules_of_all c.in_ok-new.new) c.in_ok-demands.demands
    c.in_ok-net.ensures c.in_ok-old.ensures.tables c.in_ok-new.ensures.tables c.in_ok-demands.ensures
