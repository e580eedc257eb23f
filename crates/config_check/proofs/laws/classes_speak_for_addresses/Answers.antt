use Rattle.std.proofs.Common.{subst}
use Rattle.flow_rules.specs.Tables.{rules_of_all}
use Rattle.dest_classes.specs.Classes.{ClassList}
use Rattle.demands.specs.Good.{HasGoodPaths}
use Rattle.config_check.proofs.AddressLaws.{good_everywhere}
use Rattle.config_check.proofs.laws.classes_speak_for_addresses.Goals as goal

pub returns : goal.returns
returns c =
    λ good. good_everywhere c.args.net.now (rules_of_all c.args.config.now) c.args.demands.now c.args.classes.now.prefixes c.requires.prefixes
    (subst (λ (classes : ClassList). HasGoodPaths c.args.net.now (rules_of_all c.args.config.now) c.args.demands.now classes) c.requires.classes good)
