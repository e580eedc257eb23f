use Rattle.flow_rules.specs.Tables.{rules_of_all}
use Rattle.command_base.specs.Updates.{meaning_of}
use Rattle.round_planner.proofs.UpdateLaws.{good_back}
use Rattle.plan_command.proofs.planning.search_reply.Goals as goal

pub order-requires-clause-old_good : goal.order-requires-clause-old_good
order-requires-clause-old_good c =
    let ends = c.requires.ends in
    good_back (meaning_of c.args.files.now) c.args.ends.now.map ends.classed.map c.args.ends.now.duties ends.classed.duties (rules_of_all c.args.files.now.old) ends.good.old_good

pub order-requires-clause-new_good : goal.order-requires-clause-new_good
order-requires-clause-new_good c =
    let ends = c.requires.ends in
    good_back (meaning_of c.args.files.now) c.args.ends.now.map ends.classed.map c.args.ends.now.duties ends.classed.duties (rules_of_all c.args.files.now.new) ends.good.new_good
