use Rattle.std.proofs.Common.{subst}
use Rattle.flow_rules.specs.Tables.{rules_of_all}
use Rattle.round_planner.specs.Ends.{IsNotStuck}
use Rattle.round_planner.specs.declared.Ordered.{Ordered}
use Rattle.command_base.specs.Updates.{meaning_of}
use Rattle.round_planner.proofs.UpdateLaws.{good_back, tree_for}
use Rattle.sample_command.proofs.planning.searched_plan.Goals as goal

pub order-requires-clause-old_good : goal.order-requires-clause-old_good
order-requires-clause-old_good c =
    good_back (meaning_of c.args.files.now) c.args.classed.now.map c.requires.classed.map c.args.classed.now.duties c.requires.classed.duties (rules_of_all c.args.files.now.old) c.requires.tree.old_good

pub order-requires-clause-new_good : goal.order-requires-clause-new_good
order-requires-clause-new_good c =
    good_back (meaning_of c.args.files.now) c.args.classed.now.map c.requires.classed.map c.args.classed.now.duties c.requires.classed.duties (rules_of_all c.args.files.now.new) c.requires.tree.new_good

pub unreachable-requires : goal.unreachable-requires
unreachable-requires c =
    subst (λ (o : Ordered). IsNotStuck o) c.in-Stuck.is
    (c.in_ok-plan.ensures.tree (tree_for (meaning_of c.args.files.now) c.args.classed.now.duties c.args.classed.now.map c.requires.classed.duties c.requires.tree))
