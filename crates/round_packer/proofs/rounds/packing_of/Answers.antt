use Rattle.std.proofs.Common.{List, sym, ap, subst}
use Rattle.topology.specs.Networks.{Network}
use Rattle.flow_rules.specs.Tables.{rules_of_all}
use Rattle.flow_rules.specs.declared.rules.Rule.{Rule}
use Rattle.path_walk.specs.UserConfigs.{IsUserConfig}
use Rattle.update_model.specs.declared.Change.{Change}
use Rattle.table_difference.specs.Targets.{Target}
use Rattle.round_tables.specs.Filling.{AreTakenChanges}
use Rattle.round_packer.specs.Filling.{EndsAt}
use Rattle.round_packer.proofs.rounds.packing_of.Goals as goal

pub pack_from-ended-requires-clause-trial : goal.pack_from-ended-requires-clause-trial
pack_from-ended-requires-clause-trial c = subst (λ (n : Network). AreTakenChanges n c.in_ok-trial.trial) (ap (λ (a : Target). a.net) c.goal.view_is) c.in_ok-trial.ensures.taken

pub pack_from-ended-requires-clause-old : goal.pack_from-ended-requires-clause-old
pack_from-ended-requires-clause-old c = subst (IsUserConfig c.args.goal.now.net) (sym c.in_ok-trial.ensures.rules) c.requires.old

pub pack_from-ended-requires-clause-none : goal.pack_from-ended-requires-clause-none
pack_from-ended-requires-clause-none c = c.in_ok-trial.ensures.settled.none

pub returns : goal.returns
returns c =
    let to = c.args.goal.now in
    c.answer_of.ensures to (rules_of_all c.args.old.now)
    (subst (λ (rs : List (List Change)). EndsAt to (rules_of_all c.args.old.now) rs c.in_ok-ended.field-0) (sym c.rounds-2.view_is)
    (subst (λ (ts : List (List Rule)). EndsAt to ts c.pack_from-ended.new.rounds c.in_ok-ended.field-0) c.in_ok-trial.ensures.rules c.in_ok-ended.ensures))
