use Rattle.std.proofs.Common.{sym, ap, subst}
use Rattle.std.proofs.lemmas.Result.{on_ok_weaker}
use Rattle.topology.specs.Networks.{Network}
use Rattle.table_difference.specs.Targets.{Target}
use Rattle.round_tables.specs.Filling.{AreTakenChanges}
use Rattle.round_packer.proofs.rounds.keep_round.Goals as goal

pub make_round-requires : goal.make_round-requires
make_round-requires c = subst (λ (n : Network). AreTakenChanges n c.args.trial.now) (sym (ap (λ (a : Target). a.net) c.goal.view_is)) c.requires

pub returns-clause-trial : goal.returns-clause-trial
returns-clause-trial c =
    on_ok_weaker c.make_round.result (λ trial. subst (λ (n : Network). AreTakenChanges n c.make_round.new.self) (ap (λ (a : Target). a.net) c.goal.view_is) trial) c.make_round.ensures.stands
