use Rattle.std.proofs.Common.{subst}
use Rattle.update_model.specs.Mixtures.{Rollout}
use Rattle.round_tables.specs.Loading.{IsFirstRoundFault}
use Rattle.counter_run.proofs.PrepareLaws.{no_fault}
use Rattle.counter_run.proofs.preparing.load.Goals as goal

pub unreachable-requires : goal.unreachable-requires
unreachable-requires c =
    let update = c.args.update in
    no_fault update c.requires.classed c.args.k c.requires.round c.in-Err.field-0
    (subst (λ (v : Rollout). IsFirstRoundFault v c.args.k c.in-Err.field-0) c.rollout.ensures c.in-Err.ensures.err)
