use Rattle.std.proofs.Common.{ap, arith}
use Rattle.topology.specs.Networks.{switch_count}
use Rattle.update_model.specs.Mixtures.{Rollout}
use Rattle.round_tables.specs.PreparedTables.{mix_at}
use Rattle.round_tables.proofs.RoomLaws.{some_mixed}
use Rattle.round_tables.proofs.TableLaws.{switch_n}
use Rattle.round_tables.proofs.prepared.PreparedTables.first_over.Goals as goal

pub need-need-requires-clause-prepared : goal.need-need-requires-clause-prepared
need-need-requires-clause-prepared c =
    let s = switch_n c.loop-i.i in
    let count = ap (λ (u : Rollout). switch_count u.net) c.update.view_is in
    some_mixed _ _ (mix_at c.args.self.now.mixes s).prepared (c.requires.prepared.each s (omega (arith, c.loop-i-test.true, c.switches-i-end.ensures.value, c.requires.count, c.requires.prepared.count)))
