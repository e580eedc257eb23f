use Rattle.std.proofs.Common.{ap, arith}
use Rattle.std.specs.Prelude.{None}
use Rattle.std.proofs.lemmas.List.{get_or_default}
use Rattle.round_mix.specs.Prepared.{MixedState}
use Rattle.round_tables.proofs.LoadLaws.{needed_few}
use Rattle.round_tables.proofs.loading.load_into.Goals as goal

pub prepare-requires : goal.prepare-requires
prepare-requires c =
    let few = needed_few c.args.table.now.rules c.args.changes.now in
    let same = ap (λ (m : MixedState). m.room) (get_or_default c.args.mixes.now c.args.switch.0 c.index-mixes-switch.result (record { prepared = None; room = 0; aimed = None }) c.requires.within) in
    omega (arith, c.requires.room)
