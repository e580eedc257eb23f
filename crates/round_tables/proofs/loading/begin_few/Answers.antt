use Rattle.std.proofs.Common.{length}
use Rattle.round_tables.specs.PreparedTables.{mix_at}
use Rattle.round_tables.proofs.GatherLaws.{room_for_all}
use Rattle.round_tables.proofs.loading.begin_few.Goals as goal

pub begin_all_at-requires-clause-room : goal.begin_all_at-requires-clause-room
begin_all_at-requires-clause-room c =
    room_for_all c.args.table.now.rules (mix_at c.args.mixes.now c.args.switch) (length c.args.changes.now) c.requires.alone c.requires.room
