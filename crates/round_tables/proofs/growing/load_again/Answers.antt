use Rattle.std.proofs.Common.{arith}
use Rattle.round_tables.proofs.LoadLaws.{needed_few}
use Rattle.round_tables.proofs.RefusalLaws.{no_refusal}
use Rattle.round_tables.proofs.growing.load_again.Goals as goal

pub prepare-requires : goal.prepare-requires
prepare-requires c = let few = needed_few c.args.table.now.rules c.args.changes.now in let room = c.requires.room in omega arith

pub unreachable-requires : goal.unreachable-requires
unreachable-requires c = no_refusal c.args.table.now.rules c.args.changes.now c.in-Err.field-0 c.requires.good c.requires.clear c.in-Err.ensures.err
