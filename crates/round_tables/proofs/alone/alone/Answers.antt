use Rattle.round_mix.proofs.TriedLaws.{clear_none}
use Rattle.round_tables.proofs.alone.alone.Goals as goal

pub load_again-requires-clause-clear : goal.load_again-requires-clause-clear
load_again-requires-clause-clear c = clear_none c.args.table.now.rules c.requires
