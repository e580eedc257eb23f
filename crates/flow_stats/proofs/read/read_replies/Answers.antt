use Rattle.flow_stats.proofs.UserTables.{read_shown}
use Rattle.flow_stats.proofs.read.read_replies.Goals as goal

pub returns-clause-user : goal.returns-clause-user
returns-clause-user c = read_shown c.args.net.now c.args.bytes.now c.read_tables.result c.read_tables.ensures
