use Rattle.config_files.proofs.UserTables.{read_shown}
use Rattle.config_files.proofs.read.read_config.Goals as goal

pub returns-clause-user : goal.returns-clause-user
returns-clause-user c = read_shown c.args.net.now c.args.bytes.now c.read_bytes.result c.read_bytes.ensures
