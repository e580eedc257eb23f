use Rattle.std.proofs.Common.{[], sym}
use Rattle.std.proofs.lemmas.Option.{get_or_from_slice_get}
use Rattle.config_files.proofs.write.name_of.Goals as goal

pub returns : goal.returns
returns c = sym (get_or_from_slice_get c.args.net.now.names c.args.switch.0 c.name.result.now [] c.name.ensures)
