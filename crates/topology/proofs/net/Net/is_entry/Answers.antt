use Rattle.topology.proofs.EntryLaws.{entry_found}
use Rattle.topology.proofs.net.Net.is_entry.Goals as goal

pub returns : goal.returns
returns c = rw c.takes_in.ensures (entry_found c.args.self.now c.args.place)
