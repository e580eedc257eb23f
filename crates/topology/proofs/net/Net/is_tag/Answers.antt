use Rattle.topology.proofs.EntryLaws.{tag_found}
use Rattle.topology.proofs.net.Net.is_tag.Goals as goal

pub returns-clause-meaning : goal.returns-clause-meaning
returns-clause-meaning c = rw c.is_available.ensures (tag_found c.args.self.now c.args.id)
