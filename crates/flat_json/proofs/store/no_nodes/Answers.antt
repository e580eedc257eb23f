use Rattle.std.proofs.Common.{refl}
use Rattle.flat_json.specs.Stores.{is_ordered}
use Rattle.flat_json.proofs.store.no_nodes.Goals as goal

pub returns : goal.returns
unfolding is_ordered
returns c = rw (c.new.ensures.items) refl
