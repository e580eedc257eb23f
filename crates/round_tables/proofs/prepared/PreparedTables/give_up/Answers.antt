use Rattle.std.proofs.Common.{◌∙◌}
use Rattle.round_tables.proofs.TrialLaws.{beside_tried, here_tried, settled_ready}
use Rattle.round_tables.proofs.prepared.PreparedTables.give_up.Goals as goal

pub unmark-requires-clause-beside : goal.unmark-requires-clause-beside
unmark-requires-clause-beside c = beside_tried c.args.net.now c.args.change.now c.args.self.now c.requires

pub unmark-requires-clause-here : goal.unmark-requires-clause-here
unmark-requires-clause-here c = here_tried c.args.net.now c.args.change.now c.args.self.now c.requires

pub returns-clause-settled : goal.returns-clause-settled
returns-clause-settled c = settled_ready c.args.net.now c.unmark.new.self (c.unmark.ensures.round ∙ c.requires.none) c.unmark.ensures.ready
