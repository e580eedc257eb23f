use Rattle.std.proofs.Common.{◌∙◌}
use Rattle.update_driver.proofs.StartLaws.{none_outstanding-states}
use Rattle.update_driver.proofs.starts.none_outstanding.Goals as goal

pub returns : goal.returns
returns c = c.all_are_free.ensures ∙ none_outstanding-states c.args.channels.now
