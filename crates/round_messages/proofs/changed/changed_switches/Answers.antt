use Rattle.std.proofs.Common.{subst}
use Rattle.std.proofs.lemmas.List.{take_all}
use Rattle.round_messages.proofs.Marking.{HasChanged}
use Rattle.round_messages.proofs.changed.changed_switches.Goals as goal

pub loop-change-init : goal.loop-change-init
loop-change-init c = c.none-changed.ensures

pub returns : goal.returns
returns c = subst (HasChanged c.loop-change.changed) (take_all c.loop-change.change-index c.args.changes.now c.loop-change-test.false) c.loop-change.invariant
