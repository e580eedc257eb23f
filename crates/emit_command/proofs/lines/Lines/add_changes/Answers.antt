use Rattle.std.proofs.Common.{sym}
use Rattle.emit_command.proofs.Adding.{change_added}
use Rattle.emit_command.proofs.lines.Lines.add_changes.Goals as goal

pub loop-change-preserved : goal.loop-change-preserved
loop-change-preserved c =
    change_added c.args.net.now c.args.round c.args.changes.now c.loop-change.change-index c.change-item.result c.args.self.now c.loop-change.self c.add_change.new.self c.loop-change.invariant
    c.loop-change-test.true (sym c.change-item.is) c.in_ok-add_change.ensures
