use Rattle.std.proofs.Common.{length, take}
use Rattle.update_driver.specs.Inside.{HoldTexts}
use Rattle.update_driver.proofs.turns.put_messages.Given as goal

abbrev pub invariant-loop-message : goal.invariant-loop-message
invariant-loop-message l = HoldTexts (take l.message-index l.messages) (length l.initial.turns.items) l.turns.items
