use Rattle.std.proofs.Common.{sym, arith, rules}
use Rattle.std.proofs.lemmas.Bool.Decides.{nat_tests}
use Rattle.std.proofs.lemmas.List.{nil_from_length}
use Rattle.switch_session.proofs.TalkLaws.{left_short, left_none, taken_failed, taken_fault, taken_message, message_within, message_error}
use Rattle.switch_session.proofs.channels.Talk.take_front.Goals as goal

pub returns-then-is_empty-clause-none : goal.returns-then-is_empty-clause-none
returns-then-is_empty-clause-none c = left_none c.args.self.now c.args.bytes.now (nil_from_length c.args.bytes.now (grind (arith, nat_tests)))

pub returns-else-is_empty-clause-some : goal.returns-else-is_empty-clause-some
returns-else-is_empty-clause-some c = taken_failed c.args.self.now c.args.bytes.now (sym c.if-is_failed.ensures) (search rules)

pub slice_bounds-take-end : goal.slice_bounds-take-end
slice_bounds-take-end c = let (count, header, whole) = message_within c.args.bytes.now c.in-Message.length (sym c.in-Message.ensures) in sym count

pub take-requires-clause-header : goal.take-requires-clause-header
take-requires-clause-header c = let (count, header, whole) = message_within c.args.bytes.now c.in-Message.length (sym c.in-Message.ensures) in omega arith

pub take-requires-clause-error : goal.take-requires-clause-error
take-requires-clause-error c = message_error c.args.bytes.now c.in-Message.length (sym c.in-Message.ensures)

pub returns-in-Short-clause-none : goal.returns-in-Short-clause-none
returns-in-Short-clause-none c = left_short c.args.self.now c.args.bytes.now (sym c.if-is_failed.ensures) (sym c.in-Short.ensures)

pub returns-in-Fault-clause-some : goal.returns-in-Fault-clause-some
returns-in-Fault-clause-some c = taken_fault c.args.self.now c.fail.new.self c.args.bytes.now c.in-Fault.cause (sym c.if-is_failed.ensures) (sym c.in-Fault.ensures) c.fail.ensures.state c.fail.ensures.sent

pub returns-in-Message-clause-some : goal.returns-in-Message-clause-some
returns-in-Message-clause-some c = taken_message c.args.self.now c.take.new.self c.args.bytes.now c.in-Message.length (sym c.if-is_failed.ensures) (sym c.in-Message.ensures) c.take.ensures.state c.take.ensures.room
