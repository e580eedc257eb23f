use Rattle.std.proofs.Common.{sym, subst}
use Rattle.plan_text.specs.Tokens.{Adds}
use Rattle.plan_text.proofs.Adding.{and_more, token_added}
use Rattle.plan_text.proofs.Order.{rule_closed}
use Rattle.plan_text.proofs.write_changes.write_rule_members.Goals as goal

pub returns : goal.returns
returns c =
    subst (Adds c.args.out.now c.end_object.new.self) (sym (rule_closed c.args.net.now c.args.placed.now))
    (and_more c.in_ok-write_dst.ensures (and_more c.in_ok-write_in_port.ensures (and_more c.in_ok-write_out.ensures (and_more c.in_ok-write_priority.ensures
    (and_more c.in_ok-write_set.ensures (and_more c.in_ok-write_strip.ensures (and_more c.in_ok-write_switch.ensures (and_more c.in_ok-write_test.ensures
    (token_added c.in_ok-end_object.ensures)))))))))
