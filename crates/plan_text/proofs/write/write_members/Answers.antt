use Rattle.std.proofs.Common.{sym, subst}
use Rattle.std.proofs.lemmas.Result.{on_ok_weaker}
use Rattle.serde_json.specs.Data.{Members}
use Rattle.plan_text.specs.Tokens.{closed_tokens, Adds}
use Rattle.plan_text.proofs.Order.{ordered_is, two_phase_is}
use Rattle.plan_text.proofs.write.write_members.Goals as goal

pub returns-in-Ordered : goal.returns-in-Ordered
returns-in-Ordered c =
    on_ok_weaker c.write_ordered.result (λ e.
    subst (λ (ms : Members). Adds c.args.out.now c.write_ordered.new.out (closed_tokens ms))
    (sym (ordered_is c.args.net.now c.args.rules.now c.args.plan.now c.in-Ordered.evidence c.in-Ordered.is)) e) c.write_ordered.ensures

pub returns-in-TwoPhase : goal.returns-in-TwoPhase
returns-in-TwoPhase c =
    on_ok_weaker c.write_two_phase.result (λ e.
    subst (λ (ms : Members). Adds c.args.out.now c.write_two_phase.new.out (closed_tokens ms))
    (sym (two_phase_is c.args.net.now c.args.rules.now c.args.plan.now c.in-TwoPhase.evidence c.in-TwoPhase.is)) e) c.write_two_phase.ensures
