use Rattle.plan_format.proofs.TurnLaws.{fails_at}
use Rattle.plan_format.proofs.changes.read_rules.Goals as goal

pub returns-in_err-read_next_rule : goal.returns-in_err-read_next_rule
returns-in_err-read_next_rule c = fails_at _ _ _ _ _ _ _ _ c.loop-i.invariant c.loop-i-test.true c.place_of.ensures c.in_err-read_next_rule.ensures c.from_residual-in_err-read_next_rule.ensures
