use Rattle.plan_format.proofs.TurnLaws.{fails_at}
use Rattle.plan_format.proofs.labels.read_labels.Goals as goal

pub returns-in_err-read_next_table : goal.returns-in_err-read_next_table
returns-in_err-read_next_table c = fails_at _ _ _ _ _ _ _ _ c.loop-i.invariant c.loop-i-test.true c.place_of.ensures c.in_err-read_next_table.ensures c.from_residual-in_err-read_next_table.ensures
