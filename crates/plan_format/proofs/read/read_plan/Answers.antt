use Rattle.plan_format.proofs.ValidPlans.{valid_if_given}
use Rattle.plan_format.proofs.read.read_plan.Goals as goal

pub returns-clause-valid : goal.returns-clause-valid
returns-clause-valid c = valid_if_given c.args.net.now c.args.bytes.now c.read_file.result c.read_file.ensures
