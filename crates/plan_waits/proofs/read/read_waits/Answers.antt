use Rattle.plan_waits.proofs.Reading.{said_if_given, given_if_said}
use Rattle.flat_json.specs.Trees.{data_of}
use Rattle.plan_waits.proofs.read.read_waits.Goals as goal

pub returns-clause-said : goal.returns-clause-said
returns-clause-said c = (said_if_given c.args.plan.now (data_of c.args.tree.now c.args.top.now) c.read_top.result c.read_top.ensures).0

pub returns-clause-may : goal.returns-clause-may
returns-clause-may c = (said_if_given c.args.plan.now (data_of c.args.tree.now c.args.top.now) c.read_top.result c.read_top.ensures).1

pub returns-clause-err : goal.returns-clause-err
returns-clause-err c = given_if_said c.args.plan.now (data_of c.args.tree.now c.args.top.now) c.read_top.result c.read_top.ensures
