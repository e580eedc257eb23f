use Rattle.flat_json.specs.Trees.{data_of}
use Rattle.plan_waits.proofs.Reading.{list_ascends}
use Rattle.plan_waits.proofs.read.read_plan_waits.Goals as goal

pub first_astray-requires : goal.first_astray-requires
first_astray-requires c = list_ascends _ (data_of c.args.tree.now c.args.member.now) _ c.list.result.now c.list.ensures c.in_ok-numbers.ensures
