use Rattle.std.proofs.Common.{arith}
use Rattle.mixed_walks.proofs.WalkedLaws.{walked_none}
use Rattle.mixed_walks.proofs.walk.WalkRoom.start.Goals as goal

pub start-requires : goal.start-requires
start-requires c =
    let few = c.keeps_rules.ensures.few in
    let entry = c.requires in
    omega arith

pub returns : goal.returns
returns c u k = walked_none u k c.args.class.first c.args.class.entry c.start.new.self c.start.ensures.places c.start.ensures.once c.start.ensures.nothing
