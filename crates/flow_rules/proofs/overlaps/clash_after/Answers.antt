use Rattle.std.proofs.Common.{◌<◌, ◌≤◌, length}
use Rattle.std.proofs.lemmas.Bool.{both_ways}
use Rattle.flow_rules.proofs.ClashLaws.{free_more, free_end}
use Rattle.flow_rules.proofs.overlaps.clash_after.Goals as goal

pub loop-j-preserved : goal.loop-j-preserved
loop-j-preserved c =
    let rules = c.args.rules.now in
    let i_in : c.args.i < length rules = c.requires in
    let j_in : c.loop-j.j < length rules = c.loop-j-test.true in
    free_more rules c.args.i c.loop-j.j c.index-rules-i.result c.index-rules-j.result i_in j_in c.index-rules-i.is c.index-rules-j.is
    (λ clash. both_ways c.clashes.result c.if-clashes.false (c.clashes.ensures.1 clash)) c.loop-j.invariant

pub returns : goal.returns
returns c =
    let end : length c.args.rules.now ≤ c.loop-j.j = c.loop-j-test.false in
    free_end c.args.rules.now c.args.i c.loop-j.j end c.loop-j.invariant
