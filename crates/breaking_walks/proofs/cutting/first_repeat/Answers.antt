use Rattle.std.proofs.Common.{◌<◌, length, arith}
use Rattle.breaking_walks.proofs.CutLaws.{repeat_found, repeat_later}
use Rattle.breaking_walks.proofs.cutting.first_repeat.Goals as goal

pub returns-then-is_repeat : goal.returns-then-is_repeat
returns-then-is_repeat c =
    let less : c.loop-i.i < length c.args.rest.now = omega arith in
    repeat_found c.args.entry c.args.rest.now c.loop-i.i less c.is_repeat.result c.is_repeat.ensures c.loop-i.invariant c.if-is_repeat.true

pub loop-i-preserved : goal.loop-i-preserved
loop-i-preserved c =
    let less : c.loop-i.i < length c.args.rest.now = omega arith in
    repeat_later c.args.entry c.args.rest.now c.loop-i.i less c.is_repeat.result c.is_repeat.ensures c.loop-i.invariant c.if-is_repeat.false
