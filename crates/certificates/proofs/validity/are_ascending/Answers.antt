use Rattle.std.proofs.Common.{arith}
use Rattle.certificates.specs.Valid.{IsPickBefore}
use Rattle.certificates.proofs.Chains.{granted, chain_from, chain_more, chain_refused}
use Rattle.certificates.proofs.validity.are_ascending.Goals as goal

pub returns-then-not-is_pick_before : goal.returns-then-not-is_pick_before
returns-then-not-is_pick_before c = chain_refused IsPickBefore c.args.picks.now c.loop-k.k _ c.is_pick_before.result c.loop-k.auto.k c.loop-k-test.true c.if-not-is_pick_before.true c.is_pick_before.ensures

pub loop-k-preserved : goal.loop-k-preserved
loop-k-preserved c = chain_more IsPickBefore c.args.picks.now c.loop-k.k _ c.loop-k.auto.k c.loop-k-test.true (c.is_pick_before.ensures.0 c.if-not-is_pick_before.false) c.loop-k.invariant

pub returns : goal.returns
returns c = granted (chain_from IsPickBefore c.args.picks.now (λ k d lt. c.loop-k.invariant k d (omega arith)))
