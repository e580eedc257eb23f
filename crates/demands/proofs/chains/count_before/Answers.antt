use Rattle.std.proofs.Common.{length, [], ap, sym, ◌∙◌, arith}
use Rattle.demands.specs.Duties.{chain_lt}
use Rattle.demands.proofs.ChainLaws.{leading_at, read_at}
use Rattle.demands.proofs.chains.count_before.Goals as goal

pub returns-then-not-is_before : goal.returns-then-not-is_before
returns-then-not-is_before c =
    leading_at c.args.chain.now c.args.chains.now c.loop-i.i [] c.loop-i.invariant (omega arith)
    (λ lt. ap (λ x. chain_lt x c.args.chain.now) (read_at c.args.chains.now c.loop-i.i c.index-chains-i.result [] lt c.index-chains-i.is) ∙ sym c.is_before.ensures ∙ c.if-not-is_before.true)

pub returns : goal.returns
returns c =
    leading_at c.args.chain.now c.args.chains.now (length c.args.chains.now) []
    (λ k lt. let past = c.loop-i-test.false in c.loop-i.invariant k (omega arith)) (omega arith) (λ lt. absurd (omega arith))
