use Rattle.std.proofs.Common.{◌≡◌, arith}
use Rattle.std.proofs.lemmas.Bool.{false≢true}
use Rattle.demands.specs.Duties.{duties_of}
use Rattle.check_reasons.specs.Positions.{position_count}
use Rattle.check_reasons.proofs.PositionLaws.{count_fits, count_next}
use Rattle.check_reasons.proofs.positions.has_positions.Goals as goal

pub returns-then-chain-left : goal.returns-then-chain-left
returns-then-chain-left c =
    let chains = (duties_of c.args.duties.now.demands c.args.numbered.class.entry c.args.numbered.class.first).chains in
    let is = c.chain-chain.ensures.chain c.args.numbered.class c.requires.class in
    let fits = count_fits chains c.loop-i.i c.chain-chain.result.now is in
    let so_far = c.loop-i.invariant in
    let more = c.if-chain-left.true in (
      λ e. absurd (false≢true e),
      λ same. absurd (let all : c.args.count ≡ position_count chains = same in omega arith),
    )

pub loop-i-preserved : goal.loop-i-preserved
loop-i-preserved c =
    let chains = (duties_of c.args.duties.now.demands c.args.numbered.class.entry c.args.numbered.class.first).chains in
    let is = c.chain-chain.ensures.chain c.args.numbered.class c.requires.class in
    let next = count_next chains c.loop-i.i c.chain-chain.result.now is in
    let so_far = c.loop-i.invariant in
    let less = c.if-chain-left.false in
    omega arith
