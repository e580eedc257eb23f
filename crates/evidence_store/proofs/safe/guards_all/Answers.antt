use Rattle.std.proofs.Common.{◌≡◌, ◌↔◌, ℕ, List, IsTrue, None, length, take, ap, subst, ◌∙◌, arith}
use Rattle.std.specs.List.{AllByRecursion}
use Rattle.std.proofs.lemmas.List.{length-drop}
use Rattle.demands.specs.Duties.{duties_of}
use Rattle.certificates.specs.Ordered.{chain_positions}
use Rattle.certificates.proofs.Chains.{refused}
use Rattle.check_reasons.specs.Positions.{sets_of, position_count}
use Rattle.check_reasons.proofs.PositionLaws.{count_fits, count_next, sets_rest}
use Rattle.evidence_store.specs.Guards.{IsGuarded}
use Rattle.evidence_store.proofs.PositionLaws.{positions_more, positions_of}
use Rattle.evidence_store.proofs.safe.guards_all.Goals as goal

pub from_place-requires : goal.from_place-requires
from_place-requires c =
    let chains = (duties_of c.args.duties.now.demands c.args.numbered.class.entry c.args.numbered.class.first).chains in
    let fits = count_fits chains c.loop-i.i c.chain-chain.result.now (c.chain-chain.ensures.chain c.args.numbered.class c.requires.class) in
    let at_is = c.loop-i.invariant.at_is in
    let count : length c.args.indices.now ≡ position_count chains = c.requires.count in
    omega arith

pub guards_chain-requires-clause-enough : goal.guards_chain-requires-clause-enough
guards_chain-requires-clause-enough c =
    let chains = (duties_of c.args.duties.now.demands c.args.numbered.class.entry c.args.numbered.class.first).chains in
    let fits = count_fits chains c.loop-i.i c.chain-chain.result.now (c.chain-chain.ensures.chain c.args.numbered.class c.requires.class) in
    let at_is = c.loop-i.invariant.at_is in
    let count : length c.args.indices.now ≡ position_count chains = c.requires.count in
    let rest = ap (λ (xs : List ℕ). length xs) c.from_place.ensures ∙ length-drop c.loop-i.at c.args.indices.now in
    omega arith

pub overflow_add-at : goal.overflow_add-at
overflow_add-at c =
    let chains = (duties_of c.args.duties.now.demands c.args.numbered.class.entry c.args.numbered.class.first).chains in
    let fits = count_fits chains c.loop-i.i c.chain-chain.result.now (c.chain-chain.ensures.chain c.args.numbered.class c.requires.class) in
    let at_is = c.loop-i.invariant.at_is in
    let count : length c.args.indices.now ≡ position_count chains = c.requires.count in
    omega arith

pub returns-then-not-guards_chain : goal.returns-then-not-guards_chain
returns-then-not-guards_chain c =
    let chains = (duties_of c.args.duties.now.demands c.args.numbered.class.entry c.args.numbered.class.first).chains in
    let guarded = IsGuarded c.args.numbered.class.entry.switch c.args.walk.now in
    let sets = sets_of c.args.befores.now c.args.indices.now in
    let i = c.loop-i.i in
    let chain = c.chain-chain.result.now in
    let is = c.chain-chain.ensures.chain c.args.numbered.class c.requires.class in
    let rest = sets_rest c.args.befores.now c.args.indices.now c.from_place.result.now c.loop-i.at (position_count (take i chains)) c.from_place.ensures c.loop-i.invariant.at_is in
    let told = subst (λ (xs : List (List ℕ)). IsTrue c.guards_chain.result ↔ AllByRecursion guarded (chain_positions None chain xs)) rest c.guards_chain.ensures in
    refused c.guards_chain.result c.if-not-guards_chain.true told (positions_of guarded chains i chain is sets)

pub loop-i-preserved : goal.loop-i-preserved
loop-i-preserved c =
    let chains = (duties_of c.args.duties.now.demands c.args.numbered.class.entry c.args.numbered.class.first).chains in
    let guarded = IsGuarded c.args.numbered.class.entry.switch c.args.walk.now in
    let sets = sets_of c.args.befores.now c.args.indices.now in
    let i = c.loop-i.i in
    let chain = c.chain-chain.result.now in
    let is = c.chain-chain.ensures.chain c.args.numbered.class c.requires.class in
    let at_is = c.loop-i.invariant.at_is in
    let rest = sets_rest c.args.befores.now c.args.indices.now c.from_place.result.now c.loop-i.at (position_count (take i chains)) c.from_place.ensures at_is in
    let here = subst (λ (xs : List (List ℕ)). AllByRecursion guarded (chain_positions None chain xs)) rest (c.guards_chain.ensures.0 c.if-not-guards_chain.false) in
    let next = count_next chains i chain is in
    record {
      at_is = omega arith;
      guarded = positions_more guarded chains i chain is sets c.loop-i.invariant.guarded here;
    }
