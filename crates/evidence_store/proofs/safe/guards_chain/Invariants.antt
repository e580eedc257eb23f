use Rattle.std.proofs.Common.{take, None}
use Rattle.std.specs.List.{AllByRecursion}
use Rattle.certificates.specs.Ordered.{chain_positions}
use Rattle.check_reasons.specs.Positions.{sets_of}
use Rattle.evidence_store.specs.Guards.{IsGuarded}
use Rattle.evidence_store.proofs.safe.guards_chain.Given as goal

abbrev pub invariant-loop-place : goal.invariant-loop-place
invariant-loop-place l = AllByRecursion (IsGuarded l.start l.walk) (chain_positions None (take l.place l.chain) (take l.place (sets_of l.befores l.indices)))
