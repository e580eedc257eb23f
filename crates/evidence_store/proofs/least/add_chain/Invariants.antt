use Rattle.std.proofs.Common.{◌≡◌, ℕ, List, ◌++◌, length, take, None}
use Rattle.std.specs.List.{AllByRecursion}
use Rattle.certificates.specs.Ordered.{chain_positions}
use Rattle.evidence_store.specs.Guards.{IsLeastGuard}
use Rattle.evidence_store.proofs.least.add_chain.Given as goal

abbrev pub invariant-loop-place : goal.invariant-loop-place
invariant-loop-place l =
    (sets : List (List ℕ)) × (l.befores ≡ l.fn.befores ++ sets) × (length sets ≡ l.place)
    × AllByRecursion (IsLeastGuard l.net l.start l.walk) (chain_positions None (take l.place l.chain) sets)
