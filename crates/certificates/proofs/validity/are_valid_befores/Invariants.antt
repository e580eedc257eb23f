use Rattle.certificates.specs.Valid.{IsValidBefore}
use Rattle.certificates.proofs.Chains.{AreUpTo}
use Rattle.certificates.proofs.validity.are_valid_befores.Given as goal

abbrev pub invariant-loop-before : goal.invariant-loop-before
invariant-loop-before l = AreUpTo (IsValidBefore l.net) l.befores l.before-index
