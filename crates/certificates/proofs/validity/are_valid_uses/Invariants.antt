use Rattle.certificates.specs.Valid.{IsValidUse}
use Rattle.certificates.proofs.Chains.{AreUpTo}
use Rattle.certificates.proofs.validity.are_valid_uses.Given as goal

abbrev pub invariant-loop-shared : goal.invariant-loop-shared
invariant-loop-shared l = AreUpTo (IsValidUse l.numberings l.befores) l.uses l.shared-index
