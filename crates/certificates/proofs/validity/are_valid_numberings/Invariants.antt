use Rattle.certificates.specs.Valid.{IsValidNumbering}
use Rattle.certificates.proofs.Chains.{AreUpTo}
use Rattle.certificates.proofs.validity.are_valid_numberings.Given as goal

abbrev pub invariant-loop-numbering : goal.invariant-loop-numbering
invariant-loop-numbering l = AreUpTo (IsValidNumbering l.net) l.numberings l.numbering-index
