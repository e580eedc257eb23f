use Rattle.certificates.specs.Valid.{IsValidPick}
use Rattle.certificates.proofs.Chains.{AreUpTo}
use Rattle.certificates.proofs.validity.are_valid_picks.Given as goal

abbrev pub invariant-loop-pick : goal.invariant-loop-pick
invariant-loop-pick l = AreUpTo (IsValidPick l.rounds l.uses) l.picks l.pick-index
