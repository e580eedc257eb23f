use Rattle.certificates.specs.Valid.{IsValidLabelPick}
use Rattle.certificates.proofs.Chains.{AreUpTo}
use Rattle.certificates.proofs.validity.are_valid_label_picks.Given as goal

abbrev pub invariant-loop-pick : goal.invariant-loop-pick
invariant-loop-pick l = AreUpTo (IsValidLabelPick l.rounds l.tables) l.picks l.pick-index
