use Rattle.std.proofs.Common.{arith}
use Rattle.certificates.specs.Valid.{IsValidPick}
use Rattle.certificates.proofs.Chains.{granted, all_from}
use Rattle.certificates.proofs.validity.are_valid_picks.Goals as goal

pub returns : goal.returns
returns c = let past = c.loop-pick-test.false in granted (all_from (IsValidPick c.args.rounds c.args.uses) c.args.picks.now (λ k d lt. c.loop-pick.invariant k d (omega arith)))
