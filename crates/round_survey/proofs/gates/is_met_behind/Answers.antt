use Rattle.std.proofs.Common.{length, drop, ap, subst, inr, arith}
use Rattle.round_survey.specs.Gates.{AreBelow}
use Rattle.round_survey.proofs.gates.is_met_behind.Goals as goal

pub behind_first-requires : goal.behind_first-requires
behind_first-requires c = let same = ap length c.requires in omega arith

pub returns : goal.returns
returns c on =
    let gates = c.args.gates.now in
    inr (drop 1 c.args.chain.now, c.requires, subst (AreBelow gates.numbering gates.set c.args.entry) c.behind_first.ensures (c.are_below.ensures on))
