use Rattle.std.proofs.Common.{◌≡◌, ◌++◌, drop}
use Rattle.flow_rules.specs.Tables.{rules_of_all}
use Rattle.round_inverses.specs.Rounds.{AreGoodFrom, inverse_rounds}
use Rattle.round_inverses.proofs.inverses.inverse_rounds.Given as goal

abbrev pub invariant-loop-k : goal.invariant-loop-k
invariant-loop-k l = record {
  good : AreGoodFrom (rules_of_all l.tables) (drop l.k l.rounds);
  inverses : l.inverses ++ inverse_rounds (rules_of_all l.tables) (drop l.k l.rounds) ≡ inverse_rounds (rules_of_all l.old) l.rounds;
}
