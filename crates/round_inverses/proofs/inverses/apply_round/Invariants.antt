use Rattle.std.proofs.Common.{◌≡◌, drop}
use Rattle.flow_rules.specs.Tables.{rules_of_all}
use Rattle.update_model.specs.Changes.{tables_after, IsGoodRound}
use Rattle.round_inverses.proofs.inverses.apply_round.Given as goal

abbrev pub invariant-loop-change : goal.invariant-loop-change
invariant-loop-change l = record {
  good : IsGoodRound (rules_of_all l.tables) (drop l.change-index l.round);
  after : tables_after (drop l.change-index l.round) (rules_of_all l.tables) ≡ tables_after l.round (rules_of_all l.initial.tables);
}
