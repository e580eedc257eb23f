use Rattle.std.proofs.Common.{◌≡◌, drop}
use Rattle.std.specs.Prelude.{filter}
use Rattle.update_model.specs.Changes.{rules_after}
use Rattle.round_mix.specs.Prepared.{AreGood}
use Rattle.outcome_changes.specs.Trials.{takes}
use Rattle.outcome_changes.proofs.trying.Trial.table_after.Given as goal

abbrev pub invariant-loop-change : goal.invariant-loop-change
invariant-loop-change l = record {
  good : AreGood l.tried.rules (filter (takes l.self) (drop l.change-index l.round));
  rules : rules_after (filter (takes l.self) (drop l.change-index l.round)) l.tried.rules ≡ rules_after (filter (takes l.self) l.round) l.table.rules;
}
