use Rattle.std.proofs.Common.{◌≡◌, take}
use Rattle.std.specs.Prelude.{None}
use Rattle.net_base.specs.Members.{IsIn}
use Rattle.update_model.specs.declared.Change.{Change}
use Rattle.outcome_changes.specs.Trials.{trial_of, outcome_after, FailsWith}
use Rattle.outcome_changes.proofs.changes_for.Given as goal

abbrev pub invariant-loop-change : goal.invariant-loop-change
invariant-loop-change l = record {
  none : ¬ (outcome_after l.fn.search.net.now l.fn.search.table.now.rules l.fn.search.round.now (trial_of l.fn.place l.dst None) ≡ l.fn.search.wanted);
  before : (c : Change) → IsIn c (take l.change-index l.fn.search.round.now) → FailsWith l.fn.search.net.now l.fn.search.table.now.rules l.fn.search.round.now l.fn.place l.dst l.fn.search.wanted c;
}
