use Rattle.std.proofs.Common.{◌≡◌, take}
use Rattle.update_model.specs.Changes.{changes_at}
use Rattle.round_tables.proofs.steps.changes_there.Given as goal

abbrev pub invariant-loop-change : goal.invariant-loop-change
invariant-loop-change l = l.list.items ≡ changes_at l.switch (take l.change-index l.round)
