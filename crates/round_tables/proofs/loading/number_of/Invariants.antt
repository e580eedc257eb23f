use Rattle.std.proofs.Common.{◌≡◌, ◌+◌, length, take}
use Rattle.update_model.specs.Changes.{changes_at}
use Rattle.round_tables.proofs.loading.number_of.Given as goal

abbrev pub invariant-loop-i : goal.invariant-loop-i
invariant-loop-i l = length (changes_at l.switch (take l.i l.round)) + l.left ≡ l.fn.nth
