use Rattle.std.proofs.Common.{◌≡◌, take, vec_capacity}
use Rattle.round_mix.specs.Marks.{rules_of}
use Rattle.round_mix.specs.Named.{AreMarked}
use Rattle.round_mix.proofs.named.put_marks.Given as goal

abbrev pub invariant-loop-change : goal.invariant-loop-change
invariant-loop-change l =
    AreMarked (rules_of l.initial.marks.items) (take l.change-index l.changes) l.marks.items × (vec_capacity l.marks ≡ vec_capacity l.initial.marks)
