use Rattle.std.proofs.Common.{◌≡◌}
use Rattle.round_judge.specs.Judged.{AreWithPicks}
use Rattle.round_judge.proofs.picking.add_picks.Given as goal

abbrev pub invariant-loop-new : goal.invariant-loop-new
invariant-loop-new l = AreWithPicks l.fn.store.evidence l.round l.yielded l.store.evidence × (l.store.classes ≡ l.fn.store.classes)
