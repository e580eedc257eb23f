use Rattle.std.proofs.Common.{◌-◌}
use Rattle.class_watch.specs.Judges.{AreGathered}
use Rattle.class_watch.proofs.groups.gather.Given as goal

abbrev pub invariant-gathering : goal.invariant-gathering
invariant-gathering g l = AreGathered (g.J.ClassJudge.judged l.judge).classes (g.J.ClassJudge.fits l.judge) l.begun l.members.items

abbrev pub decreases-gathering : goal.decreases-gathering
decreases-gathering g l = l.count - l.number
