use Rattle.class_watch.proofs.LookedLaws.{AreLinked}
use Rattle.class_watch.proofs.looked.link.Given as goal

abbrev pub invariant-loop-atom : goal.invariant-loop-atom
invariant-loop-atom l = AreLinked l.marks l.atom l.first l.next.items
