use Rattle.class_watch.proofs.LookedLaws.{next_here, next_later}
use Rattle.class_watch.proofs.looked.first_from.Goals as goal

pub returns-then-marks-atom-clause-next : goal.returns-then-marks-atom-clause-next
returns-then-marks-atom-clause-next c = next_here c.args.marks.now c.args.atom c.if-marks-atom.true

pub returns-else-marks-atom-clause-next : goal.returns-else-marks-atom-clause-next
returns-else-marks-atom-clause-next c = next_later c.args.marks.now c.args.atom c.args.after c.if-marks-atom.false c.requires.after
