use Rattle.class_watch.proofs.StandLaws.{untouched_walk}
use Rattle.class_watch.proofs.unmet.misses_walk.Goals as goal

pub returns-then-not-touched : goal.returns-then-not-touched
returns-then-not-touched c _ = untouched_walk c.args.changes.now c.args.class c.args.came (c.requires c.if-not-touched.true)
