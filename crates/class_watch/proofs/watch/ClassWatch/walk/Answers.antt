use Rattle.class_watch.proofs.watch.ClassWatch.walk.Goals as goal

pub returns-clause-held : goal.returns-clause-held
returns-clause-held c = λ u k round. c.switches_on-came.ensures.held u k c.args.numbered.class (c.walk.ensures u k round)
