use Rattle.std.proofs.Common.{ap}
use Rattle.table_difference.specs.Targets.{Target}
use Rattle.round_judge.proofs.JudgingLaws.{numbered_within, round_here}
use Rattle.round_judge.proofs.goal.Goal.walk.Goals as goal

pub walk-requires-clause-round : goal.walk-requires-clause-round
walk-requires-clause-round c =
    let (u, k, round) = c.requires.round in
    (u, k, round_here c.args.self.now.net c.self.inside.net.now (ap (λ (a : Target). a.net) c.self.view_is) c.args.mixes.now u k round)

pub walk-requires-clause-entry : goal.walk-requires-clause-entry
walk-requires-clause-entry c =
    numbered_within c.self.inside.net.now c.keeps_rules.ensures c.args.self.now.classes c.self.inside.classes.now (ap (λ (a : Target). a.classes) c.self.view_is) c.self.invariant.hosts c.args.numbered c.requires.class

pub returns-clause-walked : goal.returns-clause-walked
returns-clause-walked c u k round =
    c.walk.ensures.walked u k (round_here c.args.self.now.net c.self.inside.net.now (ap (λ (a : Target). a.net) c.self.view_is) c.args.mixes.now u k round)

pub returns-clause-held : goal.returns-clause-held
returns-clause-held c u k round =
    c.walk.ensures.held u k (round_here c.args.self.now.net c.self.inside.net.now (ap (λ (a : Target). a.net) c.self.view_is) c.args.mixes.now u k round)
