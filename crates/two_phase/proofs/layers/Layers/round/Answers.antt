use Rattle.two_phase.proofs.layers.Layers.round.Goals as goal

pub returns-in-Ranks : goal.returns-in-Ranks
returns-in-Ranks c = rw c.in-Ranks.is (λ rules are. c.round_of.ensures rules are)

pub returns-in-Depths : goal.returns-in-Depths
returns-in-Depths c = rw c.in-Depths.is (λ rules are. c.round_at.ensures rules are)
