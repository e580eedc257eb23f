use Rattle.std.proofs.Common.{◌∙◌, ◌++◌, ◌∷◌, [], ap}
use Rattle.two_phase.proofs.rounds.add_round.Goals as goal

pub returns : goal.returns
returns c = λ rules o. c.in_ok-push_round.ensures.ok ∙ ap (λ round. c.args.rounds.now ++ (round ∷ [])) (c.in_ok-round.ensures rules o)
