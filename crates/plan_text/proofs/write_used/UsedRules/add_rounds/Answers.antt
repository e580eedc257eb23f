use Rattle.std.proofs.Common.{List, ap, ◌∙◌, arith}
use Rattle.std.proofs.lemmas.List.{take_all}
use Rattle.update_model.specs.declared.Change.{Change}
use Rattle.plan_text.specs.PlanText.{rules_of}
use Rattle.plan_text.specs.Uses.{with_uses}
use Rattle.plan_text.proofs.write_used.UsedRules.add_rounds.Goals as goal

pub returns : goal.returns
returns c = c.loop-k.invariant ∙ ap (λ (rounds : List (List Change)). with_uses c.args.self.now (rules_of rounds)) (take_all c.loop-k.k c.args.rounds.now (omega arith))
