use Rattle.std.proofs.Common.{suc, ◌∙◌, ap}
use Rattle.std.specs.Prelude.{reverse}
use Rattle.std.proofs.lemmas.Result.{IfOk-weaker}
use Rattle.net_base.specs.Numbers.{numbers_from}
use Rattle.two_phase.proofs.SwitchLaws.{ranks_are}
use Rattle.two_phase.proofs.DeepLaws.{greatest_is}
use Rattle.two_phase.proofs.layers.Layers.laying_order.Goals as goal

pub returns-in-Ranks : goal.returns-in-Ranks
returns-in-Ranks c =
    rw c.in-Ranks.is (λ net new are. IfOk-weaker c.ranks_of.result _ _ (λ v is. is ∙ ap reverse (ranks_are net new c.in-Ranks.rules are)) c.ranks_of.ensures)

pub returns-in-Depths : goal.returns-in-Depths
returns-in-Depths c =
    rw c.in-Depths.is (λ net new are.
    IfOk-weaker c.numbers_to.result _ _ (λ v is. is ∙ ap (numbers_from 0) (ap suc c.greatest.ensures ∙ greatest_is net new c.in-Depths.rules are)) c.numbers_to.ensures)
