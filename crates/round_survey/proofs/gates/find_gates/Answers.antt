use Rattle.std.proofs.Common.{◌<◌, get_or, sym, subst, arith}
use Rattle.net_base.proofs.MemberLaws.{each_at}
use Rattle.net_base.proofs.ItemLaws.{in_at}
use Rattle.topology.specs.Networks.{switch_count}
use Rattle.acyclic_numbering.specs.declared.Edge.{Edge}
use Rattle.round_survey.specs.Gates.{AreStepsOf}
use Rattle.round_survey.proofs.gates.find_gates.Goals as goal

pub number-requires-clause-edges : goal.number-requires-clause-edges
number-requires-clause-edges c k d less =
    let net = c.args.net.now in
    let steps = c.steps.result.now in
    let all : AreStepsOf net steps = subst (AreStepsOf net) (sym c.steps.ensures) c.requires in
    let one = each_at (λ (e : Edge). (e.from.0 < switch_count net) × (e.to.0 < switch_count net)) steps (get_or steps k d) all (in_at steps k d less) in
    let (from, to) = one in
    let count = c.switches.ensures.value in
    (omega arith, omega arith)
