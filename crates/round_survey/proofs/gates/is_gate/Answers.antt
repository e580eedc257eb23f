use Rattle.std.proofs.Common.{sym, subst}
use Rattle.net_base.specs.Members.{IsIn}
use Rattle.net_base.specs.declared.ids.SwitchId.{SwitchId}
use Rattle.net_base.proofs.MemberLaws.{each_at}
use Rattle.acyclic_numbering.specs.Heights.{IsLower}
use Rattle.acyclic_numbering.specs.declared.Edge.{Edge}
use Rattle.certificates.proofs.Chains.{all_from}
use Rattle.round_survey.specs.Gates.{StaysAbove}
use Rattle.round_survey.proofs.gates.is_gate.Goals as goal

pub returns-then-all_stay : goal.returns-then-all_stay
returns-then-all_stay c on =
    let numbers = c.args.numbers.now in
    let gate = c.args.switch in
    let stays = λ (e : Edge). StaysAbove numbers gate e.from e.to in
    let not_above = λ (s : SwitchId). ¬ IsLower numbers s gate in
    let steps = all_from stays c.steps.result.now (c.all_stay.ensures c.if-all_stay.true) in
    let leaving = all_from not_above c.leaving.result.now (c.none_above.ensures on) in
    record {
      steps = λ s t edge.
          let step : Edge = record { from = s; to = t } in
          each_at stays c.steps.result.now step steps (subst (IsIn step) (sym c.steps.ensures) edge);
      leaving = λ s i. each_at not_above c.leaving.result.now s leaving (subst (IsIn s) (sym c.leaving.ensures) i);
    }
