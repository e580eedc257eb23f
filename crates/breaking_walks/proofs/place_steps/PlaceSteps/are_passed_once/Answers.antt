use Rattle.std.proofs.Common.{◌≡◌, ◌<◌, List, sym, ◌∙◌, subst, ap}
use Rattle.std.proofs.lemmas.Result.{IfOk-weaker}
use Rattle.net_base.specs.Members.{IsIn}
use Rattle.net_base.proofs.MemberLaws.{each_at}
use Rattle.certificates.proofs.Chains.{all_from}
use Rattle.breaking_walks.specs.PlaceSteps.{StepState}
use Rattle.breaking_walks.specs.declared.passing.PlaceStep.{PlaceStep}
use Rattle.breaking_walks.proofs.PassLaws.{passed_once}
use Rattle.breaking_walks.proofs.place_steps.PlaceSteps.are_passed_once.Goals as goal

pub returns : goal.returns
returns c =
    let noted : StepState = c.args.self.now in
    let steps : List PlaceStep = c.deref.result.now in
    let same : noted.steps ≡ steps = sym (ap (λ (s : StepState). s.steps) c.self.view_is) ∙ sym c.deref.ensures.value in
    let near = λ (step : PlaceStep). step.from.switch.0 < c.args.switches in
    let all = all_from near noted.steps c.requires in
    IfOk-weaker c.are_passed_once.result _ _ (λ once told on u k dst notes p i.
    passed_once steps (λ step among. told on step.from.switch (each_at near noted.steps step all (subst (λ (xs : List PlaceStep). IsIn step xs) (sym same) among))) u k dst noted same notes p i)
    c.are_passed_once.ensures
