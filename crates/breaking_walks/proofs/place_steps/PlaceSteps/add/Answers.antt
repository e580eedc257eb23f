use Rattle.std.proofs.Common.{◌≡◌, List, refl, sym, ◌∙◌, subst, ap}
use Rattle.net_base.specs.Members.{IsIn}
use Rattle.net_base.specs.declared.ids.Place.{Place}
use Rattle.net_base.proofs.MemberLaws.{in_append_left}
use Rattle.path_walk.specs.declared.Outcome.{Outcome}
use Rattle.breaking_walks.specs.PlaceSteps.{StepState, AreStepsAdded}
use Rattle.breaking_walks.specs.declared.passing.NumberedPlace.{NumberedPlace}
use Rattle.breaking_walks.specs.declared.passing.PlaceStep.{PlaceStep}
use Rattle.breaking_walks.proofs.TrailLaws.{some_is}
use Rattle.breaking_walks.proofs.StepLaws.{notes_next}
use Rattle.breaking_walks.proofs.place_steps.PlaceSteps.add.Goals as goal

-- what is added to what stands after room was made is added to what stood before
added_to : (old : StepState) (keys inside_keys : List Place) (steps inside_steps : List PlaceStep) (from : NumberedPlace) (found : List Outcome) (new : StepState) → keys ≡ inside_keys → steps ≡ inside_steps
    → record { places = inside_keys; steps = inside_steps } ≡ old → AreStepsAdded (record { places = keys; steps = steps }) from found new → AreStepsAdded old from found new
added_to old keys inside_keys steps inside_steps from found new same_keys same_steps is added =
    subst (λ (s : StepState). AreStepsAdded s from found new) is
    (subst (λ (xs : List PlaceStep). AreStepsAdded (record { places = inside_keys; steps = xs }) from found new) same_steps
    (subst (λ (ks : List Place). AreStepsAdded (record { places = ks; steps = steps }) from found new) same_keys added))

pub returns-clause-kept : goal.returns-clause-kept
returns-clause-kept c p i =
    let from : NumberedPlace = record { number = c.args.number; switch = c.at.result.switch } in
    let new : StepState = record { places = c.add_all.new.places.keys; steps = c.add_all.new.steps.items } in
    let added = added_to c.args.self.now _ _ _ _ from c.args.outcomes.now new c.reserve.ensures.keys c.reserve-2.ensures.items c.self.view_is c.add_all.ensures in
    subst (λ (xs : List Place). IsIn p xs) (sym added.behind) (in_append_left p c.args.self.now.places added.more i)

pub returns-clause-notes : goal.returns-clause-notes
returns-clause-notes c u k dst place valid at all so =
    let from : NumberedPlace = record { number = c.args.number; switch = c.at.result.switch } in
    let new : StepState = record { places = c.add_all.new.places.keys; steps = c.add_all.new.steps.items } in
    let added = added_to c.args.self.now _ _ _ _ from c.args.outcomes.now new c.reserve.ensures.keys c.reserve-2.ensures.items c.self.view_is c.add_all.ensures in
    notes_next u k dst valid c.args.number c.args.self.now so place at from refl (ap (λ (x : Place). x.switch) (some_is c.at.result place (sym c.at.ensures ∙ at))) c.args.outcomes.now all new added
