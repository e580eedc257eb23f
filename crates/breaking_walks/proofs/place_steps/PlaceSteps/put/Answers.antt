use Rattle.std.proofs.Common.{refl, subst}
use Rattle.breaking_walks.specs.PlaceSteps.{StepState, IsNumberedIn}
use Rattle.breaking_walks.specs.declared.passing.NumberedPlace.{NumberedPlace}
use Rattle.breaking_walks.proofs.StepLaws.{put_behind, stored_is}
use Rattle.breaking_walks.proofs.place_steps.PlaceSteps.put.Goals as goal

pub returns-clause-ok : goal.returns-clause-ok
returns-clause-ok c =
    let place = c.args.place in
    let keys = c.insert_full.new.self.keys in
    let numbered : NumberedPlace = record { number = c.in_ok-number.number; switch = place.switch } in
    let new : StepState = record { places = keys; steps = c.self.inside.steps.items } in
    let (more, behind, each) = put_behind place c.self.inside.places.keys keys c.in_ok-number.ensures.keys in
    subst (λ (old : StepState). IsNumberedIn old place numbered new) c.self.view_is
    (record {
      more = more;
      behind = behind;
      each = each;
      stands = record { at = stored_is place keys c.in_ok-number.number c.in_ok-number.ensures.stored; switch_is = refl };
      steps = refl;
    })
