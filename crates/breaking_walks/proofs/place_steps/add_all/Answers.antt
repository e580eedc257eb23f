use Rattle.std.proofs.Common.{◌≡◌, ◌+◌, ◌∷◌, [], ◌++◌, List, take, get_or, sym, ◌∙◌, ap, subst, arith}
use Rattle.std.specs.Prelude.{vec_len, vec_capacity}
use Rattle.std.proofs.lemmas.List.{take_more, take_all}
use Rattle.indexmap.specs.IndexSet.{spare}
use Rattle.net_base.specs.declared.ids.Place.{Place}
use Rattle.path_walk.specs.declared.Outcome.{Outcome}
use Rattle.path_walk.specs.declared.Outcome.TheVariants.{Discard}
use Rattle.breaking_walks.specs.PlaceSteps.{StepState, AreStepsAdded}
use Rattle.breaking_walks.specs.declared.passing.PlaceStep.{PlaceStep}
use Rattle.breaking_walks.proofs.StepLaws.{added_none, added_same, added_more}
use Rattle.breaking_walks.proofs.place_steps.add_all.Goals as goal
use Rattle.breaking_walks.proofs.place_steps.add_all.Goals.{in-Go, in_default}

abbrev state : List Place → List PlaceStep → StepState
state places steps = record { places = places; steps = steps }

pub loop-outcome-init : goal.loop-outcome-init
loop-outcome-init c = record {
  added = added_none (state c.args.places.now.keys c.args.steps.now.items) c.args.from;
  places = let room = c.requires.places in omega arith;
  steps = let room = c.requires.steps in omega arith;
}

pub put_reserved-to-requires : goal.put_reserved-to-requires
put_reserved-to-requires c = let room = c.loop-outcome.invariant.places in let more = c.loop-outcome-test.true in omega arith

pub push_reserved-requires : goal.push_reserved-requires
push_reserved-requires c = let room = c.loop-outcome.invariant.steps in let more = c.loop-outcome-test.true in omega arith

pub loop-outcome-preserved : goal.loop-outcome-preserved
loop-outcome-preserved c =
    let old = state c.args.places.now.keys c.args.steps.now.items in
    let mid = state c.loop-outcome.places.keys c.loop-outcome.steps.items in
    let from = c.args.from in
    let all = c.args.outcomes.now in
    let i = c.loop-outcome.outcome-index in
    let outcome : Outcome = get_or all i Discard in
    let so_far = c.loop-outcome.invariant in
    let more = c.loop-outcome-test.true in
    elim c.match-outcome.branch [
      | in-Go w ↦ (
          let to = w.put_reserved-to.result in
          let put = state w.put_reserved-to.new.places.keys c.loop-outcome.steps.items in
          let new = state c.match-outcome.places.keys c.match-outcome.steps.items in
          let spare_is : spare c.match-outcome.places ≡ spare w.put_reserved-to.new.places = ap (λ s. spare s) w.places-is in
          let len_is : vec_len c.match-outcome.steps ≡ vec_len w.push_reserved.new.self = ap (λ s. vec_len s) w.steps-is in
          let room_is : vec_capacity c.match-outcome.steps ≡ vec_capacity w.push_reserved.new.self = ap (λ s. vec_capacity s) w.steps-is in
          record {
            added =
                subst (λ (xs : List Outcome). AreStepsAdded old from xs new) (sym (take_more all i Discard more))
                (subst (λ (o : Outcome). AreStepsAdded old from (take i all ++ o ∷ []) new) (sym w.in-Go.is)
                (added_more old from (take i all) mid so_far.added w.in-Go.place to put new (w.put_reserved-to.ensures.number c.loop-outcome.steps.items)
                (ap (λ s. s.keys) w.places-is) (ap (λ s. s.items) w.steps-is ∙ w.push_reserved.ensures.items)));
            places = let left = w.put_reserved-to.ensures.room in omega arith;
            steps = let len = w.push_reserved.ensures.len in let room = w.push_reserved.ensures.capacity in omega arith;
          })
      | in_default w ↦ (
          let spare_is : spare c.match-outcome.places ≡ spare c.loop-outcome.places = ap (λ s. spare s) w.places-is in
          let len_is : vec_len c.match-outcome.steps ≡ vec_len c.loop-outcome.steps = ap (λ s. vec_len s) w.steps-is in
          let room_is : vec_capacity c.match-outcome.steps ≡ vec_capacity c.loop-outcome.steps = ap (λ s. vec_capacity s) w.steps-is in
          let same : state c.match-outcome.places.keys c.match-outcome.steps.items ≡ mid =
          ap (λ s. state s.keys c.match-outcome.steps.items) w.places-is ∙ ap (λ s. state c.loop-outcome.places.keys s.items) w.steps-is in
          record {
            added =
                subst (AreStepsAdded old from (take (i + 1) all)) (sym same)
                (subst (λ (xs : List Outcome). AreStepsAdded old from xs mid) (sym (take_more all i Discard more)) (added_same old from (take i all) mid so_far.added outcome (λ place e. w.in_default.not-Go place e)));
            places = omega arith;
            steps = omega arith;
          })
    ]

pub returns : goal.returns
returns c =
    subst (λ (xs : List Outcome). AreStepsAdded (state c.args.places.now.keys c.args.steps.now.items) c.args.from xs (state c.loop-outcome.places.keys c.loop-outcome.steps.items))
    (take_all c.loop-outcome.outcome-index c.args.outcomes.now c.loop-outcome-test.false) c.loop-outcome.invariant.added
