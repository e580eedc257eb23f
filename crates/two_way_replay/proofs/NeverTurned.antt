-- Steps without a turn are those of a run that is never turned back.
use Rattle.std.proofs.Common.{◌≡◌, Bool, true, false, List, [], ◌∷◌, length, replicate, refl, sym, ap, subst, ◌∙◌, length-set}
use Rattle.std.proofs.lemmas.List.{length-replicate}
use Rattle.std.specs.Prelude.{◌↔◌}
use Rattle.update_model.specs.Changes.{round_after}
use Rattle.update_model.specs.Mixtures.{Rollout}
use Rattle.update_model.specs.Runs.{IsRun, state_after_run}
use Rattle.update_model.specs.States.{settled_count}
use Rattle.update_model.specs.declared.Event.{Event}
use Rattle.update_model.specs.declared.Event.TheVariants as event
use Rattle.law_two_way_runs.specs.States.{TwoWayState, Onward, two_way_after, IsTwoWayEnabled}
use Rattle.law_two_way_runs.specs.Runs.{AreTwoWayEnabled, two_way_state}
use Rattle.law_two_way_runs.specs.Laws.{onward_events, onward_state}
use Rattle.law_two_way_runs.proofs.NeverBack.{onward_runs, onward_states}
use Rattle.two_way_replay.specs.Courses.{CourseState, first_course, IsStepEnabled, AreStepsEnabled, course_after, course_state, IsCourse, state_after_course, MaySettleEither, settled_either}
use Rattle.two_way_replay.specs.CourseLaws.{onward_steps}
use Rattle.two_way_replay.specs.declared.schedule.TwoWayStep.TheVariants as step

module _ (u : Rollout) where
  may_step : (c : CourseState) → c.is_undone ≡ false → (e : Event) → IsTwoWayEnabled u c.state (Onward e) → IsStepEnabled u c (step.Event e)
  may_step c way event.Start may = may
  may_step c way (event.Change i) may = may
  may_step c way event.Settle may = subst (λ b. MaySettleEither b c.state) (sym way) may
  may_step c way (event.Enter place dst) may = may
  may_step c way (event.Hop i) may = may
  may_step c way (event.Lose i) may = may

  may_happen : (c : CourseState) → c.is_undone ≡ false → (e : Event) → IsStepEnabled u c (step.Event e) → IsTwoWayEnabled u c.state (Onward e)
  may_happen c way event.Start may = may
  may_happen c way (event.Change i) may = may
  may_happen c way event.Settle may = subst (λ b. MaySettleEither b c.state) way may
  may_happen c way (event.Enter place dst) may = may
  may_happen c way (event.Hop i) may = may
  may_happen c way (event.Lose i) may = may

  same_after : (c : CourseState) → c.is_undone ≡ false → (e : Event) → (course_after u c (step.Event e)).state ≡ two_way_after u c.state (Onward e)
  same_after c way event.Start = refl
  same_after c way (event.Change i) = refl
  same_after c way event.Settle = ap (λ b. settled_either u b c.state) way
  same_after c way (event.Enter place dst) = refl
  same_after c way (event.Hop i) = refl
  same_after c way (event.Lose i) = refl

  still_forward : (c : CourseState) → c.is_undone ≡ false → (e : Event) → (course_after u c (step.Event e)).is_undone ≡ false
  still_forward c way event.Start = refl
  still_forward c way (event.Change i) = way
  still_forward c way event.Settle = way
  still_forward c way (event.Enter place dst) = way
  still_forward c way (event.Hop i) = way
  still_forward c way (event.Lose i) = way

  are_steps : (c : CourseState) → c.is_undone ≡ false → (events : List Event) → AreTwoWayEnabled u c.state (onward_events events) → AreStepsEnabled u c (onward_steps events)
  are_steps c way [] are = tt
  are_steps c way (e ∷ events) are = (
    may_step c way e are.0,
    are_steps (course_after u c (step.Event e)) (still_forward c way e) events (subst (λ st. AreTwoWayEnabled u st (onward_events events)) (sym (same_after c way e)) are.1),
  )

  are_events : (c : CourseState) → c.is_undone ≡ false → (events : List Event) → AreStepsEnabled u c (onward_steps events) → AreTwoWayEnabled u c.state (onward_events events)
  are_events c way [] are = tt
  are_events c way (e ∷ events) are = (
    may_happen c way e are.0,
    subst (λ st. AreTwoWayEnabled u st (onward_events events)) (same_after c way e) (are_events (course_after u c (step.Event e)) (still_forward c way e) events are.1),
  )

  same_state : (c : CourseState) → c.is_undone ≡ false → (events : List Event) → (course_state u c (onward_steps events)).state ≡ two_way_state u c.state (onward_events events)
  same_state c way [] = refl
  same_state c way (e ∷ events) =
      same_state (course_after u c (step.Event e)) (still_forward c way e) events ∙ ap (λ st. two_way_state u st (onward_events events)) (same_after c way e)

  all_forward : (c : CourseState) → c.is_undone ≡ false → (events : List Event) → (course_state u c (onward_steps events)).is_undone ≡ false
  all_forward c way [] = way
  all_forward c way (e ∷ events) = all_forward (course_after u c (step.Event e)) (still_forward c way e) events

  same_flags : (b : Bool) (st : TwoWayState) → (settled_either u b st).in_force ≡ st.in_force
  same_flags true st = refl
  same_flags false st = refl

  -- no change of a round was taken back
  none_back : (c : CourseState) → c.taken_back ≡ replicate (length c.state.in_force) false → (e : Event)
      → (course_after u c (step.Event e)).taken_back ≡ replicate (length (course_after u c (step.Event e)).state.in_force) false
  none_back c none event.Start =
      ap (λ n. replicate n false) (sym (length-replicate (length (round_after (settled_count c.state.phase) u.rounds)) false))
  none_back c none (event.Change i) = none ∙ ap (λ n. replicate n false) (sym (length-set c.state.in_force i true))
  none_back c none event.Settle = none ∙ ap (λ flags. replicate (length flags) false) (sym (same_flags c.is_undone c.state))
  none_back c none (event.Enter place dst) = none
  none_back c none (event.Hop i) = none
  none_back c none (event.Lose i) = none

  all_none_back : (c : CourseState) → c.taken_back ≡ replicate (length c.state.in_force) false → (events : List Event)
      → (course_state u c (onward_steps events)).taken_back ≡ replicate (length (course_state u c (onward_steps events)).state.in_force) false
  all_none_back c none [] = none
  all_none_back c none (e ∷ events) = all_none_back (course_after u c (step.Event e)) (none_back c none e) events

  pub course_none_back : (events : List Event) → (state_after_course u (onward_steps events)).taken_back ≡ replicate (length (state_after_course u (onward_steps events)).state.in_force) false
  course_none_back events = all_none_back (first_course u.old) refl events

  pub course_runs : (events : List Event) → IsCourse u (onward_steps events) ↔ IsRun u events
  course_runs events = (
    λ course. (onward_runs u events).0 (are_events (first_course u.old) refl events course),
    λ run. are_steps (first_course u.old) refl events ((onward_runs u events).1 run),
  )

  pub course_states : (events : List Event) → IsRun u events → onward_state (state_after_course u (onward_steps events)).state ≡ state_after_run u events
  course_states events run = ap onward_state (same_state (first_course u.old) refl events) ∙ onward_states u events run

  pub course_forward : (events : List Event) → (state_after_course u (onward_steps events)).is_undone ≡ false
  course_forward events = all_forward (first_course u.old) refl events
