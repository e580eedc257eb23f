-- One step more of a schedule.
use Rattle.std.proofs.Common.{◌≡◌, ℕ, suc, ◌+◌, ◌<◌, ◌≤◌, Bool, true, false, List, [], ◌∷◌, ◌++◌, length, get_or, take, drop, refl, sym, ap, ◌∙◌, subst, append_assoc, arith}
use Rattle.std.proofs.lemmas.List.{take_more, drop_more, map_push}
use Rattle.update_model.specs.Mixtures.{Rollout}
use Rattle.update_model.specs.declared.Event.TheVariants as event
use Rattle.update_model.specs.declared.Phase.{Phase}
use Rattle.update_model.specs.declared.Phase.TheVariants.{Settled, Running}
use Rattle.two_way_replay.specs.Courses.{CourseState, IsStepEnabled, AreStepsEnabled, course_after, course_state, turned_course, settled_either}
use Rattle.two_way_replay.specs.CourseWorlds.{CourseWorld, IsReplayedTo, world_after_step}
use Rattle.two_way_replay.specs.TwoWaySchedules.{steps_of}
use Rattle.two_way_replay.specs.declared.schedule.TwoWayLine.{TwoWayLine}
use Rattle.two_way_replay.specs.declared.schedule.TwoWayStep.{TwoWayStep}
use Rattle.two_way_replay.specs.declared.schedule.TwoWayStep.TheVariants as step
use Rattle.law_two_way_runs.specs.States.{TwoWayState}

module _ (u : Rollout) where
  pub enabled-push : (c : CourseState) (steps : List TwoWayStep) (s : TwoWayStep) → AreStepsEnabled u c steps → IsStepEnabled u (course_state u c steps) s → AreStepsEnabled u c (steps ++ s ∷ [])
  enabled-push c [] s h last = (last, tt)
  enabled-push c (x ∷ steps) s h last = (h.0, enabled-push (course_after u c x) steps s h.1 last)

  pub state-push : (c : CourseState) (steps : List TwoWayStep) (s : TwoWayStep) → course_state u c (steps ++ s ∷ []) ≡ course_after u (course_state u c steps) s
  state-push c [] s = refl
  state-push c (x ∷ steps) s = state-push (course_after u c x) steps s

module _ (old mid new : CourseWorld) (schedule first rest : List TwoWayLine) (line : TwoWayLine) (before : IsReplayedTo old mid schedule first (line ∷ rest)) where
  pub replayed-push : IsStepEnabled mid.update mid.course line.step → new ≡ world_after_step mid line.step → IsReplayedTo old new schedule (first ++ line ∷ []) rest
  replayed-push enabled happens =
      let steps : List TwoWayStep = steps_of first in
      let all : steps_of (first ++ line ∷ []) ≡ steps ++ line.step ∷ [] = map_push (λ (l : TwoWayLine). l.step) first line in
      let here : IsStepEnabled old.update (course_state old.update old.course steps) line.step =
      subst (λ (w : CourseWorld). IsStepEnabled w.update w.course line.step) before.after enabled in
      let made : new ≡ record old { course = course_after old.update (course_state old.update old.course steps) line.step } =
      happens ∙ ap (λ (w : CourseWorld). world_after_step w line.step) before.after in
      record {
        parts = before.parts ∙ sym (append_assoc first (line ∷ []) rest);
        enabled = rw all (enabled-push old.update old.course steps line.step before.enabled here);
        after = made ∙ ap (λ (c : CourseState). let w : CourseWorld = record old { course = c } in w) (sym (state-push old.update old.course steps line.step)
            ∙ ap (course_state old.update old.course) (sym all));
      }

-- the same by places
module _ (old mid new : CourseWorld) (schedule : List TwoWayLine) (i : ℕ) (d : TwoWayLine) (lt : i < length schedule) where
  abbrev line : TwoWayLine
  line = get_or schedule i d

  pub replayed_more : IsReplayedTo old mid schedule (take i schedule) (drop i schedule) → IsStepEnabled mid.update mid.course line.step → new ≡ world_after_step mid line.step
      → IsReplayedTo old new schedule (take (i + 1) schedule) (drop (i + 1) schedule)
  replayed_more before enabled happens =
      let parted : IsReplayedTo old mid schedule (take i schedule) (line ∷ drop (i + 1) schedule) =
      subst (λ (xs : List TwoWayLine). IsReplayedTo old mid schedule (take i schedule) xs) (drop_more schedule i d lt) before in
      rw (take_more schedule i d lt) (replayed-push old mid new schedule (take i schedule) (drop (i + 1) schedule) line parted enabled happens)

-- a step settles one round at most
turn_settles : (u : Rollout) (phase : Phase) (c : CourseState) → (turned_course u phase c).state.settles ≡ c.state.settles
turn_settles u (Settled k) c = refl
turn_settles u (Running k) c = refl

settle_once : (u : Rollout) (b : Bool) (st : TwoWayState) → (settled_either u b st).settles ≡ suc st.settles
settle_once u true st = refl
settle_once u false st = refl

settles_once : (u : Rollout) (c : CourseState) (s : TwoWayStep) → (course_after u c s).state.settles ≤ suc c.state.settles
settles_once u c (step.Event event.Start) = omega arith
settles_once u c (step.Event (event.Change i)) = omega arith
settles_once u c (step.Event event.Settle) = omega (arith, settle_once u c.is_undone c.state)
settles_once u c (step.Event (event.Enter place dst)) = omega arith
settles_once u c (step.Event (event.Hop i)) = omega arith
settles_once u c (step.Event (event.Lose i)) = omega arith
settles_once u c (step.Undo i) = omega arith
settles_once u c step.Back = omega (arith, turn_settles u c.state.phase c)

pub few_more : (mid new : CourseWorld) (s : TwoWayStep) (n : ℕ) → new ≡ world_after_step mid s → mid.course.state.settles ≤ n → new.course.state.settles ≤ n + 1
few_more mid new s n is few =
    let same : new.course.state.settles ≡ (course_after mid.update mid.course s).state.settles = ap (λ (w : CourseWorld). w.course.state.settles) is in
    let once = settles_once mid.update mid.course s in
    omega (arith, same, once, few)
