-- An update that is carried out and turned back as the lines of a schedule say: when a step may happen, and what it does.
use Rattle.std.specs.Prelude.{◌≡◌, ◌⊎◌, ℕ, Bool, true, false, List, [], ◌∷◌, length, replicate, slice_get, slice_set}
use Rattle.std.specs.Option.{option_map_or}
use Rattle.flow_rules.specs.declared.rules.Rule.{Rule}
use Rattle.update_model.specs.Changes.{switch_of, rule_of, round_after}
use Rattle.update_model.specs.Mixtures.{Rollout, tables_before}
use Rattle.update_model.specs.States.{settled_count}
use Rattle.update_model.specs.Worlds.{running_round}
use Rattle.update_model.specs.declared.Event.TheVariants as event
use Rattle.update_model.specs.declared.Phase.{Phase}
use Rattle.update_model.specs.declared.Phase.TheVariants.{Settled, Running}
use Rattle.law_two_way_runs.specs.States.{TwoWayState, Onward, Back, SettleBack, first_two_way, two_way_after, IsTwoWayEnabled, MayUndo, MaySettle, MaySettleBack, MayTurnBack}
use Rattle.two_way_replay.specs.Entries.{action_named, tables_with_entry}
use Rattle.two_way_replay.specs.declared.schedule.TwoWayStep.{TwoWayStep}
use Rattle.two_way_replay.specs.declared.schedule.TwoWayStep.TheVariants as step

-- a state of the update; whether its running round is being undone, and which changes of that were taken back since it was begun
pub record CourseState : Type 0 where
  pub state : TwoWayState
  pub is_undone : Bool
  pub taken_back : List Bool

-- before the first round
abbrev pub first_course : List (List Rule) → CourseState
first_course old = record { state = first_two_way old; is_undone = false; taken_back = [] }

-- the running round may be settled, the way that it goes
abbrev pub MaySettleEither : Bool → TwoWayState → Type 0
MaySettleEither false st = MaySettle st
MaySettleEither true st = MaySettleBack st

-- a round runs that goes forward
pub record GoesForward (c : CourseState) : Type 0 where
  pub k : ℕ
  pub running : c.state.phase ≡ Running k
  pub forward : c.is_undone ≡ false

-- when a step may happen
abbrev pub IsStepEnabled : Rollout → CourseState → TwoWayStep → Type 0
IsStepEnabled u c (step.Event event.Settle) = MaySettleEither c.is_undone c.state
IsStepEnabled u c (step.Event e) = IsTwoWayEnabled u c.state (Onward e)
IsStepEnabled u c (step.Undo i) = (c.is_undone ≡ true) × MayUndo u c.state i
IsStepEnabled u c step.Back = GoesForward c ⊎ MayTurnBack c.state

-- all tables after the entry that change i of the running round names is again what it was before that round: in its place, or behind all where it was gone
abbrev pub tables_put_back : Rollout → TwoWayState → ℕ → List (List Rule)
tables_put_back u st i =
    let k = settled_count st.phase in
    option_map_or (λ c. tables_with_entry (switch_of c) (rule_of c).key (action_named (tables_before u k) c) st.tables) (slice_get (round_after k u.rounds) i) st.tables

-- no change of the running round is taken back
abbrev pub none_taken_back : Rollout → Phase → List Bool
none_taken_back u phase = replicate (length (running_round phase u.rounds)) false

-- a turn: of a running round its way alone; where none runs, the round that was settled last begins to be taken back
abbrev pub turned_course : Rollout → Phase → CourseState → CourseState
turned_course u (Running k) c = record c { is_undone = true }
turned_course u (Settled k) c =
    let st : TwoWayState = two_way_after u c.state Back in
    record { state = st; is_undone = true; taken_back = none_taken_back u st.phase }

-- the state after the running round is settled, the way that it goes
abbrev pub settled_either : Rollout → Bool → TwoWayState → TwoWayState
settled_either u false st = two_way_after u st (Onward event.Settle)
settled_either u true st = two_way_after u st SettleBack

-- the state after a step
abbrev pub course_after : Rollout → CourseState → TwoWayStep → CourseState
course_after u c (step.Event event.Start) =
    let st : TwoWayState = two_way_after u c.state (Onward event.Start) in
    record { state = st; is_undone = false; taken_back = none_taken_back u st.phase }
course_after u c (step.Event event.Settle) = record c { state = settled_either u c.is_undone c.state }
course_after u c (step.Event e) = record c { state = two_way_after u c.state (Onward e) }
course_after u c (step.Undo i) =
    record { state = record c.state { tables = tables_put_back u c.state i; in_force = slice_set c.state.in_force i false }; is_undone = c.is_undone; taken_back = slice_set c.taken_back i true }
course_after u c step.Back = turned_course u c.state.phase c

-- each step is enabled in turn
abbrev pub AreStepsEnabled : Rollout → CourseState → List TwoWayStep → Type 0
AreStepsEnabled u c [] = Unit {0}
AreStepsEnabled u c (s ∷ steps) = IsStepEnabled u c s × AreStepsEnabled u (course_after u c s) steps

-- the state that the steps lead to
abbrev pub course_state : Rollout → CourseState → List TwoWayStep → CourseState
course_state u c [] = c
course_state u c (s ∷ steps) = course_state u (course_after u c s) steps

-- a course of an update: steps, each enabled in the state that those before it lead to
abbrev pub IsCourse : Rollout → List TwoWayStep → Type 0
IsCourse u steps = AreStepsEnabled u (first_course u.old) steps

-- the state after a course
abbrev pub state_after_course : Rollout → List TwoWayStep → CourseState
state_after_course u steps = course_state u (first_course u.old) steps
