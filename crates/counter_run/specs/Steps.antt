-- The hops of a packet along a walk, and the changes that are made before each.
use Rattle.std.specs.Prelude.{◌≡◌, ℕ, ◌<◌, List, [], ◌∷◌, ◌++◌, length, flat_map, Option, Some, None}
use Rattle.net_base.specs.declared.ids.Place.{Place}
use Rattle.topology.specs.Networks.{switch_count}
use Rattle.flow_rules.specs.Tables.{rules_at, rules_of_all}
use Rattle.path_walk.specs.declared.Outcome.{Outcome}
use Rattle.path_walk.specs.declared.Outcome.TheVariants.{Go}
use Rattle.dest_classes.specs.declared.Class.{Class}
use Rattle.update_model.specs.Changes.{round_after}
use Rattle.update_model.specs.Mixtures.{Rollout, tables_before, AreGoodRounds, AreClearRounds}
use Rattle.update_model.specs.declared.Event.{Event}
use Rattle.outcome_changes.specs.Giving.{GiveOutcome}
use Rattle.counter_run.specs.Showing.{HopStep, step_events, shown_rollout}
use Rattle.counter_run.specs.declared.showing.ShownRound.{ShownRound}

-- a hop at the place, before which changes are made that give the place the outcome
pub record IsStep (u : Rollout) (k dst : ℕ) (place : Place) (wanted : Outcome) (s : HopStep) : Type 0 where
  pub place_is : s.place ≡ place
  pub gives : GiveOutcome u.net (rules_at (tables_before u k) place.switch) (round_after k u.rounds) place dst wanted s.changes

-- the hops along a walk, one to each next place, and at its end one with the outcome there, if there is one
abbrev pub AreSteps : Rollout → ℕ → ℕ → Place → List Place → Option Outcome → List HopStep → Type 0
AreSteps u k dst place [] None [] = Unit {0}
AreSteps u k dst place [] None (s ∷ steps) = ⊥
AreSteps u k dst place [] (Some found) [] = ⊥
AreSteps u k dst place [] (Some found) (s ∷ []) = IsStep u k dst place found s
AreSteps u k dst place [] (Some found) (s ∷ t ∷ steps) = ⊥
AreSteps u k dst place (next ∷ rest) end [] = ⊥
AreSteps u k dst place (next ∷ rest) end (s ∷ steps) = IsStep u k dst place (Go next) s × AreSteps u k dst next rest end steps

-- a round of an update, good and clear as all rounds are, and the tables before it
pub record IsStage (stage : ShownRound) : Type 0 where
  pub tables : length stage.round.old.now ≡ switch_count stage.round.net.now
  pub within : stage.round.number < length stage.round.rounds.now
  pub before : rules_of_all stage.tables.now ≡ tables_before (shown_rollout stage) stage.round.number
  pub good : AreGoodRounds (shown_rollout stage)
  pub clear : AreClearRounds (shown_rollout stage)

-- the events go on by those of hops along a walk, and of one at its end
pub record GoOnAlong (u : Rollout) (k : ℕ) (class : Class) (rest : List Place) (end : Option Outcome) (old new : List Event) : Type 0 where
  pub steps : List HopStep
  pub are : AreSteps u k class.first class.entry rest end steps
  pub added : new ≡ old ++ flat_map step_events steps

-- the events go on by those of a hop at the place that has the outcome
pub record GoOnBy (u : Rollout) (k dst : ℕ) (place : Place) (wanted : Outcome) (old new : List Event) : Type 0 where
  pub step : HopStep
  pub is_step : IsStep u k dst place wanted step
  pub added : new ≡ old ++ step_events step
