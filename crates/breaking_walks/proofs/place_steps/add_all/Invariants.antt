use Rattle.std.proofs.Common.{◌+◌, ◌≤◌, length, take}
use Rattle.std.specs.Prelude.{vec_len, vec_capacity}
use Rattle.indexmap.specs.IndexSet.{spare}
use Rattle.breaking_walks.specs.PlaceSteps.{AreStepsAdded}
use Rattle.breaking_walks.proofs.place_steps.add_all.Given as goal

abbrev pub invariant-loop-outcome : goal.invariant-loop-outcome
invariant-loop-outcome l = record {
  added : AreStepsAdded (record { places = l.initial.places.keys; steps = l.initial.steps.items }) l.from (take l.outcome-index l.outcomes) (record { places = l.places.keys; steps = l.steps.items });
  places : length l.outcomes ≤ spare l.places + l.outcome-index;
  steps : vec_len l.steps + length l.outcomes ≤ vec_capacity l.steps + l.outcome-index;
}
