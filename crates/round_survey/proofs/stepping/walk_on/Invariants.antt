use Rattle.std.proofs.Common.{◌+◌, ◌-◌, ◌≤◌, length}
use Rattle.net_base.specs.Members.{IsIn}
use Rattle.net_base.specs.declared.ids.Place.{Place}
use Rattle.breaking_walks.specs.PlaceSteps.{NotesSteps}
use Rattle.round_survey.specs.Rounds.{round_rollout}
use Rattle.round_survey.proofs.stepping.walk_on.Given as goal

abbrev pub invariant-walking : goal.invariant-walking
invariant-walking l = record {
  notes : NotesSteps (round_rollout l.round) l.round.number l.class.first l.next l.noted;
  kept : (p : Place) → IsIn p l.initial.noted.places → IsIn p l.noted.places;
  room : 8193 ≤ length l.outcomes.list + l.outcomes.spare;
}

abbrev pub decreases-walking : goal.decreases-walking
decreases-walking l = 9223372036854775808 - l.next
