use Rattle.std.proofs.Common.{◌≡◌, take}
use Rattle.std.specs.Prelude.{None}
use Rattle.net_base.specs.Walks.{end_of}
use Rattle.counter_run.specs.Showing.{shown_rollout}
use Rattle.counter_run.specs.Steps.{GoOnAlong}
use Rattle.counter_run.proofs.showing.add_hops.Given as goal

abbrev pub invariant-loop-next : goal.invariant-loop-next
invariant-loop-next l = record {
  place : l.place ≡ end_of l.class.entry (take l.next-index l.rest);
  along : GoOnAlong (shown_rollout l.stage) l.stage.round.number l.class (take l.next-index l.rest) None l.initial.events l.events;
}
