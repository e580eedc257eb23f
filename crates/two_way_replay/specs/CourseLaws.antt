-- What holds of an update that may be turned back as a schedule says.
use Rattle.std.specs.Prelude.{List, map}
use Rattle.update_model.specs.declared.Event.{Event}
use Rattle.two_way_replay.specs.declared.schedule.TwoWayStep.{TwoWayStep}
use Rattle.two_way_replay.specs.declared.schedule.TwoWayStep.TheVariants as step

-- the steps of a run that is never turned back
abbrev pub onward_steps : List Event → List TwoWayStep
onward_steps events = map step.Event events
