use Rattle.std.proofs.Common.{◌≡◌, drop}
use Rattle.driver_input.specs.Inputs.{AreInputs}
use Rattle.drive_command.specs.Driving.{after_inputs}
use Rattle.drive_command.proofs.driving.give_all.Given as goal

abbrev pub invariant-loop-line : goal.invariant-loop-line
invariant-loop-line l = record {
  rest : after_inputs l.initial.driver.net l.initial.driver.rounds l.driver.state (drop l.line-index l.inputs) ≡ after_inputs l.initial.driver.net l.initial.driver.rounds l.initial.driver.state l.inputs;
  net : l.driver.net ≡ l.initial.driver.net;
  rounds : l.driver.rounds ≡ l.initial.driver.rounds;
  inputs : AreInputs l.initial.driver.net (drop l.line-index l.inputs);
}
