use Rattle.std.proofs.Common.{◌≡◌, ◌+◌, length, drop}
use Rattle.net_base.specs.Reading.{in_turn}
use Rattle.net_base.specs.Lines.{lines_of}
use Rattle.driver_input.specs.Inputs.{line_at, inputs_in, AreInputs}
use Rattle.driver_input.proofs.read.read_input.Given as goal

abbrev pub invariant-loop-i : goal.invariant-loop-i
invariant-loop-i l = record {
  read : in_turn (line_at l.net) (length l.yielded + 1) l.inputs (drop (length l.yielded) (lines_of l.bytes)) ≡ inputs_in l.net l.bytes;
  kept : AreInputs l.net l.inputs;
}
