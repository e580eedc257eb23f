use Rattle.std.proofs.Common.{arith}
use Rattle.std.proofs.lemmas.Result.{IfOk-weaker}
use Rattle.serde_json.specs.View.{view}
use Rattle.ring_sample.proofs.Flat.{configuration_flat}
use Rattle.ring_sample.proofs.ConfigurationAgain.{configuration_again}
use Rattle.ring_sample.proofs.configuration.configuration_text.Goals as goal

pub write_line-requires-clause-no_float : goal.write_line-requires-clause-no_float
write_line-requires-clause-no_float c = rw c.in_ok-configuration_value.ensures (configuration_flat c.args.size.switches c.args.port).no_float

pub write_line-requires-clause-shallow : goal.write_line-requires-clause-shallow
write_line-requires-clause-shallow c = let h = (configuration_flat c.args.size.switches c.args.port).shallow in rw c.in_ok-configuration_value.ensures (omega (arith, h))

pub returns : goal.returns
returns c =
    IfOk-weaker c.write_line.result _ _ (λ b. configuration_again c.args.size.switches c.args.size.most c.args.port c.requires.least c.requires.most b.items (view c.in_ok-configuration_value.field-0) c.in_ok-configuration_value.ensures) c.write_line.ensures.reads_back
