use Rattle.std.proofs.Common.{arith}
use Rattle.std.proofs.lemmas.Result.{IfOk-weaker}
use Rattle.serde_json.specs.View.{view}
use Rattle.ring_sample.proofs.Flat.{topology_flat}
use Rattle.ring_sample.proofs.TopologyAgain.{topology_again}
use Rattle.ring_sample.proofs.topology_text.topology_text.Goals as goal

pub write_line-requires-clause-no_float : goal.write_line-requires-clause-no_float
write_line-requires-clause-no_float c = rw c.in_ok-topology_value.ensures (topology_flat c.args.size.switches).no_float

pub write_line-requires-clause-shallow : goal.write_line-requires-clause-shallow
write_line-requires-clause-shallow c = let h = (topology_flat c.args.size.switches).shallow in rw c.in_ok-topology_value.ensures (omega (arith, h))

pub returns : goal.returns
returns c =
    IfOk-weaker c.write_line.result _ _ (λ b. topology_again c.args.size.switches b.items (view c.in_ok-topology_value.field-0) c.args.size.least c.args.size.most c.in_ok-topology_value.ensures) c.write_line.ensures.reads_back
