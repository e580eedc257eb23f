use Rattle.std.proofs.Common.{◌∙◌}
use Rattle.std.proofs.lemmas.Result.{err_from_is_err_and}
use Rattle.flat_json.specs.Trees.{data_of}
use Rattle.flat_json.proofs.NodeTurns.{goes_on_at, ends_at}
use Rattle.net_base.proofs.Turns.{is_done}
use Rattle.topology_files.specs.declared.fault.NetFault.TheVariants.{Memory}
use Rattle.topology_files.specs.Topology.{switch_at}
use Rattle.topology_files.proofs.read.read_each_switch.Goals as goal

pub returns-in_err-read_switch-clause-value : goal.returns-in_err-read_switch-clause-value
returns-in_err-read_switch-clause-value c =
    let p = err_from_is_err_and c.from_residual.result c.from_residual.ensures.1 in
    rw (p.1, p.2)
    (ends_at c.args.tree.now switch_at c.args.items.now c.loop-i.i c.loop-i.i c.loop-i.net _ _ c.loop-i-test.true _ c.place_of.ensures Memory c.in_err-read_switch.field-0.0 c.in_err-read_switch.ensures.value
    c.loop-i.invariant.turn)

pub loop-i-preserved : goal.loop-i-preserved
loop-i-preserved c =
    record {
      turn =
          goes_on_at c.args.tree.now switch_at c.args.items.now c.loop-i.i c.loop-i.i c.loop-i.net _ _ c.loop-i-test.true _ c.place_of.ensures c.read_switch.new.net c.in_ok-read_switch.ensures.value c.loop-i.invariant.turn;
      hosts = c.in_ok-read_switch.ensures.hosts ∙ c.loop-i.invariant.hosts;
    }

pub returns-clause-value : goal.returns-clause-value
returns-clause-value c = is_done (data_of c.args.tree.now) switch_at c.args.items.now c.loop-i.i c.loop-i.i c.loop-i.net _ c.loop-i-test.false c.loop-i.invariant.turn
