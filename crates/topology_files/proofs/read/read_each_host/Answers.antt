use Rattle.std.proofs.lemmas.Result.{err_from_is_err_and}
use Rattle.flat_json.specs.Trees.{data_of}
use Rattle.flat_json.proofs.NodeTurns.{goes_on_at, ends_at}
use Rattle.net_base.proofs.Turns.{is_done}
use Rattle.topology_files.specs.declared.fault.NetFault.TheVariants.{Memory}
use Rattle.topology_files.specs.Topology.{host_at}
use Rattle.topology_files.proofs.read.read_each_host.Goals as goal

pub returns-in_err-read_host : goal.returns-in_err-read_host
returns-in_err-read_host c =
    let p = err_from_is_err_and c.from_residual.result c.from_residual.ensures.1 in
    rw (p.1, p.2)
    (ends_at c.args.tree.now host_at c.args.items.now c.loop-i.i c.loop-i.i c.loop-i.net _ _ c.loop-i-test.true _ c.place_of.ensures Memory c.in_err-read_host.field-0.0 c.in_err-read_host.ensures
    c.loop-i.invariant)

pub loop-i-preserved : goal.loop-i-preserved
loop-i-preserved c =
    goes_on_at c.args.tree.now host_at c.args.items.now c.loop-i.i c.loop-i.i c.loop-i.net _ _ c.loop-i-test.true _ c.place_of.ensures c.read_host.new.net c.in_ok-read_host.ensures c.loop-i.invariant

pub returns : goal.returns
returns c = is_done (data_of c.args.tree.now) host_at c.args.items.now c.loop-i.i c.loop-i.i c.loop-i.net _ c.loop-i-test.false c.loop-i.invariant
