use Rattle.std.proofs.lemmas.Result.{err_from_is_err_and}
use Rattle.flat_json.specs.Trees.{data_of}
use Rattle.flat_json.proofs.NodeTurns.{goes_on_at, ends_at}
use Rattle.net_base.proofs.Turns.{is_done}
use Rattle.topology_files.specs.declared.fault.NetFault.TheVariants.{Memory}
use Rattle.topology_files.specs.Topology.{link_at}
use Rattle.topology_files.proofs.read.read_each_link.Goals as goal

pub returns-in_err-read_link : goal.returns-in_err-read_link
returns-in_err-read_link c =
    let p = err_from_is_err_and c.from_residual.result c.from_residual.ensures.1 in
    rw (p.1, p.2)
    (ends_at c.args.tree.now link_at c.args.items.now c.loop-i.i c.loop-i.i c.loop-i.net _ _ c.loop-i-test.true _ c.place_of.ensures Memory c.in_err-read_link.field-0.0 c.in_err-read_link.ensures.value
    c.loop-i.invariant.turn)

pub loop-i-preserved : goal.loop-i-preserved
loop-i-preserved c =
    record {
      turn =
          goes_on_at c.args.tree.now link_at c.args.items.now c.loop-i.i c.loop-i.i c.loop-i.net _ _ c.loop-i-test.true _ c.place_of.ensures c.read_link.new.net c.in_ok-read_link.ensures.value c.loop-i.invariant.turn;
      hosts = c.in_ok-read_link.ensures.hosts;
    }

pub returns : goal.returns
returns c = is_done (data_of c.args.tree.now) link_at c.args.items.now c.loop-i.i c.loop-i.i c.loop-i.net _ c.loop-i-test.false c.loop-i.invariant.turn
