use Rattle.std.proofs.lemmas.Result.{err_from_is_err_and}
use Rattle.flat_json.specs.Trees.{data_of}
use Rattle.flat_json.proofs.NodeTurns.{goes_on_at, ends_at}
use Rattle.net_base.proofs.Turns.{is_done}
use Rattle.demands.specs.declared.fault.DemandFault.TheVariants.{Memory}
use Rattle.demands.specs.Policy.{demand_at}
use Rattle.demands.proofs.read.read_each_demand.Goals as goal

pub returns-in_err-read_item : goal.returns-in_err-read_item
returns-in_err-read_item c =
    let p = err_from_is_err_and c.from_residual.result c.from_residual.ensures.1 in
    rw (p.1, p.2)
    (ends_at c.args.tree.now (demand_at c.args.net.now) c.args.items.now c.loop-i.i c.loop-i.i c.loop-i.demands _ _ c.loop-i-test.true _ c.place_of.ensures Memory
    c.in_err-read_item.field-0.0 c.in_err-read_item.ensures c.loop-i.invariant)

pub loop-i-preserved : goal.loop-i-preserved
loop-i-preserved c =
    goes_on_at c.args.tree.now (demand_at c.args.net.now) c.args.items.now c.loop-i.i c.loop-i.i c.loop-i.demands _ _ c.loop-i-test.true _ c.place_of.ensures
    c.read_item.new.demands c.in_ok-read_item.ensures c.loop-i.invariant

pub returns : goal.returns
returns c = is_done (data_of c.args.tree.now) (demand_at c.args.net.now) c.args.items.now c.loop-i.i c.loop-i.i c.loop-i.demands _ c.loop-i-test.false c.loop-i.invariant
