use Rattle.std.proofs.Common.{rules}
use Rattle.std.proofs.lemmas.Result.{err_from_is_err_and}
use Rattle.flat_json.specs.Trees.{data_of}
use Rattle.net_base.proofs.Turns.{is_done}
use Rattle.flat_json.proofs.NodeTurns.{goes_on_at, ends_at}
use Rattle.flow_rules.specs.Tables.{rules_of_all}
use Rattle.config_files.specs.declared.fault.ConfigFault.TheVariants.{Memory}
use Rattle.config_files.specs.Configuration.{rule_at}
use Rattle.config_files.proofs.read.read_items.Goals as goal

pub returns-in_err-read_item-clause-read : goal.returns-in_err-read_item-clause-read
returns-in_err-read_item-clause-read c =
    let p = err_from_is_err_and c.from_residual.result c.from_residual.ensures.1 in
    rw (p.1, p.2)
    (ends_at c.args.tree.now (rule_at c.args.net.now) c.args.items.now c.loop-i.i c.loop-i.i (rules_of_all c.loop-i.config) _ _ c.loop-i-test.true _ c.place_of.ensures Memory
    c.in_err-read_item.field-0.0 c.in_err-read_item.ensures.read c.loop-i.invariant.read)

pub loop-i-preserved : goal.loop-i-preserved
loop-i-preserved c = record {
  read = goes_on_at c.args.tree.now (rule_at c.args.net.now) c.args.items.now c.loop-i.i c.loop-i.i (rules_of_all c.loop-i.config) _ _ c.loop-i-test.true
      _ c.place_of.ensures (rules_of_all c.read_item.new.config) c.in_ok-read_item.ensures.read c.loop-i.invariant.read;
  count = search rules;
}

pub returns-clause-read : goal.returns-clause-read
returns-clause-read c = is_done (data_of c.args.tree.now) (rule_at c.args.net.now) c.args.items.now c.loop-i.i c.loop-i.i (rules_of_all c.loop-i.config) _ c.loop-i-test.false c.loop-i.invariant.read
