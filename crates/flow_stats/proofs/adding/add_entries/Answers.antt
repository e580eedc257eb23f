use Rattle.std.proofs.Common.{◌+◌, refl, rules, arith}
use Rattle.std.proofs.lemmas.Result.{err_from_is_err_and}
use Rattle.flow_rules.specs.Tables.{rules_of_all}
use Rattle.flow_stats.specs.declared.fault.StatsFault.TheVariants.{Memory}
use Rattle.flow_stats.specs.Tables.{entry_at}
use Rattle.net_base.proofs.ItemTurns.{goes_on, ends, is_done}
use Rattle.flow_stats.proofs.adding.add_entries.Goals as goal

pub returns-in_err-add_entry-clause-read : goal.returns-in_err-add_entry-clause-read
returns-in_err-add_entry-clause-read c =
    let p = err_from_is_err_and c.from_residual.result c.from_residual.ensures.1 in
    rw (p.1, p.2)
    (ends (entry_at c.args.net.now c.args.switch) c.args.entries.now c.loop-i.i (c.args.first + c.loop-i.i) (rules_of_all c.loop-i.config) _ _ _ c.loop-i-test.true refl c.place_of.result Memory c.in_err-add_entry.field-0.0
    c.place_of.ensures c.in_err-add_entry.ensures.read c.loop-i.invariant.read)

pub loop-i-preserved : goal.loop-i-preserved
loop-i-preserved c = record {
  read = goes_on (entry_at c.args.net.now c.args.switch) c.args.entries.now c.loop-i.i (c.args.first + c.loop-i.i) (rules_of_all c.loop-i.config) _ _ _ c.loop-i-test.true refl c.place_of.result (c.args.first + (c.loop-i.i + 1)) (rules_of_all c.add_entry.new.config)
      c.place_of.ensures (omega arith) c.in_ok-add_entry.ensures.read c.loop-i.invariant.read;
  index = c.in_ok-add_entry.ensures.index;
  few = search rules;
  count = search rules;
}

pub returns-clause-read : goal.returns-clause-read
returns-clause-read c = is_done (entry_at c.args.net.now c.args.switch) c.args.entries.now c.loop-i.i (c.args.first + c.loop-i.i) (rules_of_all c.loop-i.config) _ c.loop-i-test.false c.loop-i.invariant.read
