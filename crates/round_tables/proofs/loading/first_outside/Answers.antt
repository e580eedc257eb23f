use Rattle.std.proofs.Common.{arith}
use Rattle.round_tables.proofs.OutsideLaws.{none_outside, first_found}
use Rattle.round_tables.proofs.loading.first_outside.Goals as goal

pub returns-clause-none : goal.returns-clause-none
returns-clause-none c = none_outside c.args.count c.args.round.now c.loop-i.i (let past = c.loop-i-test.false in omega arith) c.loop-i.found c.loop-i.invariant

pub returns-clause-some : goal.returns-clause-some
returns-clause-some c = first_found c.args.count c.args.round.now c.loop-i.i (let past = c.loop-i-test.false in let upto = c.loop-i.auto.i-end in omega arith) c.loop-i.found c.loop-i.invariant
