use Rattle.std.proofs.Common.{arith}
use Rattle.std.proofs.lemmas.Option.{slice_get_within}
use Rattle.round_survey.proofs.TableLaws.{tables_from}
use Rattle.round_survey.proofs.keeping.tables_keep.Goals as goal

pub returns : goal.returns
returns c = λ _.
    tables_from c.args.tables.now (λ n table at.
    let within = slice_get_within c.args.tables.now n table at in
    let past = c.loop-i-test.false in
    let count = c.requires in
    let end = c.switches-i-end.ensures.value in
    c.loop-i.invariant n table (omega arith) at)
