use Rattle.std.proofs.Common.{◌<◌, length, get_or, arith}
use Rattle.std.proofs.lemmas.List.{get_or_default}
use Rattle.round_mix.proofs.ClashLaws.{clash_at}
use Rattle.round_mix.proofs.UnclearLaws.{not_apart}
use Rattle.round_mix.proofs.kinds.tell_met.Goals as goal

pub returns-then-clashes-clause-clash : goal.returns-then-clashes-clause-clash
returns-then-clashes-clause-clash c _ =
    let marks = c.args.rules.now in
    let i = c.args.left in
    let j = c.args.met in
    let j_in : j < length marks = c.requires in
    let less : i < j = c.if-left-met.true in
    let i_in : i < length marks = omega arith in
    let m = get_or marks i c.index-rules-left.result in
    let n = get_or marks j c.index-rules-met.result in
    not_apart marks i j less (clash_at marks i j m n i_in j_in (get_or_default marks i c.index-rules-left.result m i_in)
    (get_or_default marks j c.index-rules-met.result n j_in) (c.clashes.ensures.0 c.if-clashes.true))
