use Rattle.std.proofs.Common.{get_or, arith}
use Rattle.net_base.proofs.ItemLaws.{in_at}
use Rattle.class_watch.proofs.ListLaws.{no_class}
use Rattle.round_survey.proofs.stepping.never_repeat.Goals as goal

pub come_once-requires-clause-alike : goal.come_once-requires-clause-alike
come_once-requires-clause-alike c m i =
    let first = get_or c.args.members.now 0 no_class in
    let among = in_at c.args.members.now 0 no_class (let some = c.in-len1-up.len_at_least in omega arith) in
    c.requires.alike first m among i
