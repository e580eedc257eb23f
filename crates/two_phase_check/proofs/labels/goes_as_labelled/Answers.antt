use Rattle.std.proofs.Common.{refl}
use Rattle.two_phase_check.proofs.AgreeLaws.{agrees_going}
use Rattle.two_phase_check.proofs.labels.goes_as_labelled.Goals as goal

pub returns-then-is_same_stop : goal.returns-then-is_same_stop
returns-then-is_same_stop c =
    agrees_going c.args.expected c.args.labels.now c.args.version c.args.user c.args.next c.in-Go.place c.is_labelled.result c.in-Go.is (c.if-is_same_stop.ensures.0 refl) c.is_labelled.ensures
