use Rattle.std.proofs.Common.{Option, sym, subst, IfSome, IfNone}
use Rattle.net_base.specs.declared.ids.SwitchId.{SwitchId}
use Rattle.check_reasons.specs.Least.{IsLeastSwitch}
use Rattle.two_phase_check.specs.Agreements.{IsVersionKept, MixesBy}
use Rattle.two_phase_check.proofs.FollowLaws.{mixed_least, mixed_kept}
use Rattle.two_phase_check.proofs.two_phase.mixed_by.Goals as goal

pub returns-clause-none : goal.returns-clause-none
returns-clause-none c =
    let t = c.args.round.now.task in
    let k = c.args.round.now.number in
    subst (λ (o : Option SwitchId). IfNone o (IsVersionKept t k c.args.class c.args.round.now.labels c.args.found)) (sym c.least_of.ensures)
    (mixed_kept t k c.args.class c.args.round.now.labels c.args.found c.follow_version-old.result c.follow_version-new.result c.follow_version-old.ensures.tells c.follow_version-new.ensures.tells)

pub returns-clause-some : goal.returns-clause-some
returns-clause-some c =
    let t = c.args.round.now.task in
    let k = c.args.round.now.number in
    subst (λ (o : Option SwitchId). IfSome o (IsLeastSwitch (MixesBy t k c.args.class c.args.round.now.labels c.args.found))) (sym c.least_of.ensures)
    (mixed_least t k c.args.class c.args.round.now.labels c.args.found c.follow_version-old.result c.follow_version-new.result c.follow_version-old.ensures.tells c.follow_version-new.ensures.tells)
