use Rattle.std.proofs.Common.{sym, ◌∙◌, subst}
use Rattle.net_base.specs.Members.{IsIn}
use Rattle.net_base.proofs.ItemLaws.{in_at}
use Rattle.round_packer.specs.declared.failing.Failure.{Failure}
use Rattle.round_packer.proofs.FailureLaws.{change_eq-true}
use Rattle.round_packer.proofs.failing.known.Goals as goal

pub returns-in-Some-clause-there : goal.returns-in-Some-clause-there
returns-in-Some-clause-there c =
    let got = c.in-Some.ensures.lookup in
    let all = c.args.failed.now in
    let f = c.in-Some.failure.now in
    (got.3.0, subst (λ (x : Failure). IsIn x all) (sym got.1) (in_at all c.args.place f got.3.0))

pub returns-in-Some-clause-change : goal.returns-in-Some-clause-change
returns-in-Some-clause-change c = change_eq-true c.in-Some.failure.now.change c.args.change.now (sym c.is_same.ensures ∙ c.if-is_same.true)
