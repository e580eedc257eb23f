use Rattle.std.proofs.Common.{◌≤◌, length}
use Rattle.net_base.proofs.MemberLaws.{each_weaker}
use Rattle.certificates.specs.Valid.{IsValidPick}
use Rattle.certificates.specs.declared.OrderedPick.{OrderedPick}
use Rattle.ordered_check.proofs.PickLaws.{none_begun}
use Rattle.ordered_check.proofs.ordered.OrderedRoom.start.Goals as goal

pub returns-clause-stands : goal.returns-clause-stands
returns-clause-stands c =
    let e = c.args.of.now.evidence in
    let valid = c.keeps_valid.ensures.valid in
    none_begun e.picks c.start.new.self _
    (each_weaker (IsValidPick (length c.args.of.now.task.rounds) (length e.uses)) (λ (p : OrderedPick). 1 ≤ p.round) (λ p h. h.0) e.picks valid.picks) c.start.ensures.next c.start.ensures.none
