use Rattle.std.proofs.Common.{length}
use Rattle.net_base.specs.Members.{IsIn}
use Rattle.acyclic_numbering.specs.Heights.{IsEdge}
use Rattle.dest_classes.proofs.MapLaws.{number_fits}
use Rattle.certificates.specs.Ordered.{positions}
use Rattle.certificates.specs.Certified.{classes_for}
use Rattle.check_reasons.specs.Positions.{sets_of}
use Rattle.check_reasons.specs.Reasons.{class_duties}
use Rattle.ordered_check.specs.Judged.{IsWayRound, AreGuardedBelow}
use Rattle.ordered_check.specs.declared.guarded.GuardedClass.{GuardedClass}
use Rattle.ordered_check.proofs.GuardedLaws.{guarded_found, of_none}
use Rattle.ordered_check.proofs.judging.way_of_class.Goals as goal

pub knows-requires-clause-number : goal.knows-requires-clause-number
knows-requires-clause-number c = number_fits (classes_for c.args.of.now.task) c.args.numbered.number c.args.numbered.class c.requires.class

pub returns-then-is_none-clause-guarded : goal.returns-then-is_none-clause-guarded
returns-then-is_none-clause-guarded c =
    let t = c.args.of.now.task in
    let e = c.args.of.now.evidence in
    let noted = c.args.walk.now in
    let class = c.args.numbered.class in
    let shared = c.args.shared.now in
    let of : GuardedClass = record { number = c.args.numbered.number; start = class.entry.switch; shared = c.args.pick.shared } in
    let held = of_none c.way_by_walks-way.result c.is_none.result
    (AreGuardedBelow (IsWayRound class.entry.switch (IsEdge noted.steps) (λ s. IsIn s noted.leaving)) (positions (class_duties t class).chains (sets_of e.befores shared.befores)) (length shared.befores))
    c.way_by_walks-way.ensures.none c.is_none.ensures c.if-is_none.true in
    c.keep.ensures t e class c.requires.class (guarded_found t e of noted.steps noted.leaving class shared c.requires.shared held)
