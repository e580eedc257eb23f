use Rattle.std.proofs.Common.{ap}
use Rattle.demands.specs.Duties.{ClassDuties}
use Rattle.certificates.specs.Certified.{classes_for}
use Rattle.ordered_check.proofs.GuardedLaws.{class_counted, guarded_there, first_there}
use Rattle.ordered_check.proofs.judging.way_by_walks.Goals as goal

pub first_way_round-requires-clause-number : goal.first_way_round-requires-clause-number
first_way_round-requires-clause-number c = class_counted (classes_for c.args.of.now.task) c.class_duties-duties.result.now c.args.of.now.task.update.demands c.args.numbered.number c.args.numbered.class c.class_duties-duties.ensures c.requires.class

pub returns-clause-none : goal.returns-clause-none
returns-clause-none c =
    let t = c.args.of.now.task in
    let e = c.args.of.now.evidence in
    let noted = c.args.walk.now in
    guarded_there c.args.numbered.class c.steps-steps.result.now noted.steps c.leaving-leaving.result.now noted.leaving c.class_duties-duties.result.now.demands t.update.demands c.befores-befores.result.now e.befores
    c.list-sets.result.now c.args.shared.now.befores c.steps-steps.ensures c.leaving-leaving.ensures (ap (λ (d : ClassDuties). d.demands) c.class_duties-duties.ensures) c.befores-befores.ensures c.list-sets.ensures c.first_way_round.result c.first_way_round.ensures.none

pub returns-clause-some : goal.returns-clause-some
returns-clause-some c =
    let t = c.args.of.now.task in
    let e = c.args.of.now.evidence in
    let noted = c.args.walk.now in
    first_there c.args.numbered.class c.steps-steps.result.now noted.steps c.leaving-leaving.result.now noted.leaving c.class_duties-duties.result.now.demands t.update.demands c.befores-befores.result.now e.befores
    c.list-sets.result.now c.args.shared.now.befores c.steps-steps.ensures c.leaving-leaving.ensures (ap (λ (d : ClassDuties). d.demands) c.class_duties-duties.ensures) c.befores-befores.ensures c.list-sets.ensures c.first_way_round.result c.first_way_round.ensures.some
