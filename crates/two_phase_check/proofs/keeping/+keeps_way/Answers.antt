use Rattle.std.proofs.Common.{◌≡◌, refl, sym, ◌∙◌, subst}
use Rattle.net_base.specs.declared.ids.Place.{Place}
use Rattle.path_walk.specs.declared.Outcome.TheVariants.{Go}
use Rattle.two_phase_check.specs.Kept.{KeepsFrom}
use Rattle.two_phase_check.proofs.KeepLaws.{keeps_from}
use Rattle.two_phase_check.proofs.keeping.+keeps_way.Goals as goal

pub returns-in-Ends-clause-keeps : goal.returns-in-Ends-clause-keeps
returns-in-Ends-clause-keeps t c = λ _.
    keeps_from c.args.round.now.task c.args.round.now.number c.args.way c.args.place c.in-Ends.ensures.step.0 (λ next goes. absurd (c.in-Ends.ensures.step.1 next goes))

pub returns-in-Ends-clause-known : goal.returns-in-Ends-clause-known
returns-in-Ends-clause-known t c =
    c.note.ensures c.args.round.now.task c.args.round.now.number c.requires.known
    (keeps_from c.args.round.now.task c.args.round.now.number c.args.way c.args.place c.in-Ends.ensures.step.0 (λ next goes. absurd (c.in-Ends.ensures.step.1 next goes)))

pub returns-else-not-keeps_way-clause-keeps : goal.returns-else-not-keeps_way-clause-keeps
returns-else-not-keeps_way-clause-keeps t c = λ _.
    let task = c.args.round.now.task in
    let k = c.args.round.now.number in
    keeps_from task k c.args.way c.args.place c.in-Goes.ensures.step.0
    (λ next goes.
    let g : Go c.in-Goes.next ≡ Go next = sym c.in-Goes.ensures.step.1 ∙ goes in
    let same : c.in-Goes.next ≡ next = cc in
    subst (λ (p : Place). KeepsFrom task k (record { way = c.args.way; place = p })) same (c.if-not-keeps_way.ensures.keeps refl))

pub returns-else-not-keeps_way-clause-known : goal.returns-else-not-keeps_way-clause-known
returns-else-not-keeps_way-clause-known t c =
    c.note-in-Goes.ensures c.args.round.now.task c.args.round.now.number c.keeps_way.ensures.known (returns-else-not-keeps_way-clause-keeps t c refl)
