use Rattle.std.proofs.Common.{Bool, true, List, length, ap, ◌∙◌, arith}
use Rattle.std.proofs.lemmas.List.{length-replicate}
use Rattle.ordered_check.proofs.LookedLaws.{all_looked, some_looked}
use Rattle.ordered_check.proofs.standing.choose.Goals as goal

pub returns-then-round-eq0-clause-looked : goal.returns-then-round-eq0-clause-looked
returns-then-round-eq0-clause-looked c =
    let atoms = length c.args.looked.now in
    let all = c.look_at_all.ensures in
    let long = ap (λ (bs : List Bool). length bs) all ∙ length-replicate atoms true in
    all_looked c.args.of.now.task c.args.of.now.evidence c.args.round.now.number c.look_at_all.new.self (λ some. long ∙ c.requires.room some) atoms all

pub returns-clause-looked : goal.returns-clause-looked
returns-clause-looked c =
    let count = c.look_at.ensures.count in
    some_looked c.args.of.now.task c.args.of.now.evidence c.args.round.now.number c.look_at.new.self (λ some. count ∙ c.requires.room some) c.args.round.now.changes.now c.args.touched.now c.args.begun.now (omega arith)
    c.requires.changes c.requires.touched c.requires.begun c.look_at.ensures.touched c.look_at.ensures.picked
