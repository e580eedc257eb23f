use Rattle.std.proofs.Common.{true, [], ◌∷◌, ◌++◌, ◌∙◌, subst}
use Rattle.demands.specs.Duties.{ClassDuties}
use Rattle.round_packer.specs.Kept.{AreTold}
use Rattle.round_packer.proofs.JudgeLaws.{told_both, watched_then, kept_watched}
use Rattle.round_packer.proofs.judging.failure_beside.Goals as goal

pub classes_failure-requires-clause-last : goal.classes_failure-requires-clause-last
classes_failure-requires-clause-last c =
    let to = c.args.goal.now in
    let d : ClassDuties = record { demands = to.demands; classes = to.classes } in
    c.none-last.ensures to.net d

pub returns-in-Some-clause-judged : goal.returns-in-Some-clause-judged
returns-in-Some-clause-judged c = λ tables taken prepared kept.
    let change = c.args.tried.now.change.now in
    subst (AreTold c.args.goal.now tables (taken ++ change ∷ []) change true c.classes_failure.new.watch.came.items) c.in-Some.is (c.in_ok-failure.ensures.told tables taken prepared kept)

pub returns-clause-judged : goal.returns-clause-judged
returns-clause-judged c = λ tables taken prepared kept.
    let to = c.args.goal.now in
    let change = c.args.tried.now.change.now in
    let changes = taken ++ change ∷ [] in
    let first = c.args.watch.now.came.items in
    let mid = c.classes_failure.new.watch.came.items in
    let new = c.classes_failure-2.new.watch.came.items in
    let one = c.in_ok-failure.ensures in
    let two = c.in_ok-failure-2.ensures in
    let ours = subst (AreTold to tables changes change true mid) c.in_default.is (one.told tables taken prepared kept) in
    let theirs = two.told tables taken prepared (kept_watched to tables taken change first mid (one.watched tables changes prepared) kept) in
    told_both to tables changes change mid new c.in_ok-failure-2.failure (two.count ∙ one.count ∙ c.requires.came) (two.watched tables changes prepared) ours theirs

pub returns-clause-watched : goal.returns-clause-watched
returns-clause-watched c = λ tables changes prepared.
    watched_then c.args.goal.now tables changes c.args.watch.now.came.items c.classes_failure.new.watch.came.items c.classes_failure-2.new.watch.came.items (c.in_ok-failure.ensures.watched tables changes prepared)
    (c.in_ok-failure-2.ensures.watched tables changes prepared)
