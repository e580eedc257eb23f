use Rattle.std.proofs.Common.{◌≡◌, [], ◌++◌, drop, sym, ap, ◌∙◌, append-nil, arith}
use Rattle.std.proofs.lemmas.List.{drop_all}
use Rattle.flow_rules.specs.Tables.{rules_of_all}
use Rattle.two_way_replay.specs.Actions.{actions_before}
use Rattle.two_way_replay.proofs.ActionLaws.{actions_are_earlier}
use Rattle.two_way_replay.proofs.earlier.EarlierActions.make.Goals as goal

pub returns : goal.returns
returns c =
    let n = c.loop-k.k in
    let rounds = c.args.rounds.now in
    let none : drop n rounds ≡ [] = drop_all n rounds (omega arith) in
    sym (append-nil c.loop-k.earlier) ∙ ap (λ rest. c.loop-k.earlier ++ actions_before (rules_of_all c.loop-k.tables) rest) (sym none) ∙ c.loop-k.invariant
    ∙ actions_are_earlier (rules_of_all c.args.old.now) rounds
