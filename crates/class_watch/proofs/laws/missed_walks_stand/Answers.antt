use Rattle.std.proofs.Common.{suc, arith}
use Rattle.class_watch.proofs.StandLaws.{next_walks, next_safe, next_outcomes}
use Rattle.class_watch.proofs.laws.missed_walks_stand.Goals as goal

pub returns-clause-walks : goal.returns-clause-walks
returns-clause-walks c = λ u k class set is.
    let next = is.next in
    next_walks u k class set next (is.good k (omega arith)) is.old_keep is.rounds_keep is.walked is.missed

pub returns-clause-outcomes : goal.returns-clause-outcomes
returns-clause-outcomes c = λ u k class set is.
    let next = is.next in
    next_outcomes u k class set next (is.good k (omega arith)) is.old_keep is.rounds_keep is.walked is.missed (is.good (suc k) next) (is.clear (suc k) next)

pub returns-clause-safe : goal.returns-clause-safe
returns-clause-safe c = λ u k class set is.
    let next = is.next in
    next_safe u k class set next (is.good k (omega arith)) is.old_keep is.rounds_keep is.walked is.missed
