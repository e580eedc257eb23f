use Rattle.outcome_changes.specs.Trials.{FailsWith}
use Rattle.outcome_changes.proofs.GivingLaws.{some_trial, fails_more, fails_all}
use Rattle.outcome_changes.proofs.changes_for.Goals as goal

pub unreachable-requires : goal.unreachable-requires
unreachable-requires c =
    let net = c.args.search.net.now in
    let rules = c.args.search.table.now.rules in
    let round = c.args.search.round.now in
    some_trial net rules round c.args.place c.args.dst c.args.search.wanted c.requires.good c.requires.clear c.requires.possible c.loop-change.invariant.none
    (fails_all (FailsWith net rules round c.args.place c.args.dst c.args.search.wanted) round c.loop-change.change-index c.loop-change-test.false c.loop-change.invariant.before)

pub loop-change-preserved : goal.loop-change-preserved
loop-change-preserved c =
    let net = c.args.search.net.now in
    let rules = c.args.search.table.now.rules in
    let round = c.args.search.round.now in
    record {
      none = c.loop-change.invariant.none;
      before = fails_more (FailsWith net rules round c.args.place c.args.dst c.args.search.wanted) round c.loop-change.change-index c.change-item.result c.loop-change-test.true c.change-item.is
          c.loop-change.invariant.before (rw c.in_default-2.is at c.in_ok-numbers-2.ensures);
    }

pub loop-change-init : goal.loop-change-init
loop-change-init c = record { none = rw c.in_default.is at c.in_ok-numbers.ensures; before = λ d j. absurd j }
