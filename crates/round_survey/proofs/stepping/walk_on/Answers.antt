use Rattle.std.proofs.Common.{◌+◌, ◌-◌, ◌<◌, arith}
use Rattle.breaking_walks.proofs.StepLaws.{notes_fewer}
use Rattle.round_survey.specs.Rounds.{round_rollout}
use Rattle.round_survey.proofs.stepping.walk_on.Goals as goal

pub walking-init : goal.walking-init
walking-init c = record { notes = c.requires.so_far; kept = λ p i. i; room = c.requires.room }

pub walking-preserved : goal.walking-preserved
walking-preserved c = record {
  notes = c.in_ok-add_steps.ensures.so_far;
  kept = λ p i. c.in_ok-add_steps.ensures.kept p (c.walking.invariant.kept p i);
  room = c.add_steps.ensures.room;
}

pub walking-smaller : goal.walking-smaller
walking-smaller c =
    let more = c.walking-test.true in
    let small = c.count.ensures.small in
    let less : 9223372036854775808 - (c.walking.next + 1) < 9223372036854775808 - c.walking.next = omega arith in
    less

pub returns-clause-whole : goal.returns-clause-whole
returns-clause-whole c =
    notes_fewer (round_rollout c.args.round) c.args.round.number c.args.class.first c.walking.next _ c.walking.noted
    (let none = c.walking-test.false in let count = c.count.ensures.count in omega arith) c.walking.invariant.notes
