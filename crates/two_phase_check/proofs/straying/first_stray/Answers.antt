use Rattle.certificates.specs.Updates.{rollout}
use Rattle.std.proofs.Common.{◌≡◌, sym, ◌∙◌, ap, subst, refl, arith}
use Rattle.flow_rules.specs.Tables.{rules_of_all}
use Rattle.path_walk.specs.Paths.{outcome_in}
use Rattle.path_walk.specs.declared.Outcome.{Outcome}
use Rattle.certificates.specs.TwoPhase.{place_carrying, outcome_carrying}
use Rattle.two_phase_check.specs.Agreements.{HasOutcomeAlone, HasOtherOutcome}
use Rattle.two_phase_check.proofs.StrayLaws.{follow_none, follow_more, follow_ends, follow_strays, follow_over}
use Rattle.two_phase_check.proofs.straying.first_stray.Goals as goal

pub loop-step-init : goal.loop-step-init
loop-step-init c = record {
  followed = follow_none (rollout c.args.round.now.task) c.args.round.now.number c.args.dst (rules_of_all c.args.tables.now) c.args.first c.args.tag;
  within = c.requires.switch;
  room = c.requires.room;
}

pub returns-then-not-stays-clause-some : goal.returns-then-not-stays-clause-some
returns-then-not-stays-clause-some c =
    let u = (rollout c.args.round.now.task) in
    let k = c.args.round.now.number in
    let tables = rules_of_all c.args.tables.now in
    let same : c.carry.result ≡ outcome_carrying c.args.tag (outcome_in u.net tables c.loop-step.place c.args.dst) = c.carry.ensures ∙ ap (outcome_carrying c.args.tag) c.outcome_at-expected.ensures.value in
    follow_strays u k c.args.dst tables c.args.first c.args.tag c.loop-step._step c.loop-step.place c.loop-step.invariant.followed
    (subst (λ (o : Outcome). HasOtherOutcome u k c.args.dst (place_carrying c.args.tag c.loop-step.place) o) same c.if-not-stays.ensures.exact)

pub returns-in_default : goal.returns-in_default
returns-in_default c =
    let u = (rollout c.args.round.now.task) in
    let k = c.args.round.now.number in
    let tables = rules_of_all c.args.tables.now in
    let same : c.carry.result ≡ outcome_carrying c.args.tag (outcome_in u.net tables c.loop-step.place c.args.dst) = c.carry.ensures ∙ ap (outcome_carrying c.args.tag) c.outcome_at-expected.ensures.value in
    record {
      none = follow_ends u k c.args.dst tables c.args.first c.args.tag c.loop-step._step c.loop-step.place c.loop-step.invariant.followed
          (subst (λ (o : Outcome). HasOutcomeAlone u k c.args.dst (place_carrying c.args.tag c.loop-step.place) o) same c.if-not-stays.ensures.exact)
          (λ next goes. c.in_default.not-Go next (c.outcome_at-expected.ensures.value ∙ goes));
      some = tt;
      room = c.stays.ensures.room;
    }

pub loop-step-preserved : goal.loop-step-preserved
loop-step-preserved c =
    let u = (rollout c.args.round.now.task) in
    let k = c.args.round.now.number in
    let tables = rules_of_all c.args.tables.now in
    let same : c.carry.result ≡ outcome_carrying c.args.tag (outcome_in u.net tables c.loop-step.place c.args.dst) = c.carry.ensures ∙ ap (outcome_carrying c.args.tag) c.outcome_at-expected.ensures.value in
    record {
      followed = follow_more u k c.args.dst tables c.args.first c.args.tag c.loop-step._step c.loop-step.place c.loop-step.invariant.followed c.in-Go.next
          (subst (λ (o : Outcome). HasOutcomeAlone u k c.args.dst (place_carrying c.args.tag c.loop-step.place) o) same c.if-not-stays.ensures.exact)
          (sym c.in-Go.ensures.value);
      within = c.in-Go.ensures.within c.in-Go.next refl;
      room = c.stays.ensures.room;
    }

pub returns-clause-none : goal.returns-clause-none
returns-clause-none c =
    let u = (rollout c.args.round.now.task) in
    absurd
    (follow_over u c.args.round.now.number c.args.dst (rules_of_all c.args.tables.now) c.args.first c.args.tag c.loop-step._step c.loop-step.place c.loop-step.invariant.followed c.requires.soon
    (let past = c.loop-step-test.false in let end = c.switches-step-end.ensures in let few = c.loop-step.auto in omega arith))
