use Rattle.certificates.specs.Updates.{rollout}
use Rattle.std.proofs.Common.{◌≡◌, List, refl, sym, ◌∙◌, subst, ap}
use Rattle.flow_rules.specs.declared.rules.Rule.{Rule}
use Rattle.path_walk.specs.Paths.{outcome_in}
use Rattle.path_walk.specs.declared.Outcome.{Outcome}
use Rattle.certificates.specs.TwoPhase.{place_carrying, outcome_carrying}
use Rattle.two_phase_check.specs.Agreements.{HasOutcomeAlone}
use Rattle.two_phase_check.specs.Kept.{outcome_on}
use Rattle.two_phase_check.proofs.keeping.step_at.Goals as goal

pub returns-in_default-clause-step : goal.returns-in_default-clause-step
returns-in_default-clause-step c =
    let t = c.args.round.now.task in
    let expected : c.outcome_at-expected.result ≡ outcome_on t c.args.way c.args.place =
    c.outcome_at-expected.ensures.value ∙ ap (λ (tables : List (List Rule)). outcome_in t.update.net tables c.args.place c.args.way.dst) c.tables_of-tables.ensures.rules in
    let same : c.carry.result ≡ outcome_carrying c.args.way.tag (outcome_on t c.args.way c.args.place) = c.carry.ensures ∙ ap (outcome_carrying c.args.way.tag) expected in (
      subst (λ (o : Outcome). HasOutcomeAlone (rollout t) c.args.round.now.number c.args.way.dst (place_carrying c.args.way.tag c.args.place) o) same c.if-not-stays.ensures.exact,
      λ next goes. c.in_default.not-Go next (expected ∙ goes),
    )

pub returns-in-Go-clause-step : goal.returns-in-Go-clause-step
returns-in-Go-clause-step c =
    let t = c.args.round.now.task in
    let expected : c.outcome_at-expected.result ≡ outcome_on t c.args.way c.args.place =
    c.outcome_at-expected.ensures.value ∙ ap (λ (tables : List (List Rule)). outcome_in t.update.net tables c.args.place c.args.way.dst) c.tables_of-tables.ensures.rules in
    let same : c.carry.result ≡ outcome_carrying c.args.way.tag (outcome_on t c.args.way c.args.place) = c.carry.ensures ∙ ap (outcome_carrying c.args.way.tag) expected in (
      subst (λ (o : Outcome). HasOutcomeAlone (rollout t) c.args.round.now.number c.args.way.dst (place_carrying c.args.way.tag c.args.place) o) same c.if-not-stays.ensures.exact,
      sym (c.in-Go.ensures.value ∙ ap (λ (tables : List (List Rule)). outcome_in t.update.net tables c.args.place c.args.way.dst) c.tables_of-tables.ensures.rules),
      c.in-Go.ensures.within c.in-Go.next refl,
    )
