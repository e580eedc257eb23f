use Rattle.certificates.specs.Updates.{rollout}
use Rattle.std.proofs.Common.{◌≡◌, List, refl, sym, subst}
use Rattle.flow_rules.specs.Tables.{rules_of_all}
use Rattle.flow_rules.specs.declared.rules.Rule.{Rule}
use Rattle.path_walk.specs.Paths.{outcome_in}
use Rattle.path_walk.specs.declared.Outcome.{Outcome}
use Rattle.path_walk.specs.declared.Outcome.TheVariants.{Go}
use Rattle.certificates.specs.TwoPhase.{tables_of, KeepsPath}
use Rattle.two_phase_check.specs.Agreements.{RoundView, EndsSoon, AgreesWith}
use Rattle.two_phase_check.proofs.FollowLaws.{good_soon, tells_keeps}
use Rattle.two_phase_check.proofs.two_phase.follow_version.Goals as goal

pub first_stray-requires-clause-soon : goal.first_stray-requires-clause-soon
first_stray-requires-clause-soon c =
    let t = c.args.round.now.task in
    let net = t.update.net in
    let goes : outcome_in net (rules_of_all c.tables_of-tables.result.now) c.args.class.entry c.args.class.first ≡ Go c.in-Go-expected.first = sym c.in-Go-expected.ensures.value in
    subst (λ (tables : List (List Rule)). EndsSoon net tables c.args.class.first c.in-Go-expected.first) (sym c.tables_of-tables.ensures.rules)
    (good_soon net c.keeps_network.ensures (tables_of (rollout t) t.update.new c.args.version) c.args.class.first t.update.demands c.args.class.entry c.in-Go-expected.first c.requires.entry c.requires.good
    (subst (λ (tables : List (List Rule)). outcome_in net tables c.args.class.entry c.args.class.first ≡ Go c.in-Go-expected.first) c.tables_of-tables.ensures.rules goes))

pub returns-in-None-clause-tells : goal.returns-in-None-clause-tells
returns-in-None-clause-tells c =
    let t = c.args.round.now.task in
    let net = t.update.net in
    let k = c.args.round.now.number in
    let tables = tables_of (rollout t) t.update.new c.args.version in
    let goes : outcome_in net (rules_of_all c.tables_of-tables.result.now) c.args.class.entry c.args.class.first ≡ Go c.in-Go-expected.first = sym c.in-Go-expected.ensures.value in
    tells_keeps t k c.args.class c.args.round.now.labels c.args.version c.args.found c.in-Go.next c.in-Go-expected.first c.in-Go.is
    (subst (λ (ts : List (List Rule)). outcome_in net ts c.args.class.entry c.args.class.first ≡ Go c.in-Go-expected.first) c.tables_of-tables.ensures.rules goes)
    (subst (λ (ts : List (List Rule)). AgreesWith (outcome_in net ts c.args.class.entry c.args.class.first) c.args.round.now.labels c.args.version c.args.class.entry.vlan c.args.found) c.tables_of-tables.ensures.rules
    (subst (λ (o : Outcome). AgreesWith o c.args.round.now.labels c.args.version c.args.class.entry.vlan c.args.found) c.outcome_at-expected.ensures.value
    (subst (λ (v : RoundView). AgreesWith c.outcome_at-expected.result v.labels c.args.version c.args.class.entry.vlan c.args.found) c.round.view_is (c.if-not-agrees.ensures.0 refl))))
    (subst (λ (ts : List (List Rule)). KeepsPath (rollout t) k c.args.class.first ts c.in-Go-expected.first c.in-Go.next.vlan) c.tables_of-tables.ensures.rules c.in-None.ensures.none)

pub returns-then-keeps_way-clause-tells : goal.returns-then-keeps_way-clause-tells
returns-then-keeps_way-clause-tells c =
    let t = c.args.round.now.task in
    let net = t.update.net in
    let k = c.args.round.now.number in
    let goes : outcome_in net (rules_of_all c.tables_of-tables.result.now) c.args.class.entry c.args.class.first ≡ Go c.in-Go-expected.first = sym c.in-Go-expected.ensures.value in
    tells_keeps t k c.args.class c.args.round.now.labels c.args.version c.args.found c.in-Go.next c.in-Go-expected.first c.in-Go.is
    (subst (λ (ts : List (List Rule)). outcome_in net ts c.args.class.entry c.args.class.first ≡ Go c.in-Go-expected.first) c.tables_of-tables.ensures.rules goes)
    (subst (λ (ts : List (List Rule)). AgreesWith (outcome_in net ts c.args.class.entry c.args.class.first) c.args.round.now.labels c.args.version c.args.class.entry.vlan c.args.found) c.tables_of-tables.ensures.rules
    (subst (λ (o : Outcome). AgreesWith o c.args.round.now.labels c.args.version c.args.class.entry.vlan c.args.found) c.outcome_at-expected.ensures.value
    (subst (λ (v : RoundView). AgreesWith c.outcome_at-expected.result v.labels c.args.version c.args.class.entry.vlan c.args.found) c.round.view_is (c.if-not-agrees.ensures.0 refl))))
    (c.keeps_way.ensures.keeps c.if-keeps_way.true)
