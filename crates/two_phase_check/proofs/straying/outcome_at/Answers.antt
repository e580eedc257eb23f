use Rattle.std.proofs.Common.{◌≡◌, ◌<◌, ◌∙◌, subst, ap}
use Rattle.topology.specs.Networks.{Network, switch_count}
use Rattle.flow_rules.specs.Tables.{rules_of_all}
use Rattle.path_walk.proofs.StayLaws.{go_within}
use Rattle.path_walk.proofs.WalkedLaws.{outcome_held}
use Rattle.check_reasons.specs.Cases.{CaseView}
use Rattle.two_phase_check.specs.Agreements.{RoundView}
use Rattle.two_phase_check.proofs.straying.outcome_at.Goals as goal

pub returns-clause-within : goal.returns-clause-within
returns-clause-within c next goes =
    let net = c.case.inside.net.now in
    let same : net ≡ c.args.round.now.task.update.net = ap (λ (v : CaseView). v.task.update.net) c.case.view_is ∙ ap (λ (v : RoundView). v.task.update.net) c.round.view_is in
    subst (λ (n : Network). next.switch.0 < switch_count n) same
    (go_within net c.keeps_rules.ensures (rules_of_all c.args.tables.now) c.args.dst c.args.place next
    (outcome_held net c.args.tables.now c.args.place c.args.dst c.table.result.now c.outcome.result c.table.ensures c.outcome.ensures ∙ goes))
