use Rattle.std.proofs.Common.{sym, subst, arith}
use Rattle.flow_rules.specs.Tables.{rules_of_all}
use Rattle.certificates.specs.Valid.{IsValidPlan}
use Rattle.two_phase.specs.Plans.{IsCertifiedWith}
use Rattle.two_phase.specs.Layers.{rounds_by}
use Rattle.two_phase.proofs.LayeringLaws.{few_layers, plan_is}
use Rattle.two_phase.proofs.ValidPlans.{plan_valid}
use Rattle.two_phase.proofs.OwnClasses.{certified_before}
use Rattle.two_phase.proofs.planning.make_plan.Goals as goal

pub plan_of_rounds-requires-clause-few : goal.plan_of_rounds-requires-clause-few
plan_of_rounds-requires-clause-few c =
    let few = few_layers c.args.layering c.args.net.now (rules_of_all c.args.new.now) c.requires.new.few in let layers = c.in_ok-rounds.ensures.layers in omega arith

pub returns-clause-valid : goal.returns-clause-valid
returns-clause-valid c =
    let net = c.args.net.now in
    let old = rules_of_all c.args.old.now in
    let new = rules_of_all c.args.new.now in
    let is = plan_is c.args.layering net old new c.args.tried.now _ _ _ c.in_ok-rounds.ensures.rounds c.in_ok-rounds.ensures.layers c.in_ok-plan_of_rounds.ensures in
    subst (IsValidPlan net) (sym is) (plan_valid net c.keeps_rules.ensures old new c.requires.old c.requires.new c.in_ok-tags.ensures.fits c.args.layering c.args.tried.now c.requires.tried)

pub returns-clause-certified : goal.returns-clause-certified
returns-clause-certified c =
    let net = c.args.net.now in
    let old = rules_of_all c.args.old.now in
    let new = rules_of_all c.args.new.now in
    let is = plan_is c.args.layering net old new c.args.tried.now _ _ _ c.in_ok-rounds.ensures.rounds c.in_ok-rounds.ensures.layers c.in_ok-plan_of_rounds.ensures in
    subst (IsCertifiedWith net old new (rounds_by c.args.layering net old new)) (sym is)
    (certified_before net c.keeps_rules.ensures old new c.requires.old c.requires.new c.in_ok-tags.ensures.fits c.rounds_make_no_classes.ensures c.args.layering c.args.tried.now)
