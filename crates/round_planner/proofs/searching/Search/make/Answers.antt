use Rattle.std.proofs.Common.{◌≡◌, ◌≤◌, sym, ◌∙◌, subst, ap}
use Rattle.topology.specs.Networks.{Network, IsNetwork}
use Rattle.flow_rules.specs.Tables.{rules_of_all}
use Rattle.dest_classes.specs.Classes.{ClassList, class_count}
use Rattle.evidence_store.specs.State.{StoreState}
use Rattle.round_tables.specs.Trials.{IsBetweenTrials}
use Rattle.table_difference.specs.Targets.{Target}
use Rattle.round_judge.specs.Goals.{HasAtoms}
use Rattle.round_judge.proofs.VisitLaws.{all_come}
use Rattle.round_planner.proofs.SearchingLaws.{begins_at}
use Rattle.round_planner.proofs.searching.Search.make.Goals as goal

pub returns-clause-at : goal.returns-clause-at
returns-clause-at c =
    let to = c.args.goal.now in
    let first = c.in_ok-trial.ensures in
    let rooms = c.in_ok-looked.ensures in
    let classes_are = ap (λ (a : Target). a.classes) c.goal.view_is in
    let settled = subst (λ (n : Network). IsBetweenTrials n c.in_ok-trial.trial) (ap (λ (a : Target). a.net) c.goal.view_is) first.settled in
    let count = c.count-count.ensures.count ∙ ap (λ (a : Target). class_count a.classes) c.goal.view_is in
    let net = subst (λ (n : Network). IsNetwork n) (ap (λ (a : Target). a.net) c.goal.view_is) c.keeps_rules.ensures in
    let hosts = subst (λ (a : Target). a.classes.hosts ≡ a.net.hosts) c.goal.view_is c.goal.invariant.hosts in
    begins_at to (rules_of_all c.args.old.now) _ first.rounds first.rules settled c.count-count.result count first.store
    (all_come to (rules_of_all c.args.old.now) net c.requires hosts (class_count c.goal.inside.classes.now) (ap (λ (cs : ClassList). class_count cs) classes_are) _ rooms.count rooms.each)
    (subst (λ (cs : ClassList). HasAtoms cs c.in_ok-looked.looked) classes_are rooms.atoms)

pub returns-clause-few : goal.returns-clause-few
returns-clause-few c = subst (λ (s : StoreState). s.classes ≤ 8192) (sym c.in_ok-trial.ensures.store) c.count-count.ensures.few
