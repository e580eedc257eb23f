use Rattle.std.proofs.Common.{◌≡◌, ◌<◌, [], List, sym, ◌∙◌, subst}
use Rattle.topology.specs.Networks.{switch_count}
use Rattle.flow_rules.specs.Tables.{rules_of_all}
use Rattle.flow_rules.specs.declared.rules.Rule.{Rule}
use Rattle.update_model.specs.Changes.{Applies, switch_of}
use Rattle.round_tables.specs.Trials.{HasRoomAlone}
use Rattle.round_tables.proofs.TrialLaws.{never_alone, trying, within_net}
use Rattle.round_tables.proofs.prepared.PreparedTables.begin.Goals as goal

pub returns-clause-yes : goal.returns-clause-yes
returns-clause-yes c = λ on.
    let change = c.args.change.now in
    let q = c.begin_beside.new.self in
    let none : q.round ≡ [] = c.begin_beside.ensures.round ∙ c.widen.ensures.round ∙ c.requires.settled.none in
    trying c.args.net.now change q none (c.begin_beside.ensures.yes on) c.keeps_rules.ensures
    (subst (λ (ts : List (List Rule)). Applies ts change) (sym (c.begin_beside.ensures.rules ∙ c.widen.ensures.rules)) c.requires.applies)

pub returns-clause-never : goal.returns-clause-never
returns-clause-never c = λ off.
    let net = c.args.net.now in
    let change = c.args.change.now in
    let q = c.begin_beside.new.self in
    let none : q.round ≡ [] = c.begin_beside.ensures.round ∙ c.widen.ensures.round ∙ c.requires.settled.none in
    let rules : rules_of_all q.tables ≡ rules_of_all c.args.self.now.tables = c.begin_beside.ensures.rules ∙ c.widen.ensures.rules in
    let within : (switch_of change).0 < switch_count net = within_net net change c.args.self.now c.requires.settled.fit.tables c.requires.applies in
    subst (λ (ts : List (List Rule)). ¬ HasRoomAlone net ts change) rules
    (never_alone net change q none within (subst (λ (ts : List (List Rule)). Applies ts change) (sym rules) c.requires.applies) (c.begin_beside.ensures.never off))
