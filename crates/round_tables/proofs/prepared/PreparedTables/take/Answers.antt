use Rattle.std.proofs.Common.{[], ◌∷◌, ◌++◌, List, ◌∙◌, subst}
use Rattle.flow_rules.specs.Tables.{rules_of_all}
use Rattle.flow_rules.specs.declared.rules.Rule.{Rule}
use Rattle.update_model.specs.declared.Change.{Change}
use Rattle.round_tables.specs.Filling.{FitTables}
use Rattle.round_tables.proofs.TakenLaws.{taken_again, unfit_there}
use Rattle.round_tables.proofs.prepared.PreparedTables.take.Goals as goal

pub returns-in_err-widen-clause-stands : goal.returns-in_err-widen-clause-stands
returns-in_err-widen-clause-stands c =
    taken_again c.args.net.now c.keeps_rules.ensures c.args.self.now c.widen.new.self c.requires.taken c.widen.ensures.rules c.widen.ensures.round c.widen.ensures.ready

pub returns-then-not-begin_beside-clause-stands : goal.returns-then-not-begin_beside-clause-stands
returns-then-not-begin_beside-clause-stands c =
    taken_again c.args.net.now c.keeps_rules.ensures c.args.self.now c.begin_beside.new.self c.requires.taken (c.begin_beside.ensures.rules ∙ c.widen.ensures.rules)
    (c.begin_beside.ensures.round ∙ c.widen.ensures.round) (c.begin_beside.ensures.no c.if-not-begin_beside.true)

pub returns-then-not-begin_beside-clause-never : goal.returns-then-not-begin_beside-clause-never
returns-then-not-begin_beside-clause-never c = λ _.
    let net = c.args.net.now in
    let change = c.args.change.now in
    let q = c.begin_beside.new.self in
    let p = c.args.self.now in
    subst (λ (ts : List (List Rule)). ¬ FitTables net ts (p.round ++ change ∷ [])) (c.begin_beside.ensures.rules ∙ c.widen.ensures.rules)
    (subst (λ (cs : List Change). ¬ FitTables net (rules_of_all q.tables) (cs ++ change ∷ [])) (c.begin_beside.ensures.round ∙ c.widen.ensures.round)
    (unfit_there net (rules_of_all q.tables) q.round change c.requires.within (c.begin_beside.ensures.never c.if-not-begin_beside.true)))

pub returns-in_err-put-clause-stands : goal.returns-in_err-put-clause-stands
returns-in_err-put-clause-stands c =
    taken_again c.args.net.now c.keeps_rules.ensures c.args.self.now c.put.new.self c.requires.taken (c.put.ensures.rules ∙ c.begin_beside.ensures.rules ∙ c.widen.ensures.rules)
    (c.in_err-put.ensures.same ∙ c.begin_beside.ensures.round ∙ c.widen.ensures.round) c.in_err-put.ensures.ready
