use Rattle.std.proofs.Common.{◌≡◌, ◌-◌, List, get_or, subst, arith}
use Rattle.certificates.specs.declared.LabelPick.{LabelPick}
use Rattle.two_phase_check.specs.InForce.{AreBegun, IsTableOf, IsTableAfter}
use Rattle.two_phase_check.proofs.InForceLaws.{table_in_force, table_after}
use Rattle.two_phase_check.proofs.labels.LabelsInForce.advance.Goals as goal

pub returns-then-begun-self-clause-in_force : goal.returns-then-begun-self-clause-in_force
returns-then-begun-self-clause-in_force c =
    let net = c.args.net.now in
    let e = c.args.evidence.now in
    let begun : AreBegun e.picks c.args.round c.begun_by-begun.result = subst (λ (ps : List LabelPick). AreBegun ps c.args.round c.begun_by-begun.result) c.list-picks.ensures c.begun_by-begun.ensures.begun in
    let within = begun.within in
    table_in_force net e c.args.round c.begun_by-begun.result c.table_of-self.result c.requires.ascending begun
    (table_after net e c.begun_by-begun.result _ c.table_of-self.result (let more = c.if-begun-self.true in omega arith) within
    (subst (λ (ps : List LabelPick). IsTableOf net e (get_or ps (c.begun_by-begun.result - 1) _) c.table_of-self.result) c.list-picks.ensures c.table_of-self.ensures))

pub returns-then-begun-self-clause-begun : goal.returns-then-begun-self-clause-begun
returns-then-begun-self-clause-begun c = subst (λ (ps : List LabelPick). AreBegun ps c.args.round c.begun_by-begun.result) c.list-picks.ensures c.begun_by-begun.ensures.begun

pub returns-else-begun-self-clause-begun : goal.returns-else-begun-self-clause-begun
returns-else-begun-self-clause-begun c =
    let e = c.args.evidence.now in
    let begun : AreBegun e.picks c.args.round c.begun_by-begun.result = subst (λ (ps : List LabelPick). AreBegun ps c.args.round c.begun_by-begun.result) c.list-picks.ensures c.begun_by-begun.ensures.begun in
    let same : c.begun_by-begun.result ≡ c.args.self.now.begun = (let more = c.begun_by-begun.ensures.more in let not_more = c.if-begun-self.false in omega arith) in
    subst (AreBegun e.picks c.args.round) same begun

pub returns-else-begun-self-clause-in_force : goal.returns-else-begun-self-clause-in_force
returns-else-begun-self-clause-in_force c =
    let net = c.args.net.now in
    let e = c.args.evidence.now in
    let begun : AreBegun e.picks c.args.round c.begun_by-begun.result = subst (λ (ps : List LabelPick). AreBegun ps c.args.round c.begun_by-begun.result) c.list-picks.ensures c.begun_by-begun.ensures.begun in
    let same : c.args.self.now.begun ≡ c.begun_by-begun.result = (let more = c.begun_by-begun.ensures.more in let not_more = c.if-begun-self.false in omega arith) in
    table_in_force net e c.args.round c.begun_by-begun.result c.args.self.now.table c.requires.ascending begun (subst (λ n. IsTableAfter net e n c.args.self.now.table) same c.requires.stands.table)
