use Rattle.std.proofs.Common.{◌<◌, List, [], ◌∷◌, ◌++◌, sym, ◌∙◌, ap, subst}
use Rattle.flow_rules.specs.Tables.{rules_of_all}
use Rattle.topology.specs.Networks.{Network, switch_count}
use Rattle.update_model.specs.Changes.{switch_of}
use Rattle.update_model.specs.declared.Change.{Change}
use Rattle.certificates.specs.Rounds.{one_round_of}
use Rattle.check_reasons.specs.Loaded.{AreLoaded}
use Rattle.round_mix.specs.Prepared.{MixedState}
use Rattle.table_difference.specs.Targets.{Target}
use Rattle.round_tables.specs.Filling.{AreTakenChanges, FitTables}
use Rattle.round_packer.specs.Kept.{AreJudgedBeside}
use Rattle.round_packer.proofs.JudgeLaws.{kept_watched}
use Rattle.round_packer.proofs.FillLaws.{prepared_beside, tried_unfit, tried_taken, tried_failed, failed_now}
use Rattle.round_packer.proofs.filling.try_change.Goals as goal

pub take-requires-clause-taken : goal.take-requires-clause-taken
take-requires-clause-taken c = subst (λ (n : Network). AreTakenChanges n c.args.trial.now) (sym (ap (λ (a : Target). a.net) c.goal.view_is)) c.requires.filling.2.taken

pub take-requires-clause-within : goal.take-requires-clause-within
take-requires-clause-within c = subst (λ (n : Network). (switch_of c.args.change.now).0 < switch_count n) (sym (ap (λ (a : Target). a.net) c.goal.view_is)) c.requires.plain.within

pub returns-then-not-branch-clause-tried : goal.returns-then-not-branch-clause-tried
returns-then-not-branch-clause-tried c = λ tables round at.
    let p = c.args.trial.now in
    let change = c.args.change.now in
    let net_is = ap (λ (a : Target). a.net) c.goal.view_is in
    tried_unfit c.args.goal.now tables round p c.args.watch.now.came.items c.args.looked.now at change c.requires.plain c.take.new.self
    (subst (λ (n : Network). AreTakenChanges n c.take.new.self) net_is c.take.ensures.stands) c.take.ensures.rules (c.in_ok-take.ensures.same c.if-not-branch.true)
    (subst (λ (n : Network). ¬ FitTables n (rules_of_all p.tables) (p.round ++ change ∷ [])) net_is (c.in_ok-take.ensures.never c.if-not-branch.true))

pub failure_beside-requires-clause-prepared : goal.failure_beside-requires-clause-prepared
failure_beside-requires-clause-prepared c =
    let (tables, round, at) = c.requires.filling in
    let change = c.args.change.now in
    let q = c.take.new.self in
    let net_is = ap (λ (a : Target). a.net) c.goal.view_is in
    let trial = subst (λ (n : Network). AreTakenChanges n q) net_is c.take.ensures.stands in
    let taken = c.in_ok-take.ensures.more c.if-not-branch.false ∙ ap (λ (cs : List Change). cs ++ change ∷ []) at.round_is in (
      tables,
      round ++ change ∷ [],
      prepared_beside c.args.goal.now tables round c.args.trial.now c.args.watch.now.came.items c.args.looked.now at change c.requires.plain q c.mixes.result.now c.take.ensures.rules taken
          (subst (λ (ms : List MixedState). AreLoaded (one_round_of c.args.goal.now.net (rules_of_all q.tables) q.round) 0 ms) (sym c.mixes.ensures) trial.loaded),
    )

pub failure_beside-requires-clause-came : goal.failure_beside-requires-clause-came
failure_beside-requires-clause-came c = c.requires.filling.2.kept.count

pub failure_beside-requires-clause-atoms : goal.failure_beside-requires-clause-atoms
failure_beside-requires-clause-atoms c = λ some. c.look_at_touched.ensures.count ∙ c.requires.filling.2.atoms some

pub failure_beside-requires-clause-touched : goal.failure_beside-requires-clause-touched
failure_beside-requires-clause-touched c = c.look_at_touched.ensures.touched

pub look_at_touched-requires : goal.look_at_touched-requires
look_at_touched-requires c = c.requires.filling.2.atoms

pub returns-in-None-clause-tried : goal.returns-in-None-clause-tried
returns-in-None-clause-tried c = λ tables round at.
    let to = c.args.goal.now in
    let change = c.args.change.now in
    let q = c.take.new.self in
    let net_is = ap (λ (a : Target). a.net) c.goal.view_is in
    let trial = subst (λ (n : Network). AreTakenChanges n q) net_is c.take.ensures.stands in
    let taken = c.in_ok-take.ensures.more c.if-not-branch.false in
    let prepared = prepared_beside to tables round c.args.trial.now c.args.watch.now.came.items c.args.looked.now at change c.requires.plain q c.mixes.result.now c.take.ensures.rules
    (taken ∙ ap (λ (cs : List Change). cs ++ change ∷ []) at.round_is) (subst (λ (ms : List MixedState). AreLoaded (one_round_of c.args.goal.now.net (rules_of_all q.tables) q.round) 0 ms) (sym c.mixes.ensures) trial.loaded) in
    let judged = subst (AreJudgedBeside to tables (round ++ change ∷ []) change c.failure_beside.new.watch.came.items) c.in-None.is (c.in_ok-failure.ensures.judged tables round prepared at.kept) in
    tried_taken to tables round c.args.trial.now c.args.watch.now.came.items c.args.looked.now at change c.requires.plain q trial c.take.ensures.rules taken
    c.failure_beside.new.watch.came.items judged c.look_at_touched.new.looked (λ some. c.look_at_touched.ensures.count ∙ at.atoms some)

pub leave-requires-clause-last : goal.leave-requires-clause-last
leave-requires-clause-last c = (c.args.trial.now.round, c.in_ok-take.ensures.more c.if-not-branch.false)

pub returns-in-Some-clause-tried : goal.returns-in-Some-clause-tried
returns-in-Some-clause-tried c = λ tables round at.
    let to = c.args.goal.now in
    let change = c.args.change.now in
    let first = c.args.watch.now.came.items in
    let new = c.failure_beside.new.watch.came.items in
    let q = c.take.new.self in
    let net_is = ap (λ (a : Target). a.net) c.goal.view_is in
    let trial = subst (λ (n : Network). AreTakenChanges n q) net_is c.take.ensures.stands in
    let taken = c.in_ok-take.ensures.more c.if-not-branch.false in
    let prepared = prepared_beside to tables round c.args.trial.now first c.args.looked.now at change c.requires.plain q c.mixes.result.now c.take.ensures.rules
    (taken ∙ ap (λ (cs : List Change). cs ++ change ∷ []) at.round_is) (subst (λ (ms : List MixedState). AreLoaded (one_round_of c.args.goal.now.net (rules_of_all q.tables) q.round) 0 ms) (sym c.mixes.ensures) trial.loaded) in
    let fails = subst (AreJudgedBeside to tables (round ++ change ∷ []) change new) c.in-Some.is (c.in_ok-failure.ensures.judged tables round prepared at.kept) in
    tried_failed to tables round c.args.trial.now first c.args.looked.now at change c.requires.plain c.leave.new.self
    (subst (λ (n : Network). AreTakenChanges n c.leave.new.self) net_is c.leave.ensures.stands) (c.leave.ensures.rules ∙ c.take.ensures.rules)
    (c.leave.ensures.left c.args.trial.now.round taken ∙ at.round_is) c.in-Some.failure fails new
    (kept_watched to tables round change first new (c.in_ok-failure.ensures.watched tables (round ++ change ∷ []) prepared) at.kept) c.look_at_touched.new.looked
    (λ some. c.look_at_touched.ensures.count ∙ at.atoms some)

pub returns-in-Some-clause-failed : goal.returns-in-Some-clause-failed
returns-in-Some-clause-failed c = λ tables round at.
    let to = c.args.goal.now in
    let change = c.args.change.now in
    let first = c.args.watch.now.came.items in
    let new = c.failure_beside.new.watch.came.items in
    let q = c.take.new.self in
    let net_is = ap (λ (a : Target). a.net) c.goal.view_is in
    let trial = subst (λ (n : Network). AreTakenChanges n q) net_is c.take.ensures.stands in
    let taken = c.in_ok-take.ensures.more c.if-not-branch.false in
    let prepared = prepared_beside to tables round c.args.trial.now first c.args.looked.now at change c.requires.plain q c.mixes.result.now c.take.ensures.rules
    (taken ∙ ap (λ (cs : List Change). cs ++ change ∷ []) at.round_is) (subst (λ (ms : List MixedState). AreLoaded (one_round_of c.args.goal.now.net (rules_of_all q.tables) q.round) 0 ms) (sym c.mixes.ensures) trial.loaded) in
    let fails = subst (AreJudgedBeside to tables (round ++ change ∷ []) change new) c.in-Some.is (c.in_ok-failure.ensures.judged tables round prepared at.kept) in
    failed_now to tables round c.args.trial.now first c.args.looked.now at change c.requires.plain c.in-Some.failure fails
