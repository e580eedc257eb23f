use Rattle.certificates.specs.Updates.{rollout}
use Rattle.std.proofs.Common.{◌≡◌, ◌<◌, ◌≤◌, ℕ, List, subst}
use Rattle.topology.specs.Networks.{switch_count, capacity_of}
use Rattle.net_base.specs.declared.ids.SwitchId.{SwitchId}
use Rattle.update_model.specs.Mixtures.{Rollout, need_of}
use Rattle.update_model.specs.declared.Change.{Change}
use Rattle.check_reasons.specs.Passed.{RoundKeepsVlans}
use Rattle.round_tables.specs.Loading.{IsFirstOver}
use Rattle.plan_checker.specs.Rewrites.{IsFirstRewrite}
use Rattle.plan_checker.proofs.PassLaws.{over_first, rewrite_first, changes_pass, loaded_within}
use Rattle.plan_checker.proofs.tables.late_reason.Goals as goal

-- no switch of the update lacks room
fits_in : (u v : Rollout) (k : ℕ) → u ≡ v → ((s : SwitchId) → s.0 < switch_count u.net → need_of u k s ≤ capacity_of u.net s) → (s : SwitchId) → s.0 < switch_count v.net → need_of v k s ≤ capacity_of v.net s
fits_in u v k same fits = subst (λ (w : Rollout). (s : SwitchId) → s.0 < switch_count w.net → need_of w k s ≤ capacity_of w.net s) same fits

pub returns-in-Some-clause-some : goal.returns-in-Some-clause-some
returns-in-Some-clause-some c =
    let t = c.args.case.now.task in
    over_first t c.args.case.now.evidence c.args.k c.args.tables.now c.requires.prepared c.keeps_tables.ensures.count c.requires.round
    c.in-Some.switch c.in-Some.need (subst (λ (u : Rollout). IsFirstOver u c.args.k c.in-Some.switch c.in-Some.need) c.rollout_of.ensures c.in-Some.ensures.some)
    c.round_number-round.result c.round_number-round.ensures

pub returns-in-Some-rewrite_of-clause-some : goal.returns-in-Some-rewrite_of-clause-some
returns-in-Some-rewrite_of-clause-some c =
    let t = c.args.case.now.task in
    let found = c.in-Some-rewrite_of.ensures.some in
    rewrite_first t c.args.case.now.evidence c.args.k c.args.tables.now c.requires.prepared c.keeps_tables.ensures.count
    (fits_in c.rollout_of.result (rollout t) c.args.k c.rollout_of.ensures c.in_default.ensures.none) c.in-Some-rewrite_of.switch found.0
    (subst (λ (cs : List Change). IsFirstRewrite cs c.in-Some-rewrite_of.switch) c.round_of-changes.ensures.value found.1) c.round_number-round.result c.round_number-round.ensures

pub returns-in-None-clause-none : goal.returns-in-None-clause-none
returns-in-None-clause-none c =
    let t = c.args.case.now.task in
    let e = c.args.case.now.evidence in
    let k = c.args.k in
    let p = c.args.tables.now in
    let count = c.keeps_tables.ensures.count in
    let fits = fits_in c.rollout_of.result (rollout t) k c.rollout_of.ensures c.in_default.ensures.none in (
      changes_pass t e k p c.requires.prepared count fits (subst (RoundKeepsVlans e) c.round_of-changes.ensures.value c.in-None.ensures.none),
      loaded_within t e k p c.requires.prepared count fits c.keeps_tables.ensures.few,
    )
