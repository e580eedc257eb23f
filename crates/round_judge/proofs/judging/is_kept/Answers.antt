use Rattle.std.proofs.Common.{suc, ◌<◌, ◌≤◌, length, sym, subst}
use Rattle.std.proofs.lemmas.Bool.{false≢true}
use Rattle.net_base.proofs.MemberLaws.{each_at}
use Rattle.certificates.specs.Ordered.{IsMeant}
use Rattle.certificates.specs.declared.OrderedPick.{OrderedPick}
use Rattle.certificates.specs.declared.OrderedEvidence.{OrderedEvidence}
use Rattle.round_judge.proofs.JudgingLaws.{some_round, pick_means, not_without_pick, certified_by}
use Rattle.round_judge.proofs.judging.is_kept.Goals as goal

pub use_keeps-requires-clause-there : goal.use_keeps-requires-clause-there
use_keeps-requires-clause-there c =
    let e = c.args.store.now.evidence in
    let (round, all) = some_round e.picks in
    let (pick, force, is) = c.in-Some.ensures.some round all in
    let named = each_at (λ (p : OrderedPick). (p.shared < length e.uses) × (p.shared ≤ 4294967295)) e.picks pick c.keeps_once.ensures.picks force.stands in
    subst (λ (x : OrderedEvidence). c.in-Some.use_ < length x.uses) (sym c.evidence.ensures) (subst (λ n. n < length e.uses) is named.0)

pub returns-in-Some : goal.returns-in-Some
returns-in-Some c u k net walked begun =
    let e = c.args.store.now.evidence in
    let (pick, force, is) = c.in-Some.ensures.some (suc k) begun in
    let (numbers, sets, meant) = pick_means e c.keeps_once.ensures pick force.stands in
    let (there, back) = c.use_keeps.ensures u k pick numbers sets net walked is (subst (λ (x : OrderedEvidence). IsMeant x pick numbers sets) (sym c.evidence.ensures) meant) in
    let (certified, safe) = certified_by c.args.goal.now u e k c.args.numbered.number c.args.numbered.class c.keeps_once.ensures.ascending pick numbers sets force meant in
    (λ h. certified (there h), λ h. back (safe h))

pub returns-in-None : goal.returns-in-None
returns-in-None c u k net walked begun =
    (λ h. absurd (false≢true h), λ h. absurd (not_without_pick c.args.goal.now u c.args.store.now.evidence k c.args.numbered.number c.args.numbered.class c.in-None.ensures.none h))
