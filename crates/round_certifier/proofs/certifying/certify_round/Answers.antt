use Rattle.std.proofs.Common.{suc, ◌+◌, ◌<◌, List, sym, ◌∙◌, ap, subst, arith}
use Rattle.std.specs.List.{AllByRecursion}
use Rattle.net_base.proofs.MemberLaws.{each_weaker}
use Rattle.dest_classes.specs.Classes.{class_count}
use Rattle.certificates.specs.Updates.{rollout}
use Rattle.round_mix.specs.Prepared.{MixedState}
use Rattle.check_reasons.specs.Loaded.{AreLoaded}
use Rattle.table_difference.specs.Targets.{Target}
use Rattle.round_judge.specs.Goals.{HasAtoms}
use Rattle.certificates.specs.declared.OrderedPick.{OrderedPick}
use Rattle.evidence_store.specs.State.{StoreState}
use Rattle.evidence_store.specs.Stored.{IsStored}
use Rattle.round_judge.specs.declared.judging.FoundEvidence.{FoundEvidence}
use Rattle.round_judge.proofs.EvidenceLaws.{begun_before}
use Rattle.round_judge.specs.Judged.{AreFirstJudged, AreWithPicks}
use Rattle.round_judge.specs.Visits.{HoldAfter}
use Rattle.round_certifier.specs.Standing.{target_for}
use Rattle.round_certifier.proofs.RefusalLaws.{changes_first, class_first}
use Rattle.round_certifier.proofs.CertifiedLaws.{ready_for, judged_here, certified_more}
use Rattle.round_certifier.proofs.certifying.certify_round.Goals as goal

pub overflow_cast-round : goal.overflow_cast-round
overflow_cast-round c = let few = c.keeps_rules.ensures.valid.few_rounds in let less = c.requires.within in omega arith

pub overflow_add-round : goal.overflow_add-round
overflow_add-round c = let few = c.keeps_rules.ensures.valid.few_rounds in let less = c.requires.within in omega arith

pub returns-in-Some-clause-some : goal.returns-in-Some-clause-some
returns-in-Some-clause-some c =
    let case = c.args.case.now in
    changes_first case c.keeps_rules.ensures.old_user.count c.requires.ends c.requires.ordered c.args.k c.requires.so_far.passed c.args.so_far.now.store.evidence c.requires.so_far.evidence
    c.in-Some.reason c.in-Some.ensures.some c.in-Some.ensures.place

pub judge-requires-clause-classes : goal.judge-requires-clause-classes
judge-requires-clause-classes c = ap (λ (a : Target). a.classes) c.requires.goal

pub judge-requires-clause-atoms : goal.judge-requires-clause-atoms
judge-requires-clause-atoms c = subst (λ (a : Target). HasAtoms a.classes c.args.so_far.now.looked) (sym c.requires.goal) c.requires.so_far.atoms

pub judge-requires-clause-came : goal.judge-requires-clause-came
judge-requires-clause-came c = c.requires.so_far.visits.count ∙ ap (λ (a : Target). class_count a.classes) (sym c.requires.goal)

pub judge-requires-clause-ready : goal.judge-requires-clause-ready
judge-requires-clause-ready c =
    let (pass, loaded, prepared) = c.in_default.ensures.none in
    ready_for c.args.case.now c.requires.ordered c.args.k c.requires.so_far.passed pass c.keeps_rules.ensures.old_user c.mixes.result.now
    (subst (λ (ms : List MixedState). AreLoaded (rollout c.args.case.now.task) c.args.k ms) (sym c.mixes.ensures) loaded) c.args.so_far.now.store c.args.so_far.now.watch.came.items c.args.so_far.now.looked
    c.requires.so_far c.args.goal.now c.requires.goal

pub returns-in-Unsafe-clause-some : goal.returns-in-Unsafe-clause-some
returns-in-Unsafe-clause-some c =
    let case = c.args.case.now in
    let (pass, loaded, prepared) = c.in_default.ensures.none in
    let judged = judged_here case c.requires.ordered c.args.k c.requires.so_far.passed pass c.keeps_rules.ensures.old_user c.requires.within c.mixes.result.now
    (subst (λ (ms : List MixedState). AreLoaded (rollout case.task) c.args.k ms) (sym c.mixes.ensures) loaded) c.args.so_far.now.store c.args.so_far.now.watch.came.items c.args.so_far.now.looked
    c.requires.so_far c.args.goal.now c.requires.goal c.in_ok-failing.field-0 c.judge.new.self.watch.came.items c.in_ok-failing.ensures.judged in
    class_first case c.keeps_rules.ensures.old_user.count c.requires.ends c.requires.ordered c.args.k c.requires.so_far.passed c.args.so_far.now.store.evidence c.requires.so_far.evidence
    c.requires.within pass c.in-Unsafe.failing (subst (AreFirstJudged (target_for case.task) (rollout case.task) c.args.so_far.now.store.evidence c.args.k) c.in-Unsafe.is judged.0) (c.args.k + 1) (omega arith)

pub put_picks-requires-clause-few_rounds : goal.put_picks-requires-clause-few_rounds
put_picks-requires-clause-few_rounds c = let few = c.keeps_rules.ensures.valid.few_rounds in let less = c.requires.within in omega arith

pub put_picks-requires-clause-behind : goal.put_picks-requires-clause-behind
put_picks-requires-clause-behind c =
    let case = c.args.case.now in
    subst (λ (s : StoreState). AllByRecursion (λ p. p.round < c.args.k + 1) s.evidence.picks) (sym c.judge.ensures.store)
    (each_weaker (λ (p : OrderedPick). p.round < suc c.args.k) (λ (p : OrderedPick). p.round < c.args.k + 1) (λ p less. omega arith) c.args.so_far.now.store.evidence.picks
    (begun_before (target_for case.task) (rollout case.task) c.args.k c.args.so_far.now.store.evidence c.requires.so_far.evidence))

-- what is found for the classes of the round, which are safe
pub put_picks-requires-clause-classes : goal.put_picks-requires-clause-classes
put_picks-requires-clause-classes c =
    let case = c.args.case.now in
    let (pass, loaded, prepared) = c.in_default.ensures.none in
    let judged = judged_here case c.requires.ordered c.args.k c.requires.so_far.passed pass c.keeps_rules.ensures.old_user c.requires.within c.mixes.result.now
    (subst (λ (ms : List MixedState). AreLoaded (rollout case.task) c.args.k ms) (sym c.mixes.ensures) loaded) c.args.so_far.now.store c.args.so_far.now.watch.came.items c.args.so_far.now.looked
    c.requires.so_far c.args.goal.now c.requires.goal c.in_ok-failing.field-0 c.judge.new.self.watch.came.items c.in_ok-failing.ensures.judged in
    let safe = subst (AreFirstJudged (target_for case.task) (rollout case.task) c.args.so_far.now.store.evidence c.args.k) c.in-Safe.is judged.0 in
    subst (λ n. AllByRecursion (λ (f : FoundEvidence). f.class < n) c.in-Safe.found.items) (sym (ap (λ (s : StoreState). s.classes) c.judge.ensures.store ∙ c.requires.so_far.classes)) safe.within

pub put_picks-requires-clause-ascending : goal.put_picks-requires-clause-ascending
put_picks-requires-clause-ascending c =
    let case = c.args.case.now in
    let (pass, loaded, prepared) = c.in_default.ensures.none in
    let judged = judged_here case c.requires.ordered c.args.k c.requires.so_far.passed pass c.keeps_rules.ensures.old_user c.requires.within c.mixes.result.now
    (subst (λ (ms : List MixedState). AreLoaded (rollout case.task) c.args.k ms) (sym c.mixes.ensures) loaded) c.args.so_far.now.store c.args.so_far.now.watch.came.items c.args.so_far.now.looked
    c.requires.so_far c.args.goal.now c.requires.goal c.in_ok-failing.field-0 c.judge.new.self.watch.came.items c.in_ok-failing.ensures.judged in
    let safe = subst (AreFirstJudged (target_for case.task) (rollout case.task) c.args.so_far.now.store.evidence c.args.k) c.in-Safe.is judged.0 in
    safe.ascending

pub returns-in_ok-put_picks-in-Safe-clause-none : goal.returns-in_ok-put_picks-in-Safe-clause-none
returns-in_ok-put_picks-in-Safe-clause-none c =
    let case = c.args.case.now in
    let (pass, loaded, prepared) = c.in_default.ensures.none in
    let judged = judged_here case c.requires.ordered c.args.k c.requires.so_far.passed pass c.keeps_rules.ensures.old_user c.requires.within c.mixes.result.now
    (subst (λ (ms : List MixedState). AreLoaded (rollout case.task) c.args.k ms) (sym c.mixes.ensures) loaded) c.args.so_far.now.store c.args.so_far.now.watch.came.items c.args.so_far.now.looked
    c.requires.so_far c.args.goal.now c.requires.goal c.in_ok-failing.field-0 c.judge.new.self.watch.came.items c.in_ok-failing.ensures.judged in
    let safe = subst (AreFirstJudged (target_for case.task) (rollout case.task) c.args.so_far.now.store.evidence c.args.k) c.in-Safe.is judged.0 in
    let held = subst (λ v. HoldAfter (target_for case.task) (rollout case.task) c.args.k v c.judge.new.self.watch.came.items) c.in-Safe.is judged.1 in
    let same = c.judge.ensures.store in
    let picked = c.in_ok-put_picks-in-Safe.ensures in
    certified_more case c.requires.ordered c.args.k c.requires.so_far.passed pass c.requires.within c.args.so_far.now.store c.put_picks.new.store c.requires.so_far.evidence c.requires.so_far.classes
    c.in-Safe.found.items safe (c.args.k + 1) (omega arith)
    (subst (λ (s : StoreState). AreWithPicks s.evidence (c.args.k + 1) c.in-Safe.found.items c.put_picks.new.store.evidence) same picked.picks)
    (picked.classes ∙ ap (λ (s : StoreState). s.classes) same)
    (subst (λ (s : StoreState). IsStored s.evidence) same picked.stored_before) picked.stored
    c.judge.new.self.watch.came.items held c.judge.new.self.looked
    (subst (λ (a : Target). HasAtoms a.classes c.judge.new.self.looked) c.requires.goal c.judge.ensures.atoms)
