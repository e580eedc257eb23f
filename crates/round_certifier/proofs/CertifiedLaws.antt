-- How far evidence has been made: before the first round, in a round, after it, and after the last one.
use Rattle.std.proofs.Common.{◌≡◌, ℕ, suc, ◌<◌, ◌≤◌, Bool, false, List, length, IsTrue, refl, sym, ◌∙◌, subst, ap, inl, inr, arith}
use Rattle.std.proofs.lemmas.Bool.{cases_lt}
use Rattle.net_base.specs.Members.{IsIn}
use Rattle.net_base.specs.Switches.{has, most_switches}
use Rattle.net_base.specs.declared.ids.SwitchId.{SwitchId}
use Rattle.net_base.proofs.MemberLaws.{each_at, each_from_in}
use Rattle.std.specs.Prelude.{Option, Some, None, IfNone, IfSome}
use Rattle.demands.specs.Duties.{DemandView}
use Rattle.topology.specs.Networks.{Network, IsNetwork}
use Rattle.flow_rules.specs.declared.rules.Rule.{Rule}
use Rattle.path_walk.specs.UserConfigs.{IsUserConfig}
use Rattle.dest_classes.specs.Classes.{ClassList, class_count}
use Rattle.dest_classes.proofs.MapLaws.{number_fits}
use Rattle.update_model.specs.Changes.{round_after}
use Rattle.update_model.specs.Mixtures.{Rollout, tables_before}
use Rattle.update_model.proofs.RoundLaws.{settled_start}
use Rattle.certificates.specs.Updates.{Task, rollout}
use Rattle.certificates.specs.Certified.{IsCertified, classes_for, is_two_phase}
use Rattle.certificates.specs.Valid.{IsValidPlan, IsValidPick}
use Rattle.certificates.specs.declared.OrderedPick.{OrderedPick}
use Rattle.certificates.specs.declared.OrderedEvidence.{OrderedEvidence}
use Rattle.certificates.specs.declared.Evidence.TheVariants.{Ordered}
use Rattle.round_mix.specs.Prepared.{MixedState}
use Rattle.check_reasons.specs.Cases.{CaseView}
use Rattle.check_reasons.specs.Loaded.{AreLoaded}
use Rattle.check_reasons.specs.Passed.{ChangesPass, RoundsPass}
use Rattle.mixed_walks.specs.Walks.{IsRoundOf}
use Rattle.mixed_walks.proofs.PlaceLaws.{tables_keep}
use Rattle.evidence_store.specs.State.{StoreState}
use Rattle.evidence_store.specs.Stored.{IsStored, no_evidence}
use Rattle.plan_checker.specs.Checking.{EndsAreGood, EndsAtNew}
use Rattle.plan_checker.proofs.Stages.{all_passed}
use Rattle.table_difference.specs.Targets.{Target}
use Rattle.round_judge.specs.Goals.{HasAtoms}
use Rattle.round_judge.specs.Evidence.{HasEvidenceTo, IsSearchEvidence}
use Rattle.round_judge.specs.Judged.{IsReadyToJudge, IsNextRound, AreFirstJudged, AreSafeBelow, AreWithPicks}
use Rattle.round_judge.specs.declared.judging.RoundVerdict.{RoundVerdict}
use Rattle.round_judge.specs.Visits.{marks_at, HoldTables, HoldAfter}
use Rattle.round_judge.specs.declared.judging.FoundEvidence.{FoundEvidence}
use Rattle.round_judge.proofs.VisitLaws.{all_come}
use Rattle.round_judge.proofs.EvidenceLaws.{evidence_none, evidence_more, evidence_whole}
use Rattle.round_certifier.specs.Standing.{target_for, ChangesPassTo, IsCertifiedTo}
use Rattle.round_certifier.proofs.RefusalLaws.{keeps_of}

-- what follows where nothing is found, and where something is
pub when_none : {A : Type 0} (o : Option A) (P : Type 0) → o ≡ None → IfNone o P → P
when_none o P none h = subst (λ x. IfNone x P) none h

pub when_some : {A : Type 0} (o : Option A) (x : A) (P : A → Type 0) → o ≡ Some x → IfSome o P → P x
when_some o x P some h = subst (λ y. IfSome y P) some h

-- before the first round
pub certified_none : (c : CaseView) → IsNetwork c.task.update.net → IsUserConfig c.task.update.net c.task.update.old → (classes : ClassList) → classes ≡ classes_for c.task
    → (store : StoreState) → store ≡ record { evidence = no_evidence; classes = class_count classes } → (came : List ℕ) → length came ≡ class_count classes
    → ((n : ℕ) (s : SwitchId) → n < class_count classes → s.0 < most_switches → IsTrue (has (marks_at came n) s)) → (looked : List Bool) → HasAtoms classes looked → IsCertifiedTo c 0 store came looked
certified_none c net user classes are store empty came count all looked atoms = record {
  passed = λ j less. absurd (let f : j < 0 = less in omega arith);
  evidence = subst (λ (s : StoreState). HasEvidenceTo (target_for c.task) (rollout c.task) 0 s.evidence) (sym empty) (evidence_none (target_for c.task) (rollout c.task));
  classes = ap (λ (s : StoreState). s.classes) empty ∙ ap (λ (cs : ClassList). class_count cs) are;
  visits = subst (λ (ts : List (List Rule)). HoldTables (target_for c.task) ts came) (sym (settled_start c.task.rounds c.task.update.old))
      (all_come (target_for c.task) c.task.update.old net user refl (class_count classes) (ap (λ (cs : ClassList). class_count cs) are) came count all);
  atoms = subst (λ (cs : ClassList). HasAtoms cs looked) are atoms;
}

-- ---- a round

module _ (c : CaseView) (ordered : is_two_phase c.evidence ≡ false) (k : ℕ) (passed : ChangesPassTo c.task c.evidence k) (pass : ChangesPass c.task c.evidence k) where
  all_pass : ChangesPassTo c.task c.evidence (suc k)
  all_pass j less = elim (cases_lt j k) [ inl before ↦ passed j before | inr here ↦ (let e : k ≡ j = omega arith in subst (ChangesPass c.task c.evidence) e pass) ]

  -- the switches are prepared for it
  pub round_of : IsUserConfig c.task.update.net c.task.update.old → (mixes : List MixedState) → AreLoaded (rollout c.task) k mixes → IsRoundOf c.task.update.net mixes (rollout c.task) k
  round_of user mixes loaded = record {
    net_is = refl;
    loaded = loaded;
    keeps_old = tables_keep c.task.update.net c.task.update.old user;
    keeps = λ j le. keeps_of c.evidence ordered (round_after j c.task.rounds) (all_pass j (omega arith)).keeps;
  }

  -- it is the next one
  pub next_round : k < length c.task.rounds → (e : OrderedEvidence) → HasEvidenceTo (target_for c.task) (rollout c.task) k e
      → IsNextRound (target_for c.task) (rollout c.task) e k (round_after k c.task.rounds)
  next_round within e so_far = record {
    within = within;
    round = refl;
    good = λ j le. (all_pass j (omega arith)).good;
    clear = pass.clear;
    picks = so_far.begun;
    certificates = so_far.certificates;
  }

  -- what is known so far is enough to judge its classes
  pub ready_for : IsUserConfig c.task.update.net c.task.update.old → (mixes : List MixedState) → AreLoaded (rollout c.task) k mixes → (store : StoreState) (came : List ℕ) (looked : List Bool)
      → IsCertifiedTo c k store came looked → (to : Target) → to ≡ target_for c.task → IsReadyToJudge to mixes store
  ready_for user mixes loaded store came looked so_far to is = subst (λ (a : Target). IsReadyToJudge a mixes store) (sym is) (record {
    round = (rollout c.task, k, round_of user mixes loaded);
    numberings = so_far.evidence.numberings;
    classes = so_far.classes;
  })

  -- what is found for them
  pub judged_here : IsUserConfig c.task.update.net c.task.update.old → k < length c.task.rounds → (mixes : List MixedState) → AreLoaded (rollout c.task) k mixes
      → (store : StoreState) (came : List ℕ) (looked : List Bool) → IsCertifiedTo c k store came looked → (to : Target) → to ≡ target_for c.task → (v : RoundVerdict) (new : List ℕ)
      → ((u : Rollout) (j : ℕ) → IsRoundOf to.net mixes u j → IsNextRound to u store.evidence j (round_after k c.task.rounds) → HoldTables to (tables_before u j) came
      → AreFirstJudged to u store.evidence j v × HoldAfter to u j v new)
      → AreFirstJudged (target_for c.task) (rollout c.task) store.evidence k v × HoldAfter (target_for c.task) (rollout c.task) k v new
  judged_here user within mixes loaded store came looked so_far to is v new all =
      subst (λ (a : Target). (u : Rollout) (j : ℕ) → IsRoundOf a.net mixes u j → IsNextRound a u store.evidence j (round_after k c.task.rounds) → HoldTables a (tables_before u j) came
      → AreFirstJudged a u store.evidence j v × HoldAfter a u j v new) is all
      (rollout c.task) k (round_of user mixes loaded) (next_round within store.evidence so_far.evidence) so_far.visits

  -- after it
  pub certified_more : k < length c.task.rounds → (store new : StoreState) → HasEvidenceTo (target_for c.task) (rollout c.task) k store.evidence → store.classes ≡ class_count (classes_for c.task)
      → (found : List FoundEvidence) → AreSafeBelow (target_for c.task) (rollout c.task) store.evidence k (class_count (classes_for c.task)) found → (round : ℕ) → round ≡ suc k
      → AreWithPicks store.evidence round found new.evidence → new.classes ≡ store.classes → IsStored store.evidence → IsStored new.evidence
      → (came : List ℕ) → HoldTables (target_for c.task) (tables_before (rollout c.task) (suc k)) came → (looked : List Bool) → HasAtoms (classes_for c.task) looked → IsCertifiedTo c (suc k) new came looked
  certified_more within store new so_far classes found safe round number added same stored_old stored came held looked atoms = record {
    passed = all_pass;
    evidence = evidence_more (target_for c.task) (rollout c.task) refl k within store.evidence new.evidence found so_far stored_old safe
        (subst (λ n. AreWithPicks store.evidence n found new.evidence) number added) stored;
    classes = same ∙ classes;
    visits = held;
    atoms = atoms;
  }

-- ---- after the last round

module _ (c : CaseView) (ordered : is_two_phase c.evidence ≡ false) (ends : EndsAreGood c.task) (store : StoreState) (came : List ℕ) (looked : List Bool)
    (so_far : IsCertifiedTo c (length c.task.rounds) store came looked) where
  pub made_evidence : IsSearchEvidence (target_for c.task) (rollout c.task) store.evidence
  made_evidence = evidence_whole (target_for c.task) (rollout c.task) (length c.task.rounds) store.evidence so_far.evidence (omega arith)

  rounds_pass : RoundsPass c.task (Ordered store.evidence) (length c.task.rounds)
  rounds_pass j less =
      let pass = so_far.passed j less in (
        record { good = pass.good; clear = pass.clear; fits = pass.fits; keeps = keeps_of c.evidence ordered (round_after j c.task.rounds) pass.keeps },
        λ n class is. so_far.evidence.certificates j n class less is,
      )

  pub made_certified : EndsAtNew c.task → IsCertified c.task (Ordered store.evidence)
  made_certified last = all_passed c.task (Ordered store.evidence) ends rounds_pass last

  pub made_valid : IsValidPlan c.task.update.net (record { rounds = c.task.rounds; evidence = c.evidence }) → class_count (classes_for c.task) ≤ 8192 → IsStored store.evidence
      → IsValidPlan c.task.update.net (record { rounds = c.task.rounds; evidence = Ordered store.evidence })
  made_valid valid few stored = record {
    few_rounds = valid.few_rounds;
    few_changes = valid.few_changes;
    rounds = valid.rounds;
    evidence = record {
      numberings = so_far.evidence.numberings;
      befores = so_far.evidence.befores;
      uses = stored.uses;
      picks = each_from_in (IsValidPick (length c.task.rounds) (length store.evidence.uses)) store.evidence.picks pick;
      ascending = stored.ascending;
    };
  }
    where
      pick : (p : OrderedPick) → IsIn p store.evidence.picks → IsValidPick (length c.task.rounds) (length store.evidence.uses) p
      pick p i =
          let least = so_far.evidence.picked p i in
          let within = each_at (λ (q : OrderedPick). (q.shared < length store.evidence.uses) × (q.shared ≤ 4294967295)) store.evidence.picks p stored.picks i in
          let number = number_fits (classes_for c.task) p.class least.class least.class_is in
          let round = least.round_is in
          let less = least.within in
          (omega arith, omega arith, omega arith, within.0, within.1)
