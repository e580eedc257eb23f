-- What is told of the classes, class by class.
use Rattle.std.proofs.Common.{◌≡◌, ◌≢◌, ◌↔◌, ℕ, ◌%◌, Bool, true, false, List, [], ◌∷◌, ◌++◌, length, get_or, refl, sym, ◌∙◌, subst, inl, inr, arith}
use Rattle.std.specs.Prelude.{IsSome, Option, Some, None}
use Rattle.std.proofs.lemmas.Bool.{cases_eq, cases_Bool, or_parts, false≢true}
use Rattle.net_base.proofs.MemberLaws.{each_first}
use Rattle.flow_rules.specs.declared.rules.Rule.{Rule}
use Rattle.topology.specs.Networks.{Network}
use Rattle.dest_classes.specs.Classes.{IsClass, class_count}
use Rattle.dest_classes.specs.Numbered.{IsNumbered}
use Rattle.dest_classes.specs.declared.Class.{Class}
use Rattle.dest_classes.specs.declared.NumberedClass.{NumberedClass}
use Rattle.demands.specs.Duties.{DemandView, duties_of}
use Rattle.update_model.specs.Changes.{rule_of}
use Rattle.update_model.specs.declared.Change.{Change}
use Rattle.certificates.specs.Certified.{KeepsVlan}
use Rattle.certificates.specs.Rounds.{one_round_of, IsSafeByEvidence}
use Rattle.check_reasons.specs.AtomMarks.{AreTouched}
use Rattle.round_mix.specs.Prepared.{MixedState}
use Rattle.class_watch.specs.Walks.{meets}
use Rattle.class_watch.proofs.StandLaws.{untouched_walk}
use Rattle.evidence_store.specs.Found.{IsFound}
use Rattle.evidence_store.specs.declared.class_evidence.ClassEvidence.{ClassEvidence}
use Rattle.table_difference.specs.Targets.{Target}
use Rattle.round_judge.specs.Goals.{HasAtoms}
use Rattle.round_judge.specs.Visits.{marks_at}
use Rattle.round_judge.proofs.JudgingLaws.{numbered_class}
use Rattle.round_judge.proofs.MetLaws.{passed_over}
use Rattle.round_packer.specs.declared.failing.Failure.{Failure}
use Rattle.round_packer.specs.Kept.{ArePreparedFor, HoldsClass, IsKeptSafe, AreKept, AreWatched, IsTold, AreTold, AreJudgedBeside, enters_at}
use Rattle.round_packer.proofs.KeptLaws.{held_without, kept_unmet}

-- ---- one class

-- what was found decides
pub found_decides : (net : Network) (demands : List DemandView) (tables : List (List Rule)) (changes : List Change) (class : Class) (found : Option ClassEvidence)
    → IsFound (one_round_of net tables changes) 0 class (duties_of demands class.entry class.first) found → IsSome found ↔ IsSafeByEvidence net demands tables changes class
found_decides net demands tables changes class (Some e) h = (λ _. record { numbers = e.numbering; sets = e.befores; safe = h.safe }, λ _. refl)
found_decides net demands tables changes class None h = (λ some. absurd (false≢true some), λ by. absurd (h by.numbers by.sets by.safe))

-- a class that was found safe is kept
pub told_safe : (to : Target) (tables : List (List Rule)) (changes : List Change) (c : Change) (own : Bool) (n : ℕ) (came : List ℕ) (numbered : NumberedClass) → numbered.number ≡ n → IsNumbered to.classes numbered
    → HoldsClass to.net tables changes numbered.class (marks_at came numbered.number) → IsSafeByEvidence to.net to.demands tables changes numbered.class → IsTold to tables changes c own n came None
told_safe to tables changes c own n came numbered number is held safe = λ class is_n at.
    let same = numbered_class to.classes n numbered number is class is_n in
    record {
      safe = subst (λ (x : Class). IsSafeByEvidence to.net to.demands tables changes x) same safe;
      held = subst (λ (x : Class). HoldsClass to.net tables changes x (marks_at came n)) same (subst (λ (i : ℕ). HoldsClass to.net tables changes numbered.class (marks_at came i)) number held);
    }

-- ---- the sets

module _ (to : Target) (tables : List (List Rule)) (changes : List Change) where
  pub watched_same : (came : List ℕ) → AreWatched to tables changes came came
  watched_same came = record { count = refl; each = λ n class is. inl refl }

  pub watched_then : (old mid new : List ℕ) → AreWatched to tables changes old mid → AreWatched to tables changes mid new → AreWatched to tables changes old new
  watched_then old mid new first second = record {
    count = second.count ∙ first.count;
    each = λ n class is. elim (second.each n class is) [
      | inl same ↦ elim (first.each n class is) [
        | inl was ↦ inl (same ∙ was)
        | inr held ↦ inr (subst (HoldsClass to.net tables changes class) (sym same) held)
      ]
      | inr held ↦ inr held
    ];
  }

  -- where one class is watched anew
  pub watched_one : (old new : List ℕ) (n : ℕ) → length new ≡ length old → ((m : ℕ) → m ≢ n → marks_at new m ≡ marks_at old m)
      → ((class : Class) → IsClass to.classes n class → HoldsClass to.net tables changes class (marks_at new n)) → AreWatched to tables changes old new
  watched_one old new n count others held = record {
    count = count;
    each = λ m class is. elim (cases_eq m n) [
      | inl e ↦ inr (subst (λ (i : ℕ). HoldsClass to.net tables changes class (marks_at new i)) (sym e) (held class (subst (λ (i : ℕ). IsClass to.classes i class) e is)))
      | inr ne ↦ inl (others m ne)
    ];
  }

  -- a class that is kept goes on to be
  pub kept_on : (old new : List ℕ) → AreWatched to tables changes old new → (n : ℕ) (class : Class) → IsClass to.classes n class → IsKeptSafe to tables changes class (marks_at old n)
      → IsKeptSafe to tables changes class (marks_at new n)
  kept_on old new watched n class is kept = record {
    safe = kept.safe;
    held = elim (watched.each n class is) [
      | inl same ↦ subst (HoldsClass to.net tables changes class) (sym same) kept.held
      | inr held ↦ held
    ];
  }

  pub told_on : (c : Change) (own : Bool) (n : ℕ) (old new : List ℕ) → AreWatched to tables changes old new → IsTold to tables changes c own n old None → IsTold to tables changes c own n new None
  told_on c own n old new watched told = λ class is at. kept_on old new watched n class is (told class is at)

  -- where it is told of the classes on both sides, all are kept
  pub told_both : (c : Change) (old new : List ℕ) (failure : Option Failure) → length new ≡ class_count to.classes → AreWatched to tables changes old new → AreTold to tables changes c true old None
      → AreTold to tables changes c false new failure → AreJudgedBeside to tables changes c new failure
  told_both c old new None count watched ours theirs = record {
    count = count;
    each = λ n class is. elim (cases_Bool (enters_at c class)) [
      | inl on ↦ kept_on old new watched n class is (ours n class is on)
      | inr off ↦ theirs n class is off
    ];
  }
  told_both c old new (Some f) count watched ours theirs = theirs

module _ (to : Target) (tables : List (List Rule)) (taken : List Change) (c : Change) where
  -- classes that are kept without the change stay so where they are watched beside it
  pub kept_watched : (old new : List ℕ) → AreWatched to tables (taken ++ c ∷ []) old new → AreKept to tables taken old → AreKept to tables taken new
  kept_watched old new watched kept = record {
    count = watched.count ∙ kept.count;
    each = λ n class is. (let had = kept.each n class is in record {
      safe = had.safe;
      held = elim (watched.each n class is) [
        | inl same ↦ subst (HoldsClass to.net tables taken class) (sym same) had.held
        | inr held ↦ held_without to.net tables taken c class (marks_at new n) held
      ];
    });
  }

  module _ (mixes : List MixedState) (prepared : ArePreparedFor to.net mixes tables (taken ++ c ∷ [])) where
    -- a class that the change meets nowhere
    pub told_unmet : (own : Bool) (n : ℕ) (came : List ℕ) → AreKept to tables taken came → ((class : Class) → IsClass to.classes n class → enters_at c class ≡ own → meets c class (marks_at came n) ≡ false)
        → IsTold to tables (taken ++ c ∷ []) c own n came None
    told_unmet own n came kept off = λ class is at.
        kept_unmet to tables taken c prepared.keeps_old (each_first (λ d. KeepsVlan (rule_of d).action) taken (c ∷ []) (prepared.keeps 0 (omega arith))) class (marks_at came n) (off class is at) (kept.each n class is)

    -- the classes of atoms that the change doesn't touch
    pub told_passed : (own : Bool) (looked : List Bool) → HasAtoms to.classes looked → AreTouched to.classes (c ∷ []) looked → (n : ℕ) → get_or looked (n % length looked) false ≡ false
        → (came : List ℕ) → AreKept to tables taken came → IsTold to tables (taken ++ c ∷ []) c own n came None
    told_passed own looked atoms touched n off came kept =
        told_unmet own n came kept (λ class is at.
        (or_parts (meets c class (marks_at came n)) false (untouched_walk (c ∷ []) class (marks_at came n) (passed_over to (c ∷ []) looked atoms touched n off class is))).0)
