-- The classes that the changes of a round don't cover, passed over.
use Rattle.std.proofs.Common.{◌≡◌, ℕ, zero, suc, ◌+◌, ◌-◌, ◌%◌, ◌<◌, ◌≤◌, Bool, false, List, length, get_or, refl, sym, ◌∙◌, subst, arith}
use Rattle.dest_classes.specs.Classes.{IsClass}
use Rattle.dest_classes.specs.declared.Class.{Class}
use Rattle.dest_classes.proofs.MapLaws.{number_fits}
use Rattle.update_model.specs.Mixtures.{Rollout}
use Rattle.update_model.specs.declared.Change.{Change}
use Rattle.certificates.specs.declared.OrderedEvidence.{OrderedEvidence}
use Rattle.check_reasons.specs.AtomMarks.{AreTouched}
use Rattle.check_reasons.specs.Touched.{touches}
use Rattle.mixed_walks.specs.Walks.{TablesKeepVlans, KeepVlansUpTo}
use Rattle.class_watch.specs.Walks.{meets_any}
use Rattle.class_watch.proofs.StandLaws.{untouched_walk}
use Rattle.round_judge.specs.declared.judging.FoundEvidence.{FoundEvidence}
use Rattle.table_difference.specs.Targets.{Target}
use Rattle.round_judge.specs.Goals.{HasAtoms}
use Rattle.round_judge.specs.Judged.{IsNextRound}
use Rattle.round_judge.specs.Visits.{marks_at}
use Rattle.round_judge.proofs.JudgingLaws.{stays_certified, AreMetBelow, met_kept}
use Rattle.round_judge.proofs.VisitLaws.{walks_still, AreHeldBelow, held_more}

-- the changes don't cover the address of the class with a number
abbrev pub IsPassed : Target → List Change → ℕ → Type 0
IsPassed to changes n = (class : Class) → IsClass to.classes n class → touches changes class.first ≡ false

-- the class of an atom that isn't looked at, where those are looked at that the changes touch
pub passed_over : (to : Target) (changes : List Change) (looked : List Bool) → HasAtoms to.classes looked → AreTouched to.classes changes looked → (n : ℕ) → get_or looked (n % length looked) false ≡ false → IsPassed to changes n
passed_over to changes looked atoms touched n off class is =
    let within = number_fits to.classes n class is in
    sym (touched n class is) ∙ subst (λ (m : ℕ). get_or looked (n % m) false ≡ false) (atoms (omega arith)) off

module _ (to : Target) (u : Rollout) (e : OrderedEvidence) (k : ℕ) (changes : List Change) (next : IsNextRound to u e k changes) (rules : TablesKeepVlans u.old) (keeps : KeepVlansUpTo u k)
    (found : List FoundEvidence) (came : List ℕ) where
  -- what is found for the classes below a number, and what is marked
  abbrev pub AreMetUpTo : ℕ → Type 0
  AreMetUpTo m = AreMetBelow to u e k m found × AreHeldBelow to u k m came

  -- one class that isn't covered more
  past_one : (m : ℕ) → IsPassed to changes m → AreMetUpTo m → AreMetUpTo (m + 1)
  past_one m passed (met, held) = (
    met_kept to u e k m found met (λ class is later. stays_certified to u e k changes next rules keeps m class (marks_at came m) is later (held.before m class is) (off class is)),
    held_more to u k m came came (record {
      count = refl;
      others = λ n ne. refl;
      walks = λ class is before. walks_still u k class changes next.round rules keeps (marks_at came m) before (off class is);
    }) held,
  )
    where
      off : (class : Class) → IsClass to.classes m class → meets_any changes class (marks_at came m) ≡ false
      off class is = untouched_walk changes class (marks_at came m) (passed class is)

  -- and so many
  past_many : (d m : ℕ) → ((n : ℕ) → m ≤ n → n < m + d → IsPassed to changes n) → AreMetUpTo m → AreMetUpTo (m + d)
  past_many zero m passed met = subst AreMetUpTo (let e : m ≡ m + 0 = omega arith in e) met
  past_many (suc d) m passed met =
      let there = past_many d m (λ n from less. passed n from (omega arith)) met in
      subst AreMetUpTo (let e : (m + d) + 1 ≡ m + suc d = omega arith in e) (past_one (m + d) (passed (m + d) (omega arith) (omega arith)) there)

  -- up to a later number
  pub past_to : (m last : ℕ) → m ≤ last → ((n : ℕ) → m ≤ n → n < last → IsPassed to changes n) → AreMetUpTo m → AreMetUpTo last
  past_to m last le passed met =
      let same : m + (last - m) ≡ last = omega arith in
      subst AreMetUpTo same (past_many (last - m) m (λ n from less. passed n from (omega arith)) met)
