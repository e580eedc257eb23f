-- The cut of a plan's rounds into as few spans as can be certified.
use Rattle.std.specs.Prelude.{ℕ, suc, ◌<◌, ◌≤◌, List, length}
use Rattle.std.specs.List.{AllByRecursion}
use Rattle.dest_classes.specs.Classes.{IsClass}
use Rattle.dest_classes.specs.declared.Class.{Class}
use Rattle.demands.specs.Duties.{duties_of}
use Rattle.certificates.specs.Certified.{classes_for}
use Rattle.certificates.specs.Updates.{Task, rollout}
use Rattle.certificates.specs.Valid.{IsChain}
use Rattle.certificates.specs.declared.Evidence.{Evidence}
use Rattle.certificates.specs.declared.Evidence.TheVariants.{Ordered, TwoPhase}
use Rattle.law_spans.specs.Spans.{Span, IsSpan}
use Rattle.law_spans.specs.Certificates.{IsSafeInSpan, TwoPhaseSpanCertificate}

-- the waits of a plan of so many rounds: rounds from the second to the last, ascending
pub record AreWaits (waits : List ℕ) (rounds : ℕ) : Type 0 where
  pub ascending : IsChain (λ v w. v < w) waits
  pub behind_first : AllByRecursion (λ w. 2 ≤ w) waits
  pub within : AllByRecursion (λ w. w ≤ rounds) waits

-- the class can be kept safe in the span: in an ordered plan by some numbering and before sets, under two phases by the evidence that there is
abbrev pub CanBeSafeInSpan : Task → Evidence → Span → Class → Type 0
CanBeSafeInSpan t (Ordered evidence) span class =
    (numbers : List ℕ) × (sets : List (List ℕ)) × IsSafeInSpan (rollout t) span class.first class.entry (duties_of t.update.demands class.entry class.first) numbers sets
CanBeSafeInSpan t (TwoPhase evidence) span class = TwoPhaseSpanCertificate (rollout t) t.update.new evidence span class.first class.entry

-- the span can be certified: each class can be kept safe
abbrev pub CanBeCertified : Task → Evidence → Span → Type 0
CanBeCertified t evidence span = (n : ℕ) (class : Class) → IsClass (classes_for t) n class → CanBeSafeInSpan t evidence span class

-- the greedy cut: each span can be certified, and none can with the round behind it
pub record IsGreedyCut (t : Task) (evidence : Evidence) (waits : List ℕ) : Type 0 where
  pub are_waits : AreWaits waits (length t.rounds)
  pub certified : (span : Span) → IsSpan waits (length t.rounds) span → CanBeCertified t evidence span
  pub no_longer : (span : Span) → IsSpan waits (length t.rounds) span → suc span.last < length t.rounds → ¬ CanBeCertified t evidence (record { first = span.first; last = suc span.last })
