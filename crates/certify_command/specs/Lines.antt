-- The lines on rounds that no evidence certifies.
use Rattle.std.specs.Prelude.{ℕ, List, ◌++◌, codes, decimal, Option, None, Some}
use Rattle.topology.specs.Networks.{Network}
use Rattle.dest_classes.specs.declared.Class.{Class}
use Rattle.check_base.specs.ReasonLines.{at_class, class_named, refused_line}
use Rattle.round_certifier.specs.declared.refusal.Refusal.{Refusal}
use Rattle.round_certifier.specs.declared.refusal.Refusal.TheVariants.{Checked, TwoPhasePlan, NoEvidence}

-- the number of the class that a cause names, if it names one
abbrev pub class_of_cause : Refusal → Option ℕ
class_of_cause (Checked reason) = class_named reason
class_of_cause TwoPhasePlan = None
class_of_cause (NoEvidence round n) = Some n

-- on a class that no evidence keeps safe in a round
abbrev pub no_evidence_line : Network → ℕ → Option Class → List ℕ
no_evidence_line net round class = codes "no evidence: round " ++ decimal round ++ at_class net class ++ codes "\n"

-- on rounds that no evidence certifies for this cause
abbrev pub uncertified_line : Network → Option Class → Refusal → List ℕ
uncertified_line net class (Checked reason) = refused_line net class reason
uncertified_line net class TwoPhasePlan = codes "no evidence: two-phase plan\n"
uncertified_line net class (NoEvidence round n) = no_evidence_line net round class
