-- The line on a plan that is certified.
use Rattle.std.specs.Prelude.{ℕ, List, ◌++◌, codes, decimal}
use Rattle.certificates.specs.declared.Evidence.{Evidence}
use Rattle.certificates.specs.declared.Evidence.TheVariants.{Ordered, TwoPhase}

-- the word for the kind of a plan
abbrev pub kind_word : Evidence → List ℕ
kind_word (Ordered e) = codes "ordered"
kind_word (TwoPhase e) = codes "two-phase"

-- on a plan that is certified
abbrev pub accepted_line : Evidence → ℕ → ℕ → List ℕ
accepted_line evidence rounds classes = codes "accepted: " ++ kind_word evidence ++ codes ", " ++ decimal rounds ++ codes " rounds, " ++ decimal classes ++ codes " classes\n"
