-- What files mean, where a source tells what it holds.
use Rattle.std.specs.Prelude.{◌≡◌, ◌⊎◌, ℕ, ◌<◌, ◌≤◌, List, Option, Some, Result, Ok, length}
use Rattle.file_access.specs.Outside.{Files}
use Rattle.command_base.specs.declared.kinds.FileKind.{FileKind}
use Rattle.command_base.specs.Kinds.{limit_of}
use Rattle.command_base.specs.Answers.{Answer, bad_answer, too_long}
use Rattle.command_base.specs.Dialogues.{Dialogue, Bad, Ends, Reads}

-- the file of the name is held, has no more bytes than its kind may have, and means this
pub record IsReadAs {A E : Type 0} (files : Files) (kind : FileKind) (meaning : List ℕ → Result A E) (name : List ℕ) (value : A) : Type 0 where
  pub bytes : List ℕ
  pub held : files name ≡ Some bytes
  pub within : length bytes ≤ limit_of kind
  pub means : meaning bytes ≡ Ok value

-- over these files the dialogue ends with this value
abbrev pub Means : {E : Type 0} → Files → Dialogue E → E → Type 0
Means files (Bad kind words) value = ⊥
Means files (Ends end) value = end ≡ value
Means files (Reads kind name next) value = (bytes : List ℕ) × (files name ≡ Some bytes) × (length bytes ≤ limit_of kind) × Means files (next bytes) value

-- the answer of the dialogue over these files, where `says` tells what is said of its end
abbrev pub IsAnswerOver : {E : Type 0} → (E → Answer → Type 0) → Files → Dialogue E → Answer → Type 0
IsAnswerOver says files (Bad kind words) answer = answer ≡ bad_answer kind words
IsAnswerOver says files (Ends end) answer = says end answer
IsAnswerOver says files (Reads kind name next) answer = (bytes : List ℕ) × (files name ≡ Some bytes)
    × (((length bytes ≤ limit_of kind) × IsAnswerOver says files (next bytes) answer) ⊎ ((limit_of kind < length bytes) × (answer ≡ too_long kind)))
