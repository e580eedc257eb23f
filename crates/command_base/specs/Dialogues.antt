-- A command as a dialogue with its files. It reads them in turn, each behind the meaning of those before; it ends where a
-- file is bad, or with a value of which the command says its answer.
use Rattle.std.specs.Prelude.{◌≡◌, ◌⊎◌, ℕ, ◌+◌, ◌<◌, ◌≤◌, List, Option, None, Some, length}
use Rattle.file_access.specs.Outside.{Files, IsFile}
use Rattle.command_base.specs.declared.kinds.FileKind.{FileKind}
use Rattle.command_base.specs.Kinds.{limit_of}
use Rattle.command_base.specs.Lines.{FaultWords}
use Rattle.command_base.specs.Answers.{Answer, bad_answer, too_long}

pub data Dialogue (E : Type 0) : Type 0 where
  -- a file of this kind is bad, for this fault
  Bad : FileKind → FaultWords → Dialogue E
  -- all that is asked for is read, and means this
  Ends : E → Dialogue E
  -- reads the file of the kind and the name, and goes on with its bytes
  Reads : FileKind → List ℕ → (List ℕ → Dialogue E) → Dialogue E

-- one dialogue behind the other, with what the first one means
abbrev pub and_then : {A B : Type 0} → Dialogue A → (A → Dialogue B) → Dialogue B
and_then (Bad kind words) next = Bad kind words
and_then (Ends value) next = next value
and_then (Reads kind name more) next = Reads kind name (λ bytes. and_then (more bytes) next)

-- a file that was read, by its kind and its name
pub record FileRead : Type 0 where
  pub kind : FileKind
  pub name : List ℕ

abbrev pub file_read : FileKind → List ℕ → FileRead
file_read kind name = record { kind = kind; name = name }

-- The name that the source selected last is that of the file that was read last, of which no more bytes were taken than its kind
-- may have: it was taken whole.
abbrev pub IsWhole : Option FileRead → List ℕ → ℕ → Type 0
IsWhole None selected taken = Unit {0}
IsWhole (Some file) selected taken = (selected ≡ file.name) × (taken ≤ limit_of file.kind)

-- each file has some bytes, those that it holds where the source tells, and no more than its kind may have
abbrev pub IsGiven : {E : Type 0} → Option Files → Option FileRead → Dialogue E → E → Option FileRead → Type 0
IsGiven held first (Bad kind words) value last = ⊥
IsGiven held first (Ends end) value last = (end ≡ value) × (first ≡ last)
IsGiven held first (Reads kind name next) value last =
    (bytes : List ℕ) × IsFile held name bytes × (length bytes ≤ limit_of kind) × IsGiven held (Some (file_read kind name)) (next bytes) value last

-- Over what the source gave, whether it tells or not, the dialogue ends with this value. `first` and `last` are the files that were
-- read last before it and behind it.
pub record Gives {E : Type 0} (held : Option Files) (first : Option FileRead) (dialogue : Dialogue E) (value : E) (last : Option FileRead) : Type 0 where
  pub given : IsGiven held first dialogue value last

-- A file is too long exactly where one byte past the limit of its kind was taken of it; otherwise the last one was taken whole.
abbrev pub IsLedTo : {E : Type 0} → (E → Answer → Type 0) → Option Files → Option FileRead → Dialogue E → Answer → List ℕ → ℕ → Type 0
IsLedTo says held last (Bad kind words) answer selected taken = (answer ≡ bad_answer kind words) × IsWhole last selected taken
IsLedTo says held last (Ends end) answer selected taken = says end answer × IsWhole last selected taken
IsLedTo says held last (Reads kind name next) answer selected taken = (bytes : List ℕ) × IsFile held name bytes
    × (((length bytes ≤ limit_of kind) × IsLedTo says held (Some (file_read kind name)) (next bytes) answer selected taken)
    ⊎ ((limit_of kind < length bytes) × (answer ≡ too_long kind) × (selected ≡ name) × (taken ≡ limit_of kind + 1)))

-- Over what the source gave, whether it tells or not, the dialogue leads to this answer, where `says` tells what is said of its end.
-- `selected` is the name that the source selected last, and `taken` how many bytes it took of it.
pub record LeadsTo {E : Type 0} (says : E → Answer → Type 0) (held : Option Files) (last : Option FileRead) (dialogue : Dialogue E) (answer : Answer) (selected : List ℕ) (taken : ℕ) : Type 0 where
  pub led : IsLedTo says held last dialogue answer selected taken

-- nothing is said of the end: only a bad file or one that is too long has an answer
abbrev pub SaysNothing : {E : Type 0} → E → Answer → Type 0
SaysNothing end answer = ⊥

-- the dialogue comes to a file that isn't held
abbrev pub MissesAFile : {E : Type 0} → Files → Dialogue E → Type 0
MissesAFile files (Bad kind words) = ⊥
MissesAFile files (Ends end) = ⊥
MissesAFile files (Reads kind name next) =
    (files name ≡ None) ⊎ ((bytes : List ℕ) × (files name ≡ Some bytes) × (length bytes ≤ limit_of kind) × MissesAFile files (next bytes))

-- the source tells what it holds, and lacks a file to which the dialogue comes
abbrev pub Lacks : {E : Type 0} → Option Files → Dialogue E → Type 0
Lacks None dialogue = ⊥
Lacks (Some files) dialogue = MissesAFile files dialogue
