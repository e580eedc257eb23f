-- What a run promises that judges what its files mean. `Mean` says what they mean, `count` how many classes that has, `good` that
-- it is good, and `why` of a line that it says why not.
use Rattle.std.specs.Prelude.{◌≡◌, ◌↔◌, ℕ, ◌<◌, ◌≤◌, List, Option, Some}
use Rattle.std.specs.Io.KnownBytes.{Appends}
use Rattle.command_base.specs.declared.status.Status.{Status}
use Rattle.command_base.specs.declared.status.Status.TheVariants as status
use Rattle.command_base.specs.Judgements.{most_classes}
use Rattle.command_base.specs.Lines.{classes_line}
use Rattle.command_base.specs.Runs.{IsComplete}

-- the files mean something good, with few enough classes
pub record FilesAreGood {D : Type 0} (Mean : D → Type 0) (count : D → ℕ) (good : D → Type 0) : Type 0 where
  pub meaning : D
  pub mean : Mean meaning
  pub few : count meaning ≤ most_classes
  pub holds : good meaning

-- the files mean something that isn't good, with few enough classes
pub record FilesAreRefused {D : Type 0} (Mean : D → Type 0) (count : D → ℕ) (good : D → Type 0) : Type 0 where
  pub meaning : D
  pub mean : Mean meaning
  pub few : count meaning ≤ most_classes
  pub fails : ¬ good meaning

-- the files mean something with too many classes
pub record FilesMakeTooMany {D : Type 0} (Mean : D → Type 0) (count : D → ℕ) : Type 0 where
  pub meaning : D
  pub mean : Mean meaning
  pub many : most_classes < count meaning

-- the line that was written says why
pub record WritesWhy (why : List ℕ → Type 0) (old new : Option (List ℕ)) : Type 0 where
  pub line : List ℕ
  pub is_why : why line
  pub written : Appends old new line

-- what was written before and after the run, and how it ended
pub record RefusalPromise {D : Type 0} (Mean : D → Type 0) (count : D → ℕ) (good : D → Type 0) (why : D → List ℕ → Type 0) (old new : Option (List ℕ)) (result : Status) : Type 0 where
  -- Refused comes exactly where the files mean something that isn't good, with at most 8192 classes; the line says why.
  pub refused : IsComplete result → ((result ≡ status.Refused) ↔ FilesAreRefused Mean count good)
  pub first : (m : D) → Mean m → result ≡ status.Refused → WritesWhy (why m) old new
  -- Too many classes are a bad file, and their line is written for no other cause.
  pub classes : IsComplete result → (many : FilesMakeTooMany Mean count) → (result ≡ status.BadFile) × Appends old new (classes_line (count many.meaning))
  pub classes_only : (before : List ℕ) (classes : ℕ) → old ≡ Some before → result ≡ status.BadFile → Appends old new (classes_line classes) → FilesMakeTooMany Mean count
