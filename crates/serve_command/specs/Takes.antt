-- The takes of an input, each behind what a sink had been given by then.
use Rattle.std.specs.Prelude.{◌≡◌, ℕ, List, [], ◌∷◌, ◌++◌, Bool, true, false, Option, None, Some}
use Rattle.std.specs.Io.KnownBytes.{Appends}
use Rattle.serve_lines.specs.Lines.{ended_lines}

-- a take, behind what the sink had been given by then, where it tells
pub data InputTake : Type 0 where
  -- it gave these bytes; none is the end of the input
  Gave : Option (List ℕ) → List ℕ → InputTake
  -- it failed
  Faulted : Option (List ℕ) → InputTake

-- there is no take yet, where the takes are told
abbrev pub Begins : Option (List InputTake) → Type 0
Begins None = Unit {0}
Begins (Some takes) = takes ≡ []

-- one take more, where they are told
abbrev pub AddsTake : Option (List InputTake) → Option (List InputTake) → InputTake → Type 0
AddsTake None new more = new ≡ None
AddsTake (Some takes) new more = new ≡ Some (takes ++ more ∷ [])

-- At each take exactly the text of the lines was put that the bytes taken before end: by these takes, behind these bytes, all of `taken`
-- was taken. One that fails is the last, and so is one that finds the end, exactly where `ended`.
abbrev pub AreInTurn : (List (List ℕ) → List ℕ) → Option (List ℕ) → List ℕ → List InputTake → List ℕ → Bool → Type 0
AreInTurn text old before [] taken ended = (taken ≡ before) × (ended ≡ false)
AreInTurn text old before (Faulted put ∷ more) taken ended = Appends old put (text (ended_lines before)) × (more ≡ []) × (taken ≡ before) × (ended ≡ false)
AreInTurn text old before (Gave put [] ∷ more) taken ended = Appends old put (text (ended_lines before)) × (more ≡ []) × (taken ≡ before) × (ended ≡ true)
AreInTurn text old before (Gave put (b ∷ bytes) ∷ more) taken ended = Appends old put (text (ended_lines before)) × AreInTurn text old (before ++ b ∷ bytes) more taken ended

-- where the takes are told, they came in turn with what was put
abbrev pub CameInTurn : (List (List ℕ) → List ℕ) → Option (List ℕ) → Option (List InputTake) → List ℕ → Bool → Type 0
CameInTurn text old None taken ended = Unit {0}
CameInTurn text old (Some takes) taken ended = AreInTurn text old [] takes taken ended
