-- What follows where nothing is found.
use Rattle.std.proofs.Common.{Option, Some, None}
use Rattle.std.specs.Prelude.{IfNone}

-- what follows where nothing is found
pub IfNone_then : {A : Type 0} (o : Option A) (P Q : Type 0) → IfNone o P → (P → Q) → IfNone o Q
IfNone_then None P Q p f = f p
IfNone_then (Some x) P Q p f = tt
