-- Checks that passed.
use Rattle.std.proofs.Common.{◌≡◌, Bool, true, false, Result, Ok, refl, ap}
use Rattle.std.specs.Prelude.{Option, Some, None}
use Rattle.net_base.specs.Reading.{◌>>=◌, check, need}
use Rattle.net_base.proofs.Turns.{ok_is}

-- the value that was there
pub need_is : {A E : Type 0} (o : Option A) (e : E) (x : A) → need o e ≡ Ok x → o ≡ Some x
need_is (Some y) e x h = ap Some (ok_is y x h)
need_is None e x h = absurd cc

-- the value that was there, and what went on with it
pub need_passed : {A B E : Type 0} (o : Option A) (e : E) (f : A → Result B E) (y : B) → (need o e >>= f) ≡ Ok y → (x : A) × (o ≡ Some x) × (f x ≡ Ok y)
need_passed (Some x) e f y h = (x, refl, h)
need_passed None e f y h = absurd cc

-- the check held, and what went on
pub check_passed : {B E : Type 0} (b : Bool) (e : E) (r : Result B E) (y : B) → (check b e >>= λ _. r) ≡ Ok y → (b ≡ true) × (r ≡ Ok y)
check_passed true e r y h = (refl, h)
check_passed false e r y h = absurd cc
