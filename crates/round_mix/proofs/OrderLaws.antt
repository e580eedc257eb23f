-- How numbers compare, and neighbours in a list.
use Rattle.std.proofs.Common.{◌≡◌, ℕ, ◌+◌, ◌<◌, Bool, true, false, IsTrue, List, cond, length, get_or, sym, ◌∙◌, arith}
use Rattle.std.specs.Prelude.{◌==◌, nat_lt}
use Rattle.std.specs.List.{IsAllAdjacentAnswer}
use Rattle.std.specs.Ordering.{nat_cmp}
use Rattle.std.specs.declared.cmp.Ordering.TheVariants.{Less, Equal, Greater}
use Rattle.std.proofs.lemmas.Bool.{lt-ltb, le-ltb, eq-eqb, cond-true, cond-false, false≢true}

pub nat_less : (a b : ℕ) → a < b → nat_cmp a b ≡ Less
nat_less a b h = cond-true (nat_lt a b) Less (cond (a == b) Equal Greater) (lt-ltb a b h)

pub nat_equal : (a b : ℕ) → a ≡ b → nat_cmp a b ≡ Equal
nat_equal a b e =
    cond-false (nat_lt a b) Less (cond (a == b) Equal Greater) (le-ltb a b (omega arith)) ∙ cond-true (a == b) Equal Greater (eq-eqb a b e)

-- where the answer for all neighbours is yes, each item and the next are as they are compared
pub all_next : {A : Type 0} (e : A → A → Bool) (xs : List A) (answer : Bool) → IsAllAdjacentAnswer (λ x y b. b ≡ e x y) xs answer → IsTrue answer
    → (k : ℕ) (d : A) → k + 1 < length xs → e (get_or xs k d) (get_or xs (k + 1) d) ≡ true
all_next e xs true h told k d within = sym (h k d within)
all_next e xs false h told k d within = absurd (false≢true told)
