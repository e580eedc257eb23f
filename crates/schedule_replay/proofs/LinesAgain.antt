-- The lines of a text that was made of lines.
use Rattle.std.proofs.Common.{◌≡◌, ℕ, suc, eqb, false, List, [], ◌∷◌, ◌++◌, refl, ap, ◌∙◌, append_assoc, arith}
use Rattle.std.specs.List.{AllByRecursion}
use Rattle.std.proofs.lemmas.Bool.{ne_eqb}
use Rattle.net_base.proofs.Cuts.{Lacks}
use Rattle.net_base.specs.Lines.{lines_of, text_of}

first_line : (line rest : List ℕ) → Lacks 10 line → lines_of (line ++ 10 ∷ rest) ≡ line ∷ lines_of rest
first_line [] rest h = refl
first_line (b ∷ line) rest h =
    let differs : eqb b 10 ≡ false = ne_eqb b 10 (h 0 (omega arith)) in
    rw (differs, first_line line rest (λ i lt. h (suc i) (omega arith))) refl

-- they are these lines, and an empty one behind the last line end
pub lines_again : (lines : List (List ℕ)) → AllByRecursion (Lacks 10) lines → lines_of (text_of lines) ≡ lines ++ [] ∷ []
lines_again [] h = refl
lines_again (line ∷ lines) h =
    ap lines_of (append_assoc line (10 ∷ []) (text_of lines)) ∙ first_line line (text_of lines) h.0 ∙ ap (λ (ls : List (List ℕ)). line ∷ ls) (lines_again lines h.1)
