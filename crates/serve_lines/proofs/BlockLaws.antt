-- The parts of a block.
use Rattle.std.proofs.Common.{◌≡◌, ℕ, List, [], ◌∷◌, ◌++◌, ap, ◌∙◌, append-nil}
use Rattle.std.proofs.lemmas.Grind.{flat_map-append}
use Rattle.net_base.specs.Lines.{text_of}

-- lines and a last one
pub block_parts : (lines : List (List ℕ)) (last : List ℕ) → text_of (lines ++ last ∷ []) ≡ text_of lines ++ (last ++ 10 ∷ [])
block_parts lines last = flat_map-append (λ (line : List ℕ). line ++ 10 ∷ []) lines (last ∷ []) ∙ ap (λ (t : List ℕ). text_of lines ++ t) (append-nil (last ++ 10 ∷ []))
