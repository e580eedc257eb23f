-- The rounds of the plan as they are made, one after another.
use Rattle.std.proofs.Common.{◌≡◌, ℕ, List, [], ◌∷◌, ◌++◌, map, ◌∙◌, ap}
use Rattle.std.specs.Prelude.{reverse}
use Rattle.update_model.specs.declared.Change.{Change}

-- all rounds in turn, where the layers stand in the one order and are taken away in the other
pub rounds_joined : (a b : List Change) (exchange : List (List Change)) (f g : ℕ → List Change) (layers laid taken : List ℕ) (r0 r1 r2 r3 : List (List Change))
    → r0 ≡ [] → r1 ≡ r0 ++ (a ∷ []) ++ map f layers → r2 ≡ r1 ++ exchange → r3 ≡ r2 ++ map g (reverse layers) ++ (b ∷ []) → layers ≡ laid → reverse layers ≡ taken
    → r3 ≡ (a ∷ []) ++ map f laid ++ exchange ++ map g taken ++ (b ∷ [])
rounds_joined a b exchange f g layers laid taken r0 r1 r2 r3 h0 h1 h2 h3 e0 e1 =
    h3 ∙ ap (λ r. r ++ map g (reverse layers) ++ (b ∷ [])) (h2 ∙ ap (λ r. r ++ exchange) (h1 ∙ ap (λ r. r ++ (a ∷ []) ++ map f layers) h0 ∙ ap (λ ns. (a ∷ []) ++ map f ns) e0))
    ∙ ap (λ ns. (a ∷ []) ++ map f laid ++ exchange ++ map g ns ++ (b ∷ [])) e1
