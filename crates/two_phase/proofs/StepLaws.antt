-- Lists that a loop makes: what one step more adds.
use Rattle.std.proofs.Common.{◌≡◌, ℕ, ◌+◌, ◌<◌, List, [], ◌∷◌, ◌++◌, map, length, get_or, take, sym, ◌∙◌, ap, append_assoc}
use Rattle.std.specs.Prelude.{flat_map}
use Rattle.std.proofs.lemmas.List.{map-append, take_more, append-nil}
use Rattle.std.proofs.lemmas.Grind.{flat_map-append}

module _ {A B : Type 0} where
  -- a list for the next item
  pub flat_added : (f : A → List B) (xs : List A) (i : ℕ) (x d : A) → i < length xs → x ≡ get_or xs i d → (before now after : List B)
      → now ≡ before ++ flat_map f (take i xs) → after ≡ now ++ f x → after ≡ before ++ flat_map f (take (i + 1) xs)
  flat_added f xs i x d within is before now after e h =
      let y = get_or xs i d in
      h ∙ ap (λ ys. ys ++ f x) e ∙ append_assoc before (flat_map f (take i xs)) (f x)
      ∙ ap (λ ys. before ++ ys)
      (ap (λ z. flat_map f (take i xs) ++ f z) is
      ∙ sym (ap (flat_map f) (take_more xs i d within) ∙ flat_map-append f (take i xs) (y ∷ []) ∙ ap (λ ys. flat_map f (take i xs) ++ ys) (append-nil (f y))))

  -- an image of the next item
  pub map_added : (f : A → B) (xs : List A) (i : ℕ) (x d : A) → i < length xs → x ≡ get_or xs i d → (before now after : List B) (y : B)
      → now ≡ before ++ map f (take i xs) → y ≡ f x → after ≡ now ++ y ∷ [] → after ≡ before ++ map f (take (i + 1) xs)
  map_added f xs i x d within is before now after y e g h =
      h ∙ ap (λ ys. ys ++ y ∷ []) e ∙ append_assoc before (map f (take i xs)) (y ∷ [])
      ∙ ap (λ ys. before ++ ys) (ap (λ z. map f (take i xs) ++ z ∷ []) (g ∙ ap f is) ∙ sym (ap (map f) (take_more xs i d within) ∙ map-append f (take i xs) (get_or xs i d ∷ [])))
