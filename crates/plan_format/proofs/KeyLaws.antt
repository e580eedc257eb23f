-- Keys that are compared as what they stand for.
use Rattle.std.proofs.Common.{◌≡◌, Bool, true, false, List, [], ◌∷◌, ◌++◌, map, refl}
use Rattle.std.specs.Prelude.{if◌then◌else◌}
use Rattle.std.specs.List.{list_any, position_or_len}
use Rattle.std.proofs.lemmas.List.{map-append}
use Rattle.indexmap.specs.IndexSet.{insert_key}

module _ {K S : Type 0} (f : K → S) (key_eq : K → K → Bool) (eq : S → S → Bool) (same : (a b : K) → eq (f a) (f b) ≡ key_eq a b) where
  pub any_of_map : (k : K) (ks : List K) → list_any (eq (f k)) (map f ks) ≡ list_any (key_eq k) ks
  any_of_map k [] = refl
  any_of_map k (x ∷ xs) = rw (same k x, any_of_map k xs) refl

  pub place_of_map : (k : K) (ks : List K) → position_or_len (key_eq k) ks ≡ position_or_len (eq (f k)) (map f ks)
  place_of_map k [] = refl
  place_of_map k (x ∷ xs) = rw (same k x, place_of_map k xs) refl

  pub insert_in_map : (k : K) (ks : List K) → map f (insert_key key_eq ks k) ≡ (if list_any (eq (f k)) (map f ks) then map f ks else map f ks ++ f k ∷ [])
  insert_in_map k ks = rw (any_of_map k ks) (by (list_any (key_eq k) ks))
    where
      by : (b : Bool) → map f (if b then ks else ks ++ k ∷ []) ≡ (if b then map f ks else map f ks ++ f k ∷ [])
      by true = refl
      by false = map-append f ks (k ∷ [])
