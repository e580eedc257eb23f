-- Values that are made one after the other.
use Rattle.std.proofs.Common.{◌≡◌, ℕ, ◌+◌, Bool, true, false, cond, List, [], ◌∷◌, ◌++◌, map, refl, sym, ap, ◌∙◌, append_assoc, arith}
use Rattle.std.specs.Prelude.{flat_map, filter}
use Rattle.std.specs.List.{range_with_len}
use Rattle.std.proofs.lemmas.Bool.{cond-true, cond-false}
use Rattle.std.proofs.lemmas.List.{map_push, map-append, append-nil}
use Rattle.std.proofs.lemmas.List.FromFn.{map-range_with_len_more}
use Rattle.serde_json.specs.Data.{Data}
use Rattle.serde_json.specs.View.{view}
use Rattle.serde_json.specs.declared.value.Value.{Value}
use Rattle.ring_sample.proofs.Ranges.{range_more, flat_more}

-- one value more, behind those that were there
pub one_more : (tree : ℕ → Data) (before : List Data) (values : List Value) (value : Value) (i : ℕ) → map view values ≡ before ++ map tree (range_with_len 0 i) → view value ≡ tree i
    → map view (values ++ value ∷ []) ≡ before ++ map tree (range_with_len 0 (i + 1))
one_more tree before values value i so_far is =
    map_push view values value ∙ ap (λ (d : Data). map view values ++ d ∷ []) is ∙ ap (λ (ds : List Data). ds ++ tree i ∷ []) so_far
    ∙ append_assoc before (map tree (range_with_len 0 i)) (tree i ∷ []) ∙ ap (λ (ds : List Data). before ++ ds) (sym (map-range_with_len_more tree 0 i i (omega arith)))

filter_more : (p : ℕ → Bool) (xs : List ℕ) (x : ℕ) → filter p (xs ++ x ∷ []) ≡ filter p xs ++ cond (p x) (x ∷ []) []
filter_more p [] x = refl
filter_more p (y ∷ xs) x = elim (p y) as (λ b. cond b (y ∷ filter p (xs ++ x ∷ [])) (filter p (xs ++ x ∷ [])) ≡ cond b (y ∷ filter p xs) (filter p xs) ++ cond (p x) (x ∷ []) []) [
  | true ↦ ap (λ (l : List ℕ). y ∷ l) (filter_more p xs x)
  | false ↦ filter_more p xs x
]

passed_more : (p : ℕ → Bool) (i : ℕ) → filter p (range_with_len 0 (i + 1)) ≡ filter p (range_with_len 0 i) ++ cond (p i) (i ∷ []) []
passed_more p i = ap (filter p) (range_more 0 i i (omega arith)) ∙ filter_more p (range_with_len 0 i) i

-- one more for a number that passes
pub one_passed : (tree : ℕ → Data) (p : ℕ → Bool) (before : List Data) (values : List Value) (value : Value) (i : ℕ) → map view values ≡ before ++ map tree (filter p (range_with_len 0 i)) → view value ≡ tree i
    → p i ≡ true → map view (values ++ value ∷ []) ≡ before ++ map tree (filter p (range_with_len 0 (i + 1)))
one_passed tree p before values value i so_far is passes =
    let kept : filter p (range_with_len 0 (i + 1)) ≡ filter p (range_with_len 0 i) ++ i ∷ [] =
    passed_more p i ∙ ap (λ (l : List ℕ). filter p (range_with_len 0 i) ++ l) (cond-true (p i) (i ∷ []) [] passes) in
    map_push view values value ∙ ap (λ (d : Data). map view values ++ d ∷ []) is ∙ ap (λ (ds : List Data). ds ++ tree i ∷ []) so_far
    ∙ append_assoc before (map tree (filter p (range_with_len 0 i))) (tree i ∷ [])
    ∙ ap (λ (ds : List Data). before ++ ds) (sym (map-append tree (filter p (range_with_len 0 i)) (i ∷ [])) ∙ ap (map tree) (sym kept))

-- none for one that doesn't
pub none_passed : (tree : ℕ → Data) (p : ℕ → Bool) (before : List Data) (values : List Value) (i : ℕ) → map view values ≡ before ++ map tree (filter p (range_with_len 0 i)) → p i ≡ false
    → map view values ≡ before ++ map tree (filter p (range_with_len 0 (i + 1)))
none_passed tree p before values i so_far fails =
    let kept : filter p (range_with_len 0 (i + 1)) ≡ filter p (range_with_len 0 i) =
    passed_more p i ∙ ap (λ (l : List ℕ). filter p (range_with_len 0 i) ++ l) (cond-false (p i) (i ∷ []) [] fails) ∙ append-nil (filter p (range_with_len 0 i)) in
    so_far ∙ ap (λ (l : List ℕ). before ++ map tree l) (sym kept)

-- the values of one number more
pub group_more : (group : ℕ → List Data) (values more : List Value) (i : ℕ) → map view values ≡ flat_map group (range_with_len 0 i) → map view more ≡ map view values ++ group i
    → map view more ≡ flat_map group (range_with_len 0 (i + 1))
group_more group values more i so_far is = is ∙ ap (λ (ds : List Data). ds ++ group i) so_far ∙ sym (flat_more group i)
