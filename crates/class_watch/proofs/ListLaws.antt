-- Members of lists by their places.
use Rattle.std.proofs.Common.{◌≡◌, ◌⊎◌, ℕ, zero, suc, ◌<◌, List, [], ◌∷◌, ◌++◌, length, get_or, Some, refl, sym, ap, ◌∙◌, subst, inl, inr, arith}
use Rattle.std.specs.Prelude.{slice_get}
use Rattle.std.proofs.lemmas.Option.{same_Some, none-some, slice_get-get_or}
use Rattle.net_base.specs.declared.ids.Vlan.TheVariants.{Untagged}
use Rattle.dest_classes.specs.Classes.{ClassList, IsClass}
use Rattle.dest_classes.specs.declared.Class.{Class}
use Rattle.dest_classes.specs.declared.NumberedClass.{NumberedClass}

-- what a list of classes is read with past its end
abbrev pub no_class : NumberedClass
no_class = record { number = 0; class = record { entry = record { switch = record { 0 = 0 }; port = record { 0 = 0 }; vlan = Untagged }; first = 0 } }

push_at : {A : Type 0} (xs : List A) (x : A) (n : ℕ) (y : A) → slice_get (xs ++ x ∷ []) n ≡ Some y → (slice_get xs n ≡ Some y) ⊎ ((n ≡ length xs) × (x ≡ y))
push_at [] x zero y at = inr (refl, same_Some x y at)
push_at [] x (suc n) y at = absurd (none-some y at)
push_at (z ∷ xs) x zero y at = inl at
push_at (z ∷ xs) x (suc n) y at = elim (push_at xs x n y at) [ inl before ↦ inl before | inr here ↦ inr (ap suc here.0, here.1) ]

pub some_at : {A : Type 0} (xs : List A) (n : ℕ) → n < length xs → (x : A) × (slice_get xs n ≡ Some x)
some_at [] n lt = absurd (omega arith)
some_at (x ∷ xs) zero lt = (x, refl)
some_at (x ∷ xs) (suc n) lt = some_at xs n (omega arith)

-- the classes so far and the next
pub classes_more : (classes : ClassList) (list : List Class) (count : ℕ) (next : Class) → length list ≡ count → ((n : ℕ) (class : Class) → slice_get list n ≡ Some class → IsClass classes n class)
    → IsClass classes count next → (n : ℕ) (class : Class) → slice_get (list ++ next ∷ []) n ≡ Some class → IsClass classes n class
classes_more classes list count next long each is n class at =
    elim (push_at list next n class at) [
      | inl before ↦ each n class before
      | inr here ↦ subst (λ (m : ℕ). IsClass classes m class) (sym (here.0 ∙ long)) (subst (IsClass classes count) here.1 is)
    ]

-- what was read of a list
pub read_at : {A : Type 0} (xs : List A) (n : ℕ) (x : A) → n < length xs → x ≡ get_or xs n x → slice_get xs n ≡ Some x
read_at xs n x lt is = slice_get-get_or xs n x lt ∙ ap Some (sym is)
