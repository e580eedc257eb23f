-- Lists that go on: what stood there stays.
use Rattle.std.proofs.Common.{◌≡◌, ℕ, zero, suc, ◌≤◌, List, [], ◌∷◌, ◌++◌, length, Some, refl, sym, ap, ◌∙◌, arith}
use Rattle.std.specs.Prelude.{slice_get}
use Rattle.std.specs.List.{AllByRecursion}
use Rattle.std.proofs.lemmas.Option.{none-some}
use Rattle.net_base.specs.Members.{IsPrefix}
use Rattle.certificates.specs.Valid.{IsChain}

module _ {A : Type 0} where
  pub prefix_of_append : (xs ys : List A) → IsPrefix xs (xs ++ ys)
  prefix_of_append [] ys = tt
  prefix_of_append (x ∷ xs) ys = (refl, prefix_of_append xs ys)

  pub prefix_long : (xs ys : List A) → IsPrefix xs ys → length xs ≤ length ys
  prefix_long [] ys h = omega arith
  prefix_long (x ∷ xs) [] h = absurd h
  prefix_long (x ∷ xs) (y ∷ ys) h = let e = prefix_long xs ys h.1 in omega arith

  -- what stands at a place stays there
  pub prefix_at : (xs ys : List A) (n : ℕ) (x : A) → IsPrefix xs ys → slice_get xs n ≡ Some x → slice_get ys n ≡ Some x
  prefix_at [] ys n x h e = absurd (none-some x e)
  prefix_at (w ∷ xs) [] n x h e = absurd h
  prefix_at (w ∷ xs) (y ∷ ys) zero x h e = ap Some (sym h.0) ∙ e
  prefix_at (w ∷ xs) (y ∷ ys) (suc n) x h e = prefix_at xs ys n x h.1 e

  pub last_at : (xs : List A) (x : A) → slice_get (xs ++ x ∷ []) (length xs) ≡ Some x
  last_at [] x = refl
  last_at (y ∷ xs) x = last_at xs x

  pub chain_push : (before : A → A → Type 0) (xs : List A) (x : A) → IsChain before xs → AllByRecursion (λ y. before y x) xs → IsChain before (xs ++ x ∷ [])
  chain_push before [] x h k = tt
  chain_push before (y ∷ []) x h k = (k.0, tt)
  chain_push before (y ∷ z ∷ xs) x h k = (h.0, chain_push before (z ∷ xs) x h.1 k.1)
