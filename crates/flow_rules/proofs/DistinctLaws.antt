-- Distinct keys, which may change places.
use Rattle.std.proofs.Common.{◌≡◌, true, false, List, [], ◌∷◌, refl, sym, subst}
use Rattle.std.specs.Prelude.{IsPermutation}
use Rattle.std.specs.List as std_list
use Rattle.std.proofs.lemmas.Bool.{both_ways}
use Rattle.std.proofs.lemmas.Map.Keys.{IsDistinct-IsPermutation}
use Rattle.net_base.specs.Members.{IsIn, IsDistinct}
use Rattle.net_base.proofs.MemberLaws.{each_at, each_from_in}
use Rattle.flow_rules.specs.Patterns.{key_eq}
use Rattle.flow_rules.specs.declared.rules.Key.{Key}
use Rattle.flow_rules.proofs.KeyLaws.{key_eq-true, key_eq-refl, key_eq-false, key_ne}

-- distinct keys by their test, which a permutation keeps
apart_from : (ks : List Key) → IsDistinct ks → std_list.IsDistinct key_eq ks
unfolding std_list.IsDistinct
apart_from [] distinct = tt
apart_from (k ∷ ks) distinct = (each_from_in (λ q. key_eq k q ≡ false) ks (λ q i. key_ne k q (λ e. distinct.0 (subst (λ x. IsIn x ks) (sym e) i))), apart_from ks distinct.1)

from_apart : (ks : List Key) → std_list.IsDistinct key_eq ks → IsDistinct ks
unfolding std_list.IsDistinct
from_apart [] apart = tt
from_apart (k ∷ ks) apart = (λ i. both_ways (key_eq k k) (each_at (λ q. key_eq k q ≡ false) ks k apart.0 i) (key_eq-refl k), from_apart ks apart.1)

-- the test of two keys goes both ways
pub flips : (a b : Key) → key_eq a b ≡ key_eq b a
flips a b =
    elim (key_eq b a) as (λ t. key_eq b a ≡ t → key_eq a b ≡ t) [
      | true ↦ λ e. subst (λ k. key_eq a k ≡ true) (sym (key_eq-true b a e)) (key_eq-refl a)
      | false ↦ λ e. key_ne a b (λ same. key_eq-false b a e (sym same))
    ] refl

-- distinct keys stay so when they change places
pub keys_moved : (ks ls : List Key) → IsPermutation ks ls → IsDistinct ks → IsDistinct ls
keys_moved ks ls moved distinct = from_apart ls (IsDistinct-IsPermutation key_eq flips ks ls moved (apart_from ks distinct))
