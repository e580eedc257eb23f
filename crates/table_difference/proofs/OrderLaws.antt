-- A sort by the key order is in key order, and ascends where the keys are distinct.
use Rattle.std.proofs.Common.{◌≡◌, ◌≢◌, ℕ, zero, suc, ◌<◌, ◌≤◌, true, false, List, [], ◌∷◌, length, get_or, refl, sym, ◌∙◌, subst, ap, inl, inr, arith}
use Rattle.std.specs.Prelude.{IsPermutation}
use Rattle.std.specs.Cmp.{IsStrictWeakOrder}
use Rattle.std.specs.Ordering.{ordering_reverse, is_lt}
use Rattle.std.specs.List as std_list
use Rattle.std.specs.List.Sorted.{IsSortedBy}
use Rattle.std.specs.declared.cmp.Ordering.{Ordering}
use Rattle.std.specs.declared.cmp.Ordering.TheVariants.{Less, Equal, Greater}
use Rattle.std.proofs.lemmas.Bool.{both_ways}
use Rattle.std.proofs.lemmas.List.Elements.{recursion_from_All}
use Rattle.std.proofs.lemmas.List.Sorted.{ranks_by, sorted_far, IsPermutation-map}
use Rattle.net_base.specs.Members.{IsIn}
use Rattle.net_base.proofs.MemberLaws.{each_at, each_from_in, in_map, in_from_map}
use Rattle.flow_rules.specs.Order.{key_cmp}
use Rattle.flow_rules.specs.Tables.{keys_of, IsTable}
use Rattle.flow_rules.specs.declared.rules.Key.{Key}
use Rattle.flow_rules.specs.declared.rules.Rule.{Rule}
use Rattle.flow_rules.proofs.OrderLaws.{key_total}
use Rattle.flow_rules.proofs.DistinctLaws.{keys_moved}
use Rattle.update_model.proofs.KeyOrderLaws.{IsKeyLess, key_either}
use Rattle.table_difference.specs.KeyOrder.{AreInKeyOrder, AreAscending}

-- the order is one that sorts
pub rules_sort : IsStrictWeakOrder (λ (a b : Rule). is_lt (key_cmp a.key b.key))
rules_sort = ranks_by key_total (λ (r : Rule). r.key)

not_less : (o : Ordering) → is_lt o ≡ false → o ≢ Less
not_less o e less = both_ways (is_lt o) e (ap is_lt less)

less_is : (o : Ordering) → is_lt o ≡ true → o ≡ Less
less_is Less e = refl
less_is Equal e = absurd (both_ways false refl e)
less_is Greater e = absurd (both_ways false refl e)

pub less_from : (a b : Key) → key_cmp a b ≡ Less → IsKeyLess a b
less_from a b e = ap is_lt e

-- the other way round
pub less_back : (a b : Key) → key_cmp a b ≡ Greater → IsKeyLess b a
less_back a b e = ap is_lt (key_total.antisymm b a ∙ ap ordering_reverse e)

-- keys that tie are one
pub tied : (a b : Key) → key_cmp a b ≡ Equal → a ≡ b
tied a b e =
    elim (key_either a b (λ less. both_ways (is_lt (key_cmp a b)) (ap is_lt e) less)) [
      | inl less ↦ absurd (both_ways (is_lt (key_cmp b a)) (ap is_lt (key_total.antisymm b a ∙ ap ordering_reverse e)) less)
      | inr same ↦ same
    ]

from_places : (rs : List Rule) → ((i j : ℕ) (d : Rule) → i ≤ j → j < length rs → key_cmp (get_or rs j d).key (get_or rs i d).key ≢ Less) → AreInKeyOrder rs
from_places [] h = tt
from_places (r ∷ rs) h = (
  recursion_from_All (λ q. key_cmp q.key r.key ≢ Less) rs (λ k d within. h zero (suc k) d (omega arith) (omega arith)),
  from_places rs (λ i j d le within. h (suc i) (suc j) d (omega arith) (omega arith)),
)

-- what a sort gives is in key order
pub order_from_sorted : (rs : List Rule) → IsSortedBy (λ (a b : Rule). is_lt (key_cmp a.key b.key)) rs → AreInKeyOrder rs
order_from_sorted rs sorted =
    from_places rs (λ i j d le within. not_less (key_cmp (get_or rs j d).key (get_or rs i d).key) (sorted_far (λ (a b : Rule). is_lt (key_cmp a.key b.key)) rules_sort rs sorted i j d le within))

-- distinct keys in order ascend
pub ascending_from_order : (rs : List Rule) → AreInKeyOrder rs → IsTable rs → AreAscending rs
ascending_from_order [] order table = tt
ascending_from_order (r ∷ rs) order table = (
  each_from_in (λ q. key_cmp r.key q.key ≡ Less) rs
      (λ q i.
      let behind = each_at (λ x. key_cmp x.key r.key ≢ Less) rs q order.0 i in
      elim (key_either q.key r.key (λ less. behind (less_is (key_cmp q.key r.key) less))) [
        | inl less ↦ less_is (key_cmp r.key q.key) less
        | inr same ↦ absurd (table.0 (subst (λ k. IsIn k (keys_of rs)) same (in_map (λ x. x.key) q rs i)))
      ]),
  ascending_from_order rs order.1 table.1,
)

-- a table stays one when its rules change places
pub table_moved : (rs qs : List Rule) → IsPermutation rs qs → IsTable rs → IsTable qs
table_moved rs qs moved table = keys_moved (keys_of rs) (keys_of qs) (IsPermutation-map (λ (r : Rule). r.key) rs qs moved) table

-- the keys of ascending rules are sorted
pub sorted_keys : (r : Rule) (rs : List Rule) → AreAscending (r ∷ rs) → (k : Key) → IsIn k (keys_of rs) → IsKeyLess r.key k
sorted_keys r rs up k i =
    let (q, j, e) = in_from_map (λ x. x.key) k rs i in
    subst (IsKeyLess r.key) (sym e) (less_from r.key q.key (each_at (λ x. key_cmp r.key x.key ≡ Less) rs q up.0 j))
