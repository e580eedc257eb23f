-- What a sort by keys gives.
use Rattle.std.proofs.Common.{◌≡◌, ℕ, zero, suc, ◌<◌, ◌≤◌, true, false, List, [], ◌∷◌, length, get_or, sym, ◌∙◌, ap, inl, inr, arith}
use Rattle.std.specs.Cmp.{IsStrictWeakOrder}
use Rattle.std.specs.Ordering.{nat_cmp, is_lt}
use Rattle.std.specs.List.Sorted.{IsSortedBy}
use Rattle.std.specs.declared.cmp.Ordering.{Ordering}
use Rattle.std.proofs.lemmas.Bool.{both_ways, cases_lt}
use Rattle.std.proofs.lemmas.List.Elements.{recursion_from_All}
use Rattle.std.proofs.lemmas.List.Sorted.{ranks_by, sorted_far}
use Rattle.net_base.proofs.MemberLaws.{each_weaker}
use Rattle.flow_rules.specs.Order.{by_parts, key_cmp}
use Rattle.flow_rules.proofs.OrderLaws.{key_total}
use Rattle.round_mix.specs.Order.{priority_of, base_of, port_of, vlan_of, IsInKeyOrder, AreInKeyOrder}
use Rattle.round_mix.specs.Prepared.{IsFalling}
use Rattle.round_mix.specs.declared.MarkedRule.{MarkedRule}
use Rattle.round_mix.proofs.OrderLaws.{nat_less, nat_equal}

-- the order is one that sorts
pub keys_sort : IsStrictWeakOrder (λ (a b : MarkedRule). is_lt (key_cmp a.rule.key b.rule.key))
keys_sort = ranks_by key_total (λ (m : MarkedRule). m.rule.key)

-- what isn't behind may stand before
module _ (m n : MarkedRule) (e : is_lt (key_cmp n.rule.key m.rule.key) ≡ false) where
  abbrev ports : Ordering
  ports = nat_cmp (port_of n) (port_of m)

  abbrev vlans : Ordering
  vlans = nat_cmp (vlan_of n) (vlan_of m)

  abbrev bases : Ordering
  bases = nat_cmp (base_of n) (base_of m)

  abbrev lens : Ordering
  lens = nat_cmp n.rule.key.pattern.dst.len m.rule.key.pattern.dst.len

  never : is_lt (key_cmp n.rule.key m.rule.key) ≡ true → ⊥
  never f = both_ways (is_lt (key_cmp n.rule.key m.rule.key)) e f

  -- the parts that agree are passed
  first_same : priority_of n ≡ priority_of m → is_lt (key_cmp n.rule.key m.rule.key) ≡ is_lt (by_parts (ports ∷ vlans ∷ bases ∷ lens ∷ []))
  first_same p = ap (λ (o : Ordering). is_lt (by_parts (o ∷ ports ∷ vlans ∷ bases ∷ lens ∷ []))) (nat_equal (priority_of m) (priority_of n) (sym p))

  two_same : priority_of n ≡ priority_of m → port_of m ≡ port_of n → is_lt (key_cmp n.rule.key m.rule.key) ≡ is_lt (by_parts (vlans ∷ bases ∷ lens ∷ []))
  two_same p q = first_same p ∙ ap (λ (o : Ordering). is_lt (by_parts (o ∷ vlans ∷ bases ∷ lens ∷ []))) (nat_equal (port_of n) (port_of m) (sym q))

  three_same : priority_of n ≡ priority_of m → port_of m ≡ port_of n → vlan_of m ≡ vlan_of n → is_lt (key_cmp n.rule.key m.rule.key) ≡ is_lt (by_parts (bases ∷ lens ∷ []))
  three_same p q v = two_same p q ∙ ap (λ (o : Ordering). is_lt (by_parts (o ∷ bases ∷ lens ∷ []))) (nat_equal (vlan_of n) (vlan_of m) (sym v))

  in_key_order : IsInKeyOrder m n
  in_key_order = record {
    priority = elim (cases_lt (priority_of m) (priority_of n)) [
      | inl less ↦ absurd (never (ap (λ (o : Ordering). is_lt (by_parts (o ∷ ports ∷ vlans ∷ bases ∷ lens ∷ []))) (nat_less (priority_of m) (priority_of n) less)))
      | inr more ↦ more
    ];
    port = λ p. elim (cases_lt (port_of n) (port_of m)) [
      | inl less ↦ absurd (never (first_same p ∙ ap (λ (o : Ordering). is_lt (by_parts (o ∷ vlans ∷ bases ∷ lens ∷ []))) (nat_less (port_of n) (port_of m) less)))
      | inr more ↦ more
    ];
    vlan = λ p q. elim (cases_lt (vlan_of n) (vlan_of m)) [
      | inl less ↦ absurd (never (two_same p q ∙ ap (λ (o : Ordering). is_lt (by_parts (o ∷ bases ∷ lens ∷ []))) (nat_less (vlan_of n) (vlan_of m) less)))
      | inr more ↦ more
    ];
    base = λ p q v. elim (cases_lt (base_of n) (base_of m)) [
      | inl less ↦ absurd (never (three_same p q v ∙ ap (λ (o : Ordering). is_lt (by_parts (o ∷ lens ∷ []))) (nat_less (base_of n) (base_of m) less)))
      | inr more ↦ more
    ];
  }

-- from places to the recursion on the list
from_places : (ms : List MarkedRule) → ((i j : ℕ) (d : MarkedRule) → i ≤ j → j < length ms → IsInKeyOrder (get_or ms i d) (get_or ms j d)) → AreInKeyOrder ms
from_places [] h = tt
from_places (m ∷ ms) h = (
  recursion_from_All (IsInKeyOrder m) ms (λ k d within. h zero (suc k) d (omega arith) (omega arith)),
  from_places ms (λ i j d le within. h (suc i) (suc j) d (omega arith) (omega arith)),
)

pub key_order_from_sorted : (ms : List MarkedRule) → IsSortedBy (λ (a b : MarkedRule). is_lt (key_cmp a.rule.key b.rule.key)) ms → AreInKeyOrder ms
key_order_from_sorted ms sorted =
    from_places ms (λ i j d le within. in_key_order (get_or ms i d) (get_or ms j d) (sorted_far (λ (a b : MarkedRule). is_lt (key_cmp a.rule.key b.rule.key)) keys_sort ms sorted i j d le within))

pub falling_from_key_order : (ms : List MarkedRule) → AreInKeyOrder ms → IsFalling ms
falling_from_key_order [] h = tt
falling_from_key_order (m ∷ ms) h = (each_weaker (IsInKeyOrder m) (λ n. priority_of n ≤ priority_of m) (λ n o. o.priority) ms h.0, falling_from_key_order ms h.1)
