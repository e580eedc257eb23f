-- The key order is total.
use Rattle.std.proofs.Common.{◌≡◌, [], ◌∷◌, refl, subst}
use Rattle.std.specs.Cmp.{IsTotalOrder, on_total, then_total, back_total, nat_cmp_total}
use Rattle.std.specs.Ordering.{nat_cmp, ordering_then}
use Rattle.std.specs.declared.cmp.Ordering.{Ordering}
use Rattle.std.specs.declared.cmp.Ordering.TheVariants.{Less, Equal, Greater}
use Rattle.flow_rules.specs.Order.{port_rank, vlan_rank, by_parts, key_cmp}
use Rattle.flow_rules.specs.declared.rules.Key.{Key}

-- one part after the other decides
pub in_turn_is : (a b c d e : Ordering) → ordering_then (ordering_then (ordering_then (ordering_then a b) c) d) e ≡ by_parts (a ∷ b ∷ c ∷ d ∷ e ∷ [])
in_turn_is Less b c d e = refl
in_turn_is Greater b c d e = refl
in_turn_is Equal Less c d e = refl
in_turn_is Equal Greater c d e = refl
in_turn_is Equal Equal Less d e = refl
in_turn_is Equal Equal Greater d e = refl
in_turn_is Equal Equal Equal Less e = refl
in_turn_is Equal Equal Equal Greater e = refl
in_turn_is Equal Equal Equal Equal Less = refl
in_turn_is Equal Equal Equal Equal Greater = refl
in_turn_is Equal Equal Equal Equal Equal = refl

abbrev turns : Key → Key → Ordering
turns a b =
    ordering_then (ordering_then (ordering_then (ordering_then (nat_cmp b.priority a.priority) (nat_cmp (port_rank a.pattern.in_port) (port_rank b.pattern.in_port)))
    (nat_cmp (vlan_rank a.pattern.vlan) (vlan_rank b.pattern.vlan))) (nat_cmp a.pattern.dst.base b.pattern.dst.base)) (nat_cmp a.pattern.dst.len b.pattern.dst.len)

turns_total : IsTotalOrder turns
turns_total =
    then_total (then_total (then_total (then_total (back_total (on_total (λ (k : Key). k.priority) nat_cmp_total)) (on_total (λ (k : Key). port_rank k.pattern.in_port) nat_cmp_total))
    (on_total (λ (k : Key). vlan_rank k.pattern.vlan) nat_cmp_total)) (on_total (λ (k : Key). k.pattern.dst.base) nat_cmp_total)) (on_total (λ (k : Key). k.pattern.dst.len) nat_cmp_total)

pub key_total : IsTotalOrder key_cmp
key_total = subst IsTotalOrder is turns_total
  where
    is : turns ≡ key_cmp
    is = λ i a b. in_turn_is (nat_cmp b.priority a.priority) (nat_cmp (port_rank a.pattern.in_port) (port_rank b.pattern.in_port))
        (nat_cmp (vlan_rank a.pattern.vlan) (vlan_rank b.pattern.vlan)) (nat_cmp a.pattern.dst.base b.pattern.dst.base) (nat_cmp a.pattern.dst.len b.pattern.dst.len) i
