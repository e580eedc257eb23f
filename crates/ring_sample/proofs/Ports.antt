-- The ports of the ring.
use Rattle.std.proofs.Common.{◌≡◌, ℕ, zero, suc, ◌+◌, ◌-◌, ◌%◌, ◌<◌, ◌≤◌, true, cond, eqb, map, inl, inr, refl, sym, ap, subst, ◌∙◌, arith}
use Rattle.std.specs.Prelude.{◌==◌}
use Rattle.std.proofs.lemmas.Bool.{cases_eq, cond_both}
use Rattle.std.proofs.Math.Nat.{mod-eq_of_lt, mod_self}
use Rattle.net_base.specs.Members.{IsIn}
use Rattle.net_base.proofs.MemberLaws.{in_map, in_append_left, in_append_right}
use Rattle.net_base.proofs.ListLaws.{in_flat_map}
use Rattle.topology.specs.Networks.{is_used, is_host, used_ports}
use Rattle.topology.proofs.LinkLaws.{any_from_in}
use Rattle.ring_sample.specs.Ring.{numbers_below, ring_stop, ring_link, ring_network}
use Rattle.ring_sample.proofs.Ranges.{in_range}
use Rattle.ring_sample.proofs.TopologyAgain.{ends, hosted, linked}

-- the switch before
pub previous : (n i : ℕ) → 1 ≤ n → i < n → (k : ℕ) × (k < n) × ((k + 1) % n ≡ i)
previous n zero some lt = (n - 1, omega arith, (let e : (n - 1) + 1 ≡ n = omega arith in ap (λ m. m % n) e ∙ mod_self n))
previous n (suc i) some lt = (i, omega arith, (let e : i + 1 ≡ suc i = omega arith in ap (λ m. m % n) e ∙ mod-eq_of_lt lt))

module _ (n : ℕ) (i : ℕ) (lt : i < n) where
  pub host_in : IsIn (ring_stop i 1) (hosted 0 n)
  host_in = in_map (λ k. ring_stop k 1) i (numbers_below n) (in_range 0 n i (omega arith) (omega arith))

  pub host_is : is_host (ring_network n) (ring_stop i 1) ≡ true
  unfolding ring_network
  host_is = any_from_in (ring_stop i 1) (hosted 0 n) host_in

  host_used : is_used (ring_network n) (ring_stop i 1) ≡ true
  unfolding ring_network
  host_used = any_from_in (ring_stop i 1) (used_ports (ring_network n)) (in_append_left (ring_stop i 1) (hosted 0 n) (linked n 0 n) host_in)

  next_used : is_used (ring_network n) (ring_stop i 2) ≡ true
  unfolding ring_network
  next_used =
      any_from_in (ring_stop i 2) (used_ports (ring_network n)) (in_append_right (ring_stop i 2) (hosted 0 n) (linked n 0 n)
      (in_flat_map ends (ring_link n i) (ring_stop i 2) (map (ring_link n) (numbers_below n)) (in_map (ring_link n) i (numbers_below n) (in_range 0 n i (omega arith) (omega arith))) (inl refl)))

  back_used : is_used (ring_network n) (ring_stop i 3) ≡ true
  unfolding ring_network
  back_used =
      let (k, within, is) = previous n i (omega arith) lt in
      any_from_in (ring_stop i 3) (used_ports (ring_network n)) (in_append_right (ring_stop i 3) (hosted 0 n) (linked n 0 n)
      (in_flat_map ends (ring_link n k) (ring_stop i 3) (map (ring_link n) (numbers_below n)) (in_map (ring_link n) k (numbers_below n) (in_range 0 n k (omega arith) (omega arith)))
      (inr (inl (ap (λ m. ring_stop m 3) (sym is))))))

  way_used : (port : ℕ) → 2 ≤ port → port ≤ 3 → is_used (ring_network n) (ring_stop i port) ≡ true
  way_used port low high =
      elim (cases_eq port 2) [
        | inl e ↦ subst (λ (p : ℕ). is_used (ring_network n) (ring_stop i p) ≡ true) (sym e) next_used
        | inr other ↦ (let e : 3 ≡ port = omega arith in subst (λ (p : ℕ). is_used (ring_network n) (ring_stop i p) ≡ true) e back_used)
      ]

  -- the port of a rule
  pub out_used : (port j : ℕ) → 2 ≤ port → port ≤ 3 → is_used (ring_network n) (ring_stop i (cond (i == j) 1 port)) ≡ true
  out_used port j low high = cond_both (i == j) 1 port (λ (p : ℕ). is_used (ring_network n) (ring_stop i p) ≡ true) (λ _. host_used) (λ _. way_used port low high)
