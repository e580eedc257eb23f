-- The ways round the ring, out of one port of each switch and in at another, and how far they lead.
use Rattle.std.proofs.Common.{◌≡◌, ℕ, zero, suc, ◌+◌, ◌-◌, ◌%◌, ◌<◌, ◌≤◌, ◌⊎◌, true, false, cond, ltb, List, [], ◌∷◌, ◌++◌, map, inl, inr, refl, sym, ap, subst, ◌∙◌, arith}
use Rattle.std.specs.Prelude.{◌==◌}
use Rattle.std.specs.List.{range_with_len, list_any}
use Rattle.std.proofs.lemmas.Bool.{cases_eq, cases_lt, cond-true, cond-false, eq-eqb, ne_eqb, lt-ltb, le-ltb}
use Rattle.std.proofs.Math.Nat.{mod-eq_of_lt, mod_self}
use Rattle.net_base.specs.declared.ids.SwitchId.{SwitchId}
use Rattle.net_base.specs.declared.ids.Port.{Port}
use Rattle.net_base.specs.declared.ids.Stop.{Stop}
use Rattle.topology.specs.Networks.{Network, IsNetwork, stop_eq, far_end, end_at}
use Rattle.topology.specs.declared.net.End.{End}
use Rattle.topology.specs.declared.net.End.TheVariants as at
use Rattle.topology.proofs.LinkLaws.{stop_eq-refl, link_back, host_at}
use Rattle.ring_sample.specs.Ring.{numbers_below, ring_stop, ring_link, ring_network}
use Rattle.ring_sample.proofs.Ranges.{none_mapped}
use Rattle.ring_sample.proofs.Names.{next_cases}
use Rattle.ring_sample.proofs.Ports.{previous, host_in}
use Rattle.ring_sample.proofs.TopologyAgain.{other_switch, other_port}

-- the end of the link at a port of switch i
abbrev pub link_to : ℕ → ℕ → End
link_to i port = at.Link (record { 0 = i }) (record { 0 = port })

next_far : (n i a m : ℕ) → a ≤ i → i < a + m → far_end (ring_stop i 2) (map (ring_link n) (range_with_len a m)) ≡ link_to ((i + 1) % n) 3
next_far n i a zero low high = absurd (omega arith)
next_far n i a (suc m) low high =
    elim (cases_eq i a) [
      | inl e ↦ (
          let here : stop_eq (ring_stop i 2) (ring_stop a 2) ≡ true = subst (λ (k : ℕ). stop_eq (ring_stop i 2) (ring_stop k 2) ≡ true) e (stop_eq-refl (ring_stop i 2)) in
          cond-true (stop_eq (ring_stop i 2) (ring_stop a 2)) (link_to ((a + 1) % n) 3) _ here ∙ ap (λ (k : ℕ). link_to ((k + 1) % n) 3) (sym e))
      | inr apart ↦
          cond-false (stop_eq (ring_stop i 2) (ring_stop a 2)) (link_to ((a + 1) % n) 3) _ (other_switch i a 2 2 apart)
          ∙ cond-false (stop_eq (ring_stop i 2) (ring_stop ((a + 1) % n) 3)) (link_to a 2) _ (other_port i ((a + 1) % n) 2 3 (λ e. omega arith))
          ∙ next_far n i (a + 1) m (omega arith) (omega arith)
    ]

module _ (n : ℕ) (i : ℕ) (lt : i < n) where
  pub next_end : end_at (ring_network n) (ring_stop i 2) ≡ link_to ((i + 1) % n) 3
  unfolding ring_network
  next_end =
      cond-false (list_any (stop_eq (ring_stop i 2)) (map (λ k. ring_stop k 1) (numbers_below n))) at.Host (far_end (ring_stop i 2) (map (ring_link n) (numbers_below n)))
      (none_mapped (stop_eq (ring_stop i 2)) (λ k. ring_stop k 1) 0 n (λ k low high. other_port i k 2 1 (λ e. omega arith)))
      ∙ next_far n i 0 n (omega arith) (omega arith)

  pub host_end : end_at (ring_network n) (ring_stop i 1) ≡ at.Host
  unfolding ring_network
  host_end = host_at (ring_network n) (ring_stop i 1) (host_in n i lt)

-- the number of the switch before
pub back : ℕ → ℕ → ℕ
back n i = cond (i == 0) (n - 1) (i - 1)

pub back_cases : (n i : ℕ) → 1 ≤ n → i < n → (((i ≡ 0) × (back n i ≡ n - 1)) ⊎ ((1 ≤ i) × (back n i + 1 ≡ i))) × (back n i < n) × ((back n i + 1) % n ≡ i)
unfolding back
back_cases n i some lt =
    elim (cases_eq i 0) [
      | inl e ↦ (
          let is : cond (i == 0) (n - 1) (i - 1) ≡ n - 1 = cond-true (i == 0) (n - 1) (i - 1) (eq-eqb i 0 e) in
          let one : cond (i == 0) (n - 1) (i - 1) + 1 ≡ n = omega (arith, is) in
          (inl (e, is), omega (arith, is), ap (λ m. m % n) one ∙ mod_self n ∙ sym e))
      | inr some_before ↦ (
          let is : cond (i == 0) (n - 1) (i - 1) ≡ i - 1 = cond-false (i == 0) (n - 1) (i - 1) (ne_eqb i 0 some_before) in
          let one : cond (i == 0) (n - 1) (i - 1) + 1 ≡ i = omega (arith, is) in
          (inr (omega arith, one), omega (arith, is), ap (λ m. m % n) one ∙ mod-eq_of_lt lt))
    ]

module _ (n : ℕ) (some : 1 ≤ n) (kept : IsNetwork (ring_network n)) (i : ℕ) (lt : i < n) where
  pub back_end : end_at (ring_network n) (ring_stop i 3) ≡ link_to (back n i) 2
  back_end =
      let (cases, within, is) = back_cases n i some lt in
      link_back (ring_network n) kept (ring_stop (back n i) 2) (ring_stop i 3) (next_end n (back n i) within ∙ ap (λ (k : ℕ). link_to k 3) is)

-- ---- ways

-- out of this port packets come in at that one of the switch to which it leads; neither is a host port
pub record IsWay (n out into : ℕ) (move : ℕ → ℕ) : Type 0 where
  pub leads : (i : ℕ) → i < n → end_at (ring_network n) (ring_stop i out) ≡ link_to (move i) into
  pub within : (i : ℕ) → i < n → move i < n
  pub turns : ¬ (out ≡ into)
  pub out_host : ¬ (out ≡ 1)
  pub into_host : ¬ (into ≡ 1)

pub next_way : (n : ℕ) → IsWay n 2 3 (λ i. (i + 1) % n)
next_way n = record {
  leads = next_end n;
  within = λ i lt. elim (next_cases n i lt) [ inl h ↦ omega (arith, h.0, h.1) | inr h ↦ omega (arith, h.1) ];
  turns = λ e. omega arith;
  out_host = λ e. omega arith;
  into_host = λ e. omega arith;
}

pub back_way : (n : ℕ) → 1 ≤ n → IsNetwork (ring_network n) → IsWay n 3 2 (back n)
back_way n some kept = record {
  leads = back_end n some kept;
  within = λ i lt. (back_cases n i some lt).1;
  turns = λ e. omega arith;
  out_host = λ e. omega arith;
  into_host = λ e. omega arith;
}

-- how far each switch is from switch j, along the way
pub record IsFar (n j : ℕ) (move far : ℕ → ℕ) : Type 0 where
  pub there : (i : ℕ) → i < n → far i ≡ 0 → i ≡ j
  pub nearer : (i : ℕ) → i < n → ¬ (i ≡ j) → suc (far (move i)) ≡ far i
  pub home : far j ≡ 0

pub ahead : ℕ → ℕ → ℕ → ℕ
ahead n j i = cond (ltb j i) (j + n - i) (j - i)

ahead_cases : (n j i : ℕ) → ((j < i) × (ahead n j i ≡ j + n - i)) ⊎ ((i ≤ j) × (ahead n j i ≡ j - i))
unfolding ahead
ahead_cases n j i =
    elim (cases_lt j i) [
      | inl less ↦ inl (less, cond-true (ltb j i) (j + n - i) (j - i) (lt-ltb j i less))
      | inr past ↦ inr (past, cond-false (ltb j i) (j + n - i) (j - i) (le-ltb j i past))
    ]

pub next_ahead : (n j : ℕ) → j < n → IsFar n j (λ i. (i + 1) % n) (ahead n j)
next_ahead n j within = record {
  there = λ i lt none. elim (ahead_cases n j i) [ inl h ↦ absurd (omega (arith, h.0, h.1, none)) | inr h ↦ omega (arith, h.0, h.1, none) ];
  nearer = λ i lt apart.
      elim (next_cases n i lt) [
        | inl m ↦ elim (ahead_cases n j i) [
          | inl h ↦ elim (ahead_cases n j ((i + 1) % n)) [ inl g ↦ omega (arith, m.0, m.1, h.0, h.1, g.0, g.1) | inr g ↦ absurd (omega (arith, m.0, m.1, h.0, h.1, g.0, g.1)) ]
          | inr h ↦ elim (ahead_cases n j ((i + 1) % n)) [ inl g ↦ absurd (omega (arith, m.0, m.1, h.0, h.1, g.0, g.1)) | inr g ↦ omega (arith, m.0, m.1, h.0, h.1, g.0, g.1) ]
        ]
        | inr m ↦ elim (ahead_cases n j i) [
          | inl h ↦ elim (ahead_cases n j ((i + 1) % n)) [ inl g ↦ absurd (omega (arith, m.0, m.1, h.0, h.1, g.0, g.1)) | inr g ↦ omega (arith, m.0, m.1, h.0, h.1, g.0, g.1) ]
          | inr h ↦ absurd (omega (arith, m.0, m.1, h.0, h.1))
        ]
      ];
  home = elim (ahead_cases n j j) [ inl h ↦ absurd (omega (arith, h.0)) | inr h ↦ omega (arith, h.1) ];
}

pub behind : ℕ → ℕ → ℕ → ℕ
behind n j i = cond (ltb i j) (i + n - j) (i - j)

behind_cases : (n j i : ℕ) → ((i < j) × (behind n j i ≡ i + n - j)) ⊎ ((j ≤ i) × (behind n j i ≡ i - j))
unfolding behind
behind_cases n j i =
    elim (cases_lt i j) [
      | inl less ↦ inl (less, cond-true (ltb i j) (i + n - j) (i - j) (lt-ltb i j less))
      | inr past ↦ inr (past, cond-false (ltb i j) (i + n - j) (i - j) (le-ltb i j past))
    ]

pub back_behind : (n j : ℕ) → j < n → IsFar n j (back n) (behind n j)
back_behind n j within = record {
  there = λ i lt none. elim (behind_cases n j i) [ inl h ↦ absurd (omega (arith, h.0, h.1, none)) | inr h ↦ omega (arith, h.0, h.1, none) ];
  nearer = λ i lt apart.
      let (cases, _, _) = back_cases n i (omega arith) lt in
      elim cases [
        | inl m ↦ elim (behind_cases n j i) [
          | inl h ↦ elim (behind_cases n j (back n i)) [ inl g ↦ absurd (omega (arith, m.0, m.1, h.0, h.1, g.0, g.1)) | inr g ↦ omega (arith, m.0, m.1, h.0, h.1, g.0, g.1) ]
          | inr h ↦ absurd (omega (arith, m.0, m.1, h.0, h.1))
        ]
        | inr m ↦ elim (behind_cases n j i) [
          | inl h ↦ elim (behind_cases n j (back n i)) [ inl g ↦ omega (arith, m.0, m.1, h.0, h.1, g.0, g.1) | inr g ↦ absurd (omega (arith, m.0, m.1, h.0, h.1, g.0, g.1)) ]
          | inr h ↦ elim (behind_cases n j (back n i)) [ inl g ↦ absurd (omega (arith, m.0, m.1, h.0, h.1, g.0, g.1)) | inr g ↦ omega (arith, m.0, m.1, h.0, h.1, g.0, g.1) ]
        ]
      ];
  home = elim (behind_cases n j j) [ inl h ↦ absurd (omega (arith, h.0)) | inr h ↦ omega (arith, h.1) ];
}
