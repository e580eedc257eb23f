-- How many rules of the ring differ.
use Rattle.std.proofs.Common.{◌≡◌, ℕ, zero, suc, ◌+◌, ◌-◌, ◌*◌, ◌<◌, ◌≤◌, List, [], ◌∷◌, length, map, refl, sym, ap, subst, ◌∙◌, arith}
use Rattle.std.specs.List.{range_with_len}
use Rattle.std.proofs.lemmas.Bool.{ne_eqb}
use Rattle.std.proofs.lemmas.List.{length-append}
use Rattle.flow_rules.specs.declared.rules.Rule.{Rule}
use Rattle.update_model.specs.Remaining.{changes_between, changes_from, remaining_changes}
use Rattle.ring_sample.specs.Ring.{numbers_below, ring_table, ring_tables}

-- at a switch that has no destination
all_differ : (k : ℕ) → 4 ≤ k → length (changes_between (record { 0 = k }) (ring_table 2 k) (ring_table 3 k)) ≡ 4
all_differ k past = rw (ne_eqb k 0 (λ e. omega arith), ne_eqb k 1 (λ e. omega arith), ne_eqb k 2 (λ e. omega arith), ne_eqb k 3 (λ e. omega arith)) refl

-- at one that has one
three_differ : (length (changes_between (record { 0 = 0 }) (ring_table 2 0) (ring_table 3 0)) ≡ 3) × (length (changes_between (record { 0 = 1 }) (ring_table 2 1) (ring_table 3 1)) ≡ 3)
    × (length (changes_between (record { 0 = 2 }) (ring_table 2 2) (ring_table 3 2)) ≡ 3) × (length (changes_between (record { 0 = 3 }) (ring_table 2 3) (ring_table 3 3)) ≡ 3)
three_differ = (refl, refl, refl, refl)

one_more : (k : ℕ) (now new : List Rule) (nows news : List (List Rule)) → length (changes_from k (now ∷ nows) (new ∷ news)) ≡ length (changes_between (record { 0 = k }) now new) + length (changes_from (suc k) nows news)
one_more k now new nows news = length-append (changes_between (record { 0 = k }) now new) (changes_from (suc k) nows news)

abbrev changes_on : ℕ → ℕ → ℕ
changes_on k m = length (changes_from k (map (ring_table 2) (range_with_len k m)) (map (ring_table 3) (range_with_len k m)))

more_on : (k m : ℕ) → changes_on k (suc m) ≡ length (changes_between (record { 0 = k }) (ring_table 2 k) (ring_table 3 k)) + changes_on (k + 1) m
more_on k m =
    let next : suc k ≡ k + 1 = omega arith in
    one_more k (ring_table 2 k) (ring_table 3 k) (map (ring_table 2) (range_with_len (k + 1) m)) (map (ring_table 3) (range_with_len (k + 1) m))
    ∙ ap (λ (s : ℕ). length (changes_between (record { 0 = k }) (ring_table 2 k) (ring_table 3 k)) + length (changes_from s (map (ring_table 2) (range_with_len (k + 1) m)) (map (ring_table 3) (range_with_len (k + 1) m)))) next

far_on : (m k : ℕ) → 4 ≤ k → changes_on k m ≡ 4 * m
far_on zero k past = refl
far_on (suc m) k past = omega (arith, more_on k m, all_differ k past, far_on m (k + 1) (omega arith))

all_on : (m : ℕ) → changes_on 0 (suc (suc (suc (suc m)))) ≡ 12 + 4 * m
all_on m =
    omega (arith, more_on 0 (suc (suc (suc m))), more_on 1 (suc (suc m)), more_on 2 (suc m), more_on 3 m, three_differ.0, three_differ.1, three_differ.2, three_differ.3, far_on m 4 (omega arith))

pub changes_are : (n : ℕ) → 4 ≤ n → length (remaining_changes (ring_tables n 2) (ring_tables n 3)) ≡ 4 * (n - 1)
unfolding ring_tables
changes_are n some =
    let m : ℕ = n - 4 in
    let is : suc (suc (suc (suc m))) ≡ n = omega arith in
    subst (λ (k : ℕ). changes_on 0 k ≡ 4 * (k - 1)) is (omega (arith, all_on m))
