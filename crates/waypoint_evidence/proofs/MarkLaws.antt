-- A set of switches as 128 marks.
use Rattle.std.proofs.Common.{◌≡◌, ◌≢◌, ◌==◌, ◌<◌, ℕ, zero, suc, ◌+◌, Bool, true, false, IsTrue, List, [], ◌∷◌, ◌++◌, length, take, length-set, get_or, set, replicate, refl, sym, ap, ◌∙◌, subst, inl, inr, arith, add-zero, add-one}
use Rattle.std.proofs.lemmas.Bool.{cases_eq}
use Rattle.std.proofs.lemmas.List.{ext_get_or, get_or-set_same, get_or-set_other, get_or-replicate}
use Rattle.std.proofs.lemmas.List.FromFn.{length-map-range_with_len, get_or-map-range_with_len}
use Rattle.std.specs.Int.{bit_at}
use Rattle.net_base.specs.declared.ids.SwitchId.{SwitchId}
use Rattle.net_base.specs.Switches.{has, most_switches}
use Rattle.waypoint_evidence.specs.Befores.{marks_in, marked_from}

pub length_marks : (bits : ℕ) → length (marks_in bits) ≡ most_switches
unfolding marks_in
length_marks bits = length-map-range_with_len (λ n. bit_at bits n == 1) 0 most_switches

pub mark_at : (bits n : ℕ) → n < most_switches → get_or (marks_in bits) n false ≡ (bit_at bits n == 1)
unfolding marks_in
mark_at bits n less = get_or-map-range_with_len (λ n. bit_at bits n == 1) 0 most_switches n n false less (omega arith)

-- marks of which each is as in a list of so many
pub marks_are : (bits : ℕ) (marks : List Bool) → length marks ≡ most_switches → ((n : ℕ) → n < most_switches → (bit_at bits n == 1) ≡ get_or marks n false) → marks_in bits ≡ marks
marks_are bits marks len each =
    ext_get_or false (marks_in bits) marks (length_marks bits ∙ sym len) (λ n less. let within : n < most_switches = subst (λ l. n < l) (length_marks bits) less in mark_at bits n within ∙ each n within)

-- no switch has a mark
pub none_marked : (bits : ℕ) → ((s : SwitchId) → has bits s ≡ false) → marked_from 0 (marks_in bits) ≡ []
none_marked bits none =
    ap (λ (marks : List Bool). marked_from 0 marks)
    (marks_are bits (replicate most_switches false) refl (λ n less. none (record { 0 = n }) ∙ sym (get_or-replicate most_switches n false false less)))

-- one more switch has a mark
pub one_more : (old new : ℕ) (s : SwitchId) → s.0 < most_switches → IsTrue (has new s) → ((t : SwitchId) → t.0 ≢ s.0 → has new t ≡ has old t) → marks_in new ≡ set (marks_in old) s.0 true
one_more old new s within there others =
    let m = s.0 in
    marks_are new (set (marks_in old) m true) (length-set (marks_in old) m true ∙ length_marks old) (λ n less. elim (cases_eq n m) [
      | inl e ↦ subst (λ k. (bit_at new k == 1) ≡ get_or (set (marks_in old) m true) k false) (sym e)
          (there ∙ sym (get_or-set_same (marks_in old) m true false (subst (λ l. m < l) (sym (length_marks old)) within)))
      | inr ne ↦ others (record { 0 = n }) ne ∙ sym (mark_at old n less) ∙ sym (get_or-set_other (marks_in old) m n true false ne)
    ])

-- the marks that were read so far are those of the bits
pub list_more : (bits n : ℕ) (marks : List Bool) → n < most_switches → length marks ≡ most_switches → ((k : ℕ) → k < n → get_or marks k false ≡ (bit_at bits k == 1))
    → (k : ℕ) → k < n + 1 → get_or (set marks n (bit_at bits n == 1)) k false ≡ (bit_at bits k == 1)
list_more bits n marks less len so_far k within = elim (cases_eq k n) [
  | inl e ↦ subst (λ m. get_or (set marks n (bit_at bits n == 1)) m false ≡ (bit_at bits m == 1)) (sym e) (get_or-set_same marks n (bit_at bits n == 1) false (subst (λ l. n < l) (sym len) less))
  | inr ne ↦ get_or-set_other marks n k (bit_at bits n == 1) false ne ∙ so_far k (omega arith)
]

on_from : (first i : ℕ) (marks : List Bool) → i < length marks → get_or marks i false ≡ true → marked_from first (take (suc i) marks) ≡ marked_from first (take i marks) ++ (first + i) ∷ []
on_from first i [] lt on = absurd (omega arith)
on_from first zero (true ∷ marks) lt on = rw add-zero refl
on_from first zero (false ∷ marks) lt on = absurd cc
on_from first (suc i) (true ∷ marks) lt on = ap (λ l. first ∷ l) (on_from (first + 1) i marks (omega arith) on ∙ ap (λ n. marked_from (first + 1) (take i marks) ++ n ∷ []) (omega arith))
on_from first (suc i) (false ∷ marks) lt on = on_from (first + 1) i marks (omega arith) on ∙ ap (λ n. marked_from (first + 1) (take i marks) ++ n ∷ []) (omega arith)

off_from : (first i : ℕ) (marks : List Bool) → i < length marks → get_or marks i false ≡ false → marked_from first (take (suc i) marks) ≡ marked_from first (take i marks)
off_from first i [] lt off = absurd (omega arith)
off_from first zero (true ∷ marks) lt off = absurd cc
off_from first zero (false ∷ marks) lt off = refl
off_from first (suc i) (true ∷ marks) lt off = ap (λ l. first ∷ l) (off_from (first + 1) i marks (omega arith) off)
off_from first (suc i) (false ∷ marks) lt off = off_from (first + 1) i marks (omega arith) off

-- the numbers up to a mark that is on, and one that is off
pub marked_on : (marks : List Bool) (i : ℕ) → i < length marks → get_or marks i false ≡ true → marked_from 0 (take (i + 1) marks) ≡ marked_from 0 (take i marks) ++ i ∷ []
marked_on marks i within on = let from_zero : 0 + i ≡ i = omega arith in rw add-one (on_from 0 i marks within on ∙ ap (λ (n : ℕ). marked_from 0 (take i marks) ++ n ∷ []) from_zero)

pub marked_off : (marks : List Bool) (i : ℕ) → i < length marks → get_or marks i false ≡ false → marked_from 0 (take (i + 1) marks) ≡ marked_from 0 (take i marks)
marked_off marks i within off = rw add-one (off_from 0 i marks within off)
