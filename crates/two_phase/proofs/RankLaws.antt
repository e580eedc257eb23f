-- The ranks ascend, each once, and every ingress rule has one of them.
use Rattle.std.proofs.Common.{◌≡◌, ℕ, zero, suc, ◌<◌, ◌≤◌, cond, List, [], ◌∷◌, ◌++◌, map, length, refl, sym, subst, ap, inl, inr, arith}
use Rattle.std.specs.Prelude.{◌==◌, nat_lt, flat_map, reverse}
use Rattle.std.proofs.lemmas.List.{reverse-append, length-reverse}
use Rattle.std.proofs.lemmas.Bool.{ltb-true, ltb-false, eqb-false, cond_both}
use Rattle.net_base.specs.Members.{IsIn}
use Rattle.net_base.proofs.MemberLaws.{in_append_left, in_append_right, in_append_cases, in_map}
use Rattle.net_base.specs.declared.ids.SwitchId.{SwitchId}
use Rattle.topology.specs.Networks.{Network, switch_count}
use Rattle.flow_rules.specs.Tables.{rules_at}
use Rattle.flow_rules.specs.declared.rules.Rule.{Rule}
use Rattle.dest_classes.specs.Classes.{with_number, ascending_numbers}
use Rattle.dest_classes.proofs.ClassLaws.{in_ascending}
use Rattle.net_base.specs.Numbers.{numbers_from}
use Rattle.two_phase.specs.TwoPhasePlan.{ingress_rules, switches, ranks}
use Rattle.net_base.proofs.ListLaws.{in_flat_map}
use Rattle.net_base.proofs.NumberLaws.{in_numbers}
use Rattle.dest_classes.proofs.RisingLaws.{in_from_with}
use Rattle.two_phase.proofs.LayerLaws.{IsChained, IsLayering}

-- each number is less than those after it, or greater
abbrev pub IsRising : List ℕ → Type 0
IsRising xs = IsChained (λ x y. x < y) xs

abbrev pub IsFalling : List ℕ → Type 0
IsFalling xs = IsChained (λ x y. y < x) xs

rising_with : (x : ℕ) (ys : List ℕ) → IsRising ys → IsRising (with_number x ys)
rising_with x [] rising = (λ y i. absurd i, tt)
rising_with x (y ∷ ys) rising =
    cond_both (nat_lt x y) (x ∷ y ∷ ys) (cond (x == y) (y ∷ ys) (y ∷ with_number x ys)) IsRising
    (λ less. let l = ltb-true x y less in (λ z i. elim i [ inl e ↦ omega arith | inr j ↦ (let h = rising.0 z j in omega arith) ], rising))
    (λ not_less. cond_both (x == y) (y ∷ ys) (y ∷ with_number x ys) IsRising (λ _. rising)
    (λ differ. let l = ltb-false x y not_less in let ne = eqb-false x y differ in (
      λ z i. elim (in_from_with x z ys i) [ inl e ↦ more y x z e l ne | inr j ↦ rising.0 z j ],
      rising_with x ys rising.1,
    )))
  where
    strict : (a b : ℕ) → a ≤ b → ¬ (b ≡ a) → a < b
    strict zero zero le ne = absurd (ne refl)
    strict zero (suc b) le ne = omega arith
    strict (suc a) zero le ne = absurd (omega arith)
    strict (suc a) (suc b) le ne = let h = strict a b (omega arith) (λ e. ne (ap suc e)) in omega arith

    more : (y x z : ℕ) → z ≡ x → y ≤ x → ¬ (x ≡ y) → y < z
    more y x z e le ne = let h = strict y x le ne in omega arith

pub rising_ascent : (xs : List ℕ) → IsRising (ascending_numbers xs)
rising_ascent [] = tt
rising_ascent (x ∷ xs) = rising_with x (ascending_numbers xs) (rising_ascent xs)

falling_push : (xs : List ℕ) (x : ℕ) → IsFalling xs → ((y : ℕ) → IsIn y xs → x < y) → IsFalling (xs ++ x ∷ [])
falling_push [] x falling above = (λ y i. absurd i, tt)
falling_push (z ∷ xs) x falling above = (
  λ y i. elim (in_append_cases y xs (x ∷ []) i) [
    | inl j ↦ falling.0 y j
    | inr j ↦ elim j [ inl e ↦ (let h = above z (inl refl) in omega arith) | inr k ↦ absurd k ]
  ],
  falling_push xs x falling.1 (λ y i. above y (inr i)),
)

-- the list reversed, one member at a time
reverse_cons : (x : ℕ) (xs : List ℕ) → reverse (x ∷ xs) ≡ reverse xs ++ x ∷ []
reverse_cons x xs = reverse-append (x ∷ []) xs

pub from_reverse : (x : ℕ) (xs : List ℕ) → IsIn x (reverse xs) → IsIn x xs
from_reverse x [] i = i
from_reverse x (y ∷ xs) i = elim (in_append_cases x (reverse xs) (y ∷ []) (subst (IsIn x) (reverse_cons y xs) i)) [ inl j ↦ inr (from_reverse x xs j) | inr j ↦ elim j [ inl e ↦ inl e | inr k ↦ absurd k ] ]

pub in_reverse : (x : ℕ) (xs : List ℕ) → IsIn x xs → IsIn x (reverse xs)
in_reverse x [] i = i
in_reverse x (y ∷ xs) (inl e) = subst (IsIn x) (sym (reverse_cons y xs)) (in_append_right x (reverse xs) (y ∷ []) (inl e))
in_reverse x (y ∷ xs) (inr i) = subst (IsIn x) (sym (reverse_cons y xs)) (in_append_left x (reverse xs) (y ∷ []) (in_reverse x xs i))

pub falling_reverse : (xs : List ℕ) → IsRising xs → IsFalling (reverse xs)
falling_reverse [] rising = tt
falling_reverse (x ∷ xs) rising = subst IsFalling (sym (reverse_cons x xs)) (falling_push (reverse xs) x (falling_reverse xs rising.1) (λ y i. rising.0 y (from_reverse y xs i)))

pub has_rank : (net : Network) (new : List (List Rule)) (s : SwitchId) → s.0 < switch_count net → (r : Rule) → IsIn r (ingress_rules net s (rules_at new s)) → IsIn r.key.priority (ranks net new)
has_rank net new s inside r i =
    in_ascending r.key.priority (32768 ∷ flat_map there (switches net))
    (inr (in_flat_map there s r.key.priority (switches net)
    (in_map (λ (n : ℕ). let s : SwitchId = record { 0 = n } in s) s.0 (numbers_from 0 (switch_count net)) (in_numbers 0 (switch_count net) s.0 (omega arith) (omega arith)))
    (in_map (λ r. r.key.priority) r (ingress_rules net s (rules_at new s)) i)))
  where
    there : SwitchId → List ℕ
    there s = map (λ r. r.key.priority) (ingress_rules net s (rules_at new s))

pub ranks_rise : (net : Network) (new : List (List Rule)) → IsRising (ranks net new)
ranks_rise net new = rising_ascent (32768 ∷ flat_map (λ s. map (λ r. r.key.priority) (ingress_rules net s (rules_at new s))) (switches net))

-- the ranks are a layering: descending priorities are laid, and ascending ones taken away
pub rank_layering : (net : Network) (new : List (List Rule)) → IsLayering net new (λ s r. r.key.priority) (λ a b. b < a) (length (ranks net new)) (reverse (ranks net new)) (ranks net new)
rank_layering net new = record {
  apart = λ a b less more. absurd (omega arith);
  up = λ s inside p q i j h c d less. less;
  laying = falling_reverse (ranks net new) (ranks_rise net new);
  taking = ranks_rise net new;
  laid_count = length-reverse (ranks net new);
  taken_count = refl;
  in_laid = λ s inside r i. in_reverse r.key.priority (ranks net new) (has_rank net new s inside r i);
  in_taken = has_rank net new;
}
