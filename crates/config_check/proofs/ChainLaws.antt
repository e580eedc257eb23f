-- How far a chain of waypoints is met.
use Rattle.std.proofs.Common.{◌≡◌, ℕ, suc, ◌+◌, ◌<◌, ◌≤◌, true, false, cond, List, [], ◌∷◌, ◌++◌, length, drop, get_or, refl, sym, ◌∙◌, ap, inl, inr, drop-cons, add-one}
use Rattle.std.specs.Prelude.{◌==◌}
use Rattle.std.proofs.Math.ListN.{drop_of_length-le}
use Rattle.std.proofs.lemmas.Bool.{eqb-true, eq-eqb, ne_eqb, both_ways}
use Rattle.net_base.specs.Members.{IsSubsequence}
use Rattle.net_base.proofs.NameLaws.{same_switch}
use Rattle.net_base.specs.declared.ids.SwitchId.{SwitchId}
use Rattle.net_base.specs.declared.ids.Stop.{Stop}
use Rattle.demands.specs.Good.{switches_of}
use Rattle.config_check.specs.Broken.{IsMetUpTo}

-- what is left of a chain after switches
abbrev pub left_of : List SwitchId → List SwitchId → List SwitchId
left_of [] ys = []
left_of (x ∷ xs) [] = x ∷ xs
left_of (x ∷ xs) (y ∷ ys) = cond (x.0 == y.0) (left_of xs ys) (left_of (x ∷ xs) ys)

-- without its first member a subsequence is one
without_first : (x : SwitchId) (xs ys : List SwitchId) → IsSubsequence (x ∷ xs) ys → IsSubsequence xs ys
without_first x [] ys h = tt
without_first x (w ∷ xs) [] h = absurd h
without_first x (w ∷ xs) (y ∷ ys) (inl h) = inr h.1
without_first x (w ∷ xs) (y ∷ ys) (inr h) = inr (without_first x (w ∷ xs) ys h)

-- what begins a subsequence is one
pub first_part : (xs ys zs : List SwitchId) → IsSubsequence (xs ++ ys) zs → IsSubsequence xs zs
first_part [] ys zs h = tt
first_part (x ∷ xs) ys [] h = absurd h
first_part (x ∷ xs) ys (z ∷ zs) (inl h) = inl (h.0, first_part xs ys zs h.1)
first_part (x ∷ xs) ys (z ∷ zs) (inr h) = inr (first_part (x ∷ xs) ys zs h)

-- a subsequence of a list is one of a longer list
one_more : (xs ys : List SwitchId) (y : SwitchId) → IsSubsequence xs ys → IsSubsequence xs (y ∷ ys)
one_more [] ys y h = tt
one_more (x ∷ xs) ys y h = inr h

-- a chain of which nothing is left is met
pub all_met : (chain switches : List SwitchId) → left_of chain switches ≡ [] → IsSubsequence chain switches
all_met [] switches e = tt
all_met (x ∷ xs) [] e = absurd (let f : x ∷ xs ≡ [] = e in cc)
all_met (x ∷ xs) (y ∷ ys) e =
    elim (x.0 == y.0) as (λ b. x.0 == y.0 ≡ b → cond b (left_of xs ys) (left_of (x ∷ xs) ys) ≡ [] → IsSubsequence (x ∷ xs) (y ∷ ys)) [
      | true ↦ λ same f. inl (same_switch x y (eqb-true x.0 y.0 same), all_met xs ys f)
      | false ↦ λ _ f. inr (all_met (x ∷ xs) ys f)
    ] refl e

-- a chain that begins with another switch needs the rest of the list
needs_rest : (x y : SwitchId) (xs front back ys : List SwitchId) (w : SwitchId) → x.0 == y.0 ≡ false → x ∷ xs ≡ front ++ w ∷ back → IsSubsequence (front ++ w ∷ []) (y ∷ ys) → IsSubsequence (front ++ w ∷ []) ys
needs_rest x y xs [] back ys w differ e (inl h) = let f : x ≡ w = cc in absurd (both_ways (x.0 == y.0) differ (eq-eqb x.0 y.0 (ap (λ (s : SwitchId). s.0) (f ∙ h.0))))
needs_rest x y xs [] back ys w differ e (inr h) = h
needs_rest x y xs (z ∷ front) back ys w differ e (inl h) = let f : x ≡ z = cc in absurd (both_ways (x.0 == y.0) differ (eq-eqb x.0 y.0 (ap (λ (s : SwitchId). s.0) (f ∙ h.0))))
needs_rest x y xs (z ∷ front) back ys w differ e (inr h) = h

-- otherwise it is met up to the first waypoint that is left
pub met_up_to : (chain switches : List SwitchId) (w : SwitchId) (back : List SwitchId) → left_of chain switches ≡ w ∷ back → IsMetUpTo chain switches w
met_up_to [] switches w back e = absurd (let f : [] ≡ w ∷ back = e in cc)
met_up_to (x ∷ xs) [] w back e = record { front = []; back = back; chain_is = e; front_met = tt; missed = λ h. h }
met_up_to (x ∷ xs) (y ∷ ys) w back e =
    elim (x.0 == y.0) as (λ b. x.0 == y.0 ≡ b → cond b (left_of xs ys) (left_of (x ∷ xs) ys) ≡ w ∷ back → IsMetUpTo (x ∷ xs) (y ∷ ys) w) [
      | true ↦ λ same f. (
          let rest = met_up_to xs ys w back f in
          record {
            front = x ∷ rest.front;
            back = rest.back;
            chain_is = ap (λ zs. x ∷ zs) rest.chain_is;
            front_met = inl (same_switch x y (eqb-true x.0 y.0 same), rest.front_met);
            missed = λ h. elim h [ inl k ↦ rest.missed k.1 | inr k ↦ rest.missed (without_first x (rest.front ++ w ∷ []) ys k) ];
          })
      | false ↦ λ differ f. (
          let rest = met_up_to (x ∷ xs) ys w back f in
          record {
            front = rest.front;
            back = rest.back;
            chain_is = rest.chain_is;
            front_met = one_more rest.front ys y rest.front_met;
            missed = λ h. rest.missed (needs_rest x y xs rest.front rest.back ys w differ rest.chain_is h);
          })
    ] refl e

-- one stop more of a walk along which a chain is met
module _ (chain : List SwitchId) (stops : List Stop) (met i : ℕ) (d : SwitchId) (e : Stop) (within : i < length stops) where
  pub left_met : met < length chain → (get_or chain met d).0 ≡ (get_or stops i e).switch.0
      → left_of (drop (met + 1) chain) (switches_of (drop (i + 1) stops)) ≡ left_of (drop met chain) (switches_of (drop i stops))
  left_met more same =
      rw (add-one met, add-one i, drop-cons stops i e within, drop-cons chain met d more, eq-eqb (get_or chain met d).0 (get_or stops i e).switch.0 same) refl

  pub left_other : met < length chain → ¬ ((get_or chain met d).0 ≡ (get_or stops i e).switch.0)
      → left_of (drop met chain) (switches_of (drop (i + 1) stops)) ≡ left_of (drop met chain) (switches_of (drop i stops))
  left_other more differ =
      rw (add-one i, drop-cons stops i e within, drop-cons chain met d more, ne_eqb (get_or chain met d).0 (get_or stops i e).switch.0 differ) refl

  pub left_none : length chain ≤ met → left_of (drop met chain) (switches_of (drop (i + 1) stops)) ≡ left_of (drop met chain) (switches_of (drop i stops))
  left_none all = rw (drop_of_length-le chain {i = met} all) refl

-- at the end of the walk
pub left_at_end : (chain : List SwitchId) (stops : List Stop) (met i : ℕ) (d : SwitchId) → length stops ≤ i → met < length chain → left_of (drop met chain) (switches_of (drop i stops)) ≡ left_of chain (switches_of stops)
    → IsMetUpTo chain (switches_of stops) (get_or chain met d)
left_at_end chain stops met i d past more left = met_up_to chain (switches_of stops) (get_or chain met d) (drop (suc met) chain) (sym left ∙ rw (drop_of_length-le stops {i = i} past, drop-cons chain met d more) refl)

pub met_at_end : (chain : List SwitchId) (stops : List Stop) (met i : ℕ) → length chain ≤ met → left_of (drop met chain) (switches_of (drop i stops)) ≡ left_of chain (switches_of stops)
    → IsSubsequence chain (switches_of stops)
met_at_end chain stops met i all left = all_met chain (switches_of stops) (sym left ∙ rw (drop_of_length-le chain {i = met} all) refl)
