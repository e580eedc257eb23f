-- How many switches of a chain are met along switches, each as soon as it can be.
use Rattle.std.proofs.Common.{◌≡◌, ◌↔◌, ℕ, zero, suc, ◌+◌, ◌-◌, ◌≤◌, Bool, true, false, cond, List, [], ◌∷◌, length, drop, refl, sym, ◌∙◌, ap, inl, inr, arith}
use Rattle.std.specs.Prelude.{slice_get, Option, Some, None, ◌==◌}
use Rattle.std.specs.Option.{option_map_or}
use Rattle.std.proofs.Math.Seq.{drop-nil, drop-length}
use Rattle.std.proofs.lemmas.Bool.{eqb-true, eq-eqb, both_ways}
use Rattle.std.proofs.lemmas.List.{length-drop}
use Rattle.std.proofs.lemmas.Option.{slice_get_within}
use Rattle.net_base.specs.Members.{IsSubsequence}
use Rattle.net_base.specs.declared.ids.SwitchId.{SwitchId}
use Rattle.breaking_walks.specs.Trails.{met_after}

-- how many are met along switches
abbrev pub met_along : List SwitchId → ℕ → List SwitchId → ℕ
met_along chain met [] = met
met_along chain met (s ∷ switches) = met_along chain (met_after chain met s) switches

-- what is left of a chain after a switch, and along switches
abbrev left_after : List SwitchId → SwitchId → List SwitchId
left_after [] s = []
left_after (t ∷ chain) s = cond (t.0 == s.0) chain (t ∷ chain)

abbrev left_along : List SwitchId → List SwitchId → List SwitchId
left_along chain [] = chain
left_along chain (s ∷ switches) = left_along (left_after chain s) switches

-- the switch that is next in the chain comes
abbrev comes : SwitchId → Option SwitchId → Bool
comes s o = option_map_or (λ (t : SwitchId). t.0 == s.0) o false

left_after_met : (chain : List SwitchId) (met : ℕ) (s : SwitchId) → drop (met_after chain met s) chain ≡ left_after (drop met chain) s
left_after_met [] met s =
    let none : drop met [] ≡ [] = drop-nil met in
    none ∙ ap (λ (xs : List SwitchId). left_after xs s) (sym none)
left_after_met (t ∷ chain) zero s =
    elim (t.0 == s.0) as (λ b. drop (cond b (0 + 1) 0) (t ∷ chain) ≡ cond b chain (t ∷ chain)) [ true ↦ refl | false ↦ refl ]
left_after_met (t ∷ chain) (suc met) s =
    elim (comes s (slice_get chain met)) as (λ b. drop (cond b (met + 1) met) chain ≡ left_after (drop met chain) s → drop (cond b (suc met + 1) (suc met)) (t ∷ chain) ≡ left_after (drop met chain) s) [
      | true ↦ λ h. let e : suc met + 1 ≡ suc (met + 1) = omega arith in ap (λ n. drop n (t ∷ chain)) e ∙ h
      | false ↦ λ h. h
    ] (left_after_met chain met s)

left_along_met : (chain : List SwitchId) (met : ℕ) (switches : List SwitchId) → drop (met_along chain met switches) chain ≡ left_along (drop met chain) switches
left_along_met chain met [] = refl
left_along_met chain met (s ∷ switches) =
    left_along_met chain (met_after chain met s) switches ∙ ap (λ xs. left_along xs switches) (left_after_met chain met s)

-- ---- what is left of a chain that is met

module _ {A : Type 0} where
  subsequence_grows : (xs : List A) (y : A) (ys : List A) → IsSubsequence xs ys → IsSubsequence xs (y ∷ ys)
  subsequence_grows [] y ys h = tt
  subsequence_grows (x ∷ xs) y ys h = inr h

  subsequence_tail : (x : A) (xs ys : List A) → IsSubsequence (x ∷ xs) ys → IsSubsequence xs ys
  subsequence_tail x xs [] h = absurd h
  subsequence_tail x xs (y ∷ ys) (inl h) = subsequence_grows xs y ys h.1
  subsequence_tail x xs (y ∷ ys) (inr h) = subsequence_grows xs y ys (subsequence_tail x xs ys h)

none_left : (switches : List SwitchId) → left_along [] switches ≡ []
none_left [] = refl
none_left (s ∷ switches) = none_left switches

left_if_met : (chain switches : List SwitchId) → IsSubsequence chain switches → left_along chain switches ≡ []
left_if_met [] switches h = none_left switches
left_if_met (t ∷ chain) [] h = absurd h
left_if_met (t ∷ chain) (s ∷ switches) h =
    elim (t.0 == s.0) as (λ b. (t.0 == s.0) ≡ b → left_along (cond b chain (t ∷ chain)) switches ≡ []) [
      | true ↦ λ _. left_if_met chain switches (elim h [ inl g ↦ g.1 | inr g ↦ subsequence_tail t chain switches g ])
      | false ↦ λ other. elim h [
        | inl g ↦ absurd (both_ways (t.0 == s.0) other (eq-eqb t.0 s.0 (ap (λ (x : SwitchId). x.0) g.0)))
        | inr g ↦ left_if_met (t ∷ chain) switches g
      ]
    ] refl

met_if_left : (chain switches : List SwitchId) → left_along chain switches ≡ [] → IsSubsequence chain switches
met_if_left [] switches h = tt
met_if_left (t ∷ chain) [] h = absurd (let e : t ∷ chain ≡ [] = h in cc)
met_if_left (t ∷ chain) (s ∷ switches) h =
    elim (t.0 == s.0) as (λ b. (t.0 == s.0) ≡ b → left_along (cond b chain (t ∷ chain)) switches ≡ [] → IsSubsequence (t ∷ chain) (s ∷ switches)) [
      | true ↦ λ same g. inl (let e : t.0 ≡ s.0 = eqb-true t.0 s.0 same in ap (λ (n : ℕ). let x : SwitchId = record { 0 = n } in x) e, met_if_left chain switches g)
      | false ↦ λ _ g. inr (met_if_left (t ∷ chain) switches g)
    ] refl h

-- ---- how many are met

met_after_within : (chain : List SwitchId) (met : ℕ) (s : SwitchId) → met ≤ length chain → met_after chain met s ≤ length chain
met_after_within chain met s le =
    elim (slice_get chain met) as (λ o. slice_get chain met ≡ o → cond (comes s o) (met + 1) met ≤ length chain) [
      | None ↦ λ _. le
      | Some t ↦ λ is.
          let within = slice_get_within chain met t is in
          elim (t.0 == s.0) as (λ b. cond b (met + 1) met ≤ length chain) [ true ↦ omega arith | false ↦ le ]
    ] refl

pub met_along_within : (chain : List SwitchId) (met : ℕ) (switches : List SwitchId) → met ≤ length chain → met_along chain met switches ≤ length chain
met_along_within chain met [] le = le
met_along_within chain met (s ∷ switches) le = met_along_within chain (met_after chain met s) switches (met_after_within chain met s le)

-- a chain is met exactly where all of its switches are
pub met_whole : (chain switches : List SwitchId) → IsSubsequence chain switches ↔ (met_along chain 0 switches ≡ length chain)
met_whole chain switches = (
  λ h.
      let none : drop met chain ≡ [] = left ∙ left_if_met chain switches h in
      let count : length (drop met chain) ≡ length chain - met = length-drop met chain in
      let zero_left : length (drop met chain) ≡ 0 = ap length none in
      let within = met_along_within chain 0 switches (omega arith) in
      omega arith,
  λ e. met_if_left chain switches (sym left ∙ ap (λ n. drop n chain) e ∙ drop-length chain),
)
  where
    met : ℕ
    met = met_along chain 0 switches

    left : drop (met_along chain 0 switches) chain ≡ left_along chain switches
    left = left_along_met chain 0 switches
