-- Numbers in slots, of which each leads back to the one before it in its slot.
use Rattle.std.proofs.Common.{◌≡◌, ◌≢◌, ◌⊎◌, ℕ, suc, ◌+◌, ◌-◌, ◌<◌, ◌≤◌, List, [], ◌∷◌, ◌++◌, map, length, get_or, set, refl, sym, ◌∙◌, ap, inl, inr, arith, length-append, get_or-set_same, get_or-set_other}
use Rattle.std.specs.Prelude.{slice_get, option_map, unwrap_or, Some}
use Rattle.std.proofs.lemmas.Bool.{cases_eq, cases_lt}
use Rattle.std.proofs.lemmas.List.{get_or_append_left, get_or_push, length-map}
use Rattle.std.proofs.lemmas.Option.{slice_get-map, slice_get_within, get_or_from_slice_get}
use Rattle.net_base.specs.Members.{IsIn}
use Rattle.net_base.specs.declared.ids.Place.{Place}
use Rattle.mixed_walks.specs.Chained.{IsChained}
use Rattle.mixed_walks.specs.Marked.{slot_number}

-- nothing is in empty slots
pub chained_none : (slots : List ℕ) → ((n : ℕ) → get_or slots n 0 ≡ 0) → IsChained [] slots []
chained_none slots empty = record {
  long = refl;
  last = λ n i le lt. absurd (omega arith);
  own = λ n lt. absurd (let e = empty n in omega arith);
  earlier = λ i lt. absurd (omega arith);
  between = λ i j lt le less. absurd (omega arith);
  same = λ i lt some. absurd (omega arith);
}

module _ (slot_of slots before : List ℕ) (is : IsChained slot_of slots before) (within : (n : ℕ) → get_or slots n 0 ≤ length slot_of) where
  -- one more in a slot, which leads back to the one that was named there
  pub chained_more : (n : ℕ) → n < length slots → (last : ℕ) → last ≡ length slot_of + 1
      → IsChained (slot_of ++ n ∷ []) (set slots n last) (before ++ get_or slots n 0 ∷ [])
  chained_more n near last is_last = record {
    long = length-append before (get_or slots n 0 ∷ []) ∙ ap (λ k. k + 1) is.long ∙ sym (length-append slot_of (n ∷ []));
    last = last_at;
    own = own_at;
    earlier = λ i lt. elim (old_or_new i lt) [
      | inl old ↦ let e = before_old i old in let le = is.earlier i old in omega arith
      | inr new ↦ let e = before_new i new in let w = within n in omega arith
    ];
    between = between_at;
    same = same_at;
  }
    where
      old_or_new : (i : ℕ) → i < length (slot_of ++ n ∷ []) → (i < length slot_of) ⊎ (i ≡ length slot_of)
      old_or_new i lt =
          let e = length-append slot_of (n ∷ []) in
          elim (cases_lt i (length slot_of)) [ inl less ↦ inl less | inr ge ↦ inr (omega arith) ]

      slot_old : (i : ℕ) → i < length slot_of → get_or (slot_of ++ n ∷ []) i 0 ≡ get_or slot_of i 0
      slot_old i lt = get_or_append_left slot_of (n ∷ []) 0 i lt

      slot_new : (i : ℕ) → i ≡ length slot_of → get_or (slot_of ++ n ∷ []) i 0 ≡ n
      slot_new i e = get_or_push slot_of n 0 i (sym e)

      before_old : (i : ℕ) → i < length slot_of → get_or (before ++ get_or slots n 0 ∷ []) i 0 ≡ get_or before i 0
      before_old i lt = get_or_append_left before (get_or slots n 0 ∷ []) 0 i (let e = is.long in omega arith)

      before_new : (i : ℕ) → i ≡ length slot_of → get_or (before ++ get_or slots n 0 ∷ []) i 0 ≡ get_or slots n 0
      before_new i e = get_or_push before (get_or slots n 0) 0 i (is.long ∙ sym e)

      set_here : (m : ℕ) → m ≡ n → get_or (set slots n last) m 0 ≡ last
      set_here m e = ap (λ k. get_or (set slots n last) k 0) e ∙ get_or-set_same slots n last 0 near

      set_there : (m : ℕ) → m ≢ n → get_or (set slots n last) m 0 ≡ get_or slots m 0
      set_there m ne = get_or-set_other slots n m last 0 ne

      last_at : (m i : ℕ) → get_or (set slots n last) m 0 ≤ i → i < length (slot_of ++ n ∷ []) → get_or (slot_of ++ n ∷ []) i 0 ≢ m
      last_at m i le lt e =
          elim (cases_eq m n) [
            | inl here ↦ let s = set_here m here in let l = length-append slot_of (n ∷ []) in absurd (omega arith)
            | inr ne ↦ elim (old_or_new i lt) [
              | inl old ↦ is.last m i (let s = set_there m ne in omega arith) old (sym (slot_old i old) ∙ e)
              | inr new ↦ ne (sym e ∙ slot_new i new)
            ]
          ]

      own_at : (m : ℕ) → 0 < get_or (set slots n last) m 0 → get_or (slot_of ++ n ∷ []) (get_or (set slots n last) m 0 - 1) 0 ≡ m
      own_at m some =
          elim (cases_eq m n) [
            | inl here ↦ slot_new (get_or (set slots n last) m 0 - 1) (let s = set_here m here in omega arith) ∙ sym here
            | inr ne ↦ (
                let there : get_or (set slots n last) m 0 ≡ get_or slots m 0 = set_there m ne in
                let w = within m in
                ap (λ k. get_or (slot_of ++ n ∷ []) (k - 1) 0) there ∙ slot_old (get_or slots m 0 - 1) (omega arith) ∙ is.own m (omega arith))
          ]

      between_at : (i j : ℕ) → i < length (slot_of ++ n ∷ []) → get_or (before ++ get_or slots n 0 ∷ []) i 0 ≤ j → j < i
          → get_or (slot_of ++ n ∷ []) j 0 ≢ get_or (slot_of ++ n ∷ []) i 0
      between_at i j lt le less e =
          elim (old_or_new i lt) [
            | inl old ↦ is.between i j old (let b = before_old i old in omega arith) less (sym (slot_old j (omega arith)) ∙ e ∙ slot_old i old)
            | inr new ↦ is.last n j (let b = before_new i new in omega arith) (omega arith) (sym (slot_old j (omega arith)) ∙ e ∙ slot_new i new)
          ]

      same_at : (i : ℕ) → i < length (slot_of ++ n ∷ []) → 0 < get_or (before ++ get_or slots n 0 ∷ []) i 0
          → get_or (slot_of ++ n ∷ []) (get_or (before ++ get_or slots n 0 ∷ []) i 0 - 1) 0 ≡ get_or (slot_of ++ n ∷ []) i 0
      same_at i lt some =
          elim (old_or_new i lt) [
            | inl old ↦ (
                let b : get_or (before ++ get_or slots n 0 ∷ []) i 0 ≡ get_or before i 0 = before_old i old in
                let le = is.earlier i old in
                ap (λ k. get_or (slot_of ++ n ∷ []) (k - 1) 0) b ∙ slot_old (get_or before i 0 - 1) (omega arith) ∙ is.same i old (omega arith) ∙ sym (slot_old i old))
            | inr new ↦ (
                let b : get_or (before ++ get_or slots n 0 ∷ []) i 0 ≡ get_or slots n 0 = before_new i new in
                let w = within n in
                ap (λ k. get_or (slot_of ++ n ∷ []) (k - 1) 0) b ∙ slot_old (get_or slots n 0 - 1) (omega arith) ∙ is.own n (omega arith) ∙ sym (slot_new i new))
          ]

-- the slot of a place of a list
pub slot_at : (places : List Place) (i : ℕ) (p : Place) → slice_get places i ≡ Some p → get_or (map slot_number places) i 0 ≡ slot_number p
slot_at places i p e = get_or_from_slice_get (map slot_number places) i (slot_number p) 0 (slice_get-map slot_number places i ∙ ap (option_map slot_number) e)

-- the place is none of those from a number on
abbrev pub IsNoneFrom : List Place → Place → ℕ → Type 0
IsNoneFrom places place from = (i : ℕ) (p : Place) → from ≤ i → slice_get places i ≡ Some p → p ≢ place

module _ (places : List Place) (slots before : List ℕ) (is : IsChained (map slot_number places) slots before) (place : Place) where
  within_slots : (i : ℕ) (p : Place) → slice_get places i ≡ Some p → i < length (map slot_number places)
  within_slots i p e = let l = length-map places slot_number in let w = slice_get_within places i p e in omega arith

  -- none behind the one that its slot names
  pub none_from_slot : (from : ℕ) → from ≡ get_or slots (slot_number place) 0 → IsNoneFrom places place from
  none_from_slot from e i p le at same =
      is.last (slot_number place) i (omega arith) (within_slots i p at) (slot_at places i p at ∙ ap slot_number same)

  -- none behind the one that a passed one leads back to
  pub none_from_before : (number : ℕ) → 0 < number → (passed : Place) → slice_get places (number - 1) ≡ Some passed → passed ≢ place
      → slot_number passed ≡ slot_number place → IsNoneFrom places place number → (from : ℕ) → from ≡ get_or before (number - 1) 0 → IsNoneFrom places place from
  none_from_before number some passed at ne alike none from e i p le here same =
      elim (cases_lt i number) [
        | inr ge ↦ none i p ge here same
        | inl lt ↦ elim (cases_eq i (number - 1)) [
          | inl k ↦ ne (some_same passed p (sym at ∙ ap (slice_get places) (sym k) ∙ here) ∙ same)
          | inr other ↦ is.between (number - 1) i (within_slots (number - 1) passed at) (omega arith) (omega arith)
              (slot_at places i p here ∙ ap slot_number same ∙ sym alike ∙ sym (slot_at places (number - 1) passed at))
        ]
      ]
    where
      some_same : (a b : Place) → Some a ≡ Some b → a ≡ b
      some_same a b e = ap (λ o. unwrap_or o a) e

  -- the one that its slot names shares it
  pub alike_in_slot : (from : ℕ) → from ≡ get_or slots (slot_number place) 0 → (p : Place) → 0 < from → slice_get places (from - 1) ≡ Some p
      → slot_number p ≡ slot_number place
  alike_in_slot from e p some at =
      sym (slot_at places (from - 1) p at) ∙ ap (λ k. get_or (map slot_number places) (k - 1) 0) e ∙ is.own (slot_number place) (omega arith)

  -- the one that a passed one leads back to shares its slot, and stands before it
  pub alike_before : (number : ℕ) → 0 < number → (passed : Place) → slice_get places (number - 1) ≡ Some passed → slot_number passed ≡ slot_number place
      → (from : ℕ) → from ≡ get_or before (number - 1) 0 → (p : Place) → 0 < from → slice_get places (from - 1) ≡ Some p → slot_number p ≡ slot_number place
  alike_before number some passed at alike from e p more here =
      sym (slot_at places (from - 1) p here) ∙ ap (λ k. get_or (map slot_number places) (k - 1) 0) e
      ∙ is.same (number - 1) (within_slots (number - 1) passed at) (omega arith) ∙ slot_at places (number - 1) passed at ∙ alike

  pub earlier_before : (number : ℕ) → (passed : Place) → slice_get places (number - 1) ≡ Some passed → (from : ℕ) → from ≡ get_or before (number - 1) 0 → from ≤ number - 1
  earlier_before number passed at from e = let le = is.earlier (number - 1) (within_slots (number - 1) passed at) in omega arith

-- a place that is none from the first on isn't in the list
pub none_at_all : (places : List Place) (place : Place) → IsNoneFrom places place 0 → ¬ IsIn place places
none_at_all [] place none i = i
none_at_all (p ∷ places) place none i =
    elim i [
      | inl e ↦ none 0 p (omega arith) refl (sym e)
      | inr j ↦ none_at_all places place (λ k q le at. none (suc k) q (omega arith) at) j
    ]
