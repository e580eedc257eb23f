-- Lists of places with their slots.
use Rattle.std.proofs.Common.{◌≡◌, ◌↔◌, ◌⊎◌, ℕ, ◌+◌, ◌*◌, ◌/◌, ◌%◌, ◌<◌, ◌≤◌, List, [], ◌∷◌, ◌++◌, map, length, replicate, get_or, set, sym, ◌∙◌, subst, ap, inl, inr, arith, length-append, get_or-set_same, get_or-set_other}
use Rattle.std.proofs.lemmas.Bool.{cases_eq, cases_lt}
use Rattle.std.proofs.lemmas.List.{length-set, get_or_past, get_or-replicate, length-replicate}
use Rattle.net_base.specs.Members.{IsIn}
use Rattle.net_base.proofs.MemberLaws.{in_append_left, in_append_right, in_append_cases, in_map, map-push}
use Rattle.net_base.proofs.ItemLaws.{distinct_push}
use Rattle.net_base.specs.declared.ids.SwitchId.{SwitchId}
use Rattle.net_base.specs.declared.ids.Place.{Place}
use Rattle.mixed_walks.specs.Marked.{IsPlaceList, slot_number}
use Rattle.mixed_walks.specs.Walks.{switches_of}
use Rattle.mixed_walks.proofs.MarkedLaws.{in_push}
use Rattle.net_base.specs.Switches.{most_switches}

all_alike : {A : Type 0} (n : ℕ) (x : A) (m : ℕ) → get_or (replicate n x) m x ≡ x
all_alike n x m =
    elim (cases_lt m n) [
      | inl lt ↦ get_or-replicate n m x x lt
      | inr ge ↦ get_or_past (replicate n x) m x (let e = length-replicate n x in omega arith)
    ]

none_below : {n : ℕ} → n ≡ 0 → ¬ (0 < n)
none_below e lt = absurd (omega arith)

-- each slot of empty ones is empty
pub empty_slot : (bound : ℕ) (slots : List ℕ) → slots ≡ replicate bound 0 → (n : ℕ) → get_or slots n 0 ≡ 0
empty_slot bound slots e n = ap (λ xs. get_or xs n 0) e ∙ all_alike {A = ℕ} bound 0 n

-- no places, and empty slots
pub places_none : (bound capacity : ℕ) (slots : List ℕ) (switches : List SwitchId) → 8193 ≤ capacity → slots ≡ replicate bound 0 → switches ≡ [] → IsPlaceList bound [] capacity slots switches
places_none bound capacity slots switches room e none = record {
  room = room;
  once = tt;
  seen = λ s. subst (λ (xs : List SwitchId). IsIn s xs ↔ IsIn s (switches_of [])) (sym none) (λ i. i, λ i. i);
  count = ap length e ∙ length-replicate bound 0;
  within = λ n. let z = empty n in omega arith;
  marked = λ n. (λ i. absurd i, λ lt. absurd (none_below (empty n) lt));
}
  where
    empty : (n : ℕ) → get_or slots n 0 ≡ 0
    empty n = empty_slot bound slots e n

-- the slots of the places are emptied
abbrev pub AreEmptied : List ℕ → List Place → List ℕ → Type 0
AreEmptied slots places left = (n : ℕ) → 0 < get_or left n 0 → (0 < get_or slots n 0) × ¬ IsIn n (map slot_number places)

pub emptied_none : (slots : List ℕ) → AreEmptied slots [] slots
emptied_none slots n lt = (lt, λ i. i)

pub emptied_more : (slots : List ℕ) (places : List Place) (place : Place) (left : List ℕ) (m : ℕ) → m ≡ slot_number place → m < length left
    → AreEmptied slots places left → AreEmptied slots (places ++ place ∷ []) (set left m 0)
emptied_more slots places place left m is within emptied n lt =
    elim (cases_eq n m) [
      | inl e ↦ absurd (none_below (ap (λ j. get_or (set left m 0) j 0) e ∙ get_or-set_same left m 0 0 within) lt)
      | inr ne ↦ (
          let (was, out) = emptied n (subst (λ x. 0 < x) (get_or-set_other left m n 0 0 ne) lt) in (
            was,
            λ i. elim (in_append_cases n (map slot_number places) (slot_number place ∷ []) (subst (IsIn n) (map-push slot_number places place) i)) [
              | inl j ↦ out j
              | inr j ↦ elim j [ inl e ↦ ne (e ∙ sym is) | inr k ↦ absurd k ]
            ],
          ))
    ]

module _ (bound : ℕ) (places : List Place) (capacity : ℕ) (slots : List ℕ) (switches : List SwitchId) (is : IsPlaceList bound places capacity slots switches) where
  slot_below : (n : ℕ) → IsIn n (map slot_number places) → n < bound
  slot_below n i =
      elim (cases_lt n bound) [
        | inl lt ↦ lt
        | inr ge ↦ absurd (none_below (get_or_past slots n 0 (let c = is.count in omega arith)) ((is.marked n).0 i))
      ]

  pub place_below : (p : Place) → IsIn p places → slot_number p < bound
  place_below p i = slot_below (slot_number p) (in_map slot_number p places i)

  -- no place has an empty slot
  pub absent_place : (p : Place) → get_or slots (slot_number p) 0 ≡ 0 → ¬ IsIn p places
  absent_place p e i = none_below e ((is.marked (slot_number p)).0 (in_map slot_number p places i))

  -- one more place, whose switch is put, and whose number is put into its slot
  pub put_place : (place : Place) → ¬ IsIn place places → slot_number place < bound → (more : ℕ) → capacity ≤ more → (put : List SwitchId)
      → ((s : SwitchId) → IsIn s put ↔ (IsIn s switches ⊎ (s ≡ place.switch))) → (last : ℕ) → last ≡ length places + 1
      → IsPlaceList bound (places ++ place ∷ []) more (set slots (slot_number place) last) put
  put_place place absent near more room put members last is_last = record {
    room = (let r = is.room in omega arith);
    once = distinct_push places place is.once absent;
    seen = λ s. subst (λ (xs : List SwitchId). IsIn s put ↔ IsIn s xs) (sym (map-push (λ (p : Place). p.switch) places place)) (
      λ i. (in_push (switches_of places) place.switch s).1 (elim ((members s).0 i) [ inl j ↦ inl ((is.seen s).0 j) | inr e ↦ inr e ]),
      λ i. (members s).1 (elim ((in_push (switches_of places) place.switch s).0 i) [ inl j ↦ inl ((is.seen s).1 j) | inr e ↦ inr e ]),
    );
    count = length-set slots number last ∙ is.count;
    within = λ n. subst (λ m. get_or (set slots number last) n 0 ≤ m) (sym (length-append places (place ∷ []))) (
        elim (cases_eq n number) [
          | inl e ↦ let s = same n e in omega arith
          | inr ne ↦ let o = get_or-set_other slots number n last 0 ne in let w = is.within n in omega arith
        ]
        );
    marked = λ n. subst (λ xs. IsIn n xs ↔ (0 < get_or (set slots number last) n 0)) (sym (map-push slot_number places place)) (marked_at n);
  }
    where
      number : ℕ
      number = slot_number place

      same : (n : ℕ) → n ≡ slot_number place → get_or (set slots (slot_number place) last) n 0 ≡ last
      same n e = ap (λ m. get_or (set slots (slot_number place) last) m 0) e ∙ get_or-set_same slots (slot_number place) last 0 (let c = is.count in omega arith)

      marked_at : (n : ℕ) → IsIn n (map slot_number places ++ slot_number place ∷ []) ↔ (0 < get_or (set slots (slot_number place) last) n 0)
      marked_at n =
          elim (cases_eq n (slot_number place)) [
            | inl e ↦ (
                let some : 0 < get_or (set slots (slot_number place) last) n 0 = let s = same n e in omega arith in
                (λ _. some, λ _. in_append_right n (map slot_number places) (slot_number place ∷ []) (inl e)))
            | inr ne ↦ (
                let other : get_or (set slots (slot_number place) last) n 0 ≡ get_or slots n 0 = get_or-set_other slots (slot_number place) n last 0 ne in (
                  λ i. elim (in_append_cases n (map slot_number places) (slot_number place ∷ []) i) [
                    | inl j ↦ subst (λ m. 0 < m) (sym other) ((is.marked n).0 j)
                    | inr j ↦ elim j [ inl e ↦ absurd (ne e) | inr k ↦ absurd k ]
                  ],
                  λ lt. in_append_left n (map slot_number places) (slot_number place ∷ []) ((is.marked n).1 (subst (λ m. 0 < m) other lt)),
                ))
          ]

  -- where the slots of all were emptied, each is empty
  pub emptied_slot : (left : List ℕ) → AreEmptied slots places left → (n : ℕ) → get_or left n 0 ≡ 0
  emptied_slot left emptied n =
      elim (cases_lt 0 (get_or left n 0)) [
        | inl lt ↦ absurd (let (was, out) = emptied n lt in out ((is.marked n).1 was))
        | inr ge ↦ omega arith
      ]

  -- no places, where the slots of all were emptied
  pub places_cleared : (more : ℕ) (left : List ℕ) (none : List SwitchId) → capacity ≤ more → length left ≡ length slots → AreEmptied slots places left → none ≡ []
      → IsPlaceList bound [] more left none
  places_cleared more left none room same emptied is_none = record {
    room = (let r = is.room in omega arith);
    once = tt;
    seen = λ s. subst (λ (xs : List SwitchId). IsIn s xs ↔ IsIn s (switches_of [])) (sym is_none) (λ i. i, λ i. i);
    count = same ∙ is.count;
    within = λ n. elim (cases_lt 0 (get_or left n 0)) [ inl lt ↦ absurd (still n lt) | inr ge ↦ ge ];
    marked = λ n. (λ i. absurd i, λ lt. absurd (still n lt));
  }
    where
      still : (n : ℕ) → ¬ (0 < get_or left n 0)
      still n lt = let (was, out) = emptied n lt in out ((is.marked n).1 was)

-- the places are at switches with numbers below 128
pub place_near : (places : List Place) (capacity : ℕ) (slots : List ℕ) (switches : List SwitchId) → IsPlaceList 65536 places capacity slots switches → (p : Place) → IsIn p places → p.switch.0 < most_switches
place_near places capacity slots switches is p i =
    let below : p.switch.0 * 512 + p.port.0 * 40503 % 65536 / 128 < 65536 = place_below 65536 places capacity slots switches is p i in
    omega arith
