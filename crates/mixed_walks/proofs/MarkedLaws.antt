-- Lists in which each member stands once, with their marks.
use Rattle.std.proofs.Common.{◌≡◌, ◌≢◌, ◌↔◌, ◌⊎◌, ℕ, zero, suc, ◌<◌, ◌≤◌, Bool, true, false, IsTrue, List, [], ◌∷◌, ◌++◌, map, length, replicate, get_or, set, refl, sym, ◌∙◌, subst, ap, inl, inr, arith, get_or-set_same, get_or-set_other}
use Rattle.std.proofs.lemmas.Bool.{false≢true, cases_eq, cases_lt}
use Rattle.std.proofs.lemmas.List.{length-map, length-set, get_or_default, get_or_past, get_or-replicate, length-replicate}
use Rattle.net_base.specs.Members.{IsIn, IsDistinct}
use Rattle.net_base.specs.Switches.{has, most_switches}
use Rattle.net_base.proofs.MemberLaws.{in_append_left, in_append_right, in_append_cases, in_from_map, map-push, each_append}
use Rattle.net_base.proofs.ListLaws.{no_longer}
use Rattle.net_base.proofs.NameLaws.{same_switch}
use Rattle.net_base.proofs.ItemLaws.{distinct_push}
use Rattle.net_base.proofs.SetLaws.{set_none, set_more}
use Rattle.path_walk.proofs.StayLaws.{few_switches}
use Rattle.net_base.specs.declared.ids.SwitchId.{SwitchId}
use Rattle.acyclic_numbering.specs.declared.Edge.{Edge}
use Rattle.mixed_walks.specs.Marked.{IsMarked, IsSwitchList, IsNear, edge_number}

-- the numbers below a number
abbrev upto : ℕ → List ℕ
upto zero = []
upto (suc n) = n ∷ upto n

length-upto : (n : ℕ) → length (upto n) ≡ n
length-upto zero = refl
length-upto (suc n) = ap suc (length-upto n)

in_upto : (m n : ℕ) → m < n → IsIn m (upto n)
in_upto m zero lt = absurd (omega arith)
in_upto m (suc n) lt = elim (cases_eq m n) [ inl e ↦ inl e | inr ne ↦ inr (in_upto m n (omega arith)) ]

-- distinct numbers below a number are no more than it
few_numbers : (n : ℕ) (xs : List ℕ) → IsDistinct xs → ((m : ℕ) → IsIn m xs → m < n) → length xs ≤ n
few_numbers n xs once below = let few = no_longer xs (upto n) once (λ m i. in_upto m n (below m i)) in let e = length-upto n in omega arith

-- members of a list with one more
pub in_push : {A : Type 0} (xs : List A) (x y : A) → IsIn y (xs ++ x ∷ []) ↔ (IsIn y xs ⊎ (y ≡ x))
in_push xs x y = (
  λ i. elim (in_append_cases y xs (x ∷ []) i) [ inl j ↦ inl j | inr j ↦ elim j [ inl e ↦ inr e | inr k ↦ absurd k ] ],
  λ h. elim h [ inl j ↦ in_append_left y xs (x ∷ []) j | inr e ↦ in_append_right y xs (x ∷ []) (inl e) ],
)

-- nothing new where it stood there
pub in_still : {A : Type 0} (xs : List A) (x y : A) → IsIn x xs → IsIn y xs ↔ (IsIn y xs ⊎ (y ≡ x))
in_still xs x y i = (λ j. inl j, λ h. elim h [ inl j ↦ j | inr e ↦ subst (λ z. IsIn z xs) (sym e) i ])

no_mark : (n m : ℕ) → get_or (replicate n false) m false ≡ false
no_mark n m =
    elim (cases_lt m n) [
      | inl lt ↦ get_or-replicate n m false false lt
      | inr ge ↦ get_or_past (replicate n false) m false (let e = length-replicate n false in omega arith)
    ]

-- what was read of a mark
pub read_mark : (marks : List Bool) (n : ℕ) (r : Bool) → n < length marks → r ≡ get_or marks n r → get_or marks n false ≡ r
read_mark marks n r within e = get_or_default marks n false r within ∙ sym e

module _ {A : Type 0} (number : A → ℕ) (bound : ℕ) where
  -- no members, and no marks
  pub marked_none : (capacity : ℕ) (marks : List Bool) → bound ≤ capacity → marks ≡ replicate bound false → IsMarked number bound [] capacity marks
  marked_none capacity marks room e = record {
    count = ap length e ∙ length-replicate bound false;
    room = room;
    once = tt;
    marked = λ n. (λ i. absurd i, λ t. absurd (false≢true (sym (no_mark bound n) ∙ sym (ap (λ xs. get_or xs n false) e) ∙ t)));
  }

  module _ (list : List A) (capacity : ℕ) (marks : List Bool) (is : IsMarked number bound list capacity marks) where
    -- the numbers of the members are below the bound
    below : (n : ℕ) → IsIn n (map number list) → n < bound
    below n i =
        elim (cases_lt n bound) [
          | inl lt ↦ lt
          | inr ge ↦ (
              let past = get_or_past marks n false (let c = is.count in omega arith) in
              absurd (false≢true (sym past ∙ (is.marked n).0 i)))
        ]

    -- the mark says whether the member stands there, where no other member has its number
    pub marked_member : (x : A) → ((y : A) → IsIn y list → number x ≡ number y → x ≡ y) → get_or marks (number x) false ≡ true → IsIn x list
    marked_member x told t =
        let (y, i, e) = in_from_map number (number x) list ((is.marked (number x)).1 t) in
        subst (λ z. IsIn z list) (sym (told y i e)) i

    module _ (x : A) (near : number x < bound) (unmarked : get_or marks (number x) false ≡ false) where
      absent : ¬ IsIn (number x) (map number list)
      absent i = false≢true (sym unmarked ∙ (is.marked (number x)).0 i)

      -- there is room for one more
      pub room_for : length list < capacity
      room_for =
          let few = few_numbers bound (number x ∷ map number list) (absent, is.once) (λ m i. elim i [ inl e ↦ subst (λ n. n < bound) (sym e) near | inr j ↦ below m j ]) in
          let same = length-map list number in
          let room = is.room in
          omega arith

      -- the list with the member put
      pub marked_put : (more : ℕ) → capacity ≤ more → IsMarked number bound (list ++ x ∷ []) more (set marks (number x) true)
      marked_put more room = record {
        count = length-set marks (number x) true ∙ is.count;
        room = (let r = is.room in omega arith);
        once = subst IsDistinct (sym (map-push number list x)) (distinct_push (map number list) (number x) is.once absent);
        marked = λ n. subst (λ xs. IsIn n xs ↔ (get_or (set marks (number x) true) n false ≡ true)) (sym (map-push number list x)) (marks_at n);
      }
        where
          within : number x < length marks
          within = let c = is.count in omega arith

          marks_at : (n : ℕ) → IsIn n (map number list ++ number x ∷ []) ↔ (get_or (set marks (number x) true) n false ≡ true)
          marks_at n =
              elim (cases_eq n (number x)) [
                | inl e ↦ (
                    let same : get_or (set marks (number x) true) n false ≡ true = ap (λ m. get_or (set marks (number x) true) m false) e ∙ get_or-set_same marks (number x) true false within in
                    (λ _. same, λ _. in_append_right n (map number list) (number x ∷ []) (inl e)))
                | inr ne ↦ (
                    let other : get_or (set marks (number x) true) n false ≡ get_or marks n false = get_or-set_other marks (number x) n true false ne in (
                      λ i. elim (in_append_cases n (map number list) (number x ∷ []) i) [
                        | inl j ↦ other ∙ (is.marked n).0 j
                        | inr j ↦ elim j [ inl e ↦ absurd (ne e) | inr k ↦ absurd k ]
                      ],
                      λ t. in_append_left n (map number list) (number x ∷ []) ((is.marked n).1 (sym other ∙ t)),
                    ))
              ]

    -- no members, where the marks of all were taken away
    pub marked_cleared : (more : ℕ) (left : List Bool) → capacity ≤ more → length left ≡ length marks
        → ((n : ℕ) → get_or left n false ≡ true → (get_or marks n false ≡ true) × ¬ IsIn n (map number list)) → IsMarked number bound [] more left
    marked_cleared more left room same taken = record {
      count = same ∙ is.count;
      room = (let r = is.room in omega arith);
      once = tt;
      marked = λ n. (λ i. absurd i, λ t. let (was, out) = taken n t in absurd (out ((is.marked n).1 was)));
    }

module _ {A : Type 0} (number : A → ℕ) where
  -- the marks of the members so far are taken away
  abbrev pub AreTaken : List Bool → List A → List Bool → Type 0
  AreTaken marks list left = (n : ℕ) → get_or left n false ≡ true → (get_or marks n false ≡ true) × ¬ IsIn n (map number list)

  pub taken_none : (marks : List Bool) → AreTaken marks [] marks
  taken_none marks n t = (t, λ i. i)

  pub taken_more : (marks : List Bool) (list : List A) (x : A) (left : List Bool) (m : ℕ) → m ≡ number x → m < length left → AreTaken marks list left → AreTaken marks (list ++ x ∷ []) (set left m false)
  taken_more marks list x left m is within taken n t =
      elim (cases_eq n m) [
        | inl e ↦ absurd (false≢true (sym (ap (λ j. get_or (set left m false) j false) e ∙ get_or-set_same left m false false within) ∙ t))
        | inr ne ↦ (
            let (was, out) = taken n (sym (get_or-set_other left m n false false ne) ∙ t) in (
              was,
              λ i. elim (in_append_cases n (map number list) (number x ∷ []) (subst (IsIn n) (map-push number list x) i)) [
                | inl j ↦ out j
                | inr j ↦ elim j [ inl e ↦ ne (e ∙ sym is) | inr k ↦ absurd k ]
              ],
            ))
      ]

-- no switches
pub switches_none : (capacity set : ℕ) → most_switches ≤ capacity → ((s : SwitchId) → has set s ≡ false) → IsSwitchList [] capacity set
switches_none capacity set room none = record { room = room; once = tt; near = tt; members = set_none set none }

module _ (list : List SwitchId) (capacity set : ℕ) (is : IsSwitchList list capacity set) (s : SwitchId) (near : s.0 < most_switches) (absent : has set s ≡ false) where
  out : ¬ IsIn s list
  out i = false≢true (sym absent ∙ (is.members s).1 i)

  -- there is room for one more
  pub switch_fits : length list < capacity
  switch_fits = let few = few_switches most_switches (s ∷ list) (out, is.once) (near, is.near) in let room = is.room in omega arith

  -- the list with the switch put
  pub switches_more : (more new : ℕ) → capacity ≤ more → IsTrue (has new s) → ((t : SwitchId) → t.0 ≢ s.0 → has new t ≡ has set t) → IsSwitchList (list ++ s ∷ []) more new
  switches_more more new room there others = record {
    room = (let r = is.room in omega arith);
    once = distinct_push list s is.once out;
    near = each_append (λ t. t.0 < most_switches) list (s ∷ []) is.near (near, tt);
    members = set_more set new list s there others is.members;
  }

abbrev made : SwitchId → SwitchId → Edge
made s t = record { from = s; to = t }

-- the sum of a row and a column tells both
pub edge_told : (a b : Edge) → IsNear a → IsNear b → edge_number a ≡ edge_number b → a ≡ b
edge_told a b near_a near_b e =
    let from : a.from.0 ≡ b.from.0 = (let h = near_a.1 in let k = near_b.1 in omega arith) in
    let to : a.to.0 ≡ b.to.0 = omega arith in
    same_parts a.from a.to b.from b.to (same_switch a.from b.from from) (same_switch a.to b.to to)
  where
    same_parts : (s t v w : SwitchId) → s ≡ v → t ≡ w → made s t ≡ made v w
    same_parts s t v w e f = ap (λ x. made x t) e ∙ ap (λ x. made v x) f
