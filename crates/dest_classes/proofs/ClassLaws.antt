-- Each entry and address has a class.
use Rattle.std.proofs.Common.{◌≡◌, ℕ, ◌+◌, ◌*◌, ◌^◌, ◌<◌, ◌≤◌, ◌&&◌, cond, List, [], ◌∷◌, length, refl, sym, ◌∙◌, subst, ap, arith, inl, inr}
use Rattle.std.specs.Prelude.{◌==◌, nat_lt, nat_le, filter, flat_map}
use Rattle.std.proofs.lemmas.Bool.{lt-ltb, le-ltb, le-leb, lt-leb, eqb-true, cases_lt, cond_both}
use Rattle.net_base.specs.Blocks.{Block, block_size, in_block, IsSameClass}
use Rattle.net_base.specs.Members.{IsIn}
use Rattle.net_base.specs.Places.{stop_of}
use Rattle.net_base.proofs.MemberLaws.{in_filter, in_append_left, in_append_right}
use Rattle.net_base.proofs.ItemLaws.{get_from_in}
use Rattle.net_base.specs.declared.ids.Place.{Place}
use Rattle.topology.specs.Networks.{Network, IsEntry}
use Rattle.dest_classes.specs.Classes.{with_number, ascending_numbers, block_ends, boundaries, classes_of, atom_count, IsClass}

pub in_with_this : (x : ℕ) (ys : List ℕ) → IsIn x (with_number x ys)
in_with_this x [] = inl refl
in_with_this x (y ∷ ys) =
    cond_both (nat_lt x y) (x ∷ y ∷ ys) (cond (x == y) (y ∷ ys) (y ∷ with_number x ys)) (IsIn x) (λ _. inl refl)
    (λ _. cond_both (x == y) (y ∷ ys) (y ∷ with_number x ys) (IsIn x) (λ e. inl (eqb-true x y e)) (λ _. inr (in_with_this x ys)))

pub in_with : (x z : ℕ) (ys : List ℕ) → IsIn z ys → IsIn z (with_number x ys)
in_with x z [] i = absurd i
in_with x z (y ∷ ys) i =
    cond_both (nat_lt x y) (x ∷ y ∷ ys) (cond (x == y) (y ∷ ys) (y ∷ with_number x ys)) (IsIn z) (λ _. inr i)
    (λ _. cond_both (x == y) (y ∷ ys) (y ∷ with_number x ys) (IsIn z) (λ _. i) (λ _. elim i [ inl e ↦ inl e | inr j ↦ inr (in_with x z ys j) ]))

pub in_ascending : (z : ℕ) (xs : List ℕ) → IsIn z xs → IsIn z (ascending_numbers xs)
in_ascending z [] i = absurd i
in_ascending z (x ∷ xs) (inl e) = subst (λ y. IsIn z (with_number y (ascending_numbers xs))) e (in_with_this z (ascending_numbers xs))
in_ascending z (x ∷ xs) (inr i) = in_with x z (ascending_numbers xs) (in_ascending z xs i)

-- the greatest of the numbers that aren't above a number, where the first isn't
greatest : (z : ℕ) (xs : List ℕ) (a : ℕ) → z ≤ a → (m : ℕ) × IsIn m (z ∷ xs) × (m ≤ a) × ((y : ℕ) → IsIn y (z ∷ xs) → y ≤ a → y ≤ m)
greatest z [] a le = (z, inl refl, le, λ y j h. elim j [ inl f ↦ omega arith | inr k ↦ absurd k ])
greatest z (w ∷ xs) a le =
    let (m, j, below, most) = greatest z xs a le in
    let kept : IsIn m (z ∷ w ∷ xs) = elim j [ inl e ↦ inl e | inr k ↦ inr (inr k) ] in
    elim (cases_lt a w) [
      | inl above ↦ (
        m,
        kept,
        below,
        λ y k h. elim k [
          | inl e ↦ most y (inl e) h
          | inr l ↦ elim l [ inl e ↦ absurd (omega arith) | inr n ↦ most y (inr n) h ]
        ],
      )
      | inr fits ↦ elim (cases_lt m w) [
        | inl more ↦ (
          w,
          inr (inl refl),
          fits,
          λ y k h. elim k [
            | inl e ↦ (let n = most y (inl e) h in omega arith)
            | inr l ↦ elim l [ inl e ↦ omega arith | inr n ↦ (let p = most y (inr n) h in omega arith) ]
          ],
        )
        | inr less ↦ (
          m,
          kept,
          below,
          λ y k h. elim k [
            | inl e ↦ most y (inl e) h
            | inr l ↦ elim l [ inl e ↦ omega arith | inr n ↦ most y (inr n) h ]
          ],
        )
      ]
    ]

-- the first address of an atom lies in the same blocks as each of its addresses
same_tests : (b : Block) (m a : ℕ) → m ≤ a → (b.base ≤ a → b.base ≤ m) → (b.base + block_size b ≤ a → b.base + block_size b ≤ m) → in_block b m ≡ in_block b a
same_tests b m a le base end =
    elim (cases_lt a b.base) [
      | inl above ↦ ap (λ t. t && nat_lt m (b.base + block_size b)) (lt-leb b.base m (omega arith)) ∙ sym (ap (λ t. t && nat_lt a (b.base + block_size b)) (lt-leb b.base a above))
      | inr fits ↦ (
          let low : nat_le b.base m ≡ nat_le b.base a = le-leb b.base m (base fits) ∙ sym (le-leb b.base a fits) in
          let high : nat_lt m (b.base + block_size b) ≡ nat_lt a (b.base + block_size b) =
          elim (cases_lt a (b.base + block_size b)) [
            | inl inside ↦ lt-ltb m (b.base + block_size b) (omega arith) ∙ sym (lt-ltb a (b.base + block_size b) inside)
            | inr past ↦ le-ltb m (b.base + block_size b) (end past) ∙ sym (le-ltb a (b.base + block_size b) past)
          ] in
          ap (λ t. t && nat_lt m (b.base + block_size b)) low ∙ ap (λ t. nat_le b.base a && t) high)
    ]

in_flat : (x : ℕ) (b : Block) (blocks : List Block) → IsIn b blocks → IsIn x (block_ends b) → IsIn x (flat_map block_ends blocks)
in_flat x b [] i j = absurd i
in_flat x b (c ∷ blocks) (inl e) j = in_append_left x (block_ends c) (flat_map block_ends blocks) (subst (λ y. IsIn x (block_ends y)) e j)
in_flat x b (c ∷ blocks) (inr i) j = in_append_right x (block_ends c) (flat_map block_ends blocks) (in_flat x b blocks i j)

module _ (blocks : List Block) (a : ℕ) (fits : a < 2 ^ 32) where
  -- an end of a block that isn't above an address is a boundary
  pub is_boundary : (b : Block) → IsIn b blocks → (x : ℕ) → IsIn x (block_ends b) → x ≤ a → IsIn x (boundaries blocks)
  is_boundary b i x j le =
      in_ascending x (0 ∷ filter (λ y. nat_lt y (2 ^ 32)) (flat_map block_ends blocks))
      (inr (in_filter (λ y. nat_lt y (2 ^ 32)) x (flat_map block_ends blocks) (in_flat x b blocks i j) (lt-ltb x (2 ^ 32) (omega arith))))

  -- the greatest boundary that isn't above an address lies in the same blocks
  pub each_same : (m : ℕ) → m ≤ a → ((y : ℕ) → IsIn y (boundaries blocks) → y ≤ a → y ≤ m) → (rest : List Block) → ((b : Block) → IsIn b rest → IsIn b blocks) → IsSameClass rest m a
  each_same m le most [] part = tt
  each_same m le most (b ∷ rest) part =
      let i = part b (inl refl) in (
        same_tests b m a le (λ h. most b.base (is_boundary b i b.base (inl refl) h) h) (λ h. most (b.base + block_size b) (is_boundary b i (b.base + block_size b) (inr (inl refl)) h) h),
        each_same m le most rest (λ c j. part c (inr j)),
      )

  -- the first address of the atom of an address
  atom_of : (m : ℕ) × IsIn m (boundaries blocks) × IsSameClass blocks m a
  atom_of =
      let zero_in : IsIn 0 (boundaries blocks) = in_ascending 0 (0 ∷ filter (λ y. nat_lt y (2 ^ 32)) (flat_map block_ends blocks)) (inl refl) in
      let (m, i, below, most) = greatest 0 (boundaries blocks) a (omega arith) in
      let is : IsIn m (boundaries blocks) = elim i [ inl e ↦ subst (λ y. IsIn y (boundaries blocks)) (sym e) zero_in | inr j ↦ j ] in
      (m, is, each_same m below (λ y j h. most y (inr j) h) blocks (λ b j. j))

  -- each entry and address has a class
  pub class_of : (net : Network) (entry : Place) → IsEntry net entry → (n : ℕ) × (first : ℕ) × IsClass (classes_of net blocks) n (record { entry = entry; first = first }) × IsSameClass blocks first a
  class_of net entry is =
      let (m, i, same) = atom_of in
      let (host, host_is) = get_from_in net.hosts (stop_of entry) is.host in
      let (vlan, vlan_is) = get_from_in net.vlans entry.vlan is.declared in
      let (atom, atom_is) = get_from_in (boundaries blocks) m i in (
        (host * length net.vlans + vlan) * atom_count (classes_of net blocks) + atom,
        m,
        record { host = host; vlan = vlan; atom = atom; number = refl; host_is = host_is; vlan_is = vlan_is; atom_is = atom_is },
        same,
      )
