-- Which atoms lie in a prefix.
use Rattle.std.proofs.Common.{◌≡◌, ℕ, ◌+◌, ◌-◌, ◌*◌, ◌%◌, ◌<◌, ◌≤◌, ◌^◌, true, false, List, length, get_or, refl, sym, ◌∙◌, subst, ap, arith, inl, inr}
use Rattle.std.specs.Prelude.{◌↔◌, nat_lt, nat_le, slice_index, slice_get, Some}
use Rattle.std.specs.List.Sorted.{IsPartitionPoint}
use Rattle.std.proofs.lemmas.Bool.{leb-true, ltb-true, ltb-false, le-leb, lt-ltb, and_parts, and_from, cases_lt}
use Rattle.std.proofs.lemmas.Nat.{mod-mul-add, pow_pos}
use Rattle.std.proofs.lemmas.Option.{slice_get_within, get_or_from_slice_get}
use Rattle.std.proofs.Math.Nat.{le-mul_of_pos_right}
use Rattle.net_base.specs.Blocks.{Block, block_size, in_block}
use Rattle.net_base.specs.Members.{IsIn}
use Rattle.net_base.proofs.MemberLaws.{each_at}
use Rattle.net_base.proofs.ItemLaws.{get_from_in}
use Rattle.dest_classes.specs.Classes.{ClassList, IsClass, atom_count, class_count, boundaries}
use Rattle.dest_classes.specs.Atoms.{IsAtomOf, IsAmong}
use Rattle.dest_classes.specs.declared.AtomRange.{AtomRange}
use Rattle.dest_classes.specs.declared.Class.{Class}
use Rattle.dest_classes.proofs.ClassLaws.{is_boundary}
use Rattle.dest_classes.proofs.AtomLaws.{with_first}

-- the place where a list is parted by an address: before it stands what is below the address
pub parted_below : (xs : List ℕ) (address p : ℕ) → IsPartitionPoint (λ y. nat_lt y address ≡ true) (λ y. nat_lt y address ≡ false) xs p
    → (i : ℕ) → i < length xs → (i < p) ↔ (slice_index xs i < address)
parted_below xs address p parts i within = (
  λ lt. ltb-true (get_or xs i 0) address (parts.0 i 0 (omega arith) lt),
  λ less. elim (cases_lt i p) [ inl lt ↦ lt | inr ge ↦ absurd (let h = ltb-false (get_or xs i 0) address (parts.1 i 0 ge within) in omega arith) ],
)

-- the atoms that begin neither before a block nor after it are those that begin in it
pub among_block : (xs : List ℕ) (b : Block) (range : AtomRange) → ((i : ℕ) → i < length xs → (i < range.from) ↔ (slice_index xs i < b.base))
    → ((i : ℕ) → i < length xs → (i < range.to) ↔ (slice_index xs i < b.base + block_size b)) → (i : ℕ) → i < length xs → IsAmong range i ↔ (in_block b (slice_index xs i) ≡ true)
among_block xs b range from to i within =
    let x = slice_index xs i in (
      λ among. elim (cases_lt x b.base) [
        | inl low ↦ absurd (let h = (from i within).1 low in let k = among.0 in omega arith)
        | inr high ↦ and_from (nat_le b.base x) (nat_lt x (b.base + block_size b)) (le-leb b.base x high) (lt-ltb x (b.base + block_size b) ((to i within).0 among.1))
      ],
      λ has.
          let (low, high) = and_parts (nat_le b.base x) (nat_lt x (b.base + block_size b)) has in (
            elim (cases_lt i range.from) [
              | inl lt ↦ absurd (let h = (from i within).0 lt in let k = leb-true b.base x low in omega arith)
              | inr ge ↦ ge
            ],
            (to i within).1 (ltb-true x (b.base + block_size b) high),
          ),
    )

-- the atoms of a range are those that begin in the block
abbrev pub BeginsIn : List Block → Block → AtomRange → Type 0
BeginsIn blocks b range = (i : ℕ) → i < length (boundaries blocks) → IsAmong range i ↔ (in_block b (slice_index (boundaries blocks) i) ≡ true)

module _ (blocks : List Block) (b : Block) (known : IsIn b blocks) (range : AtomRange) (begins : BeginsIn blocks b range) where
  -- they are those whose addresses lie in it
  pub among_address : (i address : ℕ) → address < 2 ^ 32 → IsAtomOf (boundaries blocks) i address → IsAmong range i ↔ (in_block b address ≡ true)
  among_address i address fits atom =
      let first = slice_index (boundaries blocks) i in
      let same : in_block b first ≡ in_block b address = each_at (λ block. in_block block first ≡ in_block block address) blocks b (with_first blocks i address fits atom) known in
      subst (λ t. IsAmong range i ↔ (t ≡ true)) same (begins i atom.within)

  -- one of them begins with it
  pub some_among : b.base < 2 ^ 32 → range.from < range.to
  some_among fits =
      let (i, e) = get_from_in (boundaries blocks) b.base (is_boundary blocks b.base fits b known b.base (inl refl) (omega arith)) in
      let size : 0 < block_size b = pow_pos (32 - b.len) in
      let has : in_block b b.base ≡ true = and_from (nat_le b.base b.base) (nat_lt b.base (b.base + block_size b)) (le-leb b.base b.base (omega arith)) (lt-ltb b.base (b.base + block_size b) (omega arith)) in
      let among = (begins i (slice_get_within (boundaries blocks) i b.base e)).1 (subst (λ x. in_block b x ≡ true) (sym (get_or_from_slice_get (boundaries blocks) i b.base 0 e)) has) in
      let from = among.0 in
      let to = among.1 in
      omega arith

module _ (classes : ClassList) where
  -- the atom of a class is what its number leaves by the atoms
  pub first_of : (n : ℕ) (class : Class) → IsClass classes n class → slice_get (boundaries classes.prefixes) (n % atom_count classes) ≡ Some class.first
  first_of n class is =
      let within = slice_get_within (boundaries classes.prefixes) is.atom class.first is.atom_is in
      let atom : n % atom_count classes ≡ is.atom = ap (λ m. m % atom_count classes) is.number ∙ mod-mul-add (is.host * length classes.vlans + is.vlan) (atom_count classes) is.atom within in
      ap (λ i. slice_get (boundaries classes.prefixes) i) atom ∙ is.atom_is

  pub among_class : (b : Block) (range : AtomRange) → BeginsIn classes.prefixes b range → (n : ℕ) (class : Class) → IsClass classes n class → IsAmong range (n % atom_count classes) ↔ (in_block b class.first ≡ true)
  among_class b range begins n class is =
      let i = n % atom_count classes in
      let at = first_of n class is in
      subst (λ x. IsAmong range i ↔ (in_block b x ≡ true)) (get_or_from_slice_get (boundaries classes.prefixes) i class.first 0 at) (begins i (slice_get_within (boundaries classes.prefixes) i class.first at))

  -- where there is a class, the atoms are no more than the classes
  pub atoms_fit : 0 < class_count classes → atom_count classes ≤ class_count classes
  atoms_fit some =
      let pairs = length classes.hosts * length classes.vlans in
      elim (cases_lt 0 pairs) [
        | inl h ↦ (let k = le-mul_of_pos_right (atom_count classes) h in omega arith)
        | inr h ↦ (let e : pairs ≡ 0 = omega arith in let l : 0 < 0 * atom_count classes = subst (λ p. 0 < p * atom_count classes) e some in absurd (omega arith))
      ]

-- the atoms that a map keeps are its own, and few
pub few_atoms : {seen now : ClassList} {atoms : List ℕ} → seen ≡ now → atoms ≡ boundaries seen.prefixes → length seen.hosts * length seen.vlans * length atoms ≤ 8192 → 0 < class_count now
    → (length atoms ≡ atom_count now) × (length atoms ≤ 8192)
few_atoms {seen} {now} {atoms} same made few some =
    let count : length atoms ≡ atom_count now = ap length made ∙ ap atom_count same in
    let classes : class_count now ≤ 8192 = subst (λ (m : ClassList). class_count m ≤ 8192) same (subst (λ xs. length seen.hosts * length seen.vlans * length xs ≤ 8192) made few) in
    let fit = atoms_fit now some in
    (count, omega arith)
