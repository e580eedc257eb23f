-- How many host ports a network may have, and that a number has one class.
use Rattle.std.proofs.Common.{◌≡◌, ◌≢◌, ℕ, zero, suc, ◌+◌, ◌*◌, ◌/◌, ◌%◌, ◌^◌, get_or, ◌<◌, ◌≤◌, Bool, true, false, cond, List, [], ◌∷◌, ◌++◌, length, refl, sym, ◌∙◌, subst, ap, arith, inl, inr}
use Rattle.std.specs.Prelude.{◌==◌, ◌||◌, nat_lt, filter, flat_map, slice_get, slice_index, Some}
use Rattle.std.specs.List.{AllByRecursion, All}
use Rattle.std.proofs.Math.Nat.{le-mul_of_pos_right}
use Rattle.std.proofs.lemmas.List.Elements.{All-contains}
use Rattle.std.proofs.lemmas.Bool.{false≢true, or_left, or_right, ltb-true, lt-ltb, eq-eqb, cases_lt}
use Rattle.std.proofs.lemmas.Nat.{same_from_place, mul-add-lt, row_below_turned, div-add-mod', mod_below}
use Rattle.std.proofs.lemmas.Option.{none-some, same_Some, slice_get_within, slice_get_read, slice_get-get_or, get_or_from_slice_get}
use Rattle.net_base.specs.Members.{IsIn, IsDistinct}
use Rattle.net_base.specs.Places.{stop_of}
use Rattle.net_base.specs.Blocks.{IsSameClass}
use Rattle.net_base.specs.declared.ids.Stop.{Stop}
use Rattle.net_base.specs.declared.ids.SwitchId.{SwitchId}
use Rattle.net_base.specs.declared.ids.Place.{Place}
use Rattle.net_base.specs.declared.ids.Vlan.{Vlan}
use Rattle.net_base.specs.declared.ids.Vlan.TheVariants.{Untagged}
use Rattle.net_base.proofs.MemberLaws.{each_first, each_weaker, each_from_in, in_from_filter}
use Rattle.topology.specs.Networks.{Network, IsNetwork, IsPortNumber}
use Rattle.topology.specs.declared.net.Link.{Link}
use Rattle.dest_classes.specs.Classes.{ClassList, IsClass, atom_count, class_count, boundaries}
use Rattle.dest_classes.specs.Atoms.{IsAtomOf}
use Rattle.dest_classes.specs.Numbered.{IsClassOf}
use Rattle.dest_classes.specs.declared.Class.{Class}
use Rattle.dest_classes.proofs.RisingLaws.{contains_from_in, same_place}
use Rattle.dest_classes.proofs.AtomLaws.{are_firsts, first_of_class}
use Rattle.net_base.proofs.ItemLaws.{in_from_get, distinct_first}

-- a filtered list passes a test no more often
filter_twice : {A : Type 0} (p q : A → Bool) (xs : List A) → length (filter p (filter q xs)) ≤ length (filter p xs)
filter_twice p q [] = omega arith
filter_twice p q (x ∷ xs) =
    let rest = filter_twice p q xs in
    elim (q x) as (λ b. length (filter p (cond b (x ∷ filter q xs) (filter q xs))) ≤ length (filter p (x ∷ xs))) [
      | true ↦ elim (p x) as (λ b. length (cond b (x ∷ filter p (filter q xs)) (filter p (filter q xs))) ≤ length (cond b (x ∷ filter p xs) (filter p xs))) [ true ↦ omega arith | false ↦ omega arith ]
      | false ↦ elim (p x) as (λ b. length (filter p (filter q xs)) ≤ length (cond b (x ∷ filter p xs) (filter p xs))) [ true ↦ omega arith | false ↦ omega arith ]
    ]

-- where each member passes one of two tests, it is counted by one of them
split_count : {A : Type 0} (p q : A → Bool) (xs : List A) → AllByRecursion (λ x. (p x || q x) ≡ true) xs → length xs ≤ length (filter p xs) + length (filter q xs)
split_count p q [] h = omega arith
split_count p q (x ∷ xs) h =
    let rest = split_count p q xs h.1 in
    elim (p x) as (λ b. (b || q x) ≡ true → suc (length xs) ≤ length (cond b (x ∷ filter p xs) (filter p xs)) + length (filter q (x ∷ xs))) [
      | true ↦ λ _. elim (q x) as (λ d. suc (length xs) ≤ suc (length (filter p xs)) + length (cond d (x ∷ filter q xs) (filter q xs))) [ true ↦ omega arith | false ↦ omega arith ]
      | false ↦ elim (q x) as (λ d. d ≡ true → suc (length xs) ≤ length (filter p xs) + length (cond d (x ∷ filter q xs) (filter q xs))) [ true ↦ λ _. omega arith | false ↦ λ e. absurd (false≢true e) ]
    ] h.0

below_or_at : (m n : ℕ) → n < suc m → (nat_lt n m || (n == m)) ≡ true
below_or_at m n lt =
    elim (cases_lt n m) [
      | inl less ↦ or_left (nat_lt n m) (n == m) (lt-ltb n m less)
      | inr more ↦ or_right (nat_lt n m) (n == m) (eq-eqb n m (omega arith))
    ]

-- few ports of each switch are few in all
pub few_in_all : (n most : ℕ) (xs : List Stop) → ((s : SwitchId) → length (filter (λ x. x.switch.0 == s.0) xs) ≤ most) → AllByRecursion (λ x. x.switch.0 < n) xs → length xs ≤ n * most
few_in_all zero most [] few all = omega arith
few_in_all zero most (x ∷ xs) few all = let h = all.0 in absurd (omega arith)
few_in_all (suc m) most xs few all =
    let low = λ (x : Stop). nat_lt x.switch.0 m in
    let here : length (filter (λ (x : Stop). x.switch.0 == m) xs) ≤ most = few (record { 0 = m }) in
    let parts = split_count low (λ (x : Stop). x.switch.0 == m) xs (each_weaker (λ (x : Stop). x.switch.0 < suc m) (λ (x : Stop). (low x || (x.switch.0 == m)) ≡ true) (λ x h. below_or_at m x.switch.0 h) xs all) in
    let rest = few_in_all m most (filter low xs) (λ s. le_trans (filter_twice (λ (x : Stop). x.switch.0 == s.0) low xs) (few s))
    (each_from_in (λ (x : Stop). x.switch.0 < m) (filter low xs) (λ x i. ltb-true x.switch.0 m (in_from_filter low x xs i).1)) in
    omega arith
  where
    le_trans : {a b d : ℕ} → a ≤ b → b ≤ d → a ≤ d
    le_trans h k = omega arith

filter_first : {A : Type 0} (p : A → Bool) (xs ys : List A) → length (filter p xs) ≤ length (filter p (xs ++ ys))
filter_first p [] ys = omega arith
filter_first p (x ∷ xs) ys =
    let rest = filter_first p xs ys in
    elim (p x) as (λ b. length (cond b (x ∷ filter p xs) (filter p xs)) ≤ length (cond b (x ∷ filter p (xs ++ ys)) (filter p (xs ++ ys)))) [ true ↦ omega arith | false ↦ omega arith ]

-- a network has at most 64 host ports for each of at most 128 switches
pub few_hosts : (net : Network) → IsNetwork net → length net.hosts ≤ 8192
few_hosts net h =
    let links = flat_map (λ (l : Link). l.one ∷ l.other ∷ []) net.links in
    let all = few_in_all (length net.names) 64 net.hosts
    (λ s. let a = filter_first (λ (x : Stop). x.switch.0 == s.0) net.hosts links in let b = h.few_ports s in omega arith)
    (each_weaker (λ (x : Stop). (x.switch.0 < length net.names) × IsPortNumber x.port.0) (λ (x : Stop). x.switch.0 < length net.names) (λ x p. p.0) net.hosts
    (each_first (λ (x : Stop). (x.switch.0 < length net.names) × IsPortNumber x.port.0) net.hosts links h.ports)) in
    let few = h.few in
    omega arith

module _ (classes : ClassList) (n : ℕ) (c d : Class) (p : IsClass classes n c) (q : IsClass classes n d) where
  rows : (p.host * length classes.vlans + p.vlan ≡ q.host * length classes.vlans + q.vlan) × (p.atom ≡ q.atom)
  rows =
      same_from_place (p.host * length classes.vlans + p.vlan) p.atom (q.host * length classes.vlans + q.vlan) q.atom (atom_count classes)
      (slice_get_within (boundaries classes.prefixes) p.atom c.first p.atom_is) (slice_get_within (boundaries classes.prefixes) q.atom d.first q.atom_is) (sym p.number ∙ q.number)

  columns : (p.host ≡ q.host) × (p.vlan ≡ q.vlan)
  columns =
      same_from_place p.host p.vlan q.host q.vlan (length classes.vlans) (slice_get_within classes.vlans p.vlan c.entry.vlan p.vlan_is)
      (slice_get_within classes.vlans q.vlan d.entry.vlan q.vlan_is) rows.0

  -- a number has one class
  pub class_is : c ≡ d
  class_is =
      let stop : stop_of c.entry ≡ stop_of d.entry = same_Some (stop_of c.entry) (stop_of d.entry) (sym p.host_is ∙ ap (λ i. slice_get classes.hosts i) columns.0 ∙ q.host_is) in
      let vlan : c.entry.vlan ≡ d.entry.vlan = same_Some c.entry.vlan d.entry.vlan (sym p.vlan_is ∙ ap (λ i. slice_get classes.vlans i) columns.1 ∙ q.vlan_is) in
      let first : c.first ≡ d.first = same_Some c.first d.first (sym p.atom_is ∙ ap (λ i. slice_get (boundaries classes.prefixes) i) rows.1 ∙ q.atom_is) in
      ap (λ (s : Stop). let e : Place = record { switch = s.switch; port = s.port; vlan = c.entry.vlan } in let x : Class = record { entry = e; first = c.first } in x) stop
      ∙ ap (λ (v : Vlan). let e : Place = record { switch = d.entry.switch; port = d.entry.port; vlan = v } in let x : Class = record { entry = e; first = c.first } in x) vlan
      ∙ ap (λ (f : ℕ). let x : Class = record { entry = d.entry; first = f } in x) first

-- a member of a list of distinct ones stands at one place
pub distinct_place : {A : Type 0} (xs : List A) (x : A) → IsDistinct xs → (i j : ℕ) → slice_get xs i ≡ Some x → slice_get xs j ≡ Some x → i ≡ j
distinct_place [] x distinct i j e f = absurd (none-some x e)
distinct_place (y ∷ xs) x distinct zero zero e f = refl
distinct_place (y ∷ xs) x distinct zero (suc j) e f = absurd (distinct.0 (subst (λ z. IsIn z xs) (sym (same_Some y x e)) (in_from_get xs j x f)))
distinct_place (y ∷ xs) x distinct (suc i) zero e f = absurd (distinct.0 (subst (λ z. IsIn z xs) (sym (same_Some y x f)) (in_from_get xs i x e)))
distinct_place (y ∷ xs) x distinct (suc i) (suc j) e f = ap suc (distinct_place xs x distinct.1 i j e f)

-- the number of a pair of a host port and a VLAN is below their count
pub row_fits : (classes : ClassList) (host vlan : ℕ) (stop : Stop) (user : Vlan) → slice_get classes.hosts host ≡ Some stop → slice_get classes.vlans vlan ≡ Some user
    → host * length classes.vlans + vlan < length classes.vlans * length classes.hosts
row_fits classes host vlan stop user host_is vlan_is =
    mul-add-lt host (length classes.vlans) vlan (length classes.hosts) (slice_get_within classes.hosts host stop host_is) (slice_get_within classes.vlans vlan user vlan_is)

-- the places of a class number are in range
pub number_fits : (classes : ClassList) (n : ℕ) (c : Class) → IsClass classes n c → n < class_count classes
number_fits classes n c h =
    let atoms = atom_count classes in
    let vlans = length classes.vlans in
    let row = mul-add-lt h.host vlans h.vlan (length classes.hosts) (slice_get_within classes.hosts h.host (stop_of c.entry) h.host_is) (slice_get_within classes.vlans h.vlan c.entry.vlan h.vlan_is) in
    let all = mul-add-lt (h.host * vlans + h.vlan) atoms h.atom (vlans * length classes.hosts) row (slice_get_within (boundaries classes.prefixes) h.atom c.first h.atom_is) in
    let number = h.number in
    omega arith

module _ (classes : ClassList) where
  -- some atom stands for each address
  pub some_atom : 0 < atom_count classes
  some_atom = (are_firsts classes.prefixes).some

  -- the pairs of a host port and a VLAN are no more than the classes
  pub pairs_fit : (n : ℕ) → class_count classes ≤ n → length classes.hosts * length classes.vlans ≤ n
  pairs_fit n few = let h = le-mul_of_pos_right (length classes.hosts * length classes.vlans) some_atom in omega arith

  -- the class with a number, by division
  pub class_at : (n : ℕ) (stop : Stop) (vlan : Vlan) (first : ℕ) → n < class_count classes → stop ≡ get_or classes.hosts (n / atom_count classes / length classes.vlans) stop
      → vlan ≡ get_or classes.vlans (n / atom_count classes % length classes.vlans) vlan → first ≡ get_or (boundaries classes.prefixes) (n % atom_count classes) 0
      → IsClass classes n (record { entry = record { switch = stop.switch; port = stop.port; vlan = vlan }; first = first })
  class_at n stop vlan first fits host_is vlan_is first_is =
      let atoms = atom_count classes in
      let vlans = length classes.vlans in
      let hosts = length classes.hosts in
      let row = n / atoms in
      let low : row < hosts * vlans = (row_below_turned n atoms (hosts * vlans) atoms fits (omega arith)).1 in
      let host : row / vlans < hosts = (row_below_turned row vlans hosts vlans low (omega arith)).1 in
      let some : 0 < vlans = elim (cases_lt 0 vlans) [ inl h ↦ h | inr h ↦ (let e : vlans ≡ 0 = omega arith in let l : row < hosts * 0 = subst (λ v. row < hosts * v) e low in absurd (omega arith)) ] in
      let one = div-add-mod' row vlans in
      let two = div-add-mod' n atoms in
      record {
        host = row / vlans;
        vlan = row % vlans;
        atom = n % atoms;
        number = sym two ∙ ap (λ r. r * atoms + n % atoms) (sym one);
        host_is = slice_get_read classes.hosts hosts (row / vlans) stop refl host host_is;
        vlan_is = slice_get_read classes.vlans vlans (row % vlans) vlan refl (mod_below row vlans some) vlan_is;
        atom_is = slice_get-get_or (boundaries classes.prefixes) (n % atoms) 0 (mod_below n atoms some_atom) ∙ ap Some (sym first_is);
      }

  module _ (entry : Place) (address : ℕ) where
    -- the class with these places
    pub class_of_places : (host vlan atom : ℕ) → slice_get classes.hosts host ≡ Some (stop_of entry) → slice_get classes.vlans vlan ≡ Some entry.vlan
        → IsAtomOf (boundaries classes.prefixes) atom address → IsClassOf classes ((host * length classes.vlans + vlan) * atom_count classes + atom) entry address
    class_of_places host vlan atom host_is vlan_is holds = record {
      first = slice_index (boundaries classes.prefixes) atom;
      is = record { host = host; vlan = vlan; atom = atom; number = refl; host_is = host_is; vlan_is = vlan_is; atom_is = slice_get-get_or (boundaries classes.prefixes) atom 0 holds.within };
      atom = holds;
    }

    -- an entry and an address have one number
    pub one_number : IsDistinct classes.hosts → IsDistinct classes.vlans → (m n : ℕ) → IsClassOf classes m entry address → IsClassOf classes n entry address → m ≡ n
    one_number hosts vlans m n p q =
        let firsts = boundaries classes.prefixes in
        let host = distinct_place classes.hosts (stop_of entry) hosts p.is.host q.is.host p.is.host_is q.is.host_is in
        let vlan = distinct_place classes.vlans entry.vlan vlans p.is.vlan q.is.vlan p.is.vlan_is q.is.vlan_is in
        let less = p.atom.greatest q.is.atom q.atom.within q.atom.below in
        let more = q.atom.greatest p.is.atom p.atom.within p.atom.below in
        let same : slice_index firsts p.is.atom ≡ slice_index firsts q.is.atom = omega arith in
        let atom = same_place firsts (are_firsts classes.prefixes).rise p.is.atom q.is.atom p.atom.within q.atom.within same in
        p.is.number
        ∙ ap (λ h. (h * length classes.vlans + p.is.vlan) * atom_count classes + p.is.atom) host
        ∙ ap (λ v. (q.is.host * length classes.vlans + v) * atom_count classes + p.is.atom) vlan
        ∙ ap (λ a. (q.is.host * length classes.vlans + q.is.vlan) * atom_count classes + a) atom
        ∙ sym q.is.number

    -- the class of an entry and an address has this entry, and no prefix tells the address apart from its first one
    pub right_class : address < 2 ^ 32 → (n : ℕ) → IsClassOf classes n entry address → (class : Class) → IsClass classes n class → (class.entry ≡ entry) × IsSameClass classes.prefixes class.first address
    right_class fits n p class q =
        let this : Class = record { entry = entry; first = p.first } in
        let same : class ≡ this = class_is classes n class this q p.is in
        let alike = first_of_class classes.prefixes p.is.atom p.first address fits p.is.atom_is p.atom in (
          ap (λ (c : Class). c.entry) same,
          subst (λ (c : Class). IsSameClass classes.prefixes c.first address) (sym same) alike,
        )

-- what differs from each member is none
pub none_in : {A : Type 0} (xs : List A) (x : A) → All (λ y. y ≢ x) xs → IsIn x xs → ⊥
none_in xs x h i = All-contains (λ y. y ≢ x) xs x h (contains_from_in xs x i) refl

-- the host ports of a network are distinct
pub distinct_hosts : (net : Network) → IsNetwork net → IsDistinct net.hosts
distinct_hosts net h = distinct_first net.hosts (flat_map (λ (l : Link). l.one ∷ l.other ∷ []) net.links) h.ports_once

-- each number below the count has a class
pub class_exists : (classes : ClassList) (n : ℕ) → n < class_count classes → (c : Class) × IsClass classes n c
class_exists classes n fits =
    let atoms = atom_count classes in
    let row = n / atoms in
    let vlans = length classes.vlans in
    let no_stop : Stop = record { switch = record { 0 = 0 }; port = record { 0 = 0 } } in
    let low : row < length classes.hosts * vlans = (row_below_turned n atoms (length classes.hosts * vlans) atoms fits (omega arith)).1 in
    let host : row / vlans < length classes.hosts = (row_below_turned row vlans (length classes.hosts) vlans low (omega arith)).1 in
    let some : 0 < vlans = elim (cases_lt 0 vlans) [ inl h ↦ h | inr h ↦ (let e : vlans ≡ 0 = omega arith in let l : row < length classes.hosts * 0 = subst (λ v. row < length classes.hosts * v) e low in absurd (omega arith)) ] in
    let stop = get_or classes.hosts (row / vlans) no_stop in
    let vlan = get_or classes.vlans (row % vlans) Untagged in
    let host_is = slice_get-get_or classes.hosts (row / vlans) no_stop host in
    let vlan_is = slice_get-get_or classes.vlans (row % vlans) Untagged (mod_below row vlans some) in (
      record { entry = record { switch = stop.switch; port = stop.port; vlan = vlan }; first = get_or (boundaries classes.prefixes) (n % atoms) 0 },
      class_at classes n stop vlan (get_or (boundaries classes.prefixes) (n % atoms) 0) fits (sym (get_or_from_slice_get classes.hosts (row / vlans) stop stop host_is))
          (sym (get_or_from_slice_get classes.vlans (row % vlans) vlan vlan vlan_is)) refl,
    )
