-- The marks of atoms, the next marked one, and the numbers of classes up to it.
use Rattle.std.proofs.Common.{◌≡◌, ◌⊎◌, ℕ, suc, ◌+◌, ◌-◌, ◌*◌, ◌/◌, ◌%◌, ◌<◌, ◌≤◌, Bool, true, false, List, [], ◌∷◌, ◌++◌, length, get_or, set, Some, refl, sym, ap, ◌∙◌, subst, inl, inr, arith, get_or-set_same, get_or-set_other, suc-mul, div-add-mod'}
use Rattle.std.specs.Prelude.{◌||◌, slice_get}
use Rattle.std.proofs.lemmas.Bool.{cases_eq, cases_lt}
use Rattle.std.proofs.lemmas.List.{length-set}
use Rattle.std.proofs.lemmas.Nat.{mod-mul-add, mod_below}
use Rattle.std.proofs.lemmas.Option.{same_Some, slice_get_within}
use Rattle.net_base.specs.Blocks.{in_block}
use Rattle.net_base.specs.Members.{IsIn}
use Rattle.net_base.proofs.MemberLaws.{in_append_cases, in_append_left, in_append_right}
use Rattle.dest_classes.specs.Classes.{ClassList, atom_count, class_count, boundaries}
use Rattle.dest_classes.specs.declared.Class.{Class}
use Rattle.dest_classes.proofs.MapLaws.{number_fits, some_atom}
use Rattle.dest_classes.proofs.TouchedLaws.{first_of}
use Rattle.update_model.specs.Changes.{rule_of}
use Rattle.update_model.specs.declared.Change.{Change}
use Rattle.certificates.specs.declared.OrderedPick.{OrderedPick}
use Rattle.check_reasons.specs.AtomMarks.{AreTouched}
use Rattle.class_watch.specs.Classes.{AreClasses}
use Rattle.class_watch.specs.Looked.{IsNext, AreNext, IsNextNumber}
use Rattle.check_reasons.proofs.PositionLaws.{get_set_same, get_set_other}
use Rattle.class_watch.proofs.ListLaws.{some_at, read_at}

-- ---- marks

-- a mark stays where one more is set
pub still_marked : (marks : List Bool) (b a : ℕ) → b < length marks → get_or marks a false ≡ true → get_or (set marks b true) a false ≡ true
still_marked marks b a lt on =
    elim (cases_eq a b) [
      | inl e ↦ ap (λ (n : ℕ). get_or (set marks b true) n false) e ∙ get_or-set_same marks b true false lt
      | inr ne ↦ get_or-set_other marks b a true false ne ∙ on
    ]

-- the atoms of the classes of some picks are marked, and that of one more
pub picked_more : (marks : List Bool) (count : ℕ) (front : List OrderedPick) (p : OrderedPick) → count ≡ length marks → 0 < length marks
    → ((q : OrderedPick) → IsIn q front → get_or marks (q.class % length marks) false ≡ true) → (q : OrderedPick) → IsIn q (front ++ p ∷ [])
    → get_or (set marks (p.class % count) true) (q.class % length (set marks (p.class % count) true)) false ≡ true
picked_more marks count front p same some so q i =
    let at = p.class % count in
    let within : at < length marks = subst (λ (n : ℕ). p.class % n < length marks) (sym same) (mod_below p.class (length marks) some) in
    subst (λ (n : ℕ). get_or (set marks at true) (q.class % n) false ≡ true) (sym (length-set marks at true))
    (elim (in_append_cases q front (p ∷ []) i) [
      | inl before ↦ still_marked marks at (q.class % length marks) within (so q before)
      | inr here ↦ elim here [
        | inl is ↦
            ap (λ (x : OrderedPick). get_or (set marks at true) (x.class % length marks) false) is
            ∙ ap (λ (n : ℕ). get_or (set marks at true) (p.class % n) false) (sym same)
            ∙ get_or-set_same marks at true false within
        | inr none ↦ absurd none
      ]
    ])

-- and no others are marked but those that were
pub picked_only : (old marks : List Bool) (count : ℕ) (front : List OrderedPick) (p : OrderedPick) → count ≡ length marks
    → ((a : ℕ) → get_or marks a false ≡ true → (get_or old a false ≡ true) ⊎ ((q : OrderedPick) × IsIn q front × (q.class % length marks ≡ a)))
    → (a : ℕ) → get_or (set marks (p.class % count) true) a false ≡ true
    → (get_or old a false ≡ true) ⊎ ((q : OrderedPick) × IsIn q (front ++ p ∷ []) × (q.class % length (set marks (p.class % count) true) ≡ a))
picked_only old marks count front p same only a on =
    let at = p.class % count in
    let long : length marks ≡ length (set marks at true) = sym (length-set marks at true) in
    elim (cases_eq a at) [
      | inl e ↦ inr (p, in_append_right p front (p ∷ []) (inl refl), ap (λ (n : ℕ). p.class % n) (sym long ∙ sym same) ∙ sym e)
      | inr ne ↦ elim (only a (sym (get_or-set_other marks at a true false ne) ∙ on)) [
        | inl was ↦ inl was
        | inr of ↦ inr (of.0, in_append_left of.0 front (p ∷ []) of.1, ap (λ (n : ℕ). of.0.class % n) (sym long) ∙ of.2)
      ]
    ]

or_false : (b : Bool) → b ≡ (b || false)
or_false true = refl
or_false false = refl

-- the first classes of a map tell which atoms a change touches
pub touched_by_first : (map : ClassList) (list : List Class) (c : Change) (marks : List Bool) → AreClasses map list → (0 < class_count map → length marks ≡ atom_count map)
    → ((atom : ℕ) (class : Class) → atom < length marks → slice_get list atom ≡ Some class → get_or marks atom false ≡ in_block (rule_of c).key.pattern.dst class.first) → AreTouched map (c ∷ []) marks
touched_by_first map list c marks are count each n class is =
    let within = number_fits map n class is in
    let atoms = atom_count map in
    let same : length marks ≡ atoms = count (omega arith) in
    let a = n % atoms in
    let low : a < atoms = mod_below n atoms (some_atom map) in
    let split = div-add-mod' n atoms in
    let counted = are.count in
    let (first, at) = some_at list a (omega arith) in
    let alone : 0 * atoms + a ≡ a = omega arith in
    let itself : a % atoms ≡ a = sym (ap (λ (x : ℕ). x % atoms) alone) ∙ mod-mul-add 0 atoms a low in
    let here : slice_get (boundaries map.prefixes) a ≡ Some first.first = ap (slice_get (boundaries map.prefixes)) (sym itself) ∙ first_of map a first (are.each a first at) in
    each a first (omega arith) at
    ∙ ap (in_block (rule_of c).key.pattern.dst) (same_Some first.first class.first (sym here ∙ first_of map n class is))
    ∙ or_false (in_block (rule_of c).key.pattern.dst class.first)

-- ---- the next marked atom

pub next_here : (marks : List Bool) (atom : ℕ) → get_or marks atom false ≡ true → IsNext marks atom atom
next_here marks atom on = record { from = omega arith; passed = λ a ge lt. absurd (omega arith); marked = λ lt. on }

pub next_later : (marks : List Bool) (atom next : ℕ) → get_or marks atom false ≡ false → IsNext marks (atom + 1) next → IsNext marks atom next
next_later marks atom next off h = record {
  from = (let f = h.from in omega arith);
  passed = λ a ge lt.
      elim (cases_lt atom a) [
        | inl more ↦ h.passed a (omega arith) lt
        | inr less ↦ let e : a ≡ atom = omega arith in ap (λ (n : ℕ). get_or marks n false) e ∙ off
      ];
  marked = h.marked;
}

-- the atoms from one on know the next marked one, and so does this one
pub record AreLinked (marks : List Bool) (atom first : ℕ) (next : List ℕ) : Type 0 where
  pub within : first ≤ length marks
  pub first_is : IsNext marks atom first
  pub count : length next ≡ length marks
  pub each : (a n : ℕ) → atom ≤ a → slice_get next a ≡ Some n → (n ≤ length marks) × IsNext marks a n

pub linked_none : (marks : List Bool) (next : List ℕ) → length next ≡ length marks → AreLinked marks (length marks) (length marks) next
linked_none marks next count = record {
  within = omega arith;
  first_is = record { from = omega arith; passed = λ a ge lt. absurd (omega arith); marked = λ lt. absurd (omega arith) };
  count = count;
  each = λ a n ge at. (let lt = slice_get_within next a n at in absurd (omega arith));
}

pub linked_more : (marks : List Bool) (atom after first : ℕ) (next : List ℕ) → AreLinked marks (atom + 1) after next → first ≤ length marks → IsNext marks atom first → AreLinked marks atom first (set next atom first)
linked_more marks atom after first next linked within is = record {
  within = within;
  first_is = is;
  count = length-set next atom first ∙ linked.count;
  each = λ a n ge at.
      elim (cases_eq a atom) [
        | inl e ↦ (
            let here : slice_get (set next atom first) atom ≡ Some n = sym (ap (slice_get (set next atom first)) e) ∙ at in
            let same : first ≡ n = get_set_same next atom first n here in
            subst (λ (m : ℕ). (m ≤ length marks) × IsNext marks a m) same (within, subst (λ (b : ℕ). IsNext marks b first) (sym e) is))
        | inr ne ↦ elim (cases_lt atom a) [
          | inl more ↦ linked.each a n (omega arith) (sym (get_set_other next atom a first ne) ∙ at)
          | inr less ↦ absurd (ne (omega arith))
        ]
      ];
}

-- ---- numbers of classes

module _ (marks : List Bool) (nexts : List ℕ) (are : AreNext marks nexts) (number in_row : ℕ) (read : in_row ≡ get_or nexts (number % length marks) in_row) where
  at : slice_get nexts (number % length marks) ≡ Some in_row
  at =
      let low = mod_below number (length marks) are.some in
      let count = are.count in
      read_at nexts (number % length marks) in_row (omega arith) read

  -- up to the next marked atom in the row of a number
  pub passed_in_row : (n : ℕ) → number ≤ n → n < number - number % length marks + in_row → get_or marks (n % length marks) false ≡ false
  passed_in_row n ge lt =
      let atoms = length marks in
      let (within, next) = are.each (number % atoms) in_row at in
      let split = div-add-mod' number atoms in
      let b = n - number / atoms * atoms in
      let here : number / atoms * atoms + b ≡ n = omega arith in
      let low : b < atoms = omega arith in
      let place : n % atoms ≡ b = ap (λ (x : ℕ). x % atoms) (sym here) ∙ mod-mul-add (number / atoms) atoms b low in
      ap (λ (x : ℕ). get_or marks x false) place ∙ next.passed b (omega arith) (omega arith)

  -- up to the first one in the next row
  pub passed_in_next : (first : ℕ) → slice_get nexts 0 ≡ Some first → length marks ≤ in_row → (n : ℕ) → number ≤ n → n < number - number % length marks + length marks + first → get_or marks (n % length marks) false ≡ false
  passed_in_next first at_first past n ge lt =
      elim (cases_lt n (number - number % length marks + in_row)) [
        | inl less ↦ passed_in_row n ge less
        | inr more ↦
            let atoms = length marks in
            let (within, next) = are.each 0 first at_first in
            let split = div-add-mod' number atoms in
            let row = suc-mul (number / atoms) atoms in
            let b = n - suc (number / atoms) * atoms in
            let here : suc (number / atoms) * atoms + b ≡ n = omega arith in
            let low : b < atoms = omega arith in
            let place : n % atoms ≡ b = ap (λ (x : ℕ). x % atoms) (sym here) ∙ mod-mul-add (suc (number / atoms)) atoms b low in
            ap (λ (x : ℕ). get_or marks x false) place ∙ next.passed b (omega arith) (omega arith)
      ]

  -- so the next class is there, in its row
  pub next_in_row : in_row < length marks → IsNextNumber marks number (number - number % length marks + in_row)
  next_in_row low =
      let atoms = length marks in
      let (within, next) = are.each (number % atoms) in_row at in
      let from = next.from in
      let split = div-add-mod' number atoms in
      let same : number / atoms * atoms + in_row ≡ number - number % atoms + in_row = omega arith in
      let place : (number - number % atoms + in_row) % atoms ≡ in_row = ap (λ (x : ℕ). x % atoms) (sym same) ∙ mod-mul-add (number / atoms) atoms in_row low in
      record { from = omega arith; passed = passed_in_row; marked = ap (λ (x : ℕ). get_or marks x false) place ∙ next.marked low }

  -- or in the next row
  pub next_in_next : (first : ℕ) → slice_get nexts 0 ≡ Some first → length marks ≤ in_row → first < length marks → IsNextNumber marks number (number - number % length marks + length marks + first)
  next_in_next first at_first past low =
      let atoms = length marks in
      let (within, next) = are.each 0 first at_first in
      let split = div-add-mod' number atoms in
      let row = suc-mul (number / atoms) atoms in
      let some = are.some in
      let under : number % atoms < atoms = mod_below number atoms some in
      let same : suc (number / atoms) * atoms + first ≡ number - number % atoms + atoms + first = omega arith in
      let place : (number - number % atoms + atoms + first) % atoms ≡ first = ap (λ (x : ℕ). x % atoms) (sym same) ∙ mod-mul-add (suc (number / atoms)) atoms first low in
      record { from = omega arith; passed = passed_in_next first at_first past; marked = ap (λ (x : ℕ). get_or marks x false) place ∙ next.marked low }

-- where no atom is marked there is none
pub none_next : (marks : List Bool) (nexts : List ℕ) → AreNext marks nexts → (first : ℕ) → slice_get nexts 0 ≡ Some first → length marks ≤ first → (n : ℕ) → get_or marks (n % length marks) false ≡ false
none_next marks nexts are first at past n =
    let (within, next) = are.each 0 first at in
    let low = mod_below n (length marks) are.some in
    next.passed (n % length marks) (omega arith) (omega arith)
