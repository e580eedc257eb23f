-- The atoms that a round touches, looked at.
use Rattle.std.proofs.Common.{◌≡◌, ℕ, ◌%◌, ◌<◌, Bool, true, false, List, length, refl, sym, ◌∙◌, subst, arith}
use Rattle.std.proofs.lemmas.Nat.{mod_below}
use Rattle.dest_classes.specs.Classes.{ClassList, class_count, atom_count}
use Rattle.dest_classes.proofs.MapLaws.{number_fits, some_atom}
use Rattle.update_model.specs.declared.Change.{Change}
use Rattle.check_reasons.specs.AtomMarks.{is_marked, AreTouched}
use Rattle.round_judge.specs.Goals.{HasAtoms}

-- two marks of which each is set where the other is are the same
same_mark : (a b : Bool) → (a ≡ true → b ≡ true) → (b ≡ true → a ≡ true) → a ≡ b
same_mark true b there back = sym (there refl)
same_mark false true there back = back refl
same_mark false false there back = refl

-- the atoms that are looked at are those that the round touches, where they are those of its marks
pub looked_touched : (classes : ClassList) (round : List Change) (touched looked : List Bool) → HasAtoms classes looked → AreTouched classes round touched
    → ((atom : ℕ) → atom < length looked → is_marked touched atom ≡ true → is_marked looked atom ≡ true)
    → ((atom : ℕ) → atom < length looked → is_marked looked atom ≡ true → is_marked touched atom ≡ true) → AreTouched classes round looked
looked_touched classes round touched looked atoms marks there back n class is =
    let less = number_fits classes n class is in
    let some : 0 < class_count classes = omega arith in
    let long = atoms some in
    let low : n % atom_count classes < length looked = subst (λ m. n % atom_count classes < m) (sym long) (mod_below n (atom_count classes) (some_atom classes)) in
    same_mark (is_marked looked (n % atom_count classes)) (is_marked touched (n % atom_count classes)) (back (n % atom_count classes) low) (there (n % atom_count classes) low) ∙ marks n class is
