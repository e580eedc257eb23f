-- The marks of the atoms that a round touches.
use Rattle.std.proofs.Common.{◌≡◌, ℕ, zero, suc, ◌+◌, ◌-◌, ◌%◌, ◌<◌, ◌≤◌, Bool, true, false, List, [], ◌∷◌, ◌++◌, length, get_or, take, drop, replicate, All, refl, sym, ap, ◌∙◌, subst, inl, inr, arith}
use Rattle.std.specs.Prelude.{◌↔◌, ◌||◌, map, slice_get, Some}
use Rattle.std.proofs.lemmas.Bool.{false≢true}
use Rattle.std.proofs.lemmas.List.{append-nil, drop_all, take_all}
use Rattle.std.proofs.lemmas.List.Elements.{All-from_recursion}
use Rattle.std.proofs.lemmas.List.Folds.{list_any_more}
use Rattle.net_base.specs.Blocks.{Block, in_block}
use Rattle.net_base.specs.Members.{IsIn}
use Rattle.net_base.proofs.MemberLaws.{each_from_in, in_map, in_append_left, in_append_right}
use Rattle.flow_rules.specs.Tables.{table_blocks}
use Rattle.dest_classes.specs.Classes.{ClassList, IsClass, atom_count, class_count}
use Rattle.dest_classes.specs.Atoms.{IsAmong}
use Rattle.dest_classes.specs.declared.AtomRange.{AtomRange}
use Rattle.dest_classes.specs.declared.Class.{Class}
use Rattle.demands.specs.Duties.{DemandView}
use Rattle.update_model.specs.Changes.{rule_of, round_after, round_blocks}
use Rattle.update_model.specs.declared.Change.{Change}
use Rattle.certificates.specs.Updates.{Task}
use Rattle.certificates.specs.Certified.{classes_for}
use Rattle.check_reasons.specs.Touched.{touches}
use Rattle.check_reasons.specs.AtomMarks.{is_marked, AreTouched}

-- ---- the prefixes of changes

-- the prefix of a change
abbrev pub prefix_of : Change → Block
prefix_of c = (rule_of c).key.pattern.dst

in_rounds : (rounds : List (List Change)) (k : ℕ) (c : Change) → IsIn c (round_after k rounds) → IsIn (prefix_of c) (round_blocks rounds)
in_rounds [] k c i = absurd i
in_rounds (round ∷ rounds) zero c i = in_append_left (prefix_of c) (map prefix_of round) (round_blocks rounds) (in_map prefix_of c round i)
in_rounds (round ∷ rounds) (suc k) c i = in_append_right (prefix_of c) (map prefix_of round) (round_blocks rounds) (in_rounds rounds k c i)

-- the prefix of each change of a round is one of the update's
pub prefixes_known : (t : Task) (k : ℕ) → All (λ c. IsIn (rule_of c).key.pattern.dst (classes_for t).prefixes) (round_after k t.rounds)
prefixes_known t k =
    let front = table_blocks t.update.old ++ table_blocks t.update.new ++ map (λ (d : DemandView). d.dst) t.update.demands in
    All-from_recursion (λ c. IsIn (prefix_of c) (classes_for t).prefixes) (round_after k t.rounds)
    (each_from_in (λ c. IsIn (prefix_of c) (classes_for t).prefixes) (round_after k t.rounds) (λ c i. in_append_right (prefix_of c) front (round_blocks t.rounds) (in_rounds t.rounds k c i)))

-- ---- marks

or_true : (b : Bool) → true ≡ (b || true)
or_true true = refl
or_true false = refl

or_false : (b : Bool) → b ≡ (b || false)
or_false true = refl
or_false false = refl

marked_at : (Among : Type 0) (old new before here : Bool) → Among ↔ (here ≡ true) → (Among → new ≡ true) → (¬ Among → new ≡ old) → old ≡ before → new ≡ (before || here)
marked_at Among old new before true is among others was = among (is.1 refl) ∙ or_true before
marked_at Among old new before false is among others was = others (λ a. false≢true (is.0 a)) ∙ was ∙ or_false before

-- what a slice of a whole list writes back
pub written_back : {A : Type 0} (len : ℕ) (new items : List A) → length new ≡ length items → length items ≡ len → take len (new ++ drop (length new) items) ≡ new
written_back {A} len new items same is =
    let e : new ++ drop (length new) items ≡ new = ap (λ (xs : List A). new ++ xs) (drop_all (length new) items (omega arith)) ∙ append-nil new in
    ap (take len) e ∙ take_all len new (omega arith)

-- one more change, with the atoms of its prefix marked
pub touched_more : (classes : ClassList) (round : List Change) (i : ℕ) (c : Change) (range : AtomRange) (old new : List Bool) → i < length round
    → ((n : ℕ) (class : Class) → IsClass classes n class → IsAmong range (n % atom_count classes) ↔ (in_block (prefix_of (get_or round i c)) class.first ≡ true))
    → ((a : ℕ) → IsAmong range a → get_or new a false ≡ true) → ((a : ℕ) → ¬ IsAmong range a → get_or new a false ≡ get_or old a false)
    → AreTouched classes (take i round) old → AreTouched classes (take (i + 1) round) new
touched_more classes round i c range old new within is among others before n class h =
    let a = n % atom_count classes in
    marked_at (IsAmong range a) (get_or old a false) (get_or new a false) (touches (take i round) class.first) (in_block (prefix_of (get_or round i c)) class.first) (is n class h) (among a) (others a) (before n class h)
    ∙ sym (list_any_more (λ (d : Change). in_block (prefix_of d) class.first) round i c within)
