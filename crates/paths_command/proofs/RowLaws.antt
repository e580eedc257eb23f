-- Rows, one more row, and what the counts of their marks say.
use Rattle.std.proofs.Common.{◌≡◌, ℕ, zero, suc, ◌+◌, ◌<◌, Bool, true, false, cond, List, [], ◌∷◌, ◌++◌, length, None, Some, refl, sym, ◌∙◌, subst, ap, inl, inr, arith, length-append, append-nil}
use Rattle.std.specs.Prelude.{◌⊎◌, slice_get, flat_map, count_by}
use Rattle.std.proofs.lemmas.Grind.{flat_map-append}
use Rattle.std.proofs.lemmas.List.Sums.{sum_by_push, sum_by-cons}
use Rattle.config_command.specs.Configs.{ConfigMeaning}
use Rattle.paths_command.specs.declared.marks.Counts.{Counts}
use Rattle.paths_command.specs.declared.marks.Mark.{Mark}
use Rattle.paths_command.specs.declared.marks.Mark.TheVariants.{Good, Free, Breaks}
use Rattle.paths_command.specs.Rows.{ClassRow, IsRow}
use Rattle.paths_command.specs.Lines.{row_line, counts_of, is_good, is_free, is_break}
use Rattle.paths_command.specs.Listed.{IsListing}

-- what is found in a list with one more member is found in the list, or is the last member
push_cases : {A : Type 0} (xs : List A) (x y : A) (i : ℕ) → slice_get (xs ++ x ∷ []) i ≡ Some y → (slice_get xs i ≡ Some y) ⊎ ((i ≡ length xs) × (x ≡ y))
push_cases [] x y zero e = let f : Some x ≡ Some y = e in inr (refl, cc)
push_cases [] x y (suc i) e = absurd (let f : None ≡ Some y = e in cc)
push_cases (z ∷ xs) x y zero e = inl e
push_cases (z ∷ xs) x y (suc i) e =
    elim (push_cases xs x y i e) [
      | inl f ↦ inl f
      | inr f ↦ inr (ap suc f.0, f.1)
    ]

-- a place of a list holds something
pub get_some : {A : Type 0} (xs : List A) (i : ℕ) → i < length xs → (x : A) × (slice_get xs i ≡ Some x)
get_some [] i within = absurd (omega arith)
get_some (x ∷ xs) zero within = (x, refl)
get_some (x ∷ xs) (suc i) within = get_some xs i (omega arith)

same_counts : (a b : Counts) → a.good ≡ b.good → a.free ≡ b.free → a.breaks ≡ b.breaks → a ≡ b
same_counts a b good free breaks =
    ap (λ (n : ℕ). let c : Counts = record { good = n; free = a.free; breaks = a.breaks } in c) good
    ∙ ap (λ (n : ℕ). let c : Counts = record { good = b.good; free = n; breaks = a.breaks } in c) free
    ∙ ap (λ (n : ℕ). let c : Counts = record { good = b.good; free = b.free; breaks = n } in c) breaks

count_push : (p : Mark → Bool) (rows : List ClassRow) (row : ClassRow) → count_by (λ r. p r.mark) (rows ++ row ∷ []) ≡ count_by (λ r. p r.mark) rows + cond (p row.mark) 1 0
count_push p rows row = sum_by_push (λ (r : ClassRow). cond (p r.mark) 1 0) rows row

count_cons : (p : Mark → Bool) (row : ClassRow) (rows : List ClassRow) → count_by (λ r. p r.mark) (row ∷ rows) ≡ cond (p row.mark) 1 0 + count_by (λ r. p r.mark) rows
count_cons p row rows = sum_by-cons (λ (r : ClassRow). cond (p r.mark) 1 0) row rows

-- each row has one kind of mark
pub total : (rows : List ClassRow) → (counts_of rows).good + (counts_of rows).free + (counts_of rows).breaks ≡ length rows
total [] = refl
total (row ∷ rows) =
    rw (count_cons is_good row rows, count_cons is_free row rows, count_cons is_break row rows)
    (one_of row.mark (counts_of rows).good (counts_of rows).free (counts_of rows).breaks (length rows) (total rows))
  where
    one_of : (mark : Mark) (g f b n : ℕ) → g + f + b ≡ n → (cond (is_good mark) 1 0 + g) + (cond (is_free mark) 1 0 + f) + (cond (is_break mark) 1 0 + b) ≡ suc n
    one_of Good g f b n rest = omega (arith, rest)
    one_of Free g f b n rest = omega (arith, rest)
    one_of (Breaks how) g f b n rest = omega (arith, rest)

-- fewer marks are counted than there are classes to come
pub room_for_one : (m : ConfigMeaning) (n most : ℕ) (text : List ℕ) (counts : Counts) → IsListing m n text counts → n < most → counts.good + counts.free + counts.breaks < most
room_for_one m n most text counts so below =
    subst (λ (c : Counts). c.good + c.free + c.breaks < most) (sym so.counts_are) (subst (λ k. k < most) (sym (total so.rows ∙ so.are.count_is)) below)

-- where no break is counted, no row breaks
pub none_breaks : (rows : List ClassRow) → (counts_of rows).breaks ≡ 0 → (n : ℕ) (row : ClassRow) → slice_get rows n ≡ Some row → is_break row.mark ≡ false
none_breaks [] none n row e = absurd (let f : None ≡ Some row = e in cc)
none_breaks (r ∷ rows) none zero row e =
    let same : r ≡ row = (let f : Some r ≡ Some row = e in cc) in
    subst (λ (x : ClassRow). is_break x.mark ≡ false) same
    (elim (is_break r.mark) as (λ b. cond b 1 0 + (counts_of rows).breaks ≡ 0 → b ≡ false) [
      | true ↦ λ f. absurd (omega (arith, f))
      | false ↦ λ f. refl
    ] (sym (count_cons is_break r rows) ∙ none))
none_breaks (r ∷ rows) none (suc n) row e =
    none_breaks rows (let f : cond (is_break r.mark) 1 0 + (counts_of rows).breaks ≡ 0 = sym (count_cons is_break r rows) ∙ none in omega (arith, f)) n row e

-- where a break is counted, a row breaks
pub some_breaks : (rows : List ClassRow) (k : ℕ) → (counts_of rows).breaks ≡ suc k → (n : ℕ) × (row : ClassRow) × (slice_get rows n ≡ Some row) × (is_break row.mark ≡ true)
some_breaks [] k some = absurd (let f : 0 ≡ suc k = some in omega (arith, f))
some_breaks (r ∷ rows) k some =
    elim (is_break r.mark) as (λ b. is_break r.mark ≡ b → cond b 1 0 + (counts_of rows).breaks ≡ suc k → (n : ℕ) × (row : ClassRow) × (slice_get (r ∷ rows) n ≡ Some row) × (is_break row.mark ≡ true)) [
      | true ↦ λ is f. (0, r, refl, is)
      | false ↦ λ is f. (let (n, row, found, breaks) = some_breaks rows k (let g : 0 + (counts_of rows).breaks ≡ suc k = f in omega (arith, g)) in (suc n, row, found, breaks))
    ] refl (sym (count_cons is_break r rows) ∙ some)

-- one row more
pub one_more : (m : ConfigMeaning) (n : ℕ) (text : List ℕ) (counts : Counts) (row : ClassRow) (added : List ℕ) (counted : Counts) → IsListing m n text counts → IsRow m n row
    → added ≡ text ++ row_line m.net row
    → counted.good ≡ counts.good + cond (is_good row.mark) 1 0 → counted.free ≡ counts.free + cond (is_free row.mark) 1 0 → counted.breaks ≡ counts.breaks + cond (is_break row.mark) 1 0
    → IsListing m (n + 1) added counted
one_more m n text counts row added counted so is added_is good free breaks = record {
  rows = so.rows ++ row ∷ [];
  are = record {
    count_is = length-append so.rows (row ∷ []) ∙ ap (λ k. k + 1) so.are.count_is;
    each = λ i other e.
        elim (push_cases so.rows row other i e) [
          | inl f ↦ so.are.each i other f
          | inr f ↦ subst (λ k. IsRow m k other) (sym (f.0 ∙ so.are.count_is)) (subst (IsRow m n) f.1 is)
        ];
  };
  text_is = added_is ∙ ap (λ t. t ++ row_line m.net row) so.text_is ∙ sym (flat_map-append (row_line m.net) so.rows (row ∷ []) ∙ ap (λ t. flat_map (row_line m.net) so.rows ++ t) (append-nil (row_line m.net row)));
  counts_are =
      let old = so.counts_are in
      same_counts counted (counts_of (so.rows ++ row ∷ []))
      (good ∙ ap (λ (c : Counts). c.good + cond (is_good row.mark) 1 0) old ∙ sym (count_push is_good so.rows row))
      (free ∙ ap (λ (c : Counts). c.free + cond (is_free row.mark) 1 0) old ∙ sym (count_push is_free so.rows row))
      (breaks ∙ ap (λ (c : Counts). c.breaks + cond (is_break row.mark) 1 0) old ∙ sym (count_push is_break so.rows row));
}
