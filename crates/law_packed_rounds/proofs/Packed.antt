-- Packed rounds.
use Rattle.std.proofs.Common.{◌≡◌, ◌≢◌, ◌≤◌, List, [], ◌∷◌, ◌++◌, length, refl, sym, ◌∙◌, subst, ap, inl, inr, arith}
use Rattle.std.specs.List.{AllByRecursion}
use Rattle.net_base.specs.Members.{IsIn, IsSubsequence}
use Rattle.net_base.proofs.MemberLaws.{in_append_left, in_append_right, in_append_cases}
use Rattle.flow_rules.specs.Tables.{IsTable}
use Rattle.flow_rules.specs.declared.rules.Rule.{Rule}
use Rattle.update_model.specs.Changes.{tables_after, tables_after_change}
use Rattle.update_model.specs.Remaining.{remaining_changes, AreRemaining}
use Rattle.update_model.specs.declared.Change.{Change}
use Rattle.update_model.proofs.RemainingLaws.{AllUnique, remaining_shortens, remaining_made, unique_then}
use Rattle.table_difference.proofs.WithoutLaws.{unique_tables, remaining_without}
use Rattle.certificates.proofs.Fewer.{round_of_fewer}
use Rattle.table_difference.specs.Targets.{Target}
use Rattle.law_packed_rounds.specs.Packing.{IsFilled, CanStand, IsPackedRound, ArePacked, PacksOrdered, PacksStuck, tables_past}
use Rattle.law_packed_rounds.proofs.Filled.{round_part, filled_once, filled_full, filled_stands, whole_filled}

-- fewer changes can stand too
fewer_stand : (to : Target) (tables : List (List Rule)) (some changes : List Change) → IsSubsequence some changes → CanStand to tables changes → CanStand to tables some
fewer_stand to tables some changes part can = round_of_fewer to.net tables some changes part to.demands to.classes can

pub packed_once : (to : Target) (tables : List (List Rule)) (one other : List Change) → IsPackedRound to tables one → IsPackedRound to tables other → one ≡ other
packed_once to tables one other a b = filled_once (CanStand to tables) [] (remaining_changes tables to.new) one other a b

pub packed_full : (to : Target) (tables : List (List Rule)) (round : List Change) → IsPackedRound to tables round → (c : Change) → IsIn c (remaining_changes tables to.new) → ¬ IsIn c round
    → ¬ CanStand to tables (round ++ c ∷ [])
packed_full to tables round packed c i out = filled_full (CanStand to tables) (fewer_stand to tables) [] (remaining_changes tables to.new) round packed c i out

pub stuck_alone : (to : Target) (old : List (List Rule)) (rounds : List (List Change)) → PacksStuck to old rounds → (c : Change) → IsIn c (remaining_changes (tables_past rounds old) to.new)
    → ¬ CanStand to (tables_past rounds old) (c ∷ [])
stuck_alone to old rounds stuck c i = packed_full to (tables_past rounds old) [] stuck.none_stands c i (λ j. j)

-- a round with nothing left for it is empty
none_packed : (to : Target) (tables : List (List Rule)) (round : List Change) → remaining_changes tables to.new ≡ [] → IsPackedRound to tables round → round ≡ []
none_packed to tables round none packed = subst (λ cs. IsFilled (CanStand to tables) [] cs round) none packed

pub ordered_once : (to : Target) (old : List (List Rule)) (one other : List (List Change)) → PacksOrdered to old one → PacksOrdered to old other → one ≡ other
ordered_once to old [] [] a b = refl
ordered_once to old [] (round ∷ rounds) a b = absurd (b.packed.1 (none_packed to old round a.none_remains b.packed.0))
ordered_once to old (round ∷ rounds) [] a b = absurd (a.packed.1 (none_packed to old round b.none_remains a.packed.0))
ordered_once to old (round ∷ one) (other ∷ others) a b =
    let same : round ≡ other = packed_once to old round other a.packed.0 b.packed.0 in
    let rest : one ≡ others =
    ordered_once to (tables_after round old) one others (record { packed = a.packed.2; none_remains = a.none_remains })
    (record {
      packed = subst (λ r. ArePacked to (tables_after r old) others) (sym same) b.packed.2;
      none_remains = subst (λ r. remaining_changes (tables_past others (tables_after r old)) to.new ≡ []) (sym same) b.none_remains;
    }) in
    ap (λ r. r ∷ one) same ∙ ap (λ rs. other ∷ rs) rest

pub stuck_once : (to : Target) (old : List (List Rule)) (one other : List (List Change)) → PacksStuck to old one → PacksStuck to old other → one ≡ other
stuck_once to old [] [] a b = refl
stuck_once to old [] (round ∷ rounds) a b = absurd (b.packed.1 (packed_once to old round [] b.packed.0 a.none_stands))
stuck_once to old (round ∷ rounds) [] a b = absurd (a.packed.1 (packed_once to old round [] a.packed.0 b.none_stands))
stuck_once to old (round ∷ one) (other ∷ others) a b =
    let same : round ≡ other = packed_once to old round other a.packed.0 b.packed.0 in
    let rest : one ≡ others =
    stuck_once to (tables_after round old) one others (record { packed = a.packed.2; some_remain = a.some_remain; none_stands = a.none_stands })
    (record {
      packed = subst (λ r. ArePacked to (tables_after r old) others) (sym same) b.packed.2;
      some_remain = subst (λ r. remaining_changes (tables_past others (tables_after r old)) to.new ≢ []) (sym same) b.some_remain;
      none_stands = subst (λ r. IsPackedRound to (tables_past others (tables_after r old)) []) (sym same) b.none_stands;
    }) in
    ap (λ r. r ∷ one) same ∙ ap (λ rs. other ∷ rs) rest

pub ordered_or_stuck : (to : Target) (old : List (List Rule)) (one other : List (List Change)) → PacksOrdered to old one → ¬ PacksStuck to old other
ordered_or_stuck to old [] [] a = λ b. b.some_remain a.none_remains
ordered_or_stuck to old [] (round ∷ rounds) a = λ b. b.packed.1 (none_packed to old round a.none_remains b.packed.0)
ordered_or_stuck to old (round ∷ rounds) [] a = λ b. a.packed.1 (packed_once to old round [] a.packed.0 b.none_stands)
ordered_or_stuck to old (round ∷ one) (other ∷ others) a = λ b.
    let same : round ≡ other = packed_once to old round other a.packed.0 b.packed.0 in
    ordered_or_stuck to (tables_after round old) one others (record { packed = a.packed.2; none_remains = a.none_remains })
    (record {
      packed = subst (λ r. ArePacked to (tables_after r old) others) (sym same) b.packed.2;
      some_remain = subst (λ r. remaining_changes (tables_past others (tables_after r old)) to.new ≢ []) (sym same) b.some_remain;
      none_stands = subst (λ r. IsPackedRound to (tables_past others (tables_after r old)) []) (sym same) b.none_stands;
    })

-- the first of some members, with what stands before and behind it
first_part : {A : Type 0} (x : A) (xs ys : List A) → IsSubsequence (x ∷ xs) ys → (front : List A) × (back : List A) × (ys ≡ front ++ x ∷ back) × IsSubsequence xs back
first_part x xs [] h = absurd h
first_part x xs (y ∷ ys) (inl (e, h)) = ([], ys, ap (λ z. z ∷ ys) (sym e), h)
first_part x xs (y ∷ ys) (inr h) =
    let (front, back, are, part) = first_part x xs ys h in
    (y ∷ front, back, ap (λ zs. y ∷ zs) are, part)

part_behind : {A : Type 0} (front xs ys : List A) → IsSubsequence xs ys → IsSubsequence xs (front ++ ys)
part_behind [] xs ys h = h
part_behind (z ∷ front) [] ys h = tt
part_behind (z ∷ front) (x ∷ xs) ys h = inr (part_behind front (x ∷ xs) ys h)

-- changes that remain, in their order, are changes that remain one after the other, and the rest remains behind them
module _ (new : List (List Rule)) (new_unique : AllUnique new) where
  pub record IsMade (now : List (List Rule)) (changes : List Change) : Type 0 where
    pub made : AreRemaining now new changes
    pub unique : AllUnique (tables_after changes now)
    pub others : (d : Change) → IsIn d (remaining_changes now new) → ¬ IsIn d changes → IsIn d (remaining_changes (tables_after changes now) new)

  pub part_made : (now : List (List Rule)) → AllUnique now → (changes : List Change) → IsSubsequence changes (remaining_changes now new) → IsMade now changes
  part_made now unique [] part = record { made = tt; unique = unique; others = λ d i out. i }
  part_made now unique (c ∷ changes) part =
      let (front, back, are, behind) = first_part c changes (remaining_changes now new) part in
      let stands : IsIn c (remaining_changes now new) = subst (IsIn c) (sym are) (in_append_right c front (c ∷ back) (inl refl)) in
      let (applies, fewer) = remaining_shortens now new unique new_unique c stands in
      let then : AllUnique (tables_after_change c now) = unique_then now c applies unique in
      let left : remaining_changes (tables_after_change c now) new ≡ front ++ back = remaining_without now new unique new_unique front back c are in
      let rest = part_made (tables_after_change c now) then changes (subst (IsSubsequence changes) (sym left) (part_behind front changes back behind)) in
      record {
        made = (stands, rest.made);
        unique = rest.unique;
        others = λ d i out.
            rest.others d (subst (IsIn d) (sym left) (elim (in_append_cases d front (c ∷ back) (subst (IsIn d) are i)) [
              | inl j ↦ in_append_left d front back j
              | inr j ↦ elim j [ inl e ↦ absurd (out (inl e)) | inr k ↦ in_append_right d front back k ]
            ])) (λ j. out (inr j));
      }

  pub some_more : (round : List Change) → round ≢ [] → 1 ≤ length round
  some_more [] some = absurd (some refl)
  some_more (c ∷ round) some = omega arith

-- a packed round is some of what remains, in its order
pub packed_part : (to : Target) (tables : List (List Rule)) (round : List Change) → IsPackedRound to tables round → IsSubsequence round (remaining_changes tables to.new)
packed_part to tables round packed =
    let (more, are, part) = round_part (CanStand to tables) [] (remaining_changes tables to.new) round packed in
    subst (λ r. IsSubsequence r (remaining_changes tables to.new)) (sym are) part

packed_count : (to : Target) → AllUnique to.new → (now : List (List Rule)) → AllUnique now → (rounds : List (List Change)) → ArePacked to now rounds
    → length rounds ≤ length (remaining_changes now to.new)
packed_count to new_unique now unique [] packed = omega arith
packed_count to new_unique now unique (round ∷ rounds) packed =
    let made = part_made to.new new_unique now unique round (packed_part to now round packed.0) in
    let fewer = remaining_made to.new new_unique now unique round made.made in
    let some = some_more to.new new_unique round packed.1 in
    let rest = packed_count to new_unique (tables_after round now) made.unique rounds packed.2 in
    omega arith

pub never_more : (to : Target) (old : List (List Rule)) (rounds : List (List Change)) → AllByRecursion IsTable old → AllByRecursion IsTable to.new → PacksOrdered to old rounds
    → length rounds ≤ length (remaining_changes old to.new)
never_more to old rounds old_are new_are ordered = packed_count to (unique_tables to.new new_are) old (unique_tables old old_are) rounds ordered.packed

-- nothing remains behind all that remains
pub all_made : (to : Target) (old : List (List Rule)) → AllByRecursion IsTable old → AllByRecursion IsTable to.new → remaining_changes (tables_after (remaining_changes old to.new) old) to.new ≡ []
all_made to old old_are new_are =
    let made = part_made to.new (unique_tables to.new new_are) old (unique_tables old old_are) (remaining_changes old to.new) (whole (remaining_changes old to.new)) in
    let count = remaining_made to.new (unique_tables to.new new_are) old (unique_tables old old_are) (remaining_changes old to.new) made.made in
    empty_of (remaining_changes (tables_after (remaining_changes old to.new) old) to.new) (omega arith)
  where
    whole : {A : Type 0} (xs : List A) → IsSubsequence xs xs
    whole [] = tt
    whole (x ∷ xs) = inl (refl, whole xs)

    empty_of : {A : Type 0} (xs : List A) → length xs ≡ 0 → xs ≡ []
    empty_of [] e = refl
    empty_of (x ∷ xs) e = absurd (omega arith)

pub one_enough : (to : Target) (old : List (List Rule)) → remaining_changes old to.new ≢ [] → AllByRecursion IsTable old → AllByRecursion IsTable to.new
    → CanStand to old (remaining_changes old to.new) → PacksOrdered to old (remaining_changes old to.new ∷ [])
one_enough to old some old_are new_are can = record {
  packed = (whole_filled (CanStand to old) (fewer_stand to old) [] (remaining_changes old to.new) can, some, tt);
  none_remains = all_made to old old_are new_are;
}

part_short : {A : Type 0} (xs ys : List A) → IsSubsequence xs ys → length xs ≤ length ys
part_short [] ys h = omega arith
part_short (x ∷ xs) [] h = absurd h
part_short (x ∷ xs) (y ∷ ys) (inl (e, h)) = let n = part_short xs ys h in omega arith
part_short (x ∷ xs) (y ∷ ys) (inr h) = let n = part_short (x ∷ xs) ys h in omega arith

part_whole : {A : Type 0} (xs ys : List A) → IsSubsequence xs ys → length xs ≡ length ys → xs ≡ ys
part_whole [] [] h n = refl
part_whole [] (y ∷ ys) h n = absurd (omega arith)
part_whole (x ∷ xs) [] h n = absurd h
part_whole (x ∷ xs) (y ∷ ys) (inl (e, h)) n = ap (λ z. z ∷ xs) e ∙ ap (λ zs. y ∷ zs) (part_whole xs ys h (omega arith))
part_whole (x ∷ xs) (y ∷ ys) (inr h) n = let m = part_short (x ∷ xs) ys h in absurd (omega arith)

pub one_needed : (to : Target) (old : List (List Rule)) (round : List Change) → AllByRecursion IsTable old → AllByRecursion IsTable to.new
    → PacksOrdered to old (round ∷ []) → CanStand to old (remaining_changes old to.new)
one_needed to old round old_are new_are ordered =
    let part = packed_part to old round ordered.packed.0 in
    let made = part_made to.new (unique_tables to.new new_are) old (unique_tables old old_are) round part in
    let count = remaining_made to.new (unique_tables to.new new_are) old (unique_tables old old_are) round made.made in
    let none : length (remaining_changes (tables_after round old) to.new) ≡ 0 = ap (λ cs. length cs) ordered.none_remains in
    let all : round ≡ remaining_changes old to.new = part_whole round (remaining_changes old to.new) part (omega arith) in
    elim (filled_stands (CanStand to old) [] (remaining_changes old to.new) round ordered.packed.0) [
      | inl e ↦ absurd (ordered.packed.1 e)
      | inr can ↦ subst (CanStand to old) all can
    ]
