-- One change more over what is prepared for others.
use Rattle.std.proofs.Common.{◌≡◌, ℕ, zero, suc, ◌+◌, ◌≤◌, ◌<◌, true, false, List, [], ◌∷◌, ◌++◌, map, length, refl, sym, ◌∙◌, subst, ap, arith, append_assoc}
use Rattle.std.specs.Prelude.{Bool, slice_get, slice_set, Option, Some, None, IfSome, IsSomeAnd, IsPermutation}
use Rattle.std.specs.List.{AllByRecursion}
use Rattle.std.specs.Option.{option_map_or}
use Rattle.std.proofs.lemmas.Bool.{both_ways}
use Rattle.std.proofs.lemmas.List.{append-nil, length-map}
use Rattle.std.proofs.lemmas.List.Sorted.{IsPermutation-map, IsPermutation-sym, IsPermutation-push_more, length_permutation}
use Rattle.net_base.specs.Members.{IsIn, IsDistinct}
use Rattle.net_base.specs.declared.ids.SwitchId.{SwitchId}
use Rattle.net_base.proofs.ListLaws.{any_in}
use Rattle.net_base.proofs.MemberLaws.{in_append_left, in_append_right, in_map, in_from_map, each_at, each_from_in, each_weaker, map-push, in_permutation}
use Rattle.net_base.proofs.ItemLaws.{in_from_get}
use Rattle.flow_rules.specs.Overlaps.{IsClash, keys_clash}
use Rattle.flow_rules.specs.Patterns.{key_eq}
use Rattle.flow_rules.specs.Tables.{keys_of, IsTable, IsClear}
use Rattle.flow_rules.specs.declared.rules.Key.{Key}
use Rattle.flow_rules.specs.declared.rules.Pattern.{Pattern}
use Rattle.flow_rules.specs.declared.rules.Rule.{Rule}
use Rattle.flow_rules.proofs.DistinctLaws.{keys_moved}
use Rattle.flow_rules.proofs.KeyLaws.{key_eq-refl}
use Rattle.flow_rules.proofs.TableLaws.{rule_eq-refl}
use Rattle.update_model.specs.Changes.{AppliesTo}
use Rattle.update_model.specs.Mixtures.{is_insert}
use Rattle.update_model.specs.declared.Change.{Change}
use Rattle.update_model.specs.declared.Change.TheVariants.{Insert, Delete, Replace}
use Rattle.update_model.proofs.ChangeLaws.{key_named}
use Rattle.round_mix.specs.Faults.{IsGoodAfter}
use Rattle.round_mix.specs.Marks.{mark_by, change_of, marked_rule, inserted_rules, all_rules, marked_rules, rules_of}
use Rattle.round_mix.specs.Named.{with_mark, IsNamed, IsMarkedBy, AreMarked}
use Rattle.round_mix.specs.Nearest.{patterns_in}
use Rattle.round_mix.specs.Prepared.{AreGood, IsFalling, IsPrepared}
use Rattle.round_mix.specs.Tried.{put_in, clashes_with, IsTriedNext}
use Rattle.round_mix.specs.declared.Mark.TheVariants.{Sure, Possible}
use Rattle.round_mix.specs.declared.MarkedRule.{MarkedRule}
use Rattle.round_mix.proofs.ApartLaws.{same_clash}
use Rattle.round_mix.proofs.ClearLaws.{keys_apart}
use Rattle.round_mix.proofs.GoodLaws.{good_push}
use Rattle.round_mix.proofs.KeyedLaws.{applies_named}
use Rattle.round_mix.proofs.MarkLaws.{in_inserted, change_found}
use Rattle.round_mix.proofs.NamedLaws.{found_last, names_key, all_unchanged, marked_push}
use Rattle.round_mix.proofs.TriedLaws.{marks_are, rules_moved, prepared_of, clear_all, clear_of, clear_more, falling_by, put_moved, put_falling, clash_to}

-- an insert puts its rule behind the others
inserted_push : (cs : List Change) (c : Change) → inserted_rules (cs ++ c ∷ []) ≡ inserted_rules cs ++ inserted_rules (c ∷ [])
inserted_push [] c = refl
inserted_push (Insert s r ∷ cs) c = ap (λ (rs : List Rule). r ∷ rs) (inserted_push cs c)
inserted_push (Delete s r ∷ cs) c = inserted_push cs c
inserted_push (Replace s r ∷ cs) c = inserted_push cs c

pub all_push : (table : List Rule) (cs : List Change) (c : Change) → all_rules table (cs ++ c ∷ []) ≡ all_rules table cs ++ inserted_rules (c ∷ [])
all_push table cs c = ap (λ (rs : List Rule). table ++ rs) (inserted_push cs c) ∙ sym (append_assoc table (inserted_rules cs) (inserted_rules (c ∷ [])))

-- no change is found for a key that none names
pub unfound : (cs : List Change) (r : Rule) → ¬ IsIn r.key (map key_named cs) → change_of cs r ≡ None
unfound cs r fresh =
    elim (change_of cs r) as (λ (o : Option Change). change_of cs r ≡ o → o ≡ None) [
      | None ↦ λ _. refl
      | Some c ↦ λ f. let (i, named) = change_found cs r c f in absurd (fresh (subst (λ k. IsIn k (map key_named cs)) named (in_map key_named c cs i)))
    ] refl

-- a good change names a rule of the table or an inserted one
named_good : (table : List Rule) (cs : List Change) → AreGood table cs → (c : Change) → IsIn c cs → IsNamed (all_rules table cs) c
named_good table cs good (Insert s r) i = (r, in_append_right r table (inserted_rules cs) (in_inserted cs (Insert s r) r i refl), key_eq-refl r.key)
named_good table cs good (Delete s r) i = (r, in_append_left r table (inserted_rules cs) (each_at (AppliesTo table) cs (Delete s r) good.applies i), rule_eq-refl r)
named_good table cs good (Replace s r) i =
    let (q, j, e) = in_from_map (λ (x : Rule). x.key) r.key table (each_at (AppliesTo table) cs (Replace s r) good.applies i) in
    (q, in_append_left q table (inserted_rules cs) j, subst (λ (k : Key). key_eq r.key k ≡ true) e (key_eq-refl r.key))

module _ (table : List Rule) (cs : List Change) (marks : List MarkedRule) (is_table : IsTable table) (prepared : IsPrepared table cs marks) where
  abbrev all : List Rule
  all = all_rules table cs

  abbrev rs : List Rule
  rs = rules_of marks

  there : (r : Rule) → IsIn r all → IsIn r rs
  there r i = in_permutation rs all r (IsPermutation-sym all rs (rules_moved table cs marks prepared)) i

  keys_stand : IsDistinct (keys_of rs)
  keys_stand = keys_moved (keys_of all) (keys_of rs) (IsPermutation-map (λ (r : Rule). r.key) all rs (rules_moved table cs marks prepared)) (keys_apart table cs is_table prepared.good)

  -- what is prepared is marked by its changes
  marked_so : AreMarked rs cs marks
  marked_so = record {
    marks_are = marks_are table cs marks prepared;
    distinct = prepared.good.distinct;
    named = each_from_in (IsNamed rs) cs (λ c i. let (r, j, e) = named_good table cs prepared.good c i in (r, there r j, e));
  }

  -- a change that inserts nothing is prepared once its rule is marked
  next_marked : (c : Change) (new : List MarkedRule) → inserted_rules (c ∷ []) ≡ [] → IsMarkedBy c marks new → IsPrepared table (cs ++ c ∷ []) new
  next_marked c new none by =
      let next = cs ++ c ∷ [] in
      let same : all_rules table next ≡ all = all_push table cs c ∙ ap (λ (xs : List Rule). all ++ xs) none ∙ append-nil all in
      let moved : IsPermutation (all_rules table next) rs = subst (λ (xs : List Rule). IsPermutation xs rs) (sym same) (rules_moved table cs marks prepared) in
      let keys : IsDistinct (keys_of (all_rules table next)) = subst (λ (xs : List Rule). IsDistinct (keys_of xs)) (sym same) (keys_apart table cs is_table prepared.good) in
      let state : AreMarked rs next new = marked_push rs cs c marks new keys_stand marked_so by in
      let good : AreGood table next = record {
        applies = each_from_in (AppliesTo table) next (λ d i.
            let (r, j, e) = each_at (IsNamed rs) next d state.named i in
            applies_named table next keys state.distinct d i (r, in_permutation (all_rules table next) rs r moved j, e));
        distinct = state.distinct;
      } in
      subst (IsPrepared table next) (sym state.marks_are)
      (prepared_of table next rs good (clear_all table next is_table good (subst IsClear (sym same) (clear_of table cs prepared.clear))) moved
      (falling_by (marked_rule cs) (marked_rule next) (λ q. refl) rs (subst IsFalling (marks_are table cs marks prepared) prepared.falling)))

  module _ (s : SwitchId) (r : Rule) (free : clashes_with r.key marks ≡ false) where
    apart : (q : Rule) → IsIn q all → ¬ IsClash q r
    apart q i clash =
        let (n, j, e) = in_from_map (λ (x : MarkedRule). x.rule) q marks (there q i) in
        both_ways (clashes_with r.key marks) free (any_in (λ x. keys_clash x.rule.key r.key) n marks j (clash_to n.rule r (subst (λ x. IsClash x r) e clash)))

    absent : ¬ IsIn r.key (keys_of all)
    absent i = let (q, j, e) = in_from_map (λ (x : Rule). x.key) r.key all i in apart q j (same_clash q r (sym e))

    -- a rule that clashes with none has a new key
    fresh : ¬ IsIn r.key (map key_named cs)
    fresh i =
        let (d, j, e) = in_from_map key_named r.key cs i in
        let (q, l, f) = named_good table cs prepared.good d j in
        absent (subst (λ k. IsIn k (keys_of all)) (sym (e ∙ names_key d q f)) (in_map (λ (x : Rule). x.key) q all l))

    good_so : IsGoodAfter table cs (Insert s r)
    good_so = record {
      applies = λ i.
          let (q, j, e) = in_from_map (λ (x : Rule). x.key) r.key table i in
          absent (subst (λ k. IsIn k (keys_of all)) (sym e) (in_map (λ (x : Rule). x.key) q all (in_append_left q table (inserted_rules cs) j)));
      fresh = fresh;
    }

    -- an insert that clashes with none is prepared once its rule is put
    next_put : IsPrepared table (cs ++ Insert s r ∷ []) (put_in (with_mark r Possible) marks)
    next_put =
        let c = Insert s r in
        let m = with_mark r Possible in
        let next = cs ++ c ∷ [] in
        let good : AreGood table next = good_push table cs c prepared.good good_so in
        let whole : all_rules table next ≡ all ++ r ∷ [] = all_push table cs c in
        let one : marked_rule next r ≡ m = ap (λ (o : Option Change). with_mark r (option_map_or mark_by o Sure)) (found_last cs c r (unfound cs r fresh) (key_eq-refl r.key)) in
        let same : marked_rules table next ≡ marked_rules table cs ++ m ∷ [] =
        ap (map (marked_rule next)) whole ∙ map-push (marked_rule next) all r
        ∙ ap (λ (ms : List MarkedRule). ms ++ marked_rule next r ∷ []) (sym (all_unchanged cs c all absent))
        ∙ ap (λ (x : MarkedRule). marked_rules table cs ++ x ∷ []) one in
        record {
          good = good;
          clear = clear_all table next is_table good (subst IsClear (sym whole) (clear_more all r (clear_of table cs prepared.clear) apart));
          rules = subst (λ (xs : List MarkedRule). IsPermutation xs (put_in m marks)) (sym same)
              (IsPermutation-push_more (marked_rules table cs) marks (put_in m marks) m prepared.rules (put_moved m marks));
          falling = put_falling m marks prepared.falling;
        }

  -- one change more is prepared
  pub next_prepared : (c : Change) (new : List MarkedRule) → IsTriedNext c marks new → IsPrepared table (cs ++ c ∷ []) new
  next_prepared (Insert s r) new (free, is) = subst (IsPrepared table (cs ++ Insert s r ∷ [])) (sym is) (next_put s r free)
  next_prepared (Delete s r) new by = next_marked (Delete s r) new refl by
  next_prepared (Replace s r) new by = next_marked (Replace s r) new refl by

-- a mark hides no pattern
patterns_set : (ms : List MarkedRule) (i : ℕ) (m n : MarkedRule) → slice_get ms i ≡ Some m → n.rule.key.pattern ≡ m.rule.key.pattern → patterns_in (slice_set ms i n) ≡ patterns_in ms
patterns_set [] i m n at same = absurd (let f : None ≡ Some m = at in cc)
patterns_set (x ∷ ms) zero m n at same =
    let e : x ≡ m = cc in ap (λ (p : Pattern). p ∷ patterns_in ms) (same ∙ ap (λ (y : MarkedRule). y.rule.key.pattern) (sym e))
patterns_set (x ∷ ms) (suc i) m n at same = ap (λ (ps : List Pattern). x.rule.key.pattern ∷ ps) (patterns_set ms i m n at same)

marked_still : (c : Change) (old new : List MarkedRule) → IsMarkedBy c old new → patterns_in new ≡ patterns_in old
marked_still c old new by = ap patterns_in by.is ∙ patterns_set old by.place (with_mark by.rule Sure) (with_mark by.rule (mark_by c)) by.at refl

marked_few : (c : Change) (old new : List MarkedRule) → IsMarkedBy c old new → length new ≤ length old + 1
marked_few c old new by =
    let same = ap length (marked_still c old new by) in
    let one = length-map old (λ (m : MarkedRule). m.rule.key.pattern) in
    let two = length-map new (λ (m : MarkedRule). m.rule.key.pattern) in
    omega arith

next_few : (c : Change) (old new : List MarkedRule) → IsTriedNext c old new → length new ≤ length old + 1
next_few (Insert s r) old new (free, is) =
    let e = length_permutation (with_mark r Possible ∷ old) (put_in (with_mark r Possible) old) (put_moved (with_mark r Possible) old) in
    let f = ap length is in
    omega arith
next_few (Delete s r) old new by = marked_few (Delete s r) old new by
next_few (Replace s r) old new by = marked_few (Replace s r) old new by

next_still : (c : Change) (old new : List MarkedRule) → is_insert c ≡ false → IsTriedNext c old new → patterns_in new ≡ patterns_in old
next_still (Insert s r) old new off h = absurd (both_ways true off refl)
next_still (Delete s r) old new off by = marked_still (Delete s r) old new by
next_still (Replace s r) old new off by = marked_still (Replace s r) old new by

-- by whether it could be marked
pub begun_next_few : (c : Change) (old new : List MarkedRule) (b : Bool) → (b ≡ true → IsTriedNext c old new) → (b ≡ false → new ≡ old) → length new ≤ length old + 1
begun_next_few c old new true on off = next_few c old new (on refl)
begun_next_few c old new false on off = let same = ap length (off refl) in omega arith

pub begun_next_still : (c : Change) (old new : List MarkedRule) (b : Bool) → (b ≡ true → IsTriedNext c old new) → (b ≡ false → new ≡ old) → is_insert c ≡ false → patterns_in new ≡ patterns_in old
begun_next_still c old new true on off stays = next_still c old new stays (on refl)
begun_next_still c old new false on off stays = ap patterns_in (off refl)

-- the marked rules stay in descending priority
each_set : (P : MarkedRule → Type 0) (ms : List MarkedRule) (i : ℕ) (n : MarkedRule) → P n → AllByRecursion P ms → AllByRecursion P (slice_set ms i n)
each_set P [] i n this h = tt
each_set P (x ∷ ms) zero n this h = (this, h.1)
each_set P (x ∷ ms) (suc i) n this h = (h.0, each_set P ms i n this h.1)

falling_set : (ms : List MarkedRule) (i : ℕ) (m n : MarkedRule) → slice_get ms i ≡ Some m → n.rule.key.priority ≡ m.rule.key.priority → IsFalling ms → IsFalling (slice_set ms i n)
falling_set [] i m n at same h = absurd (let f : None ≡ Some m = at in cc)
falling_set (x ∷ ms) zero m n at same h =
    let e : x ≡ m = cc in
    let p = same ∙ ap (λ (y : MarkedRule). y.rule.key.priority) (sym e) in
    (each_weaker (λ y. y.rule.key.priority ≤ x.rule.key.priority) (λ y. y.rule.key.priority ≤ n.rule.key.priority) (λ y le. omega arith) ms h.0, h.1)
falling_set (x ∷ ms) (suc i) m n at same h =
    let le = each_at (λ y. y.rule.key.priority ≤ x.rule.key.priority) ms m h.0 (in_from_get ms i m at) in
    (each_set (λ y. y.rule.key.priority ≤ x.rule.key.priority) ms i n (omega arith) h.0, falling_set ms i m n at same h.1)

next_falling : (c : Change) (old new : List MarkedRule) → IsTriedNext c old new → IsFalling old → IsFalling new
next_falling (Insert s r) old new (free, is) h = subst IsFalling (sym is) (put_falling (with_mark r Possible) old h)
next_falling (Delete s r) old new by h = subst IsFalling (sym by.is) (falling_set old by.place (with_mark by.rule Sure) (with_mark by.rule (mark_by (Delete s r))) by.at refl h)
next_falling (Replace s r) old new by h = subst IsFalling (sym by.is) (falling_set old by.place (with_mark by.rule Sure) (with_mark by.rule (mark_by (Replace s r))) by.at refl h)

pub begun_next_falling : (c : Change) (old new : List MarkedRule) (b : Bool) → (b ≡ true → IsTriedNext c old new) → (b ≡ false → new ≡ old) → IsFalling old → IsFalling new
begun_next_falling c old new true on off h = next_falling c old new (on refl) h
begun_next_falling c old new false on off h = subst IsFalling (sym (off refl)) h

-- with one entry more at most for each change there is room for the next one
pub few_start : (o : Option (List MarkedRule)) (n : ℕ) → IfSome o (λ a. IsSomeAnd o (λ b. length b ≤ length a + n))
few_start None n = tt
few_start (Some a) n = omega arith

pub few_more : (first old new : Option (List MarkedRule)) (i n : ℕ) → IfSome first (λ a. IsSomeAnd old (λ b. length b ≤ length a + i))
    → IfSome old (λ b. IsSomeAnd new (λ d. length d ≤ length b + n)) → IfSome first (λ a. IsSomeAnd new (λ d. length d ≤ length a + (i + n)))
few_more None old new i n few more = tt
few_more (Some a) None new i n few more = absurd few
few_more (Some a) (Some b) None i n few more = absurd more
few_more (Some a) (Some b) (Some d) i n few more = omega arith

pub room_next : (first old : Option (List MarkedRule)) (count before room i : ℕ) → i + 1 ≤ count → before ≤ room → IsSomeAnd first (λ a. length a + count ≤ before)
    → IfSome first (λ a. IsSomeAnd old (λ b. length b ≤ length a + i)) → IsSomeAnd old (λ b. length b < room)
room_next None old count before room i less more fits few = absurd fits
room_next (Some a) None count before room i less more fits few = absurd few
room_next (Some a) (Some b) count before room i less more fits few = omega arith
