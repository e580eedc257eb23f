-- Mixtures are clear exactly where no two of the table's rules and the inserted ones clash.
use Rattle.std.proofs.Common.{◌≡◌, ◌⊎◌, ℕ, zero, suc, ◌+◌, ◌<◌, true, List, [], ◌∷◌, ◌++◌, map, length, refl, sym, ◌∙◌, ap, subst, inl, inr, arith}
use Rattle.std.specs.Prelude.{filter, slice_get, Some, None, IsPermutation}
use Rattle.std.proofs.lemmas.Bool.{cases_order}
use Rattle.std.proofs.lemmas.List.{map-append, length-map, length-append}
use Rattle.std.proofs.lemmas.List.Sorted.{length_permutation, IsPermutation-sym}
use Rattle.net_base.specs.Members.{IsIn, IsDistinct, IsSubsequence}
use Rattle.net_base.proofs.MemberLaws.{in_map, in_from_map, in_append_cases, in_from_subsequence, each_at, in_permutation}
use Rattle.flow_rules.specs.Patterns.{covers}
use Rattle.flow_rules.specs.Overlaps.{IsClash}
use Rattle.flow_rules.specs.Tables.{keys_of, IsTable}
use Rattle.flow_rules.specs.declared.rules.Key.{Key}
use Rattle.flow_rules.specs.declared.rules.Rule.{Rule}
use Rattle.update_model.specs.Mixtures.{is_insert, entries_needed}
use Rattle.update_model.specs.Changes.{AppliesTo}
use Rattle.update_model.proofs.Matches.{Writes, IsWritten}
use Rattle.update_model.specs.declared.Change.{Change}
use Rattle.update_model.specs.declared.Change.TheVariants.{Insert, Delete, Replace}
use Rattle.update_model.proofs.ChangeLaws.{key_named, writes_key, StandsAfterAll, stands_all_from_in}
use Rattle.update_model.proofs.MadeLaws.{distinct_some, each_some}
use Rattle.round_mix.specs.Marks.{marked_rule, inserted_rules, all_rules, marked_rules}
use Rattle.flow_rules.specs.Frees.{IsFree}
use Rattle.round_mix.specs.Marks.{rules_of}
use Rattle.flow_rules.specs.Overlaps.{IsClashAt, IsLeastClash}
use Rattle.round_mix.specs.Faults.{IsAmbiguous}
use Rattle.round_mix.specs.Prepared.{AreGood, AreClear, IsFalling, IsPrepared}
use Rattle.round_mix.specs.declared.MarkedRule.{MarkedRule}
use Rattle.round_mix.proofs.MarkLaws.{IsInsertOf, in_from_inserted, insert_writes, rules_by-key, all_mixed, available_from}
use Rattle.net_base.proofs.ItemLaws.{in_from_get}

module _ {A B : Type 0} (f : A → B) where
  -- members that f tells apart are told apart by it
  pub one_by : (xs : List A) (x y : A) → IsDistinct (map f xs) → IsIn x xs → IsIn y xs → f x ≡ f y → x ≡ y
  one_by [] x y distinct i j e = absurd i
  one_by (z ∷ zs) x y distinct (inl p) (inl q) e = p ∙ sym q
  one_by (z ∷ zs) x y distinct (inl p) (inr j) e = absurd (distinct.0 (subst (λ w. IsIn w (map f zs)) (sym e ∙ ap f p) (in_map f y zs j)))
  one_by (z ∷ zs) x y distinct (inr i) (inl q) e = absurd (distinct.0 (subst (λ w. IsIn w (map f zs)) (e ∙ ap f q) (in_map f x zs i)))
  one_by (z ∷ zs) x y distinct (inr i) (inr j) e = one_by zs x y distinct.1 i j e

-- where no member stands twice, no two positions have the same
pub one_place : {A B : Type 0} (f : A → B) (xs : List A) (i j : ℕ) (x : A) → IsDistinct (map f xs) → i < j → slice_get xs i ≡ Some x → slice_get xs j ≡ Some x → ⊥
one_place f [] i j x distinct less e g = let h : None ≡ Some x = e in cc
one_place f (y ∷ xs) zero zero x distinct less e g = omega arith
one_place f (y ∷ xs) zero (suc j) x distinct less e g =
    let h : y ≡ x = cc in distinct.0 (subst (λ z. IsIn (f z) (map f xs)) (sym h) (in_map f x xs (in_from_get xs j x g)))
one_place f (y ∷ xs) (suc i) zero x distinct less e g = omega arith
one_place f (y ∷ xs) (suc i) (suc j) x distinct less e g = one_place f xs i j x distinct.1 (omega arith) e g

distinct_append : {A : Type 0} (xs ys : List A) → IsDistinct xs → IsDistinct ys → ((x : A) → IsIn x xs → IsIn x ys → ⊥) → IsDistinct (xs ++ ys)
distinct_append [] ys a b apart = b
distinct_append (x ∷ xs) ys a b apart = (
  λ i. elim (in_append_cases x xs ys i) [ inl j ↦ a.0 j | inr j ↦ apart x (inl refl) j ],
  distinct_append xs ys a.1 b (λ y i j. apart y (inr i) j),
)

same_written : (a b : Rule) (c : Change) → Writes a c → Writes b c → a ≡ b
same_written a b (Insert s q) v w = v ∙ sym w
same_written a b (Delete s q) v w = absurd v
same_written a b (Replace s q) v w = v ∙ sym w

-- the keys of inserted rules
pub inserted_key : (cs : List Change) (k : Key) → IsIn k (keys_of (inserted_rules cs)) → (c : Change) × IsIn c cs × (r : Rule) × IsInsertOf c r × (key_named c ≡ k)
inserted_key cs k i =
    let (r, j, e) = in_from_map (λ x. x.key) k (inserted_rules cs) i in
    let (c, l, of) = in_from_inserted cs r j in
    (c, l, r, of, sym (writes_key r c (insert_writes c r of)) ∙ sym e)

inserted_distinct : (cs : List Change) → IsDistinct (map key_named cs) → IsDistinct (keys_of (inserted_rules cs))
inserted_distinct [] distinct = tt
inserted_distinct (Insert s r ∷ cs) distinct = (
  λ i. let (c, j, _, _, e) = inserted_key cs r.key i in distinct.0 (subst (λ k. IsIn k (map key_named cs)) e (in_map key_named c cs j)),
  inserted_distinct cs distinct.1,
)
inserted_distinct (Delete s r ∷ cs) distinct = inserted_distinct cs distinct.1
inserted_distinct (Replace s r ∷ cs) distinct = inserted_distinct cs distinct.1

module _ (table : List Rule) (changes : List Change) (is_table : IsTable table) (good : AreGood table changes) where
  -- no key stands twice among the table's rules and the inserted ones
  pub keys_apart : IsDistinct (keys_of (all_rules table changes))
  keys_apart =
      subst IsDistinct (sym (map-append (λ (r : Rule). r.key) table (inserted_rules changes)))
      (distinct_append (keys_of table) (keys_of (inserted_rules changes)) is_table (inserted_distinct changes good.distinct) (λ k i j.
      let (c, l, r, of, e) = inserted_key changes k j in absent c r of (each_at (AppliesTo table) changes c good.applies l) (subst (λ z. IsIn z (keys_of table)) (sym e) i)))
    where
      absent : (c : Change) (r : Rule) → IsInsertOf c r → AppliesTo table c → IsIn (key_named c) (keys_of table) → ⊥
      absent (Insert s q) r of applies i = applies i
      absent (Delete s q) r of applies i = of
      absent (Replace s q) r of applies i = of

  -- two rules that clash stand together in some mixture, which isn't clear
  pub unclear_from_clash : (i j : ℕ) → i < j → IsClashAt (all_rules table changes) i j → ¬ AreClear table changes
  unclear_from_clash i j less at = λ clear.
      let e = clear (all_rules table changes) (all_mixed table changes) at.clash.header at.one at.other
      (in_from_get (all_rules table changes) i at.one at.one_at) (in_from_get (all_rules table changes) j at.other at.other_at) at.clash.first at.clash.second at.clash.priority in
      one_place (λ r. r.key) (all_rules table changes) i j at.one keys_apart less at.one_at (at.other_at ∙ ap Some (sym e))

  -- in a mixture one rule has a key
  one_rule : (made : List Change) → IsDistinct (map key_named made) → (a b : Rule) → StandsAfterAll table made a → StandsAfterAll table made b → a.key ≡ b.key → a ≡ b
  one_rule made distinct a b (inl h) (inl k) e = one_by (λ r. r.key) table a b is_table h.0 k.0 e
  one_rule made distinct a b (inl h) (inr w) e =
      absurd (h.1 (subst (λ z. IsIn z (map key_named made)) (sym (e ∙ writes_key b w.0 w.2)) (in_map key_named w.0 made w.1)))
  one_rule made distinct a b (inr v) (inl k) e =
      absurd (k.1 (subst (λ z. IsIn z (map key_named made)) (sym (sym e ∙ writes_key a v.0 v.2)) (in_map key_named v.0 made v.1)))
  one_rule made distinct a b (inr v) (inr w) e =
      let same = one_by key_named made v.0 w.0 distinct v.1 w.1 (sym (writes_key a v.0 v.2) ∙ e ∙ writes_key b w.0 w.2) in
      same_written a b w.0 (subst (Writes a) same v.2) w.2

  -- where only a marked rule itself clashes with it, each mixture is clear
  pub clear_from_free : ((m n : MarkedRule) → IsIn m (marked_rules table changes) → IsIn n (marked_rules table changes) → IsClash m.rule n.rule → m ≡ n) → AreClear table changes
  clear_from_free free mixed mixture h a b i j over_a over_b same =
      let applies = each_some (AppliesTo table) mixture.made changes mixture.some good.applies in
      let distinct = distinct_some key_named mixture.made changes mixture.some good.distinct in
      let stands_a = stands_all_from_in table mixture.made a applies distinct ((mixture.same a).0 i) in
      let stands_b = stands_all_from_in table mixture.made b applies distinct ((mixture.same b).0 j) in
      let (m, k, of_m) = available_from table changes good.applies good.distinct a (available mixture.made mixture.some a stands_a) in
      let (n, l, of_n) = available_from table changes good.applies good.distinct b (available mixture.made mixture.some b stands_b) in
      let key_m = rules_by-key m.mark m.rule a of_m in
      let key_n = rules_by-key n.mark n.rule b of_n in
      let clash : IsClash m.rule n.rule = record {
        priority = sym (ap (λ z. z.priority) key_m) ∙ same ∙ ap (λ z. z.priority) key_n;
        header = h;
        first = subst (λ z. covers z.pattern h ≡ true) key_m over_a;
        second = subst (λ z. covers z.pattern h ≡ true) key_n over_b;
      } in
      let e = free m n k l clash in
      one_rule mixture.made distinct a b stands_a stands_b (key_m ∙ ap (λ z. z.rule.key) e ∙ sym key_n)
    where
      available : (made : List Change) → IsSubsequence made changes → (r : Rule) → StandsAfterAll table made r → IsIn r table ⊎ IsWritten r changes
      available made some r (inl s) = inl s.0
      available made some r (inr w) = inr (w.0, in_from_subsequence w.0 made changes some w.1, w.2)

-- the position of a member
place_of : (marks : List MarkedRule) (m : MarkedRule) → IsIn m marks → (i : ℕ) × (slice_get marks i ≡ Some m) × (slice_get (rules_of marks) i ≡ Some m.rule)
place_of [] m i = absurd i
place_of (n ∷ ns) m (inl e) = (zero, ap Some (sym e), ap (λ (x : MarkedRule). Some x.rule) (sym e))
place_of (n ∷ ns) m (inr i) = let (k, p, q) = place_of ns m i in (suc k, p, q)

-- only a marked rule itself clashes with it
abbrev pub ClashesAlone : List MarkedRule → Type 0
ClashesAlone marks = (m n : MarkedRule) → IsIn m marks → IsIn n marks → IsClash m.rule n.rule → m ≡ n

-- where no two positions clash, only a marked rule itself clashes with it
pub members_from_free : (marks : List MarkedRule) → ((i : ℕ) → IsFree (rules_of marks) i) → ClashesAlone marks
members_from_free marks free m n i j clash =
    let (k, p, q) = place_of marks m i in
    let (l, r, s) = place_of marks n j in
    elim (cases_order k l) [
      | inl e ↦ (let f : Some m ≡ Some n = sym p ∙ ap (slice_get marks) e ∙ r in cc)
      | inr apart ↦ elim apart [
        | inl less ↦ absurd (free k l less (record { one = m.rule; other = n.rule; one_at = q; other_at = s; clash = clash }))
        | inr more ↦ absurd (free l k more (record {
          one = n.rule;
          other = m.rule;
          one_at = s;
          other_at = q;
          clash = record { priority = sym clash.priority; header = clash.header; first = clash.second; second = clash.first };
        }))
      ]
    ]

-- the rules of the marked ones
pub rules_of-marked : (changes : List Change) (rules : List Rule) → rules_of (map (marked_rule changes) rules) ≡ rules
rules_of-marked changes [] = refl
rules_of-marked changes (r ∷ rules) = ap (λ xs. r ∷ xs) (rules_of-marked changes rules)

-- the least two positions of a clash make a round ambiguous
pub ambiguous_from_clash : (table : List Rule) (changes : List Change) (rules : List Rule) (i j : ℕ) → IsTable table → AreGood table changes
    → rules ≡ all_rules table changes → IsLeastClash rules i j → IsAmbiguous table changes i j
ambiguous_from_clash table changes rules i j is_table good same least =
    let here : IsLeastClash (all_rules table changes) i j = subst (λ (rs : List Rule). IsLeastClash rs i j) same least in
    record { good = good; unclear = unclear_from_clash table changes is_table good i j here.ordered here.clash; clash = here }

-- and where no two positions clash, the sorted marked rules are prepared
pub prepared_from_free : (table : List Rule) (changes : List Change) (marks sorted : List MarkedRule) → IsTable table → AreGood table changes
    → marks ≡ marked_rules table changes → ClashesAlone marks
    → IsPermutation marks sorted → IsFalling sorted → IsPrepared table changes sorted
prepared_from_free table changes marks sorted is_table good same free moved falling = record {
  good = good;
  clear = clear_from_free table changes is_table good (subst ClashesAlone same free);
  rules = subst (λ (ms : List MarkedRule). IsPermutation ms sorted) same moved;
  falling = falling;
}

-- a sorted list clashes as the list before
pub alone_from_sorted : (marks sorted : List MarkedRule) → IsPermutation marks sorted → ClashesAlone sorted → ClashesAlone marks
alone_from_sorted marks sorted moved free m n i j clash = free m n (into m i) (into n j) clash
  where
    into : (x : MarkedRule) → IsIn x marks → IsIn x sorted
    into x k = in_permutation sorted marks x (IsPermutation-sym marks sorted moved) k

-- as many marked rules are prepared as the table has rules and the changes insert
pub prepared_count : (table : List Rule) (changes : List Change) (marks : List MarkedRule) → IsPrepared table changes marks → length marks ≡ length table + length (inserted_rules changes)
prepared_count table changes marks prepared =
    length_permutation (marked_rules table changes) marks prepared.rules ∙ length-map (all_rules table changes) (marked_rule changes) ∙ length-append table (inserted_rules changes)

inserted_count : (cs : List Change) → length (inserted_rules cs) ≡ length (filter is_insert cs)
inserted_count [] = refl
inserted_count (Insert s r ∷ cs) = ap suc (inserted_count cs)
inserted_count (Delete s r ∷ cs) = inserted_count cs
inserted_count (Replace s r ∷ cs) = inserted_count cs

-- they are the entries that the table needs
pub prepared_needed : (table : List Rule) (changes : List Change) (marks : List MarkedRule) → IsPrepared table changes marks → length marks ≡ entries_needed table changes
prepared_needed table changes marks prepared =
    let count = prepared_count table changes marks prepared in
    let inserts = inserted_count changes in
    omega arith

pub all_needed : (table : List Rule) (changes : List Change) → length (all_rules table changes) ≡ entries_needed table changes
all_needed table changes =
    let both = length-append table (inserted_rules changes) in
    let inserts = inserted_count changes in
    omega arith
