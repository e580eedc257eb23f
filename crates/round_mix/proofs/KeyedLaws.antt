-- What is marked by keys, where no two rules clash, is prepared.
use Rattle.std.proofs.Common.{◌≡◌, ◌≤◌, List, [], ◌∷◌, ◌++◌, map, refl, sym, ◌∙◌, subst, ap, inl, inr}
use Rattle.std.specs.Prelude.{IsPermutation}
use Rattle.std.specs.List.{AllByRecursion}
use Rattle.std.proofs.lemmas.List.{map-append}
use Rattle.std.proofs.lemmas.List.Elements.{recursion_from_All, All-from_recursion}
use Rattle.std.proofs.lemmas.List.Sorted.{IsPermutation-map, IsPermutation-sym, All-permutation}
use Rattle.net_base.specs.Members.{IsIn, IsDistinct}
use Rattle.net_base.proofs.MemberLaws.{in_map, in_from_map, in_append_right, in_append_cases, each_at, each_from_in, each_map, in_permutation}
use Rattle.flow_rules.specs.Overlaps.{IsClash}
use Rattle.flow_rules.specs.Tables.{keys_of, IsTable}
use Rattle.flow_rules.specs.declared.rules.Key.{Key}
use Rattle.flow_rules.specs.declared.rules.Rule.{Rule}
use Rattle.flow_rules.proofs.DistinctLaws.{keys_moved}
use Rattle.flow_rules.proofs.KeyLaws.{key_eq-true}
use Rattle.flow_rules.proofs.TableLaws.{rule_eq-true}
use Rattle.update_model.specs.Changes.{AppliesTo}
use Rattle.update_model.specs.declared.Change.{Change}
use Rattle.update_model.specs.declared.Change.TheVariants.{Insert, Delete, Replace}
use Rattle.update_model.proofs.ChangeLaws.{key_named, writes_key}
use Rattle.round_mix.specs.Apart.{AreApart}
use Rattle.round_mix.specs.Marks.{marked_rule, inserted_rules, all_rules, marked_rules, rules_of}
use Rattle.round_mix.specs.Named.{IsNamed, AreMarked}
use Rattle.round_mix.specs.Prepared.{AreGood, IsFalling, IsPrepared}
use Rattle.round_mix.specs.declared.Mark.TheVariants.{Sure}
use Rattle.round_mix.specs.declared.MarkedRule.{MarkedRule}
use Rattle.round_mix.proofs.ClearLaws.{one_by, clear_from_free, rules_of-marked}
use Rattle.round_mix.proofs.MarkLaws.{IsInsertOf, in_inserted, in_from_inserted, insert_writes}

-- no member of the first list stands in the second
parts_apart : (xs ys : List Key) (k : Key) → IsDistinct (xs ++ ys) → IsIn k xs → IsIn k ys → ⊥
parts_apart [] ys k distinct i j = i
parts_apart (x ∷ xs) ys k distinct (inl e) j = distinct.0 (in_append_right x xs ys (subst (λ z. IsIn z ys) e j))
parts_apart (x ∷ xs) ys k distinct (inr i) j = parts_apart xs ys k distinct.1 i j

-- changes of distinct keys, each of which names a rule of the table or an inserted one, are good where these have distinct keys
module _ (table : List Rule) (changes : List Change) (keys : IsDistinct (keys_of (all_rules table changes))) (distinct : IsDistinct (map key_named changes)) where
  -- what a change names that inserts nothing stands in the table
  stood : (c : Change) (q : Rule) → IsIn c changes → key_named c ≡ q.key → ((r : Rule) → ¬ IsInsertOf c r) → IsIn q (all_rules table changes) → IsIn q table
  stood c q i key none j =
      elim (in_append_cases q table (inserted_rules changes) j) [
        | inl k ↦ k
        | inr k ↦ (
            let (d, l, of) = in_from_inserted changes q k in
            let e : c ≡ d = one_by key_named changes c d distinct i l (key ∙ writes_key q d (insert_writes d q of)) in
            absurd (none q (subst (λ x. IsInsertOf x q) (sym e) of)))
      ]

  pub applies_named : (c : Change) → IsIn c changes → IsNamed (all_rules table changes) c → AppliesTo table c
  applies_named (Insert s r) i named = λ k.
      parts_apart (keys_of table) (keys_of (inserted_rules changes)) r.key (subst IsDistinct (map-append (λ (x : Rule). x.key) table (inserted_rules changes)) keys) k
      (in_map (λ (x : Rule). x.key) r (inserted_rules changes) (in_inserted changes (Insert s r) r i refl))
  applies_named (Delete s r) i (q, j, e) =
      let same : r ≡ q = rule_eq-true r q e in
      subst (λ x. IsIn x table) (sym same) (stood (Delete s r) q i (ap (λ (x : Rule). x.key) same) (λ x n. n) j)
  applies_named (Replace s r) i (q, j, e) =
      let same : r.key ≡ q.key = key_eq-true r.key q.key e in
      subst (λ k. IsIn k (keys_of table)) (sym same) (in_map (λ (x : Rule). x.key) q table (stood (Replace s r) q i same (λ x n. n) j))

-- marks hide no order
falling_marked : (changes : List Change) (ms : List MarkedRule) → IsFalling ms → IsFalling (map (marked_rule changes) (rules_of ms))
falling_marked changes [] falling = tt
falling_marked changes (m ∷ ms) falling = (
  each_map (marked_rule changes) (λ n. n.rule.key.priority ≤ m.rule.key.priority) (rules_of ms) (each_map (λ (n : MarkedRule). n.rule) (λ r. r.key.priority ≤ m.rule.key.priority) ms falling.0),
  falling_marked changes ms falling.1,
)

-- rules that no change marks are sure, and stay so when they change places
pub sure_moved : (rs : List Rule) (first sorted : List MarkedRule) → first ≡ map (marked_rule []) rs → IsPermutation first sorted → AllByRecursion (λ m. m.mark ≡ Sure) sorted
sure_moved rs first sorted is moved =
    recursion_from_All (λ m. m.mark ≡ Sure) sorted (All-permutation (λ m. m.mark ≡ Sure) first sorted moved
    (All-from_recursion (λ m. m.mark ≡ Sure) first (subst (AllByRecursion (λ m. m.mark ≡ Sure)) (sym is) (each_map (marked_rule []) (λ m. m.mark ≡ Sure) rs (each_from_in (λ r. Sure ≡ Sure) rs (λ r i. refl))))))

-- marks hide no clash
alone_by_rules : (table : List Rule) (changes : List Change) (sorted : List MarkedRule) → IsPermutation (all_rules table changes) (rules_of sorted) → AreApart sorted
    → (m n : MarkedRule) → IsIn m (marked_rules table changes) → IsIn n (marked_rules table changes) → IsClash m.rule n.rule → m ≡ n
alone_by_rules table changes sorted moved apart m n i j clash =
    let all = all_rules table changes in
    let back = IsPermutation-sym all (rules_of sorted) moved in
    let (x, k, e) = in_from_map (marked_rule changes) m all i in
    let (y, l, f) = in_from_map (marked_rule changes) n all j in
    let (p, p_in, g) = in_from_map (λ (z : MarkedRule). z.rule) x sorted (in_permutation (rules_of sorted) all x back k) in
    let (q, q_in, h) = in_from_map (λ (z : MarkedRule). z.rule) y sorted (in_permutation (rules_of sorted) all y back l) in
    let one : m.rule ≡ p.rule = ap (λ (z : MarkedRule). z.rule) e ∙ g in
    let two : n.rule ≡ q.rule = ap (λ (z : MarkedRule). z.rule) f ∙ h in
    let same : p ≡ q = apart.alone p q p_in q_in (subst (λ z. IsClash p.rule z) two (subst (λ z. IsClash z n.rule) one clash)) in
    e ∙ ap (marked_rule changes) (g ∙ ap (λ (z : MarkedRule). z.rule) same ∙ sym h) ∙ sym f

-- the rules of sorted marked ones
pub moved_rules : (rules : List Rule) (first sorted : List MarkedRule) → first ≡ map (marked_rule []) rules → IsPermutation first sorted → IsPermutation rules (rules_of sorted)
moved_rules rules first sorted is moved =
    subst (λ (rs : List Rule). IsPermutation rs (rules_of sorted)) (ap rules_of is ∙ rules_of-marked [] rules) (IsPermutation-map (λ (m : MarkedRule). m.rule) first sorted moved)

-- changes are good where no key stands twice among the rules and each has marked its rule
pub good_by_keys : (table : List Rule) (changes : List Change) (sorted last : List MarkedRule) → IsPermutation (all_rules table changes) (rules_of sorted)
    → IsDistinct (keys_of (rules_of sorted)) → AreMarked (rules_of sorted) changes last → AreGood table changes
good_by_keys table changes sorted last moved distinct state =
    let all = all_rules table changes in
    let keys : IsDistinct (keys_of all) =
    keys_moved (keys_of (rules_of sorted)) (keys_of all)
    (IsPermutation-sym (keys_of all) (keys_of (rules_of sorted)) (IsPermutation-map (λ (r : Rule). r.key) all (rules_of sorted) moved)) distinct in
    record {
      applies = each_from_in (AppliesTo table) changes (λ c i.
          let (r, j, e) = each_at (IsNamed (rules_of sorted)) changes c state.named i in
          applies_named table changes keys state.distinct c i (r, in_permutation all (rules_of sorted) r moved j, e));
      distinct = state.distinct;
    }

-- rules that don't clash are prepared once each change has marked its rule
pub prepared_by_keys : (table : List Rule) (changes : List Change) (first sorted last : List MarkedRule) → IsTable table
    → first ≡ map (marked_rule []) (all_rules table changes) → IsPermutation first sorted → IsFalling sorted → AreApart sorted
    → AreMarked (rules_of sorted) changes last → IsPrepared table changes last
prepared_by_keys table changes first sorted last is_table is moved falling apart state =
    let all = all_rules table changes in
    let rules_moved : IsPermutation all (rules_of sorted) = moved_rules all first sorted is moved in
    let marks_moved : IsPermutation (marked_rules table changes) last =
    subst (IsPermutation (marked_rules table changes)) (sym state.marks_are) (IsPermutation-map (marked_rule changes) all (rules_of sorted) rules_moved) in
    let good : AreGood table changes = good_by_keys table changes sorted last rules_moved apart.distinct state in
    record {
      good = good;
      clear = clear_from_free table changes is_table good (alone_by_rules table changes sorted rules_moved apart);
      rules = marks_moved;
      falling = subst IsFalling (sym state.marks_are) (falling_marked changes sorted falling);
    }
