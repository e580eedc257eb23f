-- One change less than what is prepared, and one more that can't be.
use Rattle.std.proofs.Common.{◌≡◌, ◌<◌, ◌≤◌, ℕ, zero, suc, true, false, cond, not, List, [], ◌∷◌, ◌++◌, take, drop, map, refl, sym, ◌∙◌, subst, ap, inl, inr, arith}
use Rattle.std.specs.Prelude.{filter, slice_get, Bool, Option, Some, None, IsPermutation}
use Rattle.std.specs.List.{AllByRecursion}
use Rattle.std.specs.Option.{option_map_or}
use Rattle.std.proofs.lemmas.Bool.{false≢true, cases_lt}
use Rattle.std.proofs.lemmas.List.{append-nil}
use Rattle.std.proofs.lemmas.List.Elements.{filter-append}
use Rattle.std.proofs.lemmas.List.Sorted.{IsPermutation-sym}
use Rattle.net_base.specs.Members.{IsIn, IsDistinct}
use Rattle.net_base.specs.declared.ids.SwitchId.{SwitchId}
use Rattle.net_base.proofs.ItemLaws.{distinct_first, in_from_get, get_from_in}
use Rattle.net_base.proofs.ListLaws.{in_from_any}
use Rattle.net_base.proofs.MemberLaws.{in_append_left, in_append_right, in_append_cases, in_map, in_from_map, each_at, each_first, map-push, in_permutation}
use Rattle.flow_rules.specs.Overlaps.{keys_clash}
use Rattle.flow_rules.specs.Patterns.{key_eq}
use Rattle.flow_rules.specs.Tables.{keys_of, IsTable, IsClear}
use Rattle.flow_rules.specs.declared.rules.Key.{Key}
use Rattle.flow_rules.specs.declared.rules.Rule.{Rule}
use Rattle.flow_rules.proofs.DistinctLaws.{flips}
use Rattle.flow_rules.proofs.KeyLaws.{key_eq-true, key_eq-refl}
use Rattle.flow_rules.proofs.TableLaws.{rule_eq-refl}
use Rattle.update_model.specs.Changes.{AppliesTo}
use Rattle.update_model.specs.declared.Change.{Change}
use Rattle.update_model.specs.declared.Change.TheVariants.{Insert, Delete, Replace}
use Rattle.update_model.proofs.ChangeLaws.{key_named}
use Rattle.round_mix.specs.Marks.{mark_by, marked_rule, inserted_rules, all_rules, marked_rules, rules_of}
use Rattle.round_mix.specs.Named.{with_mark, IsUnnamed, names}
use Rattle.round_mix.specs.Prepared.{AreGood, AreClear, IsFalling, IsPrepared}
use Rattle.round_mix.specs.Tried.{marked_where, marks_without, given_up, IsRefusedNext}
use Rattle.round_mix.specs.declared.Mark.TheVariants.{Sure}
use Rattle.round_mix.specs.declared.MarkedRule.{MarkedRule}
use Rattle.round_mix.proofs.ClearLaws.{keys_apart, inserted_key}
use Rattle.round_mix.proofs.NamedLaws.{found_before, names_key}
use Rattle.round_mix.proofs.NextLaws.{all_push, unfound}
use Rattle.round_mix.proofs.TriedLaws.{marks_are, rules_moved, prepared_of, clear_all, clear_of, falling_by, falling_filter, remap, filter_moved, others_stay, clash_from}

-- the last of distinct members isn't among those before it
last_fresh : {A : Type 0} (xs : List A) (x : A) → IsDistinct (xs ++ x ∷ []) → ¬ IsIn x xs
last_fresh [] x d i = i
last_fresh (y ∷ ys) x d (inl e) = d.0 (in_append_right y ys (x ∷ []) (inl (sym e)))
last_fresh (y ∷ ys) x d (inr i) = last_fresh ys x d.1 i

module _ (table : List Rule) (cs : List Change) (c : Change) (good : AreGood table (cs ++ c ∷ [])) where
  -- the last of good changes names a key that no other names
  fresh : ¬ IsIn (key_named c) (map key_named cs)
  fresh = last_fresh (map key_named cs) (key_named c) (subst IsDistinct (map-push key_named cs c) good.distinct)

  -- without it they are good
  pub good_less : AreGood table cs
  good_less = record {
    applies = each_first (AppliesTo table) cs (c ∷ []) good.applies;
    distinct = distinct_first (map key_named cs) (key_named c ∷ []) (subst IsDistinct (map-push key_named cs c) good.distinct);
  }

  applies_last : AppliesTo table c
  applies_last = each_at (AppliesTo table) (cs ++ c ∷ []) c good.applies (in_append_right c cs (c ∷ []) (inl refl))

-- ---- one change less

module _ (table : List Rule) (cs : List Change) (c : Change) (marks : List MarkedRule) (is_table : IsTable table) (prepared : IsPrepared table (cs ++ c ∷ []) marks) where
  abbrev next : List Change
  next = cs ++ c ∷ []

  abbrev all : List Rule
  all = all_rules table cs

  abbrev rs : List Rule
  rs = rules_of marks

  less : AreGood table cs
  less = good_less table cs c prepared.good

  same : marks ≡ map (marked_rule next) rs
  same = marks_are table next marks prepared

  -- the rule that the change names was sure before it, and the mark of another is as it was
  sure_before : (q : Rule) → key_eq (key_named c) q.key ≡ true → with_mark q Sure ≡ marked_rule cs q
  sure_before q e =
      ap (λ (o : Option Change). with_mark q (option_map_or mark_by o Sure))
      (sym (unfound cs q (subst (λ k. ¬ IsIn k (map key_named cs)) (key_eq-true (key_named c) q.key e) (fresh table cs c prepared.good))))

  same_before : (q : Rule) → key_eq (key_named c) q.key ≡ false → marked_rule next q ≡ marked_rule cs q
  same_before q e = ap (λ (o : Option Change). with_mark q (option_map_or mark_by o Sure)) (found_before cs c q e)

  -- a change that inserts nothing is given up
  back_marked : inserted_rules (c ∷ []) ≡ [] → IsPrepared table cs (marked_where (key_named c) Sure marks)
  back_marked none =
      let whole : all_rules table next ≡ all = all_push table cs c ∙ ap (λ (xs : List Rule). all ++ xs) none ∙ append-nil all in
      let is : marked_where (key_named c) Sure marks ≡ map (marked_rule cs) rs =
      ap (marked_where (key_named c) Sure) same
      ∙ remap (marked_rule next) (λ m. cond (key_eq (key_named c) m.rule.key) (with_mark m.rule Sure) m) (marked_rule cs) (λ q. at q (key_eq (key_named c) q.key) refl) rs in
      subst (IsPrepared table cs) (sym is)
      (prepared_of table cs rs less (clear_all table cs is_table less (subst IsClear whole (clear_of table next prepared.clear)))
      (subst (λ (xs : List Rule). IsPermutation xs rs) whole (rules_moved table next marks prepared))
      (falling_by (marked_rule next) (marked_rule cs) (λ q. refl) rs (subst IsFalling same prepared.falling)))
    where
      at : (q : Rule) (b : Bool) → key_eq (key_named c) q.key ≡ b → cond b (with_mark q Sure) (marked_rule next q) ≡ marked_rule cs q
      at q true e = sure_before q e
      at q false e = same_before q e

  -- without the rules of the change's key the others are marked as before it
  left_out : (qs : List Rule) → marks_without (key_named c) (map (marked_rule next) qs) ≡ map (marked_rule cs) (filter (λ q. not (key_eq q.key (key_named c))) qs)
  left_out [] = refl
  left_out (q ∷ qs) =
      let p = λ (r : Rule). not (key_eq r.key (key_named c)) in
      elim (key_eq q.key (key_named c)) as (λ b. key_eq q.key (key_named c) ≡ b
      → cond (not b) (marked_rule next q ∷ marks_without (key_named c) (map (marked_rule next) qs)) (marks_without (key_named c) (map (marked_rule next) qs))
      ≡ map (marked_rule cs) (cond (not b) (q ∷ filter p qs) (filter p qs))) [
        | true ↦ λ e. left_out qs
        | false ↦ λ e. ap (λ (m : MarkedRule). m ∷ marks_without (key_named c) (map (marked_rule next) qs)) (same_before q (flips (key_named c) q.key ∙ e))
            ∙ ap (λ (ms : List MarkedRule). marked_rule cs q ∷ ms) (left_out qs)
      ] refl

  -- an insert is given up
  back_put : (r : Rule) → inserted_rules (c ∷ []) ≡ r ∷ [] → key_named c ≡ r.key → IsPrepared table cs (marks_without (key_named c) marks)
  back_put r one named =
      let k = key_named c in
      let p = λ (q : Rule). not (key_eq q.key k) in
      let whole : all_rules table next ≡ all ++ r ∷ [] = all_push table cs c ∙ ap (λ (xs : List Rule). all ++ xs) one in
      let keys = keys_apart table next is_table prepared.good in
      let absent : ¬ IsIn k (keys_of all) =
      last_fresh (keys_of all) k
      (subst (λ (x : Key). IsDistinct (keys_of all ++ x ∷ [])) (sym named)
      (subst IsDistinct (map-push (λ (x : Rule). x.key) all r) (subst (λ (xs : List Rule). IsDistinct (keys_of xs)) whole keys))) in
      let last : filter p (r ∷ []) ≡ [] = ap (λ b. cond (not b) (r ∷ []) []) (subst (λ (x : Key). key_eq r.key x ≡ true) (sym named) (key_eq-refl r.key)) in
      let left : filter p (all_rules table next) ≡ all =
      ap (filter p) whole ∙ filter-append p all (r ∷ []) ∙ ap (λ (xs : List Rule). filter p all ++ xs) last ∙ append-nil (filter p all) ∙ others_stay k all absent in
      let is : marks_without k marks ≡ map (marked_rule cs) (filter p rs) = ap (marks_without k) same ∙ left_out rs in
      let clear : IsClear all =
      λ h a b i j. clear_of table next prepared.clear h a b (subst (IsIn a) (sym whole) (in_append_left a all (r ∷ []) i)) (subst (IsIn b) (sym whole) (in_append_left b all (r ∷ []) j)) in
      subst (IsPrepared table cs) (sym is)
      (prepared_of table cs (filter p rs) less (clear_all table cs is_table less clear)
      (subst (λ (xs : List Rule). IsPermutation xs (filter p rs)) left (filter_moved p (all_rules table next) rs keys (rules_moved table next marks prepared)))
      (subst IsFalling is (falling_filter (λ m. not (key_eq m.rule.key k)) marks prepared.falling)))

-- the last change is given up
pub returned : (table : List Rule) (cs : List Change) (c : Change) (marks : List MarkedRule) → IsTable table → IsPrepared table (cs ++ c ∷ []) marks → IsPrepared table cs (given_up c marks)
returned table cs (Insert s r) marks is_table prepared = back_put table cs (Insert s r) marks is_table prepared r refl refl
returned table cs (Delete s r) marks is_table prepared = back_marked table cs (Delete s r) marks is_table prepared refl
returned table cs (Replace s r) marks is_table prepared = back_marked table cs (Replace s r) marks is_table prepared refl

-- ---- one change more that can't be

module _ (table : List Rule) (cs : List Change) (marks : List MarkedRule) (prepared : IsPrepared table cs marks) where
  -- a rule that the table has and no change names is sure
  sure_there : (q : Rule) → IsIn q table → ¬ IsIn q.key (map key_named cs) → IsIn (marked_rule cs q) marks × ((marked_rule cs q).mark ≡ Sure)
  sure_there q i other = (
    in_permutation marks (marked_rules table cs) (marked_rule cs q) (IsPermutation-sym (marked_rules table cs) marks prepared.rules)
        (in_map (marked_rule cs) q (all_rules table cs) (in_append_left q table (inserted_rules cs) i)),
    ap (λ (o : Option Change). option_map_or mark_by o Sure) (unfound cs q other),
  )

  -- an insert that clashes
  put_refused : (s : SwitchId) (r : Rule) → IsRefusedNext (Insert s r) marks → AreGood table (cs ++ Insert s r ∷ []) → ¬ AreClear table (cs ++ Insert s r ∷ [])
  put_refused s r clash good clear =
      let c = Insert s r in
      let all = all_rules table cs in
      let (m, i, e) = in_from_any (λ x. keys_clash x.rule.key r.key) marks clash in
      let at = clash_from m.rule r e in
      let k : IsIn m.rule all = in_permutation all (rules_of marks) m.rule (rules_moved table cs marks prepared) (in_map (λ (x : MarkedRule). x.rule) m marks i) in
      let whole : all_rules table (cs ++ c ∷ []) ≡ all ++ r ∷ [] = all_push table cs c in
      let is : m.rule ≡ r =
      clear_of table (cs ++ c ∷ []) clear at.header m.rule r (subst (IsIn m.rule) (sym whole) (in_append_left m.rule all (r ∷ []) k))
      (subst (IsIn r) (sym whole) (in_append_right r all (r ∷ []) (inl refl))) at.first at.second at.priority in
      elim (in_append_cases r table (inserted_rules cs) (subst (λ (x : Rule). IsIn x all) is k)) [
        | inl there ↦ applies_last table cs c good (in_map (λ (x : Rule). x.key) r table there)
        | inr put ↦ (
            let (d, j, _, _, f) = inserted_key cs r.key (in_map (λ (x : Rule). x.key) r (inserted_rules cs) put) in
            fresh table cs c good (subst (λ (x : Key). IsIn x (map key_named cs)) f (in_map key_named d cs j)))
      ]

  -- one that can't be marked isn't good behind the others, or makes a mixture unclear
  pub refused : (c : Change) → IsRefusedNext c marks → AreGood table (cs ++ c ∷ []) → ¬ AreClear table (cs ++ c ∷ [])
  refused (Insert s r) clash good clear = put_refused s r clash good clear
  refused (Delete s r) unnamed good clear =
      let (there, sure) = sure_there r (applies_last table cs (Delete s r) good) (fresh table cs (Delete s r) good) in
      false≢true (sym (unnamed (marked_rule cs r) there sure) ∙ rule_eq-refl r)
  refused (Replace s r) unnamed good clear =
      let (q, i, e) = in_from_map (λ (x : Rule). x.key) r.key table (applies_last table cs (Replace s r) good) in
      let (there, sure) = sure_there q i (subst (λ (k : Key). ¬ IsIn k (map key_named cs)) e (fresh table cs (Replace s r) good)) in
      false≢true (sym (unnamed (marked_rule cs q) there sure) ∙ subst (λ (k : Key). key_eq r.key k ≡ true) e (key_eq-refl r.key))

-- ---- among rules in descending priority

each_taken : {A : Type 0} (P : A → Type 0) (xs : List A) (n i : ℕ) (x : A) → AllByRecursion P (take n xs) → i < n → slice_get xs i ≡ Some x → P x
each_taken P [] n i x h below at = absurd (let f : None ≡ Some x = at in cc)
each_taken P (y ∷ ys) zero i x h below at = absurd (omega arith)
each_taken P (y ∷ ys) (suc n) zero x h below at = let e : y ≡ x = cc in subst P e h.0
each_taken P (y ∷ ys) (suc n) (suc i) x h below at = each_taken P ys n i x h.1 (omega arith) at

each_dropped : {A : Type 0} (P : A → Type 0) (xs : List A) (n i : ℕ) (x : A) → AllByRecursion P (drop n xs) → n ≤ i → slice_get xs i ≡ Some x → P x
each_dropped P [] n i x h past at = absurd (let f : None ≡ Some x = at in cc)
each_dropped P (y ∷ ys) zero i x h past at = each_at P (y ∷ ys) x h (in_from_get (y ∷ ys) i x at)
each_dropped P (y ∷ ys) (suc n) zero x h past at = absurd (omega arith)
each_dropped P (y ∷ ys) (suc n) (suc i) x h past at = each_dropped P ys n i x h (omega arith) at

-- none of those of its priority is named by the change: none is
pub unnamed_between : (c : Change) (marks : List MarkedRule) (from to : ℕ) → AllByRecursion (λ m. (key_named c).priority < m.rule.key.priority) (take from marks)
    → AllByRecursion (λ m. m.rule.key.priority < (key_named c).priority) (drop to marks)
    → ((i : ℕ) (m : MarkedRule) → from ≤ i → i < to → slice_get marks i ≡ Some m → m.mark ≡ Sure → names c m.rule ≡ false) → IsUnnamed c marks
unnamed_between c marks from to above below between m is sure =
    let (i, at) = get_from_in marks m is in
    elim (cases_lt i from) [
      | inl early ↦ (let more = each_taken (λ (x : MarkedRule). (key_named c).priority < x.rule.key.priority) marks from i m above early at in other m (λ e. omega arith))
      | inr past ↦ elim (cases_lt i to) [
        | inl here ↦ between i m past here at sure
        | inr late ↦ (let less = each_dropped (λ (x : MarkedRule). x.rule.key.priority < (key_named c).priority) marks to i m below late at in other m (λ e. omega arith))
      ]
    ]
  where
    other : (x : MarkedRule) → ¬ ((key_named c).priority ≡ x.rule.key.priority) → names c x.rule ≡ false
    other x differ =
        elim (names c x.rule) as (λ b. names c x.rule ≡ b → b ≡ false) [
          | true ↦ λ e. absurd (differ (ap (λ (k : Key). k.priority) (names_key c x.rule e)))
          | false ↦ λ e. refl
        ] refl
