-- The first of the changes made for which a switch is prepared.
use Rattle.std.proofs.Common.{◌≡◌, ℕ, ◌+◌, ◌<◌, ◌≤◌, true, false, cond, not, List, [], ◌∷◌, ◌++◌, map, length, take, drop, get_or, refl, sym, ◌∙◌, subst, ap, inl, inr, arith, append_assoc}
use Rattle.std.specs.Prelude.{filter, Bool, Option, Some, None, IfSome, IsSomeAnd, IsPermutation}
use Rattle.std.specs.Option.{option_map_or}
use Rattle.std.proofs.lemmas.Bool.{cond-true, cond-false}
use Rattle.std.proofs.lemmas.List.{map-append, take_more, drop_more}
use Rattle.std.proofs.lemmas.List.Elements.{filter-append}
use Rattle.std.proofs.lemmas.List.Sorted.{IsPermutation-map}
use Rattle.net_base.specs.Members.{IsIn, IsDistinct}
use Rattle.net_base.specs.declared.ids.SwitchId.{SwitchId}
use Rattle.net_base.proofs.ListLaws.{distinct_append}
use Rattle.net_base.proofs.MemberLaws.{in_map}
use Rattle.flow_rules.specs.Patterns.{key_eq}
use Rattle.flow_rules.specs.Tables.{keys_of, IsTable}
use Rattle.flow_rules.specs.declared.rules.Key.{Key}
use Rattle.flow_rules.specs.declared.rules.Rule.{Rule}
use Rattle.flow_rules.proofs.DistinctLaws.{flips}
use Rattle.flow_rules.proofs.KeyLaws.{key_eq-true, key_ne}
use Rattle.flow_rules.proofs.TableLaws.{keys_replaced}
use Rattle.update_model.specs.Changes.{AppliesTo, rules_after_change, rules_after}
use Rattle.update_model.specs.declared.Change.{Change}
use Rattle.update_model.specs.declared.Change.TheVariants.{Insert, Delete, Replace}
use Rattle.update_model.proofs.ChangeLaws.{key_named, applies_all_kept}
use Rattle.update_model.proofs.MadeLaws.{distinct_some}
use Rattle.update_model.proofs.MatchLaws.{some_filter}
use Rattle.round_mix.specs.Marks.{mark_by, change_of, marked_rule, inserted_rules, all_rules, rules_of}
use Rattle.round_mix.specs.Named.{with_mark}
use Rattle.round_mix.specs.Prepared.{AreGood, AreClear, IsFalling, IsPrepared}
use Rattle.round_mix.specs.Tried.{settled_mark, settled_where, marks_without, kept_marks}
use Rattle.round_mix.specs.declared.Mark.TheVariants.{Sure}
use Rattle.round_mix.specs.declared.MarkedRule.{MarkedRule}
use Rattle.round_mix.proofs.ClearLaws.{keys_apart, inserted_key}
use Rattle.round_mix.proofs.NextLaws.{unfound}
use Rattle.round_mix.proofs.TriedLaws.{marks_are, rules_moved, prepared_of, falling_by, falling_filter, remap, filter_moved, others_stay, replaced}

-- a replace of an absent key replaces nothing
unreplaced : (r : Rule) (rs : List Rule) → ¬ IsIn r.key (keys_of rs) → map (replaced r) rs ≡ rs
unreplaced r [] absent = refl
unreplaced r (q ∷ rs) absent =
    ap (λ (x : Rule). x ∷ map (replaced r) rs) (cond-false (key_eq q.key r.key) r q (key_ne q.key r.key (λ e. absent (inl (sym e)))))
    ∙ ap (λ (xs : List Rule). q ∷ xs) (unreplaced r rs (λ i. absent (inr i)))

module _ (table : List Rule) (cs : List Change) where
  -- the others are still good, and their mixtures clear
  good_rest : (c : Change) → AreGood table (c ∷ cs) → AreGood (rules_after_change c table) cs
  good_rest c good = record { applies = applies_all_kept table c cs good.applies.0 good.applies.1 good.distinct.0; distinct = good.distinct.1 }

  clear_rest : (c : Change) → AreClear table (c ∷ cs) → AreClear (rules_after_change c table) cs
  clear_rest c clear mixed mixture = clear mixed (record { made = c ∷ mixture.made; some = inl (refl, mixture.some); same = mixture.same })

  -- the mark by the first change, and by the others
  this_mark : (c : Change) (q : Rule) → key_eq (key_named c) q.key ≡ true → marked_rule (c ∷ cs) q ≡ with_mark q (mark_by c)
  this_mark c q e = ap (λ (o : Option Change). with_mark q (option_map_or mark_by o Sure)) (cond-true (key_eq (key_named c) q.key) (Some c) (change_of cs q) e)

  other_mark : (c : Change) (q : Rule) → key_eq (key_named c) q.key ≡ false → marked_rule (c ∷ cs) q ≡ marked_rule cs q
  other_mark c q e = ap (λ (o : Option Change). with_mark q (option_map_or mark_by o Sure)) (cond-false (key_eq (key_named c) q.key) (Some c) (change_of cs q) e)

  sure_here : (k : Key) (q : Rule) → ¬ IsIn k (map key_named cs) → k ≡ q.key → marked_rule cs q ≡ with_mark q Sure
  sure_here k q fresh e =
      ap (λ (o : Option Change). with_mark q (option_map_or mark_by o Sure)) (unfound cs q (λ i. fresh (subst (λ (x : Key). IsIn x (map key_named cs)) (sym e) i)))

  not_inserted : (c : Change) → AreGood table (c ∷ cs) → ¬ IsIn (key_named c) (keys_of (inserted_rules cs))
  not_inserted c good i = let (d, j, _, _, e) = inserted_key cs (key_named c) i in good.distinct.0 (subst (λ (k : Key). IsIn k (map key_named cs)) e (in_map key_named d cs j))

  -- the rule of the first change's key is taken out
  left_first : (c : Change) (rs : List Rule) → marks_without (key_named c) (map (marked_rule (c ∷ cs)) rs) ≡ map (marked_rule cs) (filter (λ q. not (key_eq q.key (key_named c))) rs)
  left_first c [] = refl
  left_first c (q ∷ rs) =
      let p = λ (r : Rule). not (key_eq r.key (key_named c)) in
      elim (key_eq q.key (key_named c)) as (λ b. key_eq q.key (key_named c) ≡ b
      → cond (not b) (marked_rule (c ∷ cs) q ∷ marks_without (key_named c) (map (marked_rule (c ∷ cs)) rs)) (marks_without (key_named c) (map (marked_rule (c ∷ cs)) rs))
      ≡ map (marked_rule cs) (cond (not b) (q ∷ filter p rs) (filter p rs))) [
        | true ↦ λ e. left_first c rs
        | false ↦ λ e. ap (λ (m : MarkedRule). m ∷ marks_without (key_named c) (map (marked_rule (c ∷ cs)) rs)) (other_mark c q (flips (key_named c) q.key ∙ e))
            ∙ ap (λ (ms : List MarkedRule). marked_rule cs q ∷ ms) (left_first c rs)
      ] refl

module _ (table : List Rule) (cs : List Change) (marks : List MarkedRule) (is_table : IsTable table) where
  first_inserted : (s : SwitchId) (r : Rule) → IsPrepared table (Insert s r ∷ cs) marks → IsPrepared (table ++ r ∷ []) cs (settled_where r.key marks)
  first_inserted s r prepared =
      let c = Insert s r in
      let rs = rules_of marks in
      let same = marks_are table (c ∷ cs) marks prepared in
      let whole : all_rules (table ++ r ∷ []) cs ≡ all_rules table (c ∷ cs) = append_assoc table (r ∷ []) (inserted_rules cs) in
      let here : (q : Rule) (b : Bool) → key_eq r.key q.key ≡ b → cond b (settled_mark (marked_rule (Insert s r ∷ cs) q)) (marked_rule (Insert s r ∷ cs) q) ≡ marked_rule cs q = here_at in
      let is : settled_where r.key marks ≡ map (marked_rule cs) rs =
      ap (settled_where r.key) same ∙ remap (marked_rule (c ∷ cs)) (λ m. cond (key_eq r.key m.rule.key) (settled_mark m) m) (marked_rule cs) (λ q. here q (key_eq r.key q.key) refl) rs in
      subst (IsPrepared (table ++ r ∷ []) cs) (sym is)
      (prepared_of (table ++ r ∷ []) cs rs (good_rest table cs c prepared.good) (clear_rest table cs c prepared.clear)
      (subst (λ (xs : List Rule). IsPermutation xs rs) (sym whole) (rules_moved table (c ∷ cs) marks prepared))
      (falling_by (marked_rule (c ∷ cs)) (marked_rule cs) (λ q. refl) rs (subst IsFalling same prepared.falling)))
    where
      here_at : (q : Rule) (b : Bool) → key_eq r.key q.key ≡ b → cond b (settled_mark (marked_rule (Insert s r ∷ cs) q)) (marked_rule (Insert s r ∷ cs) q) ≡ marked_rule cs q
      here_at q true e = ap settled_mark (this_mark table cs (Insert s r) q e) ∙ sym (sure_here table cs r.key q prepared.good.distinct.0 (key_eq-true r.key q.key e))
      here_at q false e = other_mark table cs (Insert s r) q e

  first_deleted : (s : SwitchId) (r : Rule) → IsPrepared table (Delete s r ∷ cs) marks → IsPrepared (filter (λ q. not (key_eq q.key r.key)) table) cs (marks_without r.key marks)
  first_deleted s r prepared =
      let c = Delete s r in
      let p = λ (q : Rule). not (key_eq q.key r.key) in
      let rs = rules_of marks in
      let all = all_rules table (c ∷ cs) in
      let stay : filter p (inserted_rules cs) ≡ inserted_rules cs = others_stay r.key (inserted_rules cs) (not_inserted table cs c prepared.good) in
      let left : filter p all ≡ all_rules (filter p table) cs = filter-append p table (inserted_rules cs) ∙ ap (λ (xs : List Rule). filter p table ++ xs) stay in
      let is : marks_without r.key marks ≡ map (marked_rule cs) (filter p rs) = ap (marks_without r.key) (marks_are table (c ∷ cs) marks prepared) ∙ left_first table cs c rs in
      subst (IsPrepared (filter p table) cs) (sym is)
      (prepared_of (filter p table) cs (filter p rs) (good_rest table cs c prepared.good) (clear_rest table cs c prepared.clear)
      (subst (λ (xs : List Rule). IsPermutation xs (filter p rs)) left (filter_moved p all rs (keys_apart table (c ∷ cs) is_table prepared.good) (rules_moved table (c ∷ cs) marks prepared)))
      (subst IsFalling is (falling_filter (λ m. not (key_eq m.rule.key r.key)) marks prepared.falling)))

  first_replaced : (s : SwitchId) (r : Rule) → IsPrepared table (Replace s r ∷ cs) marks → IsPrepared (map (replaced r) table) cs (settled_where r.key marks)
  first_replaced s r prepared =
      let c = Replace s r in
      let rs = rules_of marks in
      let same = marks_are table (c ∷ cs) marks prepared in
      let stay : map (replaced r) (inserted_rules cs) ≡ inserted_rules cs = unreplaced r (inserted_rules cs) (not_inserted table cs c prepared.good) in
      let left : map (replaced r) (all_rules table (c ∷ cs)) ≡ all_rules (map (replaced r) table) cs =
      map-append (replaced r) table (inserted_rules cs) ∙ ap (λ (xs : List Rule). map (replaced r) table ++ xs) stay in
      let here : (q : Rule) (b : Bool) → key_eq r.key q.key ≡ b → cond b (settled_mark (marked_rule (Replace s r ∷ cs) q)) (marked_rule (Replace s r ∷ cs) q) ≡ marked_rule cs (replaced r q) = here_at in
      let twice : map (marked_rule cs) (map (replaced r) rs) ≡ map (λ q. marked_rule cs (replaced r q)) rs = remap (replaced r) (marked_rule cs) (λ q. marked_rule cs (replaced r q)) (λ q. refl) rs in
      let is : settled_where r.key marks ≡ map (marked_rule cs) (map (replaced r) rs) =
      ap (settled_where r.key) same
      ∙ remap (marked_rule (c ∷ cs)) (λ m. cond (key_eq r.key m.rule.key) (settled_mark m) m) (λ q. marked_rule cs (replaced r q)) (λ q. here q (key_eq r.key q.key) refl) rs ∙ sym twice in
      subst (IsPrepared (map (replaced r) table) cs) (sym is)
      (prepared_of (map (replaced r) table) cs (map (replaced r) rs) (good_rest table cs c prepared.good) (clear_rest table cs c prepared.clear)
      (subst (λ (xs : List Rule). IsPermutation xs (map (replaced r) rs)) left
      (IsPermutation-map (replaced r) (all_rules table (c ∷ cs)) rs (rules_moved table (c ∷ cs) marks prepared)))
      (subst IsFalling (sym twice) (falling_by (marked_rule (c ∷ cs)) (λ q. marked_rule cs (replaced r q)) (λ q. order q (key_eq q.key r.key) refl) rs (subst IsFalling same prepared.falling))))
    where
      here_at : (q : Rule) (b : Bool) → key_eq r.key q.key ≡ b → cond b (settled_mark (marked_rule (Replace s r ∷ cs) q)) (marked_rule (Replace s r ∷ cs) q) ≡ marked_rule cs (replaced r q)
      here_at q true e =
          ap settled_mark (this_mark table cs (Replace s r) q e)
          ∙ ap (λ (k : Key). with_mark (record { key = k; action = r.action }) Sure) (sym (key_eq-true r.key q.key e))
          ∙ sym (sure_here table cs r.key r prepared.good.distinct.0 refl)
          ∙ ap (marked_rule cs) (sym (cond-true (key_eq q.key r.key) r q (flips q.key r.key ∙ e)))
      here_at q false e = other_mark table cs (Replace s r) q e ∙ ap (marked_rule cs) (sym (cond-false (key_eq q.key r.key) r q (flips q.key r.key ∙ e)))

      order : (q : Rule) (b : Bool) → key_eq q.key r.key ≡ b → (cond b r q).key.priority ≡ q.key.priority
      order q true e = ap (λ (k : Key). k.priority) (sym (key_eq-true q.key r.key e))
      order q false e = refl

  -- what is kept is prepared for the others, over the table after the change
  pub made_first : (c : Change) → IsPrepared table (c ∷ cs) marks → IsPrepared (rules_after_change c table) cs (kept_marks c marks)
  made_first (Insert s r) prepared = first_inserted s r prepared
  made_first (Delete s r) prepared = first_deleted s r prepared
  made_first (Replace s r) prepared = first_replaced s r prepared

-- a table stays one
table_next : (table : List Rule) (c : Change) → AppliesTo table c → IsTable table → IsTable (rules_after_change c table)
table_next table (Insert s r) applies is_table =
    distinct_append (λ (x : Rule). x.key) table (r ∷ []) is_table (λ i. i, tt)
    (λ x y i j e. elim j [ inl f ↦ applies (subst (λ k. IsIn k (keys_of table)) (e ∙ ap (λ (z : Rule). z.key) f) (in_map (λ (z : Rule). z.key) x table i)) | inr k ↦ k ])
table_next table (Delete s r) applies is_table =
    distinct_some (λ (x : Rule). x.key) (filter (λ q. not (key_eq q.key r.key)) table) table (some_filter (λ q. not (key_eq q.key r.key)) table) is_table
table_next table (Replace s r) applies is_table = subst IsDistinct (sym (keys_replaced r table)) is_table

after_push : (cs : List Change) (c : Change) (table : List Rule) → rules_after (cs ++ c ∷ []) table ≡ rules_after_change c (rules_after cs table)
after_push [] c table = refl
after_push (d ∷ cs) c table = after_push cs c (rules_after_change d table)

first_applies : (table : List Rule) (c : Change) (cs : List Change) (o : Option (List MarkedRule)) → IsSomeAnd o (IsPrepared table (c ∷ cs)) → AppliesTo table c
first_applies table c cs None h = absurd h
first_applies table c cs (Some marks) h = h.good.applies.0

-- so many of the changes are made: the others are prepared over the table after these
abbrev pub AreMadeTo : List Rule → List Change → ℕ → Option (List MarkedRule) → Type 0
AreMadeTo table changes i o = IsTable (rules_after (take i changes) table) × IsSomeAnd o (IsPrepared (rules_after (take i changes) table) (drop i changes))

-- one more
pub made_next : (table : List Rule) (changes : List Change) (i : ℕ) (c : Change) (old new : Option (List MarkedRule)) → i < length changes → c ≡ get_or changes i c
    → ((rules : List Rule) (cs : List Change) → IsTable rules → IsSomeAnd old (IsPrepared rules (c ∷ cs)) → IsSomeAnd new (IsPrepared (rules_after_change c rules) cs))
    → AreMadeTo table changes i old → AreMadeTo table changes (i + 1) new
made_next table changes i c old new less is first (is_table, prepared) =
    let before = rules_after (take i changes) table in
    let front : take (i + 1) changes ≡ take i changes ++ c ∷ [] = take_more changes i c less ∙ ap (λ (x : Change). take i changes ++ x ∷ []) (sym is) in
    let back : drop i changes ≡ c ∷ drop (i + 1) changes = drop_more changes i c less ∙ ap (λ (x : Change). x ∷ drop (i + 1) changes) (sym is) in
    let after : rules_after (take (i + 1) changes) table ≡ rules_after_change c before = ap (λ (cs : List Change). rules_after cs table) front ∙ after_push (take i changes) c table in
    let here : IsSomeAnd old (IsPrepared before (c ∷ drop (i + 1) changes)) = subst (λ (cs : List Change). IsSomeAnd old (IsPrepared before cs)) back prepared in (
      subst IsTable (sym after) (table_next before c (first_applies before c (drop (i + 1) changes) old here) is_table),
      subst (λ (rs : List Rule). IsSomeAnd new (IsPrepared rs (drop (i + 1) changes))) (sym after) (first before (drop (i + 1) changes) is_table here),
    )

-- with no more entries
pub no_more_start : (o : Option (List MarkedRule)) → IfSome o (λ a. IsSomeAnd o (λ b. length b ≤ length a))
no_more_start None = tt
no_more_start (Some a) = omega arith

pub no_more : (first old new : Option (List MarkedRule)) → IfSome first (λ a. IsSomeAnd old (λ b. length b ≤ length a))
    → IfSome old (λ b. IsSomeAnd new (λ d. length d ≤ length b)) → IfSome first (λ a. IsSomeAnd new (λ d. length d ≤ length a))
no_more None old new few more = tt
no_more (Some a) None new few more = absurd few
no_more (Some a) (Some b) None few more = absurd more
no_more (Some a) (Some b) (Some d) few more = omega arith
