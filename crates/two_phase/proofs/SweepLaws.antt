-- Rounds that insert given rules at each switch, or delete them: what the mixtures hold, and the tables after.
use Rattle.std.proofs.Common.{◌≡◌, ◌⊎◌, ◌↔◌, ℕ, ◌+◌, ◌<◌, ◌≤◌, true, List, [], ◌∷◌, ◌++◌, map, length, refl, sym, ◌∙◌, subst, ap, inl, inr, arith, length-append}
use Rattle.std.specs.Prelude.{◌==◌, filter, not}
use Rattle.std.specs.List.{AllByRecursion}
use Rattle.std.proofs.lemmas.Bool.{eqb-true, eq-eqb}
use Rattle.net_base.specs.Members.{IsIn, IsDistinct, IsSubsequence}
use Rattle.net_base.proofs.MemberLaws.{in_map, in_from_map, in_filter, in_from_filter, in_from_subsequence, IsSubsequence_refl, each_weaker, each_from_in}
use Rattle.net_base.specs.declared.ids.SwitchId.{SwitchId}
use Rattle.flow_rules.specs.Patterns.{key_eq}
use Rattle.flow_rules.specs.Tables.{rules_at, keys_of, IsTable}
use Rattle.flow_rules.specs.declared.rules.Rule.{Rule}
use Rattle.update_model.specs.Changes.{switch_of, AppliesTo, Applies, entry_named, changes_at, rules_after_change, rules_after, tables_after, IsGoodRound}
use Rattle.update_model.specs.Mixtures.{IsMixture}
use Rattle.update_model.proofs.Matches.{Writes, IsWritten}
use Rattle.update_model.specs.declared.Change.{Change}
use Rattle.update_model.specs.declared.Change.TheVariants.{Insert, Delete, Replace}
use Rattle.update_model.proofs.ChangeLaws.{key_named, StandsAfterAll, stands_all_from_in, in_from_stands_all, applies_all_kept, IsWithin, rules_at-after}
use Rattle.update_model.proofs.MatchLaws.{some_filter}
use Rattle.update_model.proofs.MadeLaws.{distinct_some, keys_distinct, apply_there, each_some}
use Rattle.update_model.specs.Mixtures.{is_insert}
use Rattle.net_base.proofs.ListLaws.{told_from_distinct, distinct_append, distinct_members, no_longer}
use Rattle.net_base.proofs.NameLaws.{same_switch}
use Rattle.flow_rules.proofs.TableLaws.{keys_replaced}

table_after_one : (rules : List Rule) (c : Change) → AppliesTo rules c → IsTable rules → IsTable (rules_after_change c rules)
table_after_one rules (Insert s r) applies table =
    distinct_append (λ x. x.key) rules (r ∷ []) table (λ i. i, tt)
    (λ x y i j e. elim j [ inl f ↦ applies (subst (λ k. IsIn k (keys_of rules)) (e ∙ ap (λ z. z.key) f) (in_map (λ z. z.key) x rules i)) | inr k ↦ k ])
table_after_one rules (Delete s r) applies table =
    distinct_some (λ x. x.key) (filter (λ q. not (key_eq q.key r.key)) rules) rules (some_filter (λ q. not (key_eq q.key r.key)) rules) table
table_after_one rules (Replace s r) applies table = subst IsDistinct (sym (keys_replaced r rules)) table

pub table_after : (cs : List Change) (rules : List Rule) → AllByRecursion (AppliesTo rules) cs → IsDistinct (map key_named cs) → IsTable rules → IsTable (rules_after cs rules)
table_after [] rules applies distinct table = table
table_after (c ∷ cs) rules applies distinct table =
    table_after cs (rules_after_change c rules) (applies_all_kept rules c cs applies.0 applies.1 distinct.0) distinct.1 (table_after_one rules c applies.0 table)

length_inserted : (cs : List Change) (rules : List Rule) → length (rules_after (filter is_insert cs) rules) ≡ length rules + length (filter is_insert cs)
length_inserted [] rules = omega arith
length_inserted (Insert s r ∷ cs) rules =
    let e = length_inserted cs (rules ++ r ∷ []) in
    let f = length-append rules (r ∷ []) in
    omega arith
length_inserted (Delete s r ∷ cs) rules = length_inserted cs rules
length_inserted (Replace s r ∷ cs) rules = length_inserted cs rules

module _ (tables : List (List Rule)) (round : List Change) (good : IsGoodRound tables round) (s : SwitchId) where
  abbrev rules : List Rule
  rules = rules_at tables s

  abbrev here : List Change
  here = changes_at s round

  pub applies_here : AllByRecursion (AppliesTo rules) here
  applies_here = apply_there tables s round good.applies

  pub distinct_here : IsDistinct (map key_named here)
  distinct_here = keys_distinct s round good.distinct

  module _ (made : List Change) (some : IsSubsequence made here) where
    pub made_from : (r : Rule) → IsIn r (rules_after made rules) → StandsAfterAll rules made r
    made_from r i = stands_all_from_in rules made r (each_some (AppliesTo rules) made here some applies_here) (distinct_some key_named made here some distinct_here) i

    pub made_to : (r : Rule) → StandsAfterAll rules made r → IsIn r (rules_after made rules)
    made_to r h = in_from_stands_all rules made r (each_some (AppliesTo rules) made here some applies_here) (distinct_some key_named made here some distinct_here) h

    pub made_table : IsTable rules → IsTable (rules_after made rules)
    made_table table = table_after made rules (each_some (AppliesTo rules) made here some applies_here) (distinct_some key_named made here some distinct_here) table

  pub after_is : rules_at (tables_after round tables) s ≡ rules_after here rules
  after_is = rules_at-after round tables s (each_weaker (Applies tables) (IsWithin (length tables)) (λ c h. h.0) round good.applies)

  pub after_from : (r : Rule) → IsIn r (rules_at (tables_after round tables) s) → StandsAfterAll rules here r
  after_from r i = made_from here (IsSubsequence_refl here) r (subst (IsIn r) after_is i)

  pub after_to : (r : Rule) → StandsAfterAll rules here r → IsIn r (rules_at (tables_after round tables) s)
  after_to r h = subst (IsIn r) (sym after_is) (made_to here (IsSubsequence_refl here) r h)

  pub after_table : IsTable rules → IsTable (rules_at (tables_after round tables) s)
  after_table table = subst IsTable (sym after_is) (made_table here (IsSubsequence_refl here) table)

  -- the entries before the round and its inserts are no more than a list that has them all
  pub need_within : IsTable rules → (big : List Rule) → ((r : Rule) → IsIn r (rules_after (filter is_insert here) rules) → IsIn r big) → length rules + length (filter is_insert here) ≤ length big
  need_within table big within =
      let made = filter is_insert here in
      let e = length_inserted here rules in
      let le = no_longer (rules_after made rules) big (distinct_members (λ r. r.key) (rules_after made rules) (made_table made (some_filter is_insert here) table)) within in
      omega arith

-- a round that makes one kind of change with each of the given rules
pub record IsSweep (count : ℕ) (change : SwitchId → Rule → Change) (given : SwitchId → List Rule) (round : List Change) : Type 0 where
  pub each : (c : Change) → IsIn c round → (s : SwitchId) × (r : Rule) × (c ≡ change s r) × (s.0 < count) × IsIn r (given s)
  pub every : (s : SwitchId) (r : Rule) → s.0 < count → IsIn r (given s) → IsIn (change s r) round
  pub distinct : IsDistinct (map entry_named round)

module _ (count : ℕ) (given : SwitchId → List Rule) (round : List Change) (tables : List (List Rule)) (size : length tables ≡ count) where
  module _ (sweep : IsSweep count Insert given round) (absent : (s : SwitchId) (r : Rule) → s.0 < count → IsIn r (given s) → ¬ IsIn r.key (keys_of (rules_at tables s))) where
    pub insert_good : IsGoodRound tables round
    insert_good = record {
      applies = each_from_in (Applies tables) round (λ c i.
          let (s, r, e, within, j) = sweep.each c i in
          subst (Applies tables) (sym e) (subst (λ n. s.0 < n) (sym size) within, absent s r within j));
      distinct = sweep.distinct;
    }

    module _ (s : SwitchId) (within : s.0 < count) where
      inserted_here : (c : Change) → IsIn c (changes_at s round) → (r : Rule) × (c ≡ Insert s r) × IsIn r (given s)
      inserted_here c i =
          let (j, f) = in_from_filter (λ x. (switch_of x).0 == s.0) c round i in
          let (t, r, e, _, k) = sweep.each c j in
          let same : t ≡ s = same_switch t s (eqb-true t.0 s.0 (subst (λ x. ((switch_of x).0 == s.0) ≡ true) e f)) in
          (r, e ∙ ap (λ x. Insert x r) same, subst (λ x. IsIn r (given x)) same k)

      pub inserted_kept : (mixed : List Rule) → IsMixture (rules_at tables s) (changes_at s round) mixed → (r : Rule) → IsIn r (rules_at tables s) → IsIn r mixed
      inserted_kept mixed held r i =
          (held.same r).1 (made_to tables round insert_good s held.made held.some r (inl (
            i,
            λ named.
                let (c, j, e) = in_from_map key_named r.key held.made named in
                let (q, f, k) = inserted_here c (in_from_subsequence c held.made (changes_at s round) held.some j) in
                absent s q within k (subst (λ x. IsIn x (keys_of (rules_at tables s))) (e ∙ ap key_named f) (in_map (λ x. x.key) r (rules_at tables s) i)),
          )))

      made_of_given : (cs : List Change) → ((c : Change) → IsIn c cs → IsIn c (changes_at s round)) → (r : Rule) → IsWritten r cs → IsIn r (given s)
      made_of_given cs within_here r (c, i, w) =
          let (q, f, k) = inserted_here c (within_here c i) in
          let is : r ≡ q = subst (Writes r) f w in
          subst (λ x. IsIn x (given s)) (sym is) k

      pub inserted_from : (mixed : List Rule) → IsMixture (rules_at tables s) (changes_at s round) mixed → (r : Rule) → IsIn r mixed → IsIn r (rules_at tables s) ⊎ IsIn r (given s)
      inserted_from mixed held r i =
          elim (made_from tables round insert_good s held.made held.some r ((held.same r).0 i)) [
            | inl h ↦ inl h.0
            | inr w ↦ inr (made_of_given held.made (λ c j. in_from_subsequence c held.made (changes_at s round) held.some j) r w)
          ]

      pub inserted_after : (r : Rule) → IsIn r (rules_at (tables_after round tables) s) ↔ (IsIn r (rules_at tables s) ⊎ IsIn r (given s))
      inserted_after r = (
        λ i. elim (after_from tables round insert_good s r i) [ inl h ↦ inl h.0 | inr w ↦ inr (made_of_given (changes_at s round) (λ c j. j) r w) ],
        λ h. elim h [
          | inl i ↦ subst (IsIn r) (sym (after_is tables round insert_good s))
              (inserted_kept (rules_after (changes_at s round) (rules_at tables s)) (record { made = changes_at s round; some = IsSubsequence_refl (changes_at s round); same = λ q. (λ j. j, λ j. j) }) r i)
          | inr i ↦ after_to tables round insert_good s r (inr (Insert s r, in_filter (λ x. (switch_of x).0 == s.0) (Insert s r) round (sweep.every s r within i) (eq-eqb s.0 s.0 refl), refl))
        ],
      )

  module _ (sweep : IsSweep count Delete given round) (present : (s : SwitchId) (r : Rule) → s.0 < count → IsIn r (given s) → IsIn r (rules_at tables s)) where
    pub delete_good : IsGoodRound tables round
    delete_good = record {
      applies = each_from_in (Applies tables) round (λ c i.
          let (s, r, e, within, j) = sweep.each c i in
          subst (Applies tables) (sym e) (subst (λ n. s.0 < n) (sym size) within, present s r within j));
      distinct = sweep.distinct;
    }

    module _ (s : SwitchId) (within : s.0 < count) (table : IsTable (rules_at tables s)) where
      deleted_here : (c : Change) → IsIn c (changes_at s round) → (r : Rule) × (c ≡ Delete s r) × IsIn r (given s)
      deleted_here c i =
          let (j, f) = in_from_filter (λ x. (switch_of x).0 == s.0) c round i in
          let (t, r, e, _, k) = sweep.each c j in
          let same : t ≡ s = same_switch t s (eqb-true t.0 s.0 (subst (λ x. ((switch_of x).0 == s.0) ≡ true) e f)) in
          (r, e ∙ ap (λ x. Delete x r) same, subst (λ x. IsIn r (given x)) same k)

      writes_none : (cs : List Change) → ((c : Change) → IsIn c cs → IsIn c (changes_at s round)) → (r : Rule) → IsWritten r cs → ⊥
      writes_none cs within_here r (c, i, w) = let (q, f, k) = deleted_here c (within_here c i) in subst (Writes r) f w

      not_deleted : (cs : List Change) → ((c : Change) → IsIn c cs → IsIn c (changes_at s round)) → (r : Rule) → IsIn r (rules_at tables s) → ¬ IsIn r (given s) → ¬ IsIn r.key (map key_named cs)
      not_deleted cs within_here r i out named =
          let (c, j, e) = in_from_map key_named r.key cs named in
          let (q, f, k) = deleted_here c (within_here c j) in
          let is : r ≡ q = told_from_distinct (λ x. x.key) (rules_at tables s) table r q i (present s q within k) (e ∙ ap key_named f) in
          out (subst (λ x. IsIn x (given s)) (sym is) k)

      pub deleted_kept : (mixed : List Rule) → IsMixture (rules_at tables s) (changes_at s round) mixed → (r : Rule) → IsIn r (rules_at tables s) → ¬ IsIn r (given s) → IsIn r mixed
      deleted_kept mixed held r i out =
          (held.same r).1 (made_to tables round delete_good s held.made held.some r (inl (i, not_deleted held.made (λ c j. in_from_subsequence c held.made (changes_at s round) held.some j) r i out)))

      pub deleted_from : (mixed : List Rule) → IsMixture (rules_at tables s) (changes_at s round) mixed → (r : Rule) → IsIn r mixed → IsIn r (rules_at tables s)
      deleted_from mixed held r i =
          elim (made_from tables round delete_good s held.made held.some r ((held.same r).0 i)) [
            | inl h ↦ h.0
            | inr w ↦ absurd (writes_none held.made (λ c j. in_from_subsequence c held.made (changes_at s round) held.some j) r w)
          ]

      pub deleted_after : (r : Rule) → IsIn r (rules_at (tables_after round tables) s) ↔ (IsIn r (rules_at tables s) × ¬ IsIn r (given s))
      deleted_after r = (
        λ i. elim (after_from tables round delete_good s r i) [
          | inl h ↦ (h.0, λ j. h.1 (in_map key_named (Delete s r) (changes_at s round) (in_filter (λ x. (switch_of x).0 == s.0) (Delete s r) round (sweep.every s r within j) (eq-eqb s.0 s.0 refl))))
          | inr w ↦ absurd (writes_none (changes_at s round) (λ c j. j) r w)
        ],
        λ h. after_to tables round delete_good s r (inl (h.0, not_deleted (changes_at s round) (λ c j. j) r h.0 h.1)),
      )
