-- What the marks of a table's rules and the inserted ones say.
use Rattle.std.proofs.Common.{◌≡◌, ◌⊎◌, true, false, cond, List, [], ◌∷◌, ◌++◌, map, refl, sym, ◌∙◌, subst, ap, inl, inr, append_assoc}
use Rattle.std.specs.Prelude.{Some, None}
use Rattle.std.specs.Option.{option_map_or}
use Rattle.std.specs.List.{AllByRecursion}
use Rattle.std.proofs.lemmas.Bool.{cond-true, cond-false, both_ways}
use Rattle.net_base.specs.Members.{IsIn, IsDistinct, IsSubsequence}
use Rattle.net_base.proofs.MemberLaws.{in_map, in_from_map, in_append_left, in_append_right, in_append_cases, each_at}
use Rattle.flow_rules.specs.Patterns.{key_eq}
use Rattle.flow_rules.specs.Tables.{keys_of}
use Rattle.flow_rules.proofs.KeyLaws.{key_eq-true, key_eq-refl, key_ne}
use Rattle.flow_rules.specs.declared.rules.Key.{Key}
use Rattle.flow_rules.specs.declared.rules.Rule.{Rule}
use Rattle.update_model.specs.Changes.{AppliesTo, rules_after}
use Rattle.update_model.specs.Mixtures.{IsMixture}
use Rattle.update_model.proofs.Matches.{IsDelete, Writes, IsWritten, IsKept}
use Rattle.update_model.specs.declared.Change.{Change}
use Rattle.update_model.specs.declared.Change.TheVariants.{Insert, Delete, Replace}
use Rattle.update_model.proofs.ChangeLaws.{key_named, writes_key}
use Rattle.round_mix.specs.Marks.{mark_by, change_of, marked_rule, inserted_rules, all_rules, marked_rules}
use Rattle.round_mix.specs.Scan.{is_kept}
use Rattle.round_mix.specs.declared.Mark.{Mark}
use Rattle.round_mix.specs.declared.Mark.TheVariants.{Sure, Possible, Replaced}
use Rattle.round_mix.specs.declared.MarkedRule.{MarkedRule}

-- the rules that a marked rule stands for
abbrev pub rules_by : Mark → Rule → List Rule
rules_by Sure r = r ∷ []
rules_by Possible r = r ∷ []
rules_by (Replaced b) r = r ∷ record { key = r.key; action = b } ∷ []

pub rules_by-key : (mark : Mark) (x r : Rule) → IsIn r (rules_by mark x) → r.key ≡ x.key
rules_by-key Sure x r (inl e) = ap (λ y. y.key) e
rules_by-key Sure x r (inr i) = absurd i
rules_by-key Possible x r (inl e) = ap (λ y. y.key) e
rules_by-key Possible x r (inr i) = absurd i
rules_by-key (Replaced b) x r (inl e) = ap (λ y. y.key) e
rules_by-key (Replaced b) x r (inr (inl e)) = ap (λ y. y.key) e
rules_by-key (Replaced b) x r (inr (inr i)) = absurd i

pub rules_by_first : (mark : Mark) (r : Rule) → IsIn r (rules_by mark r)
rules_by_first Sure r = inl refl
rules_by_first Possible r = inl refl
rules_by_first (Replaced b) r = inl refl

-- the change that is found names the key, and is the only one
pub change_found : (changes : List Change) (r : Rule) (c : Change) → change_of changes r ≡ Some c → IsIn c changes × (key_named c ≡ r.key)
change_found [] r c e = absurd (let f : None ≡ Some c = e in cc)
change_found (d ∷ ds) r c e =
    elim (key_eq (key_named d) r.key) as (λ b. key_eq (key_named d) r.key ≡ b → cond b (Some d) (change_of ds r) ≡ Some c → IsIn c (d ∷ ds) × (key_named c ≡ r.key)) [
      | true ↦ λ t f. let g : d ≡ c = cc in (inl (sym g), subst (λ x. key_named x ≡ r.key) g (key_eq-true (key_named d) r.key t))
      | false ↦ λ _ f. let rest = change_found ds r c f in (inr rest.0, rest.1)
    ] refl e

pub change_unique : (changes : List Change) (r : Rule) (c : Change) → IsDistinct (map key_named changes) → IsIn c changes → key_named c ≡ r.key → change_of changes r ≡ Some c
change_unique [] r c distinct i e = absurd i
change_unique (d ∷ ds) r c distinct (inl same) e =
    let named : key_eq (key_named d) r.key ≡ true = subst (λ k. key_eq k r.key ≡ true) (sym e ∙ ap key_named same) (key_eq-refl r.key) in
    cond-true (key_eq (key_named d) r.key) (Some d) (change_of ds r) named ∙ ap Some (sym same)
change_unique (d ∷ ds) r c distinct (inr i) e =
    let other : key_eq (key_named d) r.key ≡ false = key_ne (key_named d) r.key (λ f. distinct.0 (subst (λ k. IsIn k (map key_named ds)) (e ∙ sym f) (in_map key_named c ds i))) in
    cond-false (key_eq (key_named d) r.key) (Some d) (change_of ds r) other ∙ change_unique ds r c distinct.1 i e

-- the change inserts the rule
abbrev pub IsInsertOf : Change → Rule → Type 0
IsInsertOf (Insert s q) r = q ≡ r
IsInsertOf (Delete s q) r = ⊥
IsInsertOf (Replace s q) r = ⊥

-- what is inserted
pub in_inserted : (changes : List Change) (c : Change) (r : Rule) → IsIn c changes → IsInsertOf c r → IsIn r (inserted_rules changes)
in_inserted [] c r i e = absurd i
in_inserted (Insert s q ∷ ds) c r (inl same) e = inl (sym (subst (λ x. IsInsertOf x r) same e))
in_inserted (Insert s q ∷ ds) c r (inr i) e = inr (in_inserted ds c r i e)
in_inserted (Delete s q ∷ ds) c r (inl same) e = absurd (subst (λ x. IsInsertOf x r) same e)
in_inserted (Delete s q ∷ ds) c r (inr i) e = in_inserted ds c r i e
in_inserted (Replace s q ∷ ds) c r (inl same) e = absurd (subst (λ x. IsInsertOf x r) same e)
in_inserted (Replace s q ∷ ds) c r (inr i) e = in_inserted ds c r i e

pub in_from_inserted : (changes : List Change) (r : Rule) → IsIn r (inserted_rules changes) → (c : Change) × IsIn c changes × IsInsertOf c r
in_from_inserted [] r i = absurd i
in_from_inserted (Insert s q ∷ ds) r (inl e) = (Insert s q, inl refl, sym e)
in_from_inserted (Insert s q ∷ ds) r (inr i) = let (c, j, e) = in_from_inserted ds r i in (c, inr j, e)
in_from_inserted (Delete s q ∷ ds) r i = let (c, j, e) = in_from_inserted ds r i in (c, inr j, e)
in_from_inserted (Replace s q ∷ ds) r i = let (c, j, e) = in_from_inserted ds r i in (c, inr j, e)

pub insert_writes : (c : Change) (r : Rule) → IsInsertOf c r → Writes r c
insert_writes (Insert s q) r e = sym e
insert_writes (Delete s q) r e = absurd e
insert_writes (Replace s q) r e = absurd e

pub insert_mark : (c : Change) (r : Rule) → IsInsertOf c r → is_kept (mark_by c) ≡ false
insert_mark (Insert s q) r e = refl
insert_mark (Delete s q) r e = absurd e
insert_mark (Replace s q) r e = absurd e

delete_mark : (c : Change) → IsDelete c → is_kept (mark_by c) ≡ false
delete_mark (Insert s q) d = absurd d
delete_mark (Delete s q) d = refl
delete_mark (Replace s q) d = absurd d

-- the inserts among the changes give the table's rules followed by the inserted ones
abbrev pub inserts_of : List Change → List Change
inserts_of [] = []
inserts_of (Insert s r ∷ cs) = Insert s r ∷ inserts_of cs
inserts_of (Delete s r ∷ cs) = inserts_of cs
inserts_of (Replace s r ∷ cs) = inserts_of cs

skip_one : (xs ys : List Change) (c : Change) → IsSubsequence xs ys → IsSubsequence xs (c ∷ ys)
skip_one [] ys c h = tt
skip_one (x ∷ xs) ys c h = inr h

inserts_some : (cs : List Change) → IsSubsequence (inserts_of cs) cs
inserts_some [] = tt
inserts_some (Insert s r ∷ cs) = inl (refl, inserts_some cs)
inserts_some (Delete s r ∷ cs) = skip_one (inserts_of cs) cs (Delete s r) (inserts_some cs)
inserts_some (Replace s r ∷ cs) = skip_one (inserts_of cs) cs (Replace s r) (inserts_some cs)

inserts_after : (table : List Rule) (cs : List Change) → rules_after (inserts_of cs) table ≡ table ++ inserted_rules cs
inserts_after table [] = sym (append_nil table)
  where
    append_nil : (xs : List Rule) → xs ++ [] ≡ xs
    append_nil [] = refl
    append_nil (x ∷ xs) = ap (λ ys. x ∷ ys) (append_nil xs)
inserts_after table (Insert s r ∷ cs) = inserts_after (table ++ r ∷ []) cs ∙ append_assoc table (r ∷ []) (inserted_rules cs)
inserts_after table (Delete s r ∷ cs) = inserts_after table cs
inserts_after table (Replace s r ∷ cs) = inserts_after table cs

pub all_mixed : (table : List Rule) (cs : List Change) → IsMixture table cs (all_rules table cs)
all_mixed table cs =
    let e = inserts_after table cs in
    record { made = inserts_of cs; some = inserts_some cs; same = λ r. (λ i. subst (λ xs. IsIn r xs) (sym e) i, λ i. subst (λ xs. IsIn r xs) e i) }

module _ (table : List Rule) (changes : List Change) (applies : AllByRecursion (AppliesTo table) changes) (distinct : IsDistinct (map key_named changes)) where
  -- a marked rule is a rule with its mark
  pub marked_from : (m : MarkedRule) → IsIn m (marked_rules table changes) → (m ≡ marked_rule changes m.rule) × IsIn m.rule (all_rules table changes)
  marked_from m i =
      let (x, j, e) = in_from_map (marked_rule changes) m (all_rules table changes) i in
      let same : m.rule ≡ x = ap (λ y. y.rule) e in (e ∙ ap (marked_rule changes) (sym same), subst (λ y. IsIn y (all_rules table changes)) (sym same) j)

  -- a kept entry has a marked rule, which is sure or replaced
  pub kept_from : (k : Key) → IsKept table changes k → (m : MarkedRule) × IsIn m (marked_rules table changes) × (is_kept m.mark ≡ true) × (m.rule.key ≡ k)
  kept_from k kept =
      let (x, i, e) = in_from_map (λ y. y.key) k table kept.stood in (
        marked_rule changes x,
        in_map (marked_rule changes) x (all_rules table changes) (in_append_left x table (inserted_rules changes) i),
        elim (change_of changes x) as (λ o. change_of changes x ≡ o → is_kept (option_map_or mark_by o Sure) ≡ true) [
          | None ↦ λ _. refl
          | Some c ↦ λ f. let (j, named) = change_found changes x c f in by_change c j (named ∙ sym e)
        ] refl,
        sym e,
      )
    where
      by_change : (c : Change) → IsIn c changes → key_named c ≡ k → is_kept (mark_by c) ≡ true
      by_change (Insert s q) j named =
          let absent : ¬ IsIn q.key (keys_of table) = each_at (AppliesTo table) changes (Insert s q) applies j in
          absurd (absent (subst (λ z. IsIn z (keys_of table)) (sym named) kept.stood))
      by_change (Delete s q) j named = absurd (kept.not_deleted (Delete s q) j tt named)
      by_change (Replace s q) j named = refl

  pub kept_to : (m : MarkedRule) → IsIn m (marked_rules table changes) → is_kept m.mark ≡ true → IsKept table changes m.rule.key
  kept_to m i kept =
      let (is, j) = marked_from m i in
      let not_by : (c : Change) → IsIn c changes → key_named c ≡ m.rule.key → is_kept (mark_by c) ≡ false → ⊥ = λ c l named off.
      let found = change_unique changes m.rule c distinct l named in
      both_ways (is_kept (mark_by c)) off (sym (ap (λ o. is_kept (option_map_or mark_by o Sure)) found) ∙ sym (ap (λ y. is_kept y.mark) is) ∙ kept) in
      record {
        stood = elim (in_append_cases m.rule table (inserted_rules changes) j) [
          | inl l ↦ in_map (λ y. y.key) m.rule table l
          | inr l ↦ (
              let (c, n, of) = in_from_inserted changes m.rule l in
              absurd (not_by c n (sym (writes_key m.rule c (insert_writes c m.rule of))) (insert_mark c m.rule of)))
        ];
        not_deleted = λ c l d named. not_by c l named (delete_mark c d);
      }

  -- a rule that stood or is written is one of a marked rule
  pub available_from : (r : Rule) → IsIn r table ⊎ IsWritten r changes → (m : MarkedRule) × IsIn m (marked_rules table changes) × IsIn r (rules_by m.mark m.rule)
  available_from r (inl i) = here (in_append_left r table (inserted_rules changes) i)
    where
      here : IsIn r (all_rules table changes) → (m : MarkedRule) × IsIn m (marked_rules table changes) × IsIn r (rules_by m.mark m.rule)
      here j = (marked_rule changes r, in_map (marked_rule changes) r (all_rules table changes) j, rules_by_first (option_map_or mark_by (change_of changes r) Sure) r)
  available_from r (inr w) = by_change w.0 w.1 w.2
    where
      by_change : (c : Change) → IsIn c changes → Writes r c → (m : MarkedRule) × IsIn m (marked_rules table changes) × IsIn r (rules_by m.mark m.rule)
      by_change (Insert s q) i e =
          let j = in_append_right r table (inserted_rules changes) (in_inserted changes (Insert s q) r i (sym e)) in
          (marked_rule changes r, in_map (marked_rule changes) r (all_rules table changes) j, rules_by_first (option_map_or mark_by (change_of changes r) Sure) r)
      by_change (Delete s q) i e = absurd e
      by_change (Replace s q) i e =
          let there : IsIn q.key (keys_of table) = each_at (AppliesTo table) changes (Replace s q) applies i in
          let (x, j, f) = in_from_map (λ y. y.key) q.key table there in
          let found = change_unique changes x (Replace s q) distinct i f in (
            marked_rule changes x,
            in_map (marked_rule changes) x (all_rules table changes) (in_append_left x table (inserted_rules changes) j),
            subst (λ o. IsIn r (rules_by (option_map_or mark_by o Sure) x)) (sym found)
                (inr (inl (e ∙ ap (λ (k : Key). let y : Rule = record { key = k; action = q.action } in y) f))),
          )

  -- and the other way round
  pub available_to : (m : MarkedRule) (r : Rule) → IsIn m (marked_rules table changes) → IsIn r (rules_by m.mark m.rule) → IsIn r table ⊎ IsWritten r changes
  available_to m r i j =
      let (is, l) = marked_from m i in
      let first : r ≡ m.rule → IsIn r table ⊎ IsWritten r changes = λ same.
      elim (in_append_cases m.rule table (inserted_rules changes) l) [
        | inl n ↦ inl (subst (λ y. IsIn y table) (sym same) n)
        | inr n ↦ (let (c, o, of) = in_from_inserted changes m.rule n in inr (c, o, subst (λ y. Writes y c) (sym same) (insert_writes c m.rule of)))
      ] in
      elim (change_of changes m.rule) as (λ o. change_of changes m.rule ≡ o → IsIn r (rules_by (option_map_or mark_by o Sure) m.rule) → IsIn r table ⊎ IsWritten r changes) [
        | None ↦ λ _ n. elim n [ inl e ↦ first e | inr none ↦ absurd none ]
        | Some c ↦ λ f n. let (o, named) = change_found changes m.rule c f in by_change m.rule first c o named n
      ] refl (subst (λ y. IsIn r (rules_by y.mark m.rule)) is j)
    where
      by_change : (x : Rule) → (r ≡ x → IsIn r table ⊎ IsWritten r changes) → (c : Change) → IsIn c changes → key_named c ≡ x.key → IsIn r (rules_by (mark_by c) x) → IsIn r table ⊎ IsWritten r changes
      by_change x first (Insert s q) o named (inl e) = first e
      by_change x first (Insert s q) o named (inr n) = absurd n
      by_change x first (Delete s q) o named (inl e) = first e
      by_change x first (Delete s q) o named (inr n) = absurd n
      by_change x first (Replace s q) o named (inl e) = first e
      by_change x first (Replace s q) o named (inr (inl e)) =
          inr (Replace s q, o, e ∙ ap (λ (k : Key). let y : Rule = record { key = k; action = q.action } in y) (sym named))
      by_change x first (Replace s q) o named (inr (inr n)) = absurd n
