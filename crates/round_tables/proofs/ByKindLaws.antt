-- Good changes of a table, its deletes first and in one pass, then its replaces in one pass, and then its inserts.
use Rattle.std.proofs.Common.{◌≡◌, ◌≤◌, Bool, true, false, not, cond, List, [], ◌∷◌, ◌++◌, length, map, refl, sym, ◌∙◌, subst, ap}
use Rattle.std.specs.Prelude.{◌||◌, filter}
use Rattle.std.specs.List.{list_any}
use Rattle.std.proofs.lemmas.Bool.{both_ways, cond_both, or_parts, false_from_ne_true}
use Rattle.std.proofs.lemmas.List.{length-map}
use Rattle.net_base.specs.Members.{IsIn, IsDistinct}
use Rattle.net_base.proofs.ListLaws.{in_from_any}
use Rattle.net_base.proofs.MemberLaws.{in_from_filter, in_map, in_from_map, each_from_in, each_at, map-push}
use Rattle.flow_rules.specs.Patterns.{key_eq}
use Rattle.flow_rules.specs.Replaced.{replaced_in_turn}
use Rattle.flow_rules.specs.Tables.{IsTable, keys_of}
use Rattle.flow_rules.specs.declared.rules.Key.{Key}
use Rattle.flow_rules.specs.declared.rules.Rule.{Rule}
use Rattle.flow_rules.proofs.DistinctLaws.{flips}
use Rattle.flow_rules.proofs.KeyLaws.{key_eq-true}
use Rattle.flow_rules.proofs.ReplaceLaws.{keys_in_turn}
use Rattle.update_model.specs.Changes.{rule_of, AppliesTo, rules_after_change, rules_after}
use Rattle.update_model.specs.Mixtures.{is_insert, is_delete, is_replace}
use Rattle.update_model.specs.declared.Change.{Change}
use Rattle.update_model.specs.declared.Change.TheVariants.{Insert, Delete, Replace}
use Rattle.update_model.proofs.ChangeLaws.{key_named, applies_kept}
use Rattle.round_mix.specs.Prepared.{AreGood}
use Rattle.round_tables.specs.Loading.{insert_count}
use Rattle.round_tables.proofs.LoadLaws.{filter_few}
use Rattle.round_tables.specs.ByKind.{deleted_rules, replacing_rules, inserts, rules_without}

abbrev has : Key → List Rule → Bool
has k gone = list_any (λ r. key_eq r.key k) gone

-- without none all stay
without_none : (rules : List Rule) → rules_without [] rules ≡ rules
without_none [] = refl
without_none (x ∷ rules) = ap (λ (rs : List Rule). x ∷ rs) (without_none rules)

-- one more rule at the end
without_push : (gone rules : List Rule) (r : Rule) → has r.key gone ≡ false → rules_without gone (rules ++ r ∷ []) ≡ rules_without gone rules ++ r ∷ []
without_push gone [] r stays = ap (λ (b : Bool). cond (not b) (r ∷ []) []) stays
without_push gone (x ∷ rules) r stays =
    let rest = without_push gone rules r stays in
    elim (has x.key gone) as (λ b. cond (not b) (x ∷ rules_without gone (rules ++ r ∷ [])) (rules_without gone (rules ++ r ∷ [])) ≡ cond (not b) (x ∷ rules_without gone rules) (rules_without gone rules) ++ r ∷ []) [
      | true ↦ rest
      | false ↦ ap (λ (rs : List Rule). x ∷ rs) rest
    ]

-- one more key
without_step : (r : Rule) (gone rules : List Rule) → rules_without gone (filter (λ q. not (key_eq q.key r.key)) rules) ≡ rules_without (r ∷ gone) rules
without_step r gone [] = refl
without_step r gone (x ∷ rules) =
    let rest = without_step r gone rules in
    let inner = filter (λ q. not (key_eq q.key r.key)) rules in
    let outer = rules_without (r ∷ gone) rules in
    elim (key_eq x.key r.key) as (λ b. rules_without gone (cond (not b) (x ∷ inner) inner) ≡ cond (not (b || has x.key gone)) (x ∷ outer) outer) [
      | true ↦ rest
      | false ↦ ap (λ (rs : List Rule). cond (not (has x.key gone)) (x ∷ rs) rs) rest
    ]
    ∙ ap (λ (b : Bool). cond (not (b || has x.key gone)) (x ∷ outer) outer) (flips x.key r.key)

-- a replaced rule keeps its key
without_map : (r : Rule) (gone rules : List Rule) → rules_without gone (map (λ q. cond (key_eq q.key r.key) r q) rules) ≡ map (λ q. cond (key_eq q.key r.key) r q) (rules_without gone rules)
without_map r gone [] = refl
without_map r gone (x ∷ rules) =
    let rest = without_map r gone rules in
    let new : Rule = cond (key_eq x.key r.key) r x in
    let after = rules_without gone (map (λ q. cond (key_eq q.key r.key) r q) rules) in
    ap (λ (k : Key). cond (not (has k gone)) (new ∷ after) after) (same_key (key_eq x.key r.key) refl)
    ∙ elim (has x.key gone) as (λ b. cond (not b) (new ∷ after) after ≡ map (λ q. cond (key_eq q.key r.key) r q) (cond (not b) (x ∷ rules_without gone rules) (rules_without gone rules))) [
      | true ↦ rest
      | false ↦ ap (λ (rs : List Rule). new ∷ rs) rest
    ]
  where
    same_key : (b : Bool) → key_eq x.key r.key ≡ b → (cond b r x).key ≡ x.key
    same_key true e = sym (key_eq-true x.key r.key e)
    same_key false e = refl

-- one more rule at the end isn't replaced by others with other keys
in_turn_push : (rs rules : List Rule) (r : Rule) → has r.key rs ≡ false → replaced_in_turn rs (rules ++ r ∷ []) ≡ replaced_in_turn rs rules ++ r ∷ []
in_turn_push [] rules r stays = refl
in_turn_push (x ∷ rs) rules r stays =
    let (here, rest) = or_parts (key_eq x.key r.key) (has r.key rs) stays in
    ap (replaced_in_turn rs) (map-push (λ q. cond (key_eq q.key x.key) x q) rules r
    ∙ ap (λ (b : Bool). map (λ q. cond (key_eq q.key x.key) x q) rules ++ cond b x r ∷ []) (flips r.key x.key ∙ here))
    ∙ in_turn_push rs (map (λ q. cond (key_eq q.key x.key) x q) rules) r rest

-- no rule of some of the changes has a key that none of them names
unnamed : (p : Change → Bool) (k : Key) (cs : List Change) → ¬ IsIn k (map key_named cs) → has k (map rule_of (filter p cs)) ≡ false
unnamed p k cs out = false_from_ne_true (has k (map rule_of (filter p cs))) (λ e.
    let (x, i, same) = in_from_any (λ (r : Rule). key_eq r.key k) (map rule_of (filter p cs)) e in
    let (d, j, is) = in_from_map rule_of x (filter p cs) i in
    let named : key_named d ≡ k = sym (ap (λ (r : Rule). r.key) is) ∙ key_eq-true x.key k same in
    out (subst (λ (n : Key). IsIn n (map key_named cs)) named (in_map key_named d cs (in_from_filter p d cs j).0)))

-- the rules after changes that name different keys are those after the inserts, once the deleted ones are out and the others
-- are replaced
pub same_after : (cs : List Change) (rules : List Rule) → IsDistinct (map key_named cs) → rules_after (inserts cs) (replaced_in_turn (replacing_rules cs) (rules_without (deleted_rules cs) rules)) ≡ rules_after cs rules
same_after [] rules distinct = without_none rules
same_after (Insert s r ∷ cs) rules distinct =
    ap (rules_after (inserts cs)) (sym (ap (replaced_in_turn (replacing_rules cs)) (without_push (deleted_rules cs) rules r (unnamed is_delete r.key cs distinct.0))
    ∙ in_turn_push (replacing_rules cs) (rules_without (deleted_rules cs) rules) r (unnamed is_replace r.key cs distinct.0)))
    ∙ same_after cs (rules ++ r ∷ []) distinct.1
same_after (Delete s r ∷ cs) rules distinct =
    ap (λ (rs : List Rule). rules_after (inserts cs) (replaced_in_turn (replacing_rules cs) rs)) (sym (without_step r (deleted_rules cs) rules))
    ∙ same_after cs (filter (λ q. not (key_eq q.key r.key)) rules) distinct.1
same_after (Replace s r ∷ cs) rules distinct =
    ap (λ (rs : List Rule). rules_after (inserts cs) (replaced_in_turn (replacing_rules cs) rs)) (sym (without_map r (deleted_rules cs) rules))
    ∙ same_after cs (map (λ q. cond (key_eq q.key r.key) r q) rules) distinct.1

distinct_filter : (p : Change → Bool) (cs : List Change) → IsDistinct (map key_named cs) → IsDistinct (map key_named (filter p cs))
distinct_filter p [] distinct = tt
distinct_filter p (c ∷ cs) distinct =
    cond_both (p c) (c ∷ filter p cs) (filter p cs) (λ ds. IsDistinct (map key_named ds))
    (λ _. (
      λ i. let (d, j, e) = in_from_map key_named (key_named c) (filter p cs) i in
          distinct.0 (subst (λ (k : Key). IsIn k (map key_named cs)) (sym e) (in_map key_named d cs (in_from_filter p d cs j).0)),
      distinct_filter p cs distinct.1,
    ))
    (λ _. distinct_filter p cs distinct.1)

-- the rules that replace others have different keys
pub table_of : (p : Change → Bool) (cs : List Change) → IsDistinct (map key_named cs) → IsTable (map rule_of (filter p cs))
table_of p cs distinct = subst IsDistinct (both (filter p cs)) (distinct_filter p cs distinct)
  where
    both : (ds : List Change) → map key_named ds ≡ keys_of (map rule_of ds)
    both [] = refl
    both (d ∷ ds) = ap (λ (ks : List Key). key_named d ∷ ks) (both ds)

-- the key of an insert stays absent while rules are taken out and replaced
absent_still : (rs gone rules : List Rule) (c : Change) → is_insert c ≡ true → AppliesTo rules c → AppliesTo (replaced_in_turn rs (rules_without gone rules)) c
absent_still rs gone rules (Insert s r) inserted applies = λ i.
    let (x, j, e) = in_from_map (λ (y : Rule). y.key) r.key (rules_without gone rules) (subst (λ (ks : List Key). IsIn r.key ks) (keys_in_turn rs (rules_without gone rules)) i) in
    applies (subst (λ (k : Key). IsIn k (keys_of rules)) (sym e) (in_map (λ (y : Rule). y.key) x rules (in_from_filter (λ q. not (has q.key gone)) x rules j).0))
absent_still rs gone rules (Delete s r) inserted applies = absurd (both_ways false refl inserted)
absent_still rs gone rules (Replace s r) inserted applies = absurd (both_ways false refl inserted)

-- and the inserts are good then
pub good_inserts : (rules : List Rule) (cs : List Change) → AreGood rules cs → AreGood (replaced_in_turn (replacing_rules cs) (rules_without (deleted_rules cs) rules)) (inserts cs)
good_inserts rules cs good = record {
  applies = each_from_in (AppliesTo (replaced_in_turn (replacing_rules cs) (rules_without (deleted_rules cs) rules))) (inserts cs) (λ c i.
      let (at, passes) = in_from_filter is_insert c cs i in
      absent_still (replacing_rules cs) (deleted_rules cs) rules c passes (each_at (AppliesTo rules) cs c good.applies at));
  distinct = distinct_filter is_insert cs good.distinct;
}

-- the rules after both passes
pub passes_made : (cs : List Change) (old gone left rs new : List Rule) → gone ≡ deleted_rules cs → left ≡ rules_without gone old → rs ≡ replacing_rules cs → new ≡ replaced_in_turn rs left
    → new ≡ replaced_in_turn (replacing_rules cs) (rules_without (deleted_rules cs) old)
passes_made cs old gone left rs new is_gone is_left is_rs is_new =
    is_new ∙ ap (λ (xs : List Rule). replaced_in_turn xs left) is_rs ∙ ap (replaced_in_turn (replacing_rules cs)) (is_left ∙ ap (λ (xs : List Rule). rules_without xs old) is_gone)

-- no more rules stay
pub without_few : (gone rules : List Rule) → length (rules_without gone rules) ≤ length rules
without_few gone rules = filter_few (λ q. not (has q.key gone)) rules

-- and as many are there when some are replaced
pub length-in_turn : (rs rules : List Rule) → length (replaced_in_turn rs rules) ≡ length rules
length-in_turn [] rules = refl
length-in_turn (r ∷ rs) rules = length-in_turn rs (map (λ q. cond (key_eq q.key r.key) r q) rules) ∙ length-map rules (λ q. cond (key_eq q.key r.key) r q)

-- the inserts insert no more than all changes
pub inserts_few : (cs : List Change) → insert_count (inserts cs) ≤ insert_count cs
inserts_few cs = filter_few is_insert (inserts cs)

-- good changes of a table after their first are good after it
pub good_next : (rules : List Rule) (c : Change) (cs : List Change) → AreGood rules (c ∷ cs) → AreGood (rules_after_change c rules) cs
good_next rules c cs good = record {
  applies = each_from_in (AppliesTo (rules_after_change c rules)) cs (λ d i. applies_kept rules c d good.applies.0 (each_at (AppliesTo rules) cs d good.applies.1 i)
      (λ same. good.distinct.0 (subst (λ (k : Key). IsIn k (map key_named cs)) same (in_map key_named d cs i))));
  distinct = good.distinct.1;
}
