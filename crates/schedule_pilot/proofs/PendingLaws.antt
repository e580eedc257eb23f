-- A pending change of a good round may be made, whatever changes were made before it.
use Rattle.std.proofs.Common.{◌≡◌, ℕ, zero, suc, ◌<◌, Bool, true, List, [], ◌∷◌, map, length, refl, sym, ◌∙◌, subst, inl, inr, length-set}
use Rattle.std.specs.Prelude.{◌==◌, slice_get, Option, Some, None}
use Rattle.std.specs.Option.{option_map_or}
use Rattle.std.specs.List.{AllByRecursion}
use Rattle.std.proofs.lemmas.Bool.{eqb-true}
use Rattle.net_base.specs.Members.{IsIn, IsSameSet, IsDistinct}
use Rattle.net_base.proofs.MemberLaws.{in_map, in_from_map, in_from_filter, each_at}
use Rattle.net_base.specs.declared.ids.SwitchId.{SwitchId}
use Rattle.topology.specs.Networks.{Network}
use Rattle.flow_rules.specs.Tables.{keys_of, rules_at}
use Rattle.flow_rules.specs.declared.rules.Rule.{Rule}
use Rattle.update_model.specs.Changes.{switch_of, AppliesTo, Applies, entry_named, changes_at, rules_after, tables_after, tables_after_change, round_after, settled_tables}
use Rattle.update_model.specs.Mixtures.{Rollout, tables_before, AreGoodRounds}
use Rattle.update_model.specs.States.{State, settled_count, state_after_event}
use Rattle.update_model.specs.declared.Change.{Change}
use Rattle.update_model.specs.declared.Change.TheVariants.{Insert, Delete, Replace}
use Rattle.update_model.specs.declared.Event.{Event}
use Rattle.update_model.specs.declared.Event.TheVariants as event
use Rattle.update_model.proofs.ChangeLaws.{key_named, writes_key, stands_all_from_in, in_from_stands_all, length-tables_after}
use Rattle.update_model.proofs.MadeLaws.{made_of, made_some, made_fresh, at_some, distinct_some, keys_distinct, apply_there, same_entry, each_some}
use Rattle.net_base.proofs.ItemLaws.{in_from_get}

length_settled : (rounds : List (List Change)) (k : ℕ) (tables : List (List Rule)) → length (settled_tables rounds k tables) ≡ length tables
length_settled [] k tables = refl
length_settled (r ∷ rounds) zero tables = refl
length_settled (r ∷ rounds) (suc k) tables = length_settled rounds k (tables_after r tables) ∙ length-tables_after r tables

-- whether a change applies depends on the set of rules alone
applies_same : (a b : List Rule) → IsSameSet a b → (c : Change) → AppliesTo b c → AppliesTo a c
applies_same a b same (Insert s r) h = λ i.
    let (x, j, e) = in_from_map (λ q. q.key) r.key a i in h (subst (λ k. IsIn k (keys_of b)) (sym e) (in_map (λ q. q.key) x b ((same x).0 j)))
applies_same a b same (Delete s r) h = (same r).1 h
applies_same a b same (Replace s r) h =
    let (x, j, e) = in_from_map (λ q. q.key) r.key b h in subst (λ k. IsIn k (keys_of a)) (sym e) (in_map (λ q. q.key) x a ((same x).1 j))

-- a change still applies after others that name other keys
still_applies : (rules : List Rule) (some : List Change) → AllByRecursion (AppliesTo rules) some → IsDistinct (map key_named some) → (c : Change) → AppliesTo rules c
    → ¬ IsIn (key_named c) (map key_named some) → AppliesTo (rules_after some rules) c
still_applies rules some applies distinct (Insert s r) h fresh = λ i.
    let (x, j, e) = in_from_map (λ q. q.key) r.key (rules_after some rules) i in
    elim (stands_all_from_in rules some x applies distinct j) [
      | inl g ↦ h (subst (λ k. IsIn k (keys_of rules)) (sym e) (in_map (λ q. q.key) x rules g.0))
      | inr w ↦ fresh (subst (λ k. IsIn k (map key_named some)) (sym (e ∙ writes_key x w.0 w.2)) (in_map key_named w.0 some w.1))
    ]
still_applies rules some applies distinct (Delete s r) h fresh = in_from_stands_all rules some r applies distinct (inl (h, fresh))
still_applies rules some applies distinct (Replace s r) h fresh =
    let (x, j, e) = in_from_map (λ q. q.key) r.key rules h in
    subst (λ k. IsIn k (keys_of (rules_after some rules))) (sym e)
    (in_map (λ q. q.key) x (rules_after some rules)
    (in_from_stands_all rules some x applies distinct (inl (j, λ i. fresh (subst (λ k. IsIn k (map key_named some)) (sym e) i)))))

module _ (u : Rollout) (good : AreGoodRounds u) where
  pub pending_applies : (k i : ℕ) (tables : List (List Rule)) (flags : List Bool) (c : Change) → k < length u.rounds
      → slice_get (round_after k u.rounds) i ≡ Some c → slice_get flags i ≡ Some true
      → ((s : SwitchId) → IsSameSet (rules_at tables s) (rules_after (changes_at s (made_of flags (round_after k u.rounds))) (rules_at (tables_before u k) s)))
      → length tables ≡ length u.old → Applies tables c
  pending_applies k i tables flags c less at flag holds same =
      let round = round_after k u.rounds in
      let before = tables_before u k in
      let g = good k less in
      let first : Applies before c = each_at (Applies before) round c g.applies (in_from_get round i c at) in
      let s = switch_of c in
      let made = made_of flags round in
      let some = changes_at s made in
      let applies : AllByRecursion (AppliesTo (rules_at before s)) some =
      each_some (AppliesTo (rules_at before s)) some (changes_at s round) (at_some s made round (made_some flags round)) (apply_there before s round g.applies) in
      let distinct : IsDistinct (map key_named some) = keys_distinct s made (distinct_some entry_named made round (made_some flags round) g.distinct) in
      let fresh : ¬ IsIn (key_named c) (map key_named some) = λ j.
      let (d, m, e) = in_from_map key_named (key_named c) some j in
      let (n, h) = in_from_filter (λ x. (switch_of x).0 == s.0) d made m in
      made_fresh flags round i c at flag g.distinct
      (subst (λ x. IsIn x (map entry_named made)) (sym (same_entry c d (sym (eqb-true _ _ h)) e)) (in_map entry_named d made n)) in
      let count : length before ≡ length tables = length_settled u.rounds k u.old ∙ sym same in (
        subst (λ n. (switch_of c).0 < n) count first.0,
        applies_same (rules_at tables s) (rules_after some (rules_at before s)) (holds s) c (still_applies (rules_at before s) some applies distinct c first.1 fresh),
      )

length_this : (o : Option Change) (tables : List (List Rule)) → length (option_map_or (λ c. tables_after_change c tables) o tables) ≡ length tables
length_this None tables = refl
length_this (Some c) tables = length-set tables (switch_of c).0 _

-- an event keeps the number of tables
pub same_count : (net : Network) (rounds : List (List Change)) (st : State) (e : Event) → length (state_after_event net rounds st e).tables ≡ length st.tables
same_count net rounds st event.Start = refl
same_count net rounds st (event.Change i) = length_this (slice_get (round_after (settled_count st.phase) rounds) i) st.tables
same_count net rounds st event.Settle = refl
same_count net rounds st (event.Enter place dst) = refl
same_count net rounds st (event.Hop i) = refl
same_count net rounds st (event.Lose i) = refl
