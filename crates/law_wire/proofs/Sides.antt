-- The two tables of each switch between which a stage lies, and the tables as the switches' entries make them.
use Rattle.std.proofs.Common.{◌≡◌, ℕ, suc, ◌<◌, Bool, true, false, cond, not, List, [], ◌∷◌, length, map, filter, refl, sym, ◌∙◌, subst, ap, inl, inr, arith}
use Rattle.std.specs.Prelude.{◌==◌}
use Rattle.std.specs.List.{AllByRecursion}
use Rattle.std.proofs.lemmas.Bool.{both_ways, eqb-true}
use Rattle.net_base.specs.Members.{IsIn, IsDistinct, IsSameSet}
use Rattle.net_base.proofs.MemberLaws.{in_append_left, in_append_right, in_append_cases, in_filter, in_from_filter, in_map, in_from_map, each_at}
use Rattle.net_base.specs.declared.ids.SwitchId.{SwitchId}
use Rattle.flow_rules.specs.Tables.{rules_at, IsTable}
use Rattle.flow_rules.specs.declared.rules.Key.{Key}
use Rattle.flow_rules.specs.declared.rules.Rule.{Rule}
use Rattle.update_model.specs.Changes.{switch_of, AppliesTo, Applies, changes_at, rules_after, round_after}
use Rattle.update_model.specs.Mixtures.{Rollout, AreGoodRounds, tables_before}
use Rattle.update_model.specs.declared.Change.{Change}
use Rattle.update_model.proofs.ChangeLaws.{key_named, writes_key, StandsAfterAll, stands_all_from_in, in_from_stands_all}
use Rattle.update_model.proofs.MadeLaws.{made_of, made_some, at_some, distinct_some, keys_distinct, apply_there, each_some}
use Rattle.update_model.specs.Changes.{entry_named}
use Rattle.update_model.proofs.OneRoundLaws.{next_tables}
use Rattle.law_two_way_runs.specs.Inverse.{inverse_of, inverse_round}
use Rattle.law_two_way_runs.proofs.Inverses.{key_inverse, switch_inverse, unique_before}
use Rattle.round_inverses.specs.Rounds.{inverse_rounds}
use Rattle.round_inverses.proofs.InverseLaws.{inverse_at}
use Rattle.two_way_driver.specs.declared.Stage.{Stage}
use Rattle.two_way_driver.specs.declared.Stage.TheVariants.{Settled, Onward, Undone}
use Rattle.law_wire.proofs.Entries.{LeadsTo, HoldsBy, flow_of, leads_onward, leads_back}

-- the tables before a stage's round and behind it, where none runs those that there are
abbrev pub sides : Rollout → Stage → SwitchId → Bool → List Rule
sides u (Settled k) s b = rules_at (tables_before u k) s
sides u (Onward k) s b = cond b (rules_at (tables_before u (suc k)) s) (rules_at (tables_before u k) s)
sides u (Undone k) s b = cond b (rules_at (tables_before u (suc k)) s) (rules_at (tables_before u k) s)

-- the keys of the entries that the running round changes
abbrev pub named_at : Rollout → Stage → SwitchId → List Key
named_at u (Settled k) s = []
named_at u (Onward k) s = map key_named (changes_at s (round_after k u.rounds))
named_at u (Undone k) s = map key_named (changes_at s (round_after k u.rounds))

-- to which side the running round goes
abbrev pub way_of : Stage → Bool
way_of (Settled k) = true
way_of (Onward k) = true
way_of (Undone k) = false

pub switch_is : (a b : SwitchId) → a.0 ≡ b.0 → a ≡ b
switch_is a b e = ap (λ (n : ℕ). let x : SwitchId = record { 0 = n } in x) e

-- whether a change is in force, by the entries
abbrev pub flag_by : (SwitchId → Key → Bool) → Change → Bool
flag_by on c = on (switch_of c) (key_named c)

made_is : (f : Change → Bool) (round : List Change) → made_of (map not (map f round)) round ≡ filter f round
made_is f [] = refl
made_is f (c ∷ round) =
    elim (f c) as (λ b. made_of (not b ∷ map not (map f round)) (c ∷ round) ≡ cond b (c ∷ filter f round) (filter f round)) [
      | true ↦ ap (λ l. c ∷ l) (made_is f round)
      | false ↦ made_is f round
    ]

module _ (u : Rollout) (good : AreGoodRounds u) (k : ℕ) (less : k < length u.rounds) where
  abbrev round : List Change
  round = round_after k u.rounds

  pub applies_at : (s : SwitchId) → AllByRecursion (AppliesTo (rules_at (tables_before u k) s)) (changes_at s (round_after k u.rounds))
  applies_at s = apply_there (tables_before u k) s (round_after k u.rounds) (good k less).applies

  pub distinct_at : (s : SwitchId) → IsDistinct (map key_named (changes_at s (round_after k u.rounds)))
  distinct_at s = keys_distinct s (round_after k u.rounds) (good k less).distinct

  pub next_at : (s : SwitchId) → rules_at (tables_before u (suc k)) s ≡ rules_after (changes_at s (round_after k u.rounds)) (rules_at (tables_before u k) s)
  next_at s = next_tables u k less (good k less) s

  -- the message of a change leads to the table behind the round
  pub onward_leads : (s : SwitchId) (c : Change) → IsIn c (changes_at s (round_after k u.rounds)) → (x : ℕ) → LeadsTo (rules_at (tables_before u (suc k)) s) (flow_of c x)
  onward_leads s c i x = subst (λ t. LeadsTo t (flow_of c x)) (sym (next_at s)) (leads_onward (rules_at (tables_before u k) s) (changes_at s (round_after k u.rounds)) (applies_at s) (distinct_at s) c i x)

  module _ (old : AllByRecursion IsTable u.old) where
    in_inverse : (tables : List (List Rule)) (changes : List Change) (d : Change) → IsIn d (inverse_round tables changes)
        → (c : Change) × IsIn c changes × (d ≡ inverse_of (rules_at tables (switch_of c)) c)
    in_inverse tables [] d i = absurd i
    in_inverse tables (c ∷ changes) d i =
        elim (in_append_cases d (inverse_round tables changes) (inverse_of (rules_at tables (switch_of c)) c ∷ []) i) [
          | inl j ↦ (let (e, at, is) = in_inverse tables changes d j in (e, inr at, is))
          | inr j ↦ elim j [ inl e ↦ (c, inl refl, e) | inr n ↦ absurd n ]
        ]

    inverse_in : (tables : List (List Rule)) (changes : List Change) (c : Change) → IsIn c changes → IsIn (inverse_of (rules_at tables (switch_of c)) c) (inverse_round tables changes)
    inverse_in tables [] c i = absurd i
    inverse_in tables (d ∷ changes) c (inl e) =
        in_append_right (inverse_of (rules_at tables (switch_of c)) c) (inverse_round tables changes) (inverse_of (rules_at tables (switch_of d)) d ∷ [])
        (inl (ap (λ (x : Change). inverse_of (rules_at tables (switch_of x)) x) e))
    inverse_in tables (d ∷ changes) c (inr i) =
        in_append_left (inverse_of (rules_at tables (switch_of c)) c) (inverse_round tables changes) (inverse_of (rules_at tables (switch_of d)) d ∷ []) (inverse_in tables changes c i)

    pub back_is : round_after k (inverse_rounds u.old u.rounds) ≡ inverse_round (tables_before u k) (round_after k u.rounds)
    back_is = inverse_at u.old u.rounds k less

    -- the message of an inverse leads to the table before the round
    pub back_leads : (s : SwitchId) (d : Change) → IsIn d (changes_at s (round_after k (inverse_rounds u.old u.rounds))) → (x : ℕ) → LeadsTo (rules_at (tables_before u k) s) (flow_of d x)
    back_leads s d i x =
        let (j, here) = in_from_filter (λ (c : Change). (switch_of c).0 == s.0) d (round_after k (inverse_rounds u.old u.rounds)) i in
        let (c, at, is) = in_inverse (tables_before u k) (round_after k u.rounds) d (subst (IsIn d) back_is j) in
        let same : switch_of c ≡ s = switch_is (switch_of c) s (ap (λ (t : SwitchId). t.0) (sym (switch_inverse (rules_at (tables_before u k) (switch_of c)) c))
        ∙ ap (λ (e : Change). (switch_of e).0) (sym is) ∙ eqb-true (switch_of d).0 s.0 here) in
        let applies : AppliesTo (rules_at (tables_before u k) (switch_of c)) c = (each_at (Applies (tables_before u k)) (round_after k u.rounds) c (good k less).applies at).1 in
        let leads : LeadsTo (rules_at (tables_before u k) (switch_of c)) (flow_of (inverse_of (rules_at (tables_before u k) (switch_of c)) c) x) =
        leads_back (rules_at (tables_before u k) (switch_of c)) (unique_before u good old k (omega arith) (switch_of c)) c applies x in
        subst (λ t. LeadsTo (rules_at (tables_before u k) t) (flow_of d x)) same (subst (λ e. LeadsTo (rules_at (tables_before u k) (switch_of c)) (flow_of e x)) (sym is) leads)

    -- the inverses name the same entries
    pub back_names : (s : SwitchId) (key : Key) → IsIn key (map key_named (changes_at s (round_after k u.rounds)))
        → IsIn key (map key_named (changes_at s (round_after k (inverse_rounds u.old u.rounds))))
    back_names s key i =
        let (c, j, is) = in_from_map key_named key (changes_at s (round_after k u.rounds)) i in
        let (at, here) = in_from_filter (λ (d : Change). (switch_of d).0 == s.0) c (round_after k u.rounds) j in
        let before = rules_at (tables_before u k) (switch_of c) in
        let there : IsIn (inverse_of before c) (round_after k (inverse_rounds u.old u.rounds)) = subst (IsIn (inverse_of before c)) (sym back_is) (inverse_in (tables_before u k) (round_after k u.rounds) c at) in
        let same : ((switch_of (inverse_of before c)).0 == s.0) ≡ true = ap (λ (t : SwitchId). t.0 == s.0) (switch_inverse before c) ∙ here in
        subst (λ x. IsIn x (map key_named (changes_at s (round_after k (inverse_rounds u.old u.rounds))))) (key_inverse before c ∙ sym is)
        (in_map key_named (inverse_of before c) (changes_at s (round_after k (inverse_rounds u.old u.rounds)))
        (in_filter (λ (d : Change). (switch_of d).0 == s.0) (inverse_of before c) (round_after k (inverse_rounds u.old u.rounds)) there same))

  -- ---- the entries of a table are what the changes in force leave

  module _ (on : SwitchId → Key → Bool) (s : SwitchId) (rules : List Rule) where
    abbrev before : List Rule
    before = rules_at (tables_before u k) s

    abbrev all : List Change
    all = changes_at s (round_after k u.rounds)

    abbrev made : List Change
    made = changes_at s (made_of (map not (map (flag_by on) (round_after k u.rounds))) (round_after k u.rounds))

    made_in_round : (c : Change) → IsIn c made → IsIn c all × (on s (key_named c) ≡ true)
    made_in_round c i =
        let (j, here) = in_from_filter (λ (d : Change). (switch_of d).0 == s.0) c (made_of (map not (map (flag_by on) (round_after k u.rounds))) (round_after k u.rounds)) i in
        let (at, flag) = in_from_filter (flag_by on) c (round_after k u.rounds) (subst (IsIn c) (made_is (flag_by on) (round_after k u.rounds)) j) in
        let same : switch_of c ≡ s = switch_is (switch_of c) s (eqb-true (switch_of c).0 s.0 here) in
        (in_filter (λ (d : Change). (switch_of d).0 == s.0) c (round_after k u.rounds) at here, ap (λ t. on t (key_named c)) (sym same) ∙ flag)

    in_made : (c : Change) → IsIn c all → on s (key_named c) ≡ true → IsIn c made
    in_made c i flag =
        let (at, here) = in_from_filter (λ (d : Change). (switch_of d).0 == s.0) c (round_after k u.rounds) i in
        let same : switch_of c ≡ s = switch_is (switch_of c) s (eqb-true (switch_of c).0 s.0 here) in
        in_filter (λ (d : Change). (switch_of d).0 == s.0) c (made_of (map not (map (flag_by on) (round_after k u.rounds))) (round_after k u.rounds))
        (subst (IsIn c) (sym (made_is (flag_by on) (round_after k u.rounds))) (in_filter (flag_by on) c (round_after k u.rounds) at (ap (λ t. on t (key_named c)) same ∙ flag))) here

    made_applies : AllByRecursion (AppliesTo before) made
    made_applies = each_some (AppliesTo before) made all (at_some s (made_of (map not (map (flag_by on) (round_after k u.rounds))) (round_after k u.rounds)) (round_after k u.rounds) (made_some (map not (map (flag_by on) (round_after k u.rounds))) (round_after k u.rounds))) (applies_at s)

    made_distinct : IsDistinct (map key_named made)
    made_distinct = keys_distinct s (made_of (map not (map (flag_by on) (round_after k u.rounds))) (round_after k u.rounds))
        (distinct_some entry_named (made_of (map not (map (flag_by on) (round_after k u.rounds))) (round_after k u.rounds)) (round_after k u.rounds) (made_some (map not (map (flag_by on) (round_after k u.rounds))) (round_after k u.rounds)) (good k less).distinct)

    false_true : {A : Type 0} (b : Bool) → b ≡ false → b ≡ true → A
    false_true b f t = absurd (both_ways b f t)

    side_stands : (r : Rule) (b : Bool) → on s r.key ≡ b → IsIn r (cond b (rules_at (tables_before u (suc k)) s) before) → StandsAfterAll before made r
    side_stands r true flag i =
        elim (stands_all_from_in before all r (applies_at s) (distinct_at s) (subst (IsIn r) (next_at s) i)) [
          | inl h ↦ inl (h.0, λ j. let (c, at, e) = in_from_map key_named r.key made j in h.1 (subst (λ x. IsIn x (map key_named all)) (sym e) (in_map key_named c all (made_in_round c at).0)))
          | inr w ↦ inr (w.0, in_made w.0 w.1 (ap (on s) (sym (writes_key r w.0 w.2)) ∙ flag), w.2)
        ]
    side_stands r false flag i =
        inl (i, λ j. let (c, at, e) = in_from_map key_named r.key made j in false_true (on s r.key) flag (ap (on s) e ∙ (made_in_round c at).1))

    stands_side : (r : Rule) (b : Bool) → on s r.key ≡ b → StandsAfterAll before made r → IsIn r (cond b (rules_at (tables_before u (suc k)) s) before)
    stands_side r true flag (inl h) =
        subst (IsIn r) (sym (next_at s)) (in_from_stands_all before all r (applies_at s) (distinct_at s)
        (inl (h.0, λ j. let (c, at, e) = in_from_map key_named r.key all j in h.1 (subst (λ x. IsIn x (map key_named made)) (sym e) (in_map key_named c made (in_made c at (ap (on s) (sym e) ∙ flag)))))))
    stands_side r true flag (inr w) =
        subst (IsIn r) (sym (next_at s)) (in_from_stands_all before all r (applies_at s) (distinct_at s) (inr (w.0, (made_in_round w.0 w.1).0, w.2)))
    stands_side r false flag (inl h) = h.0
    stands_side r false flag (inr w) = false_true (on s r.key) flag (ap (on s) (writes_key r w.0 w.2) ∙ (made_in_round w.0 w.1).1)

    pub held_made : HoldsBy (λ b. cond b (rules_at (tables_before u (suc k)) s) (rules_at (tables_before u k) s)) (on s) rules
        → IsSameSet rules (rules_after (changes_at s (made_of (map not (map (flag_by on) (round_after k u.rounds))) (round_after k u.rounds))) (rules_at (tables_before u k) s))
    held_made holds r = (
      (λ i. in_from_stands_all before made r made_applies made_distinct (side_stands r (on s r.key) refl ((holds r).0 i))),
      (λ i. (holds r).1 (stands_side r (on s r.key) refl (stands_all_from_in before made r made_applies made_distinct i))),
    )
