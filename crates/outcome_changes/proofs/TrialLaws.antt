-- An outcome that a place may have is the outcome after one of the trials.
use Rattle.std.proofs.Common.{◌≡◌, ◌⊎◌, ℕ, ◌≤◌, Bool, true, false, cond, not, List, [], ◌∷◌, map, refl, sym, ◌∙◌, subst, ap, arith, inl, inr}
use Rattle.std.specs.Prelude.{◌&&◌, Option, Some, None, filter}
use Rattle.std.specs.Option.{option_map_or}
use Rattle.std.specs.List.{AllByRecursion}
use Rattle.std.proofs.lemmas.Bool.{and_parts, and_from, cond-true, cond-false, both_ways, false≢true, cases_Bool, ltb-false}
use Rattle.net_base.specs.Members.{IsIn, IsDistinct}
use Rattle.net_base.specs.declared.ids.Place.{Place}
use Rattle.net_base.proofs.MemberLaws.{in_map, in_from_map, in_filter, in_from_filter}
use Rattle.net_base.proofs.ListLaws.{told_from_distinct}
use Rattle.topology.specs.Networks.{Network}
use Rattle.flow_rules.specs.Patterns.{Header, covers, key_eq}
use Rattle.flow_rules.specs.Tables.{matched_rule}
use Rattle.flow_rules.specs.declared.rules.Key.{Key}
use Rattle.flow_rules.specs.declared.rules.Rule.{Rule}
use Rattle.flow_rules.specs.declared.rules.Action.TheVariants as action
use Rattle.flow_rules.proofs.KeyLaws.{key_eq-refl, key_eq-true, cases_key}
use Rattle.flow_rules.proofs.LookupLaws.{matched_is_top, matched_none}
use Rattle.path_walk.specs.Outcomes.{header_at, action_outcome, outcome}
use Rattle.path_walk.specs.declared.Outcome.{Outcome}
use Rattle.update_model.specs.Changes.{AppliesTo, rules_after}
use Rattle.update_model.specs.Mixtures.{IsMixture, MayBe, is_delete}
use Rattle.update_model.proofs.Matches.{IsDelete, Writes, IsKept, MayMatch, MayMiss}
use Rattle.update_model.specs.declared.Change.{Change}
use Rattle.update_model.specs.declared.Change.TheVariants.{Insert, Delete, Replace}
use Rattle.update_model.proofs.ChangeLaws.{key_named, writes_key, stands_all_from_in, in_from_stands_all}
use Rattle.update_model.proofs.MadeLaws.{distinct_some, each_some}
use Rattle.update_model.proofs.MatchLaws.{some_filter, may_match, may_miss}
use Rattle.round_mix.specs.Prepared.{AreGood, AreClear}
use Rattle.outcome_changes.specs.Trials.{covers_packet, is_turned, is_above, is_tried}

is_deletes : (c : Change) → IsDelete c → is_delete c ≡ true
is_deletes (Insert s r) d = absurd d
is_deletes (Delete s r) d = refl
is_deletes (Replace s r) d = absurd d

writes_no_delete : (r : Rule) (c : Change) → Writes r c → is_delete c ≡ false
writes_no_delete r (Insert s q) w = refl
writes_no_delete r (Delete s q) w = absurd w
writes_no_delete r (Replace s q) w = refl

-- a key is named or not
cases_named : (k : Key) (cs : List Change) → IsIn k (map key_named cs) ⊎ (¬ IsIn k (map key_named cs))
cases_named k [] = inr (λ i. i)
cases_named k (c ∷ cs) =
    elim (cases_key k (key_named c)) [
      | inl e ↦ inl (inl e)
      | inr ne ↦ elim (cases_named k cs) [ inl i ↦ inl (inr i) | inr none ↦ inr (λ i. elim i [ inl e ↦ ne e | inr j ↦ none j ]) ]
    ]

-- one of the trials: without a turned key, or with the key of a change that covers the packet
abbrev pub SomeTrial : Header → List Change → (Option Key → Type 0) → Type 0
SomeTrial h changes P = P None ⊎ ((c : Change) × IsIn c changes × (covers_packet h c ≡ true) × P (Some (key_named c)))

module _ (rules : List Rule) (changes : List Change) (good : AreGood rules changes) (clear : AreClear rules changes) (h : Header) where
  abbrev made_by : Option Key → List Change
  made_by turned = filter (is_tried h turned) changes

  abbrev mixed_by : Option Key → List Rule
  mixed_by turned = rules_after (made_by turned) rules

  is_mixture : (turned : Option Key) → IsMixture rules changes (mixed_by turned)
  is_mixture turned = record { made = made_by turned; some = some_filter (is_tried h turned) changes; same = λ r. (λ i. i, λ i. i) }

  some_apply : (turned : Option Key) → AllByRecursion (AppliesTo rules) (made_by turned)
  some_apply turned = each_some (AppliesTo rules) (made_by turned) changes (some_filter (is_tried h turned) changes) good.applies

  some_distinct : (turned : Option Key) → IsDistinct (map key_named (made_by turned))
  some_distinct turned = distinct_some key_named (made_by turned) changes (some_filter (is_tried h turned) changes) good.distinct

  -- what a trial wants of the changes that cover the packet
  abbrev wants : Option Key → Change → Bool
  wants turned c = cond (is_turned turned (key_named c)) (not (is_delete c)) (is_delete c && is_above turned (key_named c))

  -- of a key that isn't turned the deletes above it are tried
  tried_delete : (turned : Option Key) (c : Change) → covers_packet h c ≡ true → is_turned turned (key_named c) ≡ false → is_above turned (key_named c) ≡ true
      → is_delete c ≡ true → is_tried h turned c ≡ true
  tried_delete turned c covered other above d =
      and_from (covers_packet h c) (wants turned c) covered
      (cond-false (is_turned turned (key_named c)) (not (is_delete c)) (is_delete c && is_above turned (key_named c)) other ∙ and_from (is_delete c) (is_above turned (key_named c)) d above)

  delete_tried : (turned : Option Key) (c : Change) → is_turned turned (key_named c) ≡ false → is_tried h turned c ≡ true → is_delete c ≡ true
  delete_tried turned c other tried =
      (and_parts (is_delete c) (is_above turned (key_named c)) (
      sym (cond-false (is_turned turned (key_named c)) (not (is_delete c)) (is_delete c && is_above turned (key_named c)) other)
      ∙ (and_parts (covers_packet h c) (wants turned c) tried).1)).0

  -- and of the turned key the others
  tried_other : (c : Change) → covers_packet h c ≡ true → is_delete c ≡ false → is_tried h (Some (key_named c)) c ≡ true
  tried_other c covered d =
      and_from (covers_packet h c) (wants (Some (key_named c)) c) covered
      (cond-true (key_eq (key_named c) (key_named c)) (not (is_delete c)) (is_delete c && is_above (Some (key_named c)) (key_named c)) (key_eq-refl (key_named c)) ∙ ap not d)

  other_tried : (c : Change) → is_tried h (Some (key_named c)) c ≡ true → not (is_delete c) ≡ true
  other_tried c tried =
      sym (cond-true (key_eq (key_named c) (key_named c)) (not (is_delete c)) (is_delete c && is_above (Some (key_named c)) (key_named c)) (key_eq-refl (key_named c)))
      ∙ (and_parts (covers_packet h c) (wants (Some (key_named c)) c) tried).1

  -- what stands after a trial, covers the packet and is above the turned key is kept
  stands_kept : (turned : Option Key) (q : Rule) → IsIn q (mixed_by turned) → covers q.key.pattern h ≡ true → is_turned turned q.key ≡ false → is_above turned q.key ≡ true
      → IsKept rules changes q.key
  stands_kept turned q i covered other above =
      elim (stands_all_from_in rules (made_by turned) q (some_apply turned) (some_distinct turned) i) [
        | inl s ↦ record {
          stood = in_map (λ y. y.key) q rules s.0;
          not_deleted = λ c j d same.
              let tried : is_tried h turned c ≡ true =
              tried_delete turned c (subst (λ (k : Key). covers k.pattern h ≡ true) (sym same) covered) (subst (λ (k : Key). is_turned turned k ≡ false) (sym same) other)
              (subst (λ (k : Key). is_above turned k ≡ true) (sym same) above) (is_deletes c d) in
              s.1 (subst (λ z. IsIn z (map key_named (made_by turned))) same (in_map key_named c (made_by turned) (in_filter (is_tried h turned) c changes j tried)));
        }
        | inr w ↦ (
            let (j, tried) = in_from_filter (is_tried h turned) w.0 changes w.1 in
            let deleting : is_delete w.0 ≡ true = delete_tried turned w.0 (subst (λ (k : Key). is_turned turned k ≡ false) (writes_key q w.0 w.2) other) tried in
            absurd (both_ways (is_delete w.0) (writes_no_delete q w.0 w.2) deleting))
      ]

  -- no key that isn't above the turned one, if there is one, has a greater priority than the rule
  abbrev IsBound : Option Key → Rule → Type 0
  IsBound turned r = ((k : Key) → is_turned turned k ≡ true → k ≡ r.key) × ((k : Key) → is_above turned k ≡ false → k.priority ≤ r.key.priority)

  bound_none : (r : Rule) → IsBound None r
  bound_none r = (λ k t. absurd (false≢true t), λ k t. absurd (false≢true (sym t)))

  bound_some : (r : Rule) (k : Key) → r.key ≡ k → IsBound (Some k) r
  bound_some r k e = (
    λ q t. key_eq-true q k t ∙ sym e,
    λ q t. let p = ap (λ (z : Key). z.priority) e in let l = ltb-false k.priority q.priority t in omega arith,
  )

  -- a rule that may match and stands after a trial that turns no key or its key matches there
  matches_here : (turned : Option Key) (r : Rule) → MayMatch rules changes h r → IsBound turned r → IsIn r (mixed_by turned) → matched_rule h (mixed_by turned) ≡ Some r
  matches_here turned r may bound i =
      let mixed = mixed_by turned in
      matched_is_top h mixed (clear mixed (is_mixture turned)) r (in_filter (λ x. covers x.key.pattern h) r mixed i may.covering) (λ q j.
      let (m, covered) = in_from_filter (λ x. covers x.key.pattern h) q mixed j in
      elim (cases_Bool (is_turned turned q.key)) [
        | inl t ↦ (let p = ap (λ (k : Key). k.priority) (bound.0 q.key t) in omega arith)
        | inr other ↦ elim (cases_Bool (is_above turned q.key)) [
          | inl above ↦ may.not_below q.key (stands_kept turned q m covered other above) covered
          | inr low ↦ bound.1 q.key low
        ]
      ])

  -- a rule of the table whose key a change deletes stands where that key is turned
  undeleted : (r : Rule) (c : Change) → IsIn r rules → IsIn c changes → is_delete c ≡ true → r.key ≡ key_named c → IsIn r (mixed_by (Some (key_named c)))
  undeleted r c i j deleting e =
      let turned = Some (key_named c) in
      in_from_stands_all rules (made_by turned) r (some_apply turned) (some_distinct turned) (inl (
        i,
        λ named.
            let (d, m, f) = in_from_map key_named r.key (made_by turned) named in
            let (n, tried) = in_from_filter (is_tried h turned) d changes m in
            let same : d ≡ c = told_from_distinct key_named changes good.distinct d c n j (sym f ∙ e) in
            let other : not (is_delete c) ≡ true = other_tried c (subst (λ (x : Change). is_tried h (Some (key_named c)) x ≡ true) same tried) in
            both_ways (not (is_delete c)) (ap not deleting) other,
      ))

  -- one whose key no change deletes stands where no key is turned
  stays : (r : Rule) → IsIn r rules → ¬ IsIn r.key (map key_named (filter is_delete changes)) → IsIn r (mixed_by None)
  stays r i free =
      in_from_stands_all rules (made_by None) r (some_apply None) (some_distinct None) (inl (
        i,
        λ named.
            let (d, m, f) = in_from_map key_named r.key (made_by None) named in
            let (n, tried) = in_from_filter (is_tried h None) d changes m in
            free (subst (λ z. IsIn z (map key_named (filter is_delete changes))) (sym f) (in_map key_named d (filter is_delete changes) (in_filter is_delete d changes n (delete_tried None d refl tried)))),
      ))

  -- what may match does after some trial
  some_matches : (r : Rule) → MayMatch rules changes h r → SomeTrial h changes (λ turned. matched_rule h (mixed_by turned) ≡ Some r)
  some_matches r may =
      elim may.available [
        | inl i ↦ elim (cases_named r.key (filter is_delete changes)) [
          | inl named ↦ (
              let (c, m, e) = in_from_map key_named r.key (filter is_delete changes) named in
              let (j, deleting) = in_from_filter is_delete c changes m in
              inr (
                c,
                j,
                subst (λ (k : Key). covers k.pattern h ≡ true) e may.covering,
                matches_here (Some (key_named c)) r may (bound_some r (key_named c) e) (undeleted r c i j deleting e),
              ))
          | inr free ↦ inl (matches_here None r may (bound_none r) (stays r i free))
        ]
        | inr w ↦ (
            let c = w.0 in
            let e : r.key ≡ key_named c = writes_key r c w.2 in
            let covered : covers_packet h c ≡ true = subst (λ (k : Key). covers k.pattern h ≡ true) e may.covering in
            let turned = Some (key_named c) in
            inr (
              c,
              w.1,
              covered,
              matches_here turned r may (bound_some r (key_named c) e)
                  (in_from_stands_all rules (made_by turned) r (some_apply turned) (some_distinct turned)
                  (inr (c, in_filter (is_tried h turned) c changes w.1 (tried_other c covered (writes_no_delete r c w.2)), w.2))),
            ))
      ]

  -- where nothing may match, nothing does after the trial that turns no key
  misses_here : MayMiss rules changes h → matched_rule h (mixed_by None) ≡ None
  misses_here miss = matched_none h (mixed_by None) (λ q j.
      let (m, covered) = in_from_filter (λ x. covers x.key.pattern h) q (mixed_by None) j in
      miss q.key (stands_kept None q m covered refl refl) covered)

module _ (net : Network) (rules : List Rule) (changes : List Change) (good : AreGood rules changes) (clear : AreClear rules changes) (place : Place) (dst : ℕ) where
  same_outcome : (xs ys : List Rule) → matched_rule (header_at place dst) xs ≡ matched_rule (header_at place dst) ys → outcome net xs place dst ≡ outcome net ys place dst
  same_outcome xs ys e = ap (λ (o : Option Rule). action_outcome net place (option_map_or (λ r. r.action) o action.Discard)) e

  -- an outcome that the place may have is that after some trial
  pub some_gives : (wanted : Outcome) → MayBe net rules changes place dst wanted
      → SomeTrial (header_at place dst) changes (λ turned. outcome net (rules_after (filter (is_tried (header_at place dst) turned) changes) rules) place dst ≡ wanted)
  some_gives wanted may =
      let h = header_at place dst in
      elim (matched_rule h may.mixed) as (λ o. matched_rule h may.mixed ≡ o
      → SomeTrial h changes (λ turned. outcome net (rules_after (filter (is_tried h turned) changes) rules) place dst ≡ wanted)) [
        | None ↦ λ e.
            let missed = misses_here rules changes good clear h (may_miss rules changes good.applies good.distinct h may.mixed may.held e) in
            inl (same_outcome (rules_after (filter (is_tried h None) changes) rules) may.mixed (missed ∙ sym e) ∙ sym may.is)
        | Some r ↦ λ e.
            elim (some_matches rules changes good clear h r (may_match rules changes good.applies good.distinct h may.mixed may.held r e)) [
              | inl m ↦ inl (same_outcome (rules_after (filter (is_tried h None) changes) rules) may.mixed (m ∙ sym e) ∙ sym may.is)
              | inr w ↦ inr (w.0, w.1, w.2, same_outcome (rules_after (filter (is_tried h (Some (key_named w.0))) changes) rules) may.mixed (w.3 ∙ sym e) ∙ sym may.is)
            ]
      ] refl
