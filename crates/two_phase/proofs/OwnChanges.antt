-- Where the changes of the plan come from: the two bands and both configurations.
use Rattle.std.proofs.Common.{◌≡◌, ◌⊎◌, ℕ, ◌<◌, List, [], ◌∷◌, ◌++◌, map, length, refl, sym, ◌∙◌, subst, ap, inl, inr, arith}
use Rattle.std.specs.Prelude.{◌==◌, filter, not}
use Rattle.std.specs.List.{AllByRecursion}
use Rattle.net_base.specs.Members.{IsIn}
use Rattle.net_base.proofs.MemberLaws.{in_from_map, in_from_filter, each_from_in, each_append, each_map, each_filter}
use Rattle.net_base.proofs.ListLaws.{in_from_flat_map}
use Rattle.net_base.specs.declared.ids.SwitchId.{SwitchId}
use Rattle.topology.specs.Networks.{Network, switch_count}
use Rattle.flow_rules.specs.Tables.{rules_at}
use Rattle.flow_rules.specs.declared.rules.Rule.{Rule}
use Rattle.update_model.specs.Changes.{switch_of, rule_of}
use Rattle.update_model.specs.Mixtures.{is_insert}
use Rattle.update_model.specs.Remaining.{remaining_changes}
use Rattle.update_model.specs.declared.Change.{Change}
use Rattle.update_model.specs.declared.Change.TheVariants.{Insert, Delete, Replace}
use Rattle.update_model.proofs.DifferenceLaws.{IsDifference, remaining_is, difference_switch}
use Rattle.two_phase.specs.TwoPhasePlan.{tagged_rules, ingress_rules, in_key_order, switches, by_switch, of_mark, layered_rounds}
use Rattle.two_phase.proofs.DistinctLaws.{from_ordered}
use Rattle.two_phase.proofs.ValidCounts.{switch_within}

module _ (net : Network) (old new : List (List Rule)) where
  -- a tagged rule, an ingress rule, an old rule or a new rule of the switch
  abbrev pub IsAmong : SwitchId → Rule → Type 0
  IsAmong s r = (IsIn r (tagged_rules net s (rules_at new s)) ⊎ IsIn r (ingress_rules net s (rules_at new s))) ⊎ (IsIn r (rules_at old s) ⊎ IsIn r (rules_at new s))

  pub record IsOfPlan (c : Change) : Type 0 where
    pub at : SwitchId
    pub inside : at.0 < switch_count net
    pub switch : switch_of c ≡ at
    pub among : IsAmong at (rule_of c)

  abbrev AreOfPlan : List Change → Type 0
  AreOfPlan round = AllByRecursion IsOfPlan round

  swept : (change : SwitchId → Rule → Change) → ((s : SwitchId) (r : Rule) → switch_of (change s r) ≡ s) → ((s : SwitchId) (r : Rule) → rule_of (change s r) ≡ r)
      → (rules : SwitchId → List Rule) → ((s : SwitchId) (r : Rule) → IsIn r (rules s) → IsAmong s r) → AreOfPlan (by_switch net change rules)
  swept change same_switch same_rule rules among =
      each_from_in IsOfPlan (by_switch net change rules) (λ c i.
      let (s, j, k) = in_from_flat_map (λ s. map (change s) (in_key_order (rules s))) c (switches net) i in
      let (r, l, e) = in_from_map (change s) c (in_key_order (rules s)) k in
      record {
        at = s;
        inside = switch_within net s j;
        switch = ap switch_of e ∙ same_switch s r;
        among = subst (IsAmong s) (sym (ap rule_of e ∙ same_rule s r)) (among s r (from_ordered r (rules s) l));
      })

  tagged_among : (s : SwitchId) (r : Rule) → IsIn r (tagged_rules net s (rules_at new s)) → IsAmong s r
  tagged_among s r i = inl (inl i)

  marked_among : (mark : SwitchId → Rule → ℕ) (k : ℕ) (s : SwitchId) (r : Rule) → IsIn r (of_mark net new mark k s) → IsAmong s r
  marked_among mark k s r i = inl (inr (in_from_filter (λ (q : Rule). mark s q == k) r (ingress_rules net s (rules_at new s)) i).0)

  among_rules : (s : SwitchId) (c : Change) → IsDifference s (rules_at old s) (rules_at new s) c → IsAmong s (rule_of c)
  among_rules s (Insert t r) d = inr (inr d.1)
  among_rules s (Delete t r) d = inr (inl d.1)
  among_rules s (Replace t r) d = inr (inr d.1)

  remaining_of : length old ≡ switch_count net → AreOfPlan (remaining_changes old new)
  remaining_of count =
      each_from_in IsOfPlan (remaining_changes old new) (λ c i.
      let (s, less, d) = remaining_is old new c i in
      record { at = s; inside = omega arith; switch = difference_switch s (rules_at old s) (rules_at new s) c d; among = among_rules s c d })

  pub all_of_plan : (mark : SwitchId → Rule → ℕ) (in_order back : List ℕ) → length old ≡ switch_count net → AllByRecursion AreOfPlan (layered_rounds net old new mark in_order back)
  all_of_plan mark in_order back count =
      let lay : ℕ → List Change = λ k. by_switch net Insert (of_mark net new mark k) in
      let take_out : ℕ → List Change = λ k. by_switch net Delete (of_mark net new mark k) in
      let first = by_switch net Insert (λ s. tagged_rules net s (rules_at new s)) ∷ [] in
      let laid = map lay in_order in
      let exchange = filter (λ c. not (is_insert c)) (remaining_changes old new) ∷ filter is_insert (remaining_changes old new) ∷ [] in
      let taken = map take_out back in
      let last = by_switch net Delete (λ s. tagged_rules net s (rules_at new s)) ∷ [] in
      let a : AllByRecursion AreOfPlan first = (swept Insert (λ s r. refl) (λ s r. refl) (λ s. tagged_rules net s (rules_at new s)) tagged_among, tt) in
      let b : AllByRecursion AreOfPlan laid =
      each_map lay AreOfPlan in_order (each_from_in (λ k. AreOfPlan (lay k)) in_order (λ k _. swept Insert (λ s r. refl) (λ s r. refl) (of_mark net new mark k) (marked_among mark k)))
      in
      let rest = remaining_of count in
      let c : AllByRecursion AreOfPlan exchange = (each_filter IsOfPlan (λ c. not (is_insert c)) (remaining_changes old new) rest, (each_filter IsOfPlan is_insert (remaining_changes old new) rest, tt)) in
      let d : AllByRecursion AreOfPlan taken =
      each_map take_out AreOfPlan back (each_from_in (λ k. AreOfPlan (take_out k)) back (λ k _. swept Delete (λ s r. refl) (λ s r. refl) (of_mark net new mark k) (marked_among mark k)))
      in
      let e : AllByRecursion AreOfPlan last = (swept Delete (λ s r. refl) (λ s r. refl) (λ s. tagged_rules net s (rules_at new s)) tagged_among, tt) in
      each_append AreOfPlan (first ++ laid ++ exchange ++ taken) last
      (each_append AreOfPlan (first ++ laid ++ exchange) taken (each_append AreOfPlan (first ++ laid) exchange (each_append AreOfPlan first laid a b) c) d) e
