-- What kind of round each round of a two-phase plan is.
use Rattle.std.proofs.Common.{◌≡◌, ℕ, zero, suc, ◌+◌, ◌-◌, ◌*◌, ◌<◌, ◌≤◌, List, [], ◌∷◌, ◌++◌, map, length}
use Rattle.std.proofs.Common.{refl, sym, ◌∙◌, subst, ap, inl, inr, arith, append_assoc}
use Rattle.std.specs.Prelude.{◌==◌, filter, not}
use Rattle.std.proofs.lemmas.Bool.{cases_lt, eq-eqb}
use Rattle.std.proofs.lemmas.List.{length-map}
use Rattle.net_base.specs.Members.{IsIn}
use Rattle.net_base.proofs.MemberLaws.{in_from_map, in_filter, in_from_filter}
use Rattle.net_base.specs.declared.ids.SwitchId.{SwitchId}
use Rattle.topology.specs.Networks.{Network, IsNetwork, switch_count}
use Rattle.flow_rules.specs.Tables.{rules_at, IsTable}
use Rattle.flow_rules.specs.declared.rules.Rule.{Rule}
use Rattle.path_walk.specs.UserConfigs.{IsUserConfig}
use Rattle.update_model.specs.Changes.{round_after}
use Rattle.update_model.specs.Mixtures.{is_insert}
use Rattle.update_model.specs.Remaining.{remaining_changes}
use Rattle.update_model.specs.declared.Change.{Change}
use Rattle.update_model.specs.declared.Change.TheVariants.{Insert, Delete}
use Rattle.update_model.proofs.MadeLaws.{distinct_some}
use Rattle.update_model.proofs.MatchLaws.{some_filter}
use Rattle.two_phase.specs.TwoPhasePlan.{tagged_rules, ingress_rules, by_switch, of_mark, layered_rounds}
use Rattle.two_phase.proofs.TagLaws.{IsTagging}
use Rattle.two_phase.proofs.DistinctLaws.{tagged_distinct, ingress_distinct, by_switch_sweeps}
use Rattle.two_phase.proofs.LayerLaws.{IsLayering}

-- a round among the first ones
round_in : (xs ys : List (List Change)) (k : ℕ) → k < length xs → IsIn (round_after k (xs ++ ys)) xs
round_in [] ys k less = absurd (omega arith)
round_in (x ∷ xs) ys zero less = inl refl
round_in (x ∷ xs) ys (suc k) less = inr (round_in xs ys k (omega arith))

-- a round behind the first ones
round_behind : (xs ys : List (List Change)) (k i : ℕ) → k ≡ length xs + i → round_after k (xs ++ ys) ≡ round_after i ys
round_behind [] ys k i e = ap (λ n. round_after n ys) (let f : k ≡ i = omega arith in f)
round_behind (x ∷ xs) ys zero i e = absurd (omega arith)
round_behind (x ∷ xs) ys (suc k) i e = round_behind xs ys k i (omega arith)

-- each number has its round
round_of : (f : ℕ → List Change) (ns : List ℕ) (ys : List (List Change)) (m : ℕ) → IsIn m ns
    → (i : ℕ) × (i < length ns) × (round_after i (map f ns ++ ys) ≡ f m)
round_of f [] ys m i = absurd i
round_of f (n ∷ ns) ys m (inl e) = (0, (omega arith), ap f (sym e))
round_of f (n ∷ ns) ys m (inr i) = let (j, less, is) = round_of f ns ys m i in (suc j, (omega arith), is)

module _ (net : Network) (net_is : IsNetwork net) (tags : IsTagging net) (old new : List (List Rule)) (new_user : IsUserConfig net new)
    (mark : SwitchId → Rule → ℕ) (before : ℕ → ℕ → Type 0) (layers : ℕ) (laid taken : List ℕ)
    (layering : IsLayering net new mark before layers laid taken) where
  abbrev pub tagged : SwitchId → List Rule
  tagged s = tagged_rules net s (rules_at new s)

  abbrev pub ingress : SwitchId → List Rule
  ingress s = ingress_rules net s (rules_at new s)

  abbrev pub plan_rounds : List (List Change)
  plan_rounds = layered_rounds net old new mark laid taken

  -- a change of such a kind with a rule of these
  abbrev IsChangeOf : (SwitchId → Rule → Change) → (SwitchId → List Rule) → Change → Type 0
  IsChangeOf change rules c = (s : SwitchId) × (r : Rule) × (c ≡ change s r) × IsIn r (rules s)

  -- what a round from the second to the one before the last may be, counted from 0: it lays ingress rules, is of the exchange, or takes ingress rules away
  pub data IsKind (k : ℕ) (round : List Change) : Type 0 where
    Lays : k ≤ layers → ((c : Change) → IsIn c round → IsChangeOf Insert ingress c) → IsKind k round
    Exchanges : k ≤ layers + 2 → ((c : Change) → IsIn c round → IsIn c (remaining_changes old new)) → IsKind k round
    Takes : layers + 3 ≤ k → ((c : Change) → IsIn c round → IsChangeOf Delete ingress c) → IsKind k round

  abbrev lay_tags : List Change
  lay_tags = by_switch net Insert tagged

  abbrev take_tags : List Change
  take_tags = by_switch net Delete tagged

  abbrev lay : ℕ → List Change
  lay p = by_switch net Insert (of_mark net new mark p)

  abbrev take_away : ℕ → List Change
  take_away p = by_switch net Delete (of_mark net new mark p)

  abbrev first_exchange : List Change
  first_exchange = filter (λ c. not (is_insert c)) (remaining_changes old new)

  abbrev second_exchange : List Change
  second_exchange = filter is_insert (remaining_changes old new)

  abbrev behind_laying : List (List Change)
  behind_laying = first_exchange ∷ second_exchange ∷ (map take_away taken ++ take_tags ∷ [])

  regrouped : (a b c d e : List (List Change)) → a ++ b ++ c ++ d ++ e ≡ a ++ (b ++ (c ++ (d ++ e)))
  regrouped a b c d e = simp append_assoc

  rounds_are : plan_rounds ≡ lay_tags ∷ (map lay laid ++ behind_laying)
  rounds_are = regrouped (lay_tags ∷ []) (map lay laid) (first_exchange ∷ second_exchange ∷ []) (map take_away taken) (take_tags ∷ [])

  count_laid : length (map lay laid) ≡ layers
  count_laid = length-map laid lay ∙ layering.laid_count

  count_taken : length (map take_away taken) ≡ layers
  count_taken = length-map taken take_away ∙ layering.taken_count

  tagged_table : (s : SwitchId) → IsTable (tagged s)
  tagged_table s = tagged_distinct net net_is tags s (rules_at new s) (new_user.distinct s) (new_user.clear s) (new_user.rules s)

  mark_table : (p : ℕ) (s : SwitchId) → IsTable (of_mark net new mark p s)
  mark_table p s =
      distinct_some (λ r. r.key) (of_mark net new mark p s) (ingress s) (some_filter (λ r. mark s r == p) (ingress s))
      (ingress_distinct net net_is tags s (rules_at new s) (new_user.distinct s) (new_user.clear s) (new_user.rules s))

  of_ingress : (p : ℕ) (s : SwitchId) (r : Rule) → IsIn r (of_mark net new mark p s) → IsIn r (ingress s)
  of_ingress p s r i = (in_from_filter (λ q. mark s q == p) r (ingress s) i).0

  laid_is : (round : List Change) → IsIn round (map lay laid) → (c : Change) → IsIn c round → IsChangeOf Insert ingress c
  laid_is round i c j =
      let (p, _, e) = in_from_map lay round laid i in
      let (s, r, f, _, k) = (by_switch_sweeps net Insert (λ s r. refl) (λ s r. refl) (of_mark net new mark p) (mark_table p)).each c (subst (IsIn c) e j) in
      (s, r, f, of_ingress p s r k)

  taken_is : (round : List Change) → IsIn round (map take_away taken) → (c : Change) → IsIn c round → IsChangeOf Delete ingress c
  taken_is round i c j =
      let (p, _, e) = in_from_map take_away round taken i in
      let (s, r, f, _, k) = (by_switch_sweeps net Delete (λ s r. refl) (λ s r. refl) (of_mark net new mark p) (mark_table p)).each c (subst (IsIn c) e j) in
      (s, r, f, of_ingress p s r k)

  kind_behind : (k i : ℕ) → k ≡ suc layers + i → i < suc (suc layers) → IsKind k (round_after i behind_laying)
  kind_behind k zero e less = Exchanges (omega arith) (λ c j. (in_from_filter (λ x. not (is_insert x)) c (remaining_changes old new) j).0)
  kind_behind k (suc zero) e less = Exchanges (omega arith) (λ c j. (in_from_filter is_insert c (remaining_changes old new) j).0)
  kind_behind k (suc (suc i)) e less =
      let a = count_taken in
      Takes (omega arith) (taken_is (round_after i (map take_away taken ++ take_tags ∷ [])) (round_in (map take_away taken) (take_tags ∷ []) i (omega arith)))

  kind_in_turn : (j : ℕ) → j < 2 * layers + 2 → IsKind (suc j) (round_after j (map lay laid ++ behind_laying))
  kind_in_turn j less =
      let a = count_laid in
      elim (cases_lt j layers) [
        | inl sooner ↦ Lays (omega arith) (laid_is (round_after j (map lay laid ++ behind_laying)) (round_in (map lay laid) behind_laying j (omega arith)))
        | inr later ↦ subst (IsKind (suc j)) (sym (round_behind (map lay laid) behind_laying j (j - layers) (omega arith)))
            (kind_behind (suc j) (j - layers) (omega arith) (omega arith))
      ]

  -- the rounds between the first and the last
  pub kind_of : (k : ℕ) → 1 ≤ k → k ≤ 2 * layers + 2 → IsKind k (round_after k plan_rounds)
  kind_of zero some within = absurd (omega arith)
  kind_of (suc j) some within = subst (λ rounds. IsKind (suc j) (round_after (suc j) rounds)) (sym rounds_are) (kind_in_turn j (omega arith))

  -- the first round lays all tagged rules
  pub lays_tagged : (s : SwitchId) (r : Rule) → s.0 < switch_count net → IsIn r (tagged s) → IsIn (Insert s r) (round_after 0 plan_rounds)
  lays_tagged s r within i =
      subst (λ rounds. IsIn (Insert s r) (round_after 0 rounds)) (sym rounds_are)
      ((by_switch_sweeps net Insert (λ s r. refl) (λ s r. refl) tagged tagged_table).every s r within i)

  -- each ingress rule is laid in one of the next rounds
  pub lays_ingress : (s : SwitchId) (r : Rule) → s.0 < switch_count net → IsIn r (ingress s)
      → (k : ℕ) × (1 ≤ k) × (k ≤ layers) × IsIn (Insert s r) (round_after k plan_rounds)
  lays_ingress s r within i =
      let (j, less, is) = round_of lay laid behind_laying (mark s r) (layering.in_laid s within r i) in
      let a = layering.laid_count in
      let here : IsIn (Insert s r) (lay (mark s r)) =
      (by_switch_sweeps net Insert (λ s r. refl) (λ s r. refl) (of_mark net new mark (mark s r)) (mark_table (mark s r))).every s r within
      (in_filter (λ q. mark s q == mark s r) r (ingress s) i (eq-eqb (mark s r) (mark s r) refl)) in
      let in_turn = subst (IsIn (Insert s r)) (sym is) here in
      (suc j, (omega arith), (omega arith), subst (λ rounds. IsIn (Insert s r) (round_after (suc j) rounds)) (sym rounds_are) in_turn)

  -- the last round takes tagged rules away
  pub last_takes : (c : Change) → IsIn c (round_after (2 * layers + 3) plan_rounds) → IsChangeOf Delete tagged c
  last_takes c i =
      let a = count_laid in
      let b = count_taken in
      let last : round_after (2 * layers + 3) plan_rounds ≡ take_tags =
      ap (round_after (2 * layers + 3)) rounds_are
      ∙ round_behind (lay_tags ∷ map lay laid) behind_laying (2 * layers + 3) (layers + 2) (omega arith)
      ∙ round_behind (first_exchange ∷ second_exchange ∷ map take_away taken) (take_tags ∷ []) (layers + 2) 0 (omega arith) in
      let (s, r, e, _, j) = (by_switch_sweeps net Delete (λ s r. refl) (λ s r. refl) tagged tagged_table).each c (subst (IsIn c) last i) in
      (s, r, e, j)
