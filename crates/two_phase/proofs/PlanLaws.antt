-- The rounds of the two-phase plan, one after another.
use Rattle.std.proofs.Common.{◌≡◌, ◌⊎◌, ℕ, zero, suc, ◌+◌, ◌<◌, ◌≤◌, Bool, true, false, List, [], ◌∷◌, ◌++◌, map, length, refl, sym, subst, inl, inr, arith, append_assoc}
use Rattle.std.specs.Prelude.{◌==◌, filter, not}
use Rattle.std.proofs.lemmas.Bool.{both_ways, cases_lt}
use Rattle.net_base.specs.Members.{IsIn, IsSameSet}
use Rattle.net_base.specs.declared.ids.SwitchId.{SwitchId}
use Rattle.topology.specs.Networks.{Network, IsNetwork, switch_count, capacity_of}
use Rattle.flow_rules.specs.Tables.{rules_at, IsTable}
use Rattle.flow_rules.specs.declared.rules.Rule.{Rule}
use Rattle.path_walk.specs.UserConfigs.{IsUserConfig}
use Rattle.update_model.specs.Changes.{tables_after, round_after, settled_tables}
use Rattle.update_model.specs.Remaining.{remaining_changes}
use Rattle.update_model.specs.declared.Change.{Change}
use Rattle.update_model.specs.declared.Change.TheVariants.{Insert, Delete}
use Rattle.update_model.proofs.MadeLaws.{distinct_some}
use Rattle.update_model.specs.Mixtures.{is_insert}
use Rattle.two_phase.specs.TwoPhasePlan.{tagged_rules, ingress_rules, by_switch, two_phase_need, of_mark, layered_rounds}
use Rattle.two_phase.proofs.TagLaws.{IsTagging}
use Rattle.update_model.proofs.MatchLaws.{some_filter}
use Rattle.two_phase.proofs.DistinctLaws.{tagged_distinct, ingress_distinct, by_switch_sweeps}
use Rattle.two_phase.proofs.StageLaws.{in_get_or, Holds, version_tables, IsSound, IsUpward}
use Rattle.two_phase.proofs.LayLaws.{lay_tags, take_tags, lay_mark, take_mark}
use Rattle.two_phase.proofs.ExchangeLaws.{exchange_first, exchange_second}
use Rattle.two_phase.proofs.LayerLaws.{IsChained, IsLayering}

module _ (net : Network) (net_is : IsNetwork net) (tags : IsTagging net) (old new : List (List Rule)) (old_user : IsUserConfig net old) (new_user : IsUserConfig net new)
    (mark : SwitchId → Rule → ℕ) (before : ℕ → ℕ → Type 0) (layers : ℕ) (laid taken : List ℕ) (layering : IsLayering net new mark before layers laid taken)
    (room : (s : SwitchId) → s.0 < switch_count net → two_phase_need net old new s ≤ capacity_of net s) where
  abbrev HoldsThis : Bool → Bool → List ℕ → List (List Rule) → Type 0
  HoldsThis version laid present tables =
      Holds net net_is tags old new old_user new_user mark layers (λ s. rules_at (version_tables net net_is tags old new old_user new_user mark layers version) s) laid present tables

  abbrev Sound : ℕ → List (List Rule) → List Change → Type 0
  Sound k tables round = IsSound net net_is tags old new old_user new_user mark layers k tables round

  -- the tables are the new ones, as sets
  abbrev Ends : List (List Rule) → Type 0
  Ends tables = (s : SwitchId) → IsSameSet (rules_at tables s) (rules_at new s)

  -- each round is sound, from number k on, and the tables after the last are the new ones
  abbrev AreSound : ℕ → List (List Rule) → List (List Change) → Type 0
  AreSound k tables [] = Ends tables
  AreSound k tables (round ∷ rounds) = Sound k tables round × AreSound (suc k) (tables_after round tables) rounds

  -- each ingress rule has one of these marks
  abbrev HaveAll : List ℕ → Type 0
  HaveAll list = (s : SwitchId) → s.0 < switch_count net → (r : Rule) → IsIn r (ingress_rules net s (rules_at new s)) → IsIn (mark s r) list

  -- each ingress rule has a mark of the first list, or this one, or one of the second list
  abbrev HaveOneOf : List ℕ → ℕ → List ℕ → Type 0
  HaveOneOf sure p rest =
      (s : SwitchId) → s.0 < switch_count net → (r : Rule) → IsIn r (ingress_rules net s (rules_at new s)) → IsIn (mark s r) sure ⊎ ((mark s r ≡ p) ⊎ IsIn (mark s r) rest)

  abbrev lay : ℕ → List Change
  lay k = by_switch net Insert (of_mark net new mark k)

  abbrev take_away : ℕ → List Change
  take_away k = by_switch net Delete (of_mark net new mark k)

  mark_table : (p : ℕ) (s : SwitchId) → IsTable (of_mark net new mark p s)
  mark_table p s =
      distinct_some (λ r. r.key) (of_mark net new mark p s) (ingress_rules net s (rules_at new s)) (some_filter (λ r. mark s r == p) (ingress_rules net s (rules_at new s)))
      (ingress_distinct net net_is tags s (rules_at new s) (new_user.distinct s) (new_user.clear s) (new_user.rules s))

  tag_table : (s : SwitchId) → IsTable (tagged_rules net s (rules_at new s))
  tag_table s = tagged_distinct net net_is tags s (rules_at new s) (new_user.distinct s) (new_user.clear s) (new_user.rules s)

  fresh : (p : ℕ) (sure : List ℕ) → ((m : ℕ) → IsIn m sure → before m p) → ¬ IsIn p sure
  fresh p sure above i = let h = above p i in layering.apart p p h h

  -- what is above a rule with one of these marks has an earlier one
  upward : (p : ℕ) (sure rest : List ℕ) → ((m : ℕ) → IsIn m sure → before m p) → ((m : ℕ) → IsIn m rest → before p m) → ((m n : ℕ) → IsIn m sure → IsIn n rest → before m n)
      → HaveOneOf sure p rest → IsUpward net net_is tags old new old_user new_user mark layers sure (p ∷ sure)
  upward p sure rest above below across all s inside x q gx gq h cx cq i less =
      let first : before (mark s x) (mark s q) = layering.up s inside x q gx gq h cx cq less in
      elim (all s inside x gx) [
        | inl j ↦ j
        | inr b ↦ elim b [
          | inl e ↦ elim i [
            | inl f ↦ (let same : before p p = subst (before p) f (subst (λ n. before n (mark s q)) e first) in absurd (layering.apart p p same same))
            | inr m ↦ absurd (layering.apart (mark s q) p (above (mark s q) m) (subst (λ n. before n (mark s q)) e first))
          ]
          | inr j ↦ elim i [
            | inl f ↦ absurd (layering.apart p (mark s x) (below (mark s x) j) (subst (before (mark s x)) f first))
            | inr m ↦ absurd (layering.apart (mark s q) (mark s x) (across (mark s q) (mark s x) m j) first)
          ]
        ]
      ]

  lay_layers : (todo sure : List ℕ) (k : ℕ) (tables : List (List Rule)) (rest : List (List Change)) → IsChained before todo → ((m n : ℕ) → IsIn m sure → IsIn n todo → before m n)
      → ((s : SwitchId) → s.0 < switch_count net → (r : Rule) → IsIn r (ingress_rules net s (rules_at new s)) → IsIn (mark s r) sure ⊎ IsIn (mark s r) todo)
      → k + length todo ≡ suc layers → HoldsThis false true sure tables
      → ((now : List ℕ) (after : List (List Rule)) → HaveAll now → HoldsThis false true now after → AreSound (suc layers) after rest)
      → AreSound k tables (map lay todo ++ rest)
  lay_layers [] sure k tables rest chain above all number holds then =
      let e : suc layers ≡ k = omega arith in
      subst (λ n. AreSound n tables rest) e (then sure tables (λ s inside r i. elim (all s inside r i) [ inl j ↦ j | inr j ↦ absurd j ]) holds)
  lay_layers (p ∷ todo) sure k tables rest chain above all number holds then =
      let over : (m : ℕ) → IsIn m sure → before m p = λ m i. above m p i (inl refl) in
      let (sound, more) = lay_mark net net_is tags old new old_user new_user mark layers room k false (omega arith) tables (lay p) p sure (fresh p sure over)
      (upward p sure todo over chain.0 (λ m n i j. above m n i (inr j)) all) holds
      (by_switch_sweeps net Insert (λ s r. refl) (λ s r. refl) (of_mark net new mark p) (mark_table p)) in (
        sound,
        lay_layers todo (p ∷ sure) (suc k) (tables_after (lay p) tables) rest chain.1
            (λ m n i j. elim i [ inl e ↦ subst (λ x. before x n) (sym e) (chain.0 n j) | inr l ↦ above m n l (inr j) ])
            (λ s inside r i. elim (all s inside r i) [ inl j ↦ inl (inr j) | inr j ↦ elim j [ inl e ↦ inl (inl e) | inr l ↦ inr l ] ]) (omega arith) more then,
      )

  take_layers : (todo gone : List ℕ) (k : ℕ) (tables : List (List Rule)) (rest : List (List Change)) → IsChained (λ a b. before b a) todo
      → ((m n : ℕ) → IsIn m todo → IsIn n gone → before m n)
      → ((s : SwitchId) → s.0 < switch_count net → (r : Rule) → IsIn r (ingress_rules net s (rules_at new s)) → IsIn (mark s r) todo ⊎ IsIn (mark s r) gone)
      → suc layers ≤ k → HoldsThis true true todo tables
      → ((n : ℕ) (after : List (List Rule)) → suc layers ≤ n → HoldsThis true true [] after → AreSound n after rest)
      → AreSound k tables (map take_away todo ++ rest)
  take_layers [] gone k tables rest chain below all late holds then = then k tables late holds
  take_layers (p ∷ todo) gone k tables rest chain below all late holds then =
      let (sound, more) = take_mark net net_is tags old new old_user new_user mark layers room k true late tables (take_away p) p todo (fresh p todo chain.0)
      (upward p todo gone chain.0 (λ m i. below p m (inl refl) i) (λ m n i j. below m n (inr i) j)
      (λ s inside r i. elim (all s inside r i) [ inl j ↦ elim j [ inl e ↦ inr (inl e) | inr l ↦ inl l ] | inr j ↦ inr (inr j) ])) holds
      (by_switch_sweeps net Delete (λ s r. refl) (λ s r. refl) (of_mark net new mark p) (mark_table p)) in (
        sound,
        take_layers todo (p ∷ gone) (suc k) (tables_after (take_away p) tables) rest chain.1
            (λ m n i j. elim j [ inl e ↦ subst (before m) (sym e) (chain.0 m i) | inr l ↦ below m n (inr i) l ])
            (λ s inside r i. elim (all s inside r i) [ inl j ↦ elim j [ inl e ↦ inr (inl e) | inr l ↦ inl l ] | inr j ↦ inr (inr j) ]) (omega arith) more then,
      )

  -- the marks that are present, as another list of all marks
  renamed : (raw : SwitchId → List Rule) (a b : List ℕ) (tables : List (List Rule)) → HaveAll a → HaveAll b
      → Holds net net_is tags old new old_user new_user mark layers raw true a tables → Holds net net_is tags old new old_user new_user mark layers raw true b tables
  renamed raw a b tables all_a all_b holds = record {
    count = holds.count;
    table = holds.table;
    from = λ s inside r i. elim (holds.from s inside r i) [ inl h ↦ inl h | inr c ↦ elim c [ inl t ↦ inr (inl t) | inr g ↦ inr (inr (all_b s inside r g.1, g.1)) ] ];
    to = λ s inside r c. holds.to s inside r (elim c [ inl h ↦ inl h | inr d ↦ elim d [ inl t ↦ inr (inl t) | inr g ↦ inr (inr (all_a s inside r g.1, g.1)) ] ]);
  }

  ends : (tables : List (List Rule)) → HoldsThis true false [] tables → Ends tables
  ends tables holds s r =
      elim (cases_lt s.0 (switch_count net)) [
        | inl inside ↦ (
          (λ i. elim (holds.from s inside r i) [ inl h ↦ h | inr b ↦ elim b [ inl t ↦ absurd (both_ways false refl t.0) | inr g ↦ absurd g.0 ] ]),
          (λ i. holds.to s inside r (inl i)),
        )
        | inr outside ↦ (
          (λ i. let h = in_get_or tables s.0 r i in let c = holds.count in absurd (omega arith)),
          (λ i. let h = in_get_or new s.0 r i in let c = new_user.count in absurd (omega arith)),
        )
      ]

  first_holds : HoldsThis false false [] old
  first_holds = record {
    count = old_user.count;
    table = old_user.distinct;
    from = λ s inside r i. inl i;
    to = λ s inside r c. elim c [ inl h ↦ h | inr b ↦ elim b [ inl t ↦ absurd (both_ways false refl t.0) | inr g ↦ absurd g.0 ] ];
  }

  abbrev lay_all_tags : List Change
  lay_all_tags = by_switch net Insert (λ s. tagged_rules net s (rules_at new s))

  abbrev take_all_tags : List Change
  take_all_tags = by_switch net Delete (λ s. tagged_rules net s (rules_at new s))

  abbrev first_exchange : List Change
  first_exchange = filter (λ c. not (is_insert c)) (remaining_changes old new)

  abbrev second_exchange : List Change
  second_exchange = filter is_insert (remaining_changes old new)

  abbrev in_turn : List (List Change)
  in_turn = lay_all_tags ∷ (map lay laid ++ (first_exchange ∷ second_exchange ∷ (map take_away taken ++ take_all_tags ∷ [])))

  regrouped : (a b c d e : List (List Change)) → a ++ b ++ c ++ d ++ e ≡ a ++ (b ++ (c ++ (d ++ e)))
  regrouped a b c d e = simp append_assoc

  rounds_are : layered_rounds net old new mark laid taken ≡ in_turn
  rounds_are = regrouped (lay_all_tags ∷ []) (map lay laid) (first_exchange ∷ second_exchange ∷ []) (map take_away taken) (take_all_tags ∷ [])

  sound_in_turn : AreSound 0 old in_turn
  sound_in_turn =
      let (sound, started) = lay_tags net net_is tags old new old_user new_user mark layers room 0 false (omega arith) old lay_all_tags first_holds
      (by_switch_sweeps net Insert (λ s r. refl) (λ s r. refl) (λ s. tagged_rules net s (rules_at new s)) tag_table) in (
        sound,
        lay_layers laid [] 1 (tables_after lay_all_tags old) (first_exchange ∷ second_exchange ∷ (map take_away taken ++ take_all_tags ∷ []))
            layering.laying (λ m n i j. absurd i) (λ s inside r i. inr (layering.in_laid s inside r i))
            (let e = layering.laid_count in omega arith) started (λ now after all_now holds.
            let here = renamed (λ s. rules_at old s) now taken after all_now layering.in_taken holds in
            let (sound_1, staying) = exchange_first net net_is tags old new old_user new_user mark layers room taken layering.in_taken (suc layers) (omega arith) after here in
            let (sound_2, changed) = exchange_second net net_is tags old new old_user new_user mark layers room taken layering.in_taken (suc (suc layers)) (omega arith) (tables_after first_exchange after) staying in (
              sound_1,
              (
                sound_2,
                take_layers taken [] (suc (suc (suc layers))) (tables_after second_exchange (tables_after first_exchange after)) (take_all_tags ∷ [])
                    layering.taking (λ m n i j. absurd j) (λ s inside r i. inl (layering.in_taken s inside r i)) (omega arith) changed (λ n last late left.
                    let (sound_3, clean) = take_tags net net_is tags old new old_user new_user mark layers room n true late last take_all_tags left
                    (by_switch_sweeps net Delete (λ s r. refl) (λ s r. refl) (λ s. tagged_rules net s (rules_at new s)) tag_table) in
                    (sound_3, ends (tables_after take_all_tags last) clean)),
              ),
            )),
      )

  pub plan_sound : AreSound 0 old (layered_rounds net old new mark laid taken)
  plan_sound = subst (AreSound 0 old) (sym rounds_are) sound_in_turn

  pub sound_at : (rounds : List (List Change)) (tables : List (List Rule)) (j k i : ℕ) → i ≡ j + k → AreSound j tables rounds → k < length rounds
      → Sound i (settled_tables rounds k tables) (round_after k rounds)
  sound_at [] tables j k i e sound less = absurd (omega arith)
  sound_at (r ∷ rounds) tables j zero i e sound less = let f : j ≡ i = omega arith in subst (λ n. Sound n tables r) f sound.0
  sound_at (r ∷ rounds) tables j (suc k) i e sound less = sound_at rounds (tables_after r tables) (suc j) k i (omega arith) sound.1 (omega arith)

  pub ends_at : (rounds : List (List Change)) (tables : List (List Rule)) (j : ℕ) → AreSound j tables rounds → Ends (settled_tables rounds (length rounds) tables)
  ends_at [] tables j sound = sound
  ends_at (r ∷ rounds) tables j sound = ends_at rounds (tables_after r tables) (suc j) sound.1
