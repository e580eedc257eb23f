-- The tables to which the logged events lead: at each switch those before the running round or behind it.
use Rattle.std.proofs.Common.{◌≡◌, ℕ, suc, ◌<◌, Bool, true, false, cond, eqb, not, List, [], ◌∷◌, length, map, get_or, refl, sym, ◌∙◌, subst, ap, inl, inr, arith}
use Rattle.std.specs.Prelude.{Some, slice_get}
use Rattle.std.specs.List.{AllByRecursion}
use Rattle.std.proofs.lemmas.Bool.{cases_Bool, cond-true, cond-false, eqb-true}
use Rattle.net_base.specs.Members.{IsSameSet}
use Rattle.net_base.specs.declared.ids.SwitchId.{SwitchId}
use Rattle.flow_rules.specs.Tables.{rules_at}
use Rattle.flow_rules.specs.declared.rules.Rule.{Rule}
use Rattle.update_model.specs.Changes.{switch_of, changes_at, rules_after, round_after}
use Rattle.update_model.specs.Mixtures.{Rollout, AreGoodRounds, tables_before}
use Rattle.update_model.specs.declared.Change.{Change}
use Rattle.update_model.proofs.MadeLaws.{made_of}
use Rattle.law_two_way_runs.proofs.Turning.{TablesAre, sound_both_ways}
use Rattle.round_inverses.specs.Rounds.{inverse_rounds}
use Rattle.two_way_driver.specs.Calls.{AreTurnable}
use Rattle.two_way_driver.specs.Laws.{Call, IsCall, events_in, phase_of, InForceAs, SaysRun, rollout_of}
use Rattle.two_way_driver.specs.declared.Stage.{Stage}
use Rattle.two_way_driver.specs.declared.Stage.TheVariants.{Settled, Onward, Undone}
use Rattle.two_way_driver.proofs.RunLaws.{says_run}
use Rattle.law_wire.specs.Network.{driver_at, logged_state}
use Rattle.law_wire.proofs.Entries.{HoldsBy}
use Rattle.law_wire.proofs.Sides.{sides, next_at}

-- where all changes of a switch are in force they are all made; where none is, none
made_at : (flags : List Bool) (changes : List Change) (by_switch : List Bool) (s : SwitchId) (b : Bool) → length flags ≡ length changes
    → ((i : ℕ) (c : Change) → slice_get changes i ≡ Some c → slice_get flags i ≡ Some (get_or by_switch (switch_of c).0 false)) → get_or by_switch s.0 false ≡ b
    → changes_at s (made_of (map not flags) changes) ≡ cond b (changes_at s changes) []
made_at [] [] by_switch s true count are is = refl
made_at [] [] by_switch s false count are is = refl
made_at [] (c ∷ changes) by_switch s b count are is = absurd (omega arith)
made_at (f ∷ flags) [] by_switch s b count are is = absurd (omega arith)
made_at (f ∷ flags) (c ∷ changes) by_switch s b count are is =
    let rest = made_at flags changes by_switch s b (omega arith) (λ i d at. are (suc i) d at) is in
    let first : Some f ≡ Some (get_or by_switch (switch_of c).0 false) = are 0 c refl in
    let flag : f ≡ get_or by_switch (switch_of c).0 false = cc in
    elim (cases_Bool (eqb (switch_of c).0 s.0)) [
      | inl here ↦ (
          let same : f ≡ b = flag ∙ ap (λ (n : ℕ). get_or by_switch n false) (eqb-true (switch_of c).0 s.0 here) ∙ is in
          subst (λ (g : Bool). changes_at s (made_of (not g ∷ map not flags) (c ∷ changes)) ≡ cond b (changes_at s (c ∷ changes)) []) (sym same) (by b here rest))
      | inr away ↦ past f away rest
    ]
  where
    by : (b : Bool) → eqb (switch_of c).0 s.0 ≡ true → changes_at s (made_of (map not flags) changes) ≡ cond b (changes_at s changes) []
        → changes_at s (made_of (not b ∷ map not flags) (c ∷ changes)) ≡ cond b (changes_at s (c ∷ changes)) []
    by true here rest =
        cond-true (eqb (switch_of c).0 s.0) (c ∷ changes_at s (made_of (map not flags) changes)) (changes_at s (made_of (map not flags) changes)) here ∙ ap (λ l. c ∷ l) rest
        ∙ sym (cond-true (eqb (switch_of c).0 s.0) (c ∷ changes_at s changes) (changes_at s changes) here)
    by false here rest = rest

    past : (f : Bool) → eqb (switch_of c).0 s.0 ≡ false → changes_at s (made_of (map not flags) changes) ≡ cond b (changes_at s changes) []
        → changes_at s (made_of (not f ∷ map not flags) (c ∷ changes)) ≡ cond b (changes_at s (c ∷ changes)) []
    past true away rest =
        cond-false (eqb (switch_of c).0 s.0) (c ∷ changes_at s (made_of (map not flags) changes)) (changes_at s (made_of (map not flags) changes)) away ∙ rest
        ∙ ap (λ l. cond b l []) (sym (cond-false (eqb (switch_of c).0 s.0) (c ∷ changes_at s changes) (changes_at s changes) away))
    past false away rest = rest ∙ ap (λ l. cond b l []) (sym (cond-false (eqb (switch_of c).0 s.0) (c ∷ changes_at s changes) (changes_at s changes) away))

module _ (u : Rollout) (good : AreGoodRounds u) (turnable : AreTurnable u.net u.rounds (inverse_rounds u.old u.rounds)) (calls : List Call) (ok : AllByRecursion (IsCall u.net) calls) where
  side_logged : (k : ℕ) → k < length u.rounds → (tables : List (List Rule)) (flags by_switch : List Bool) (s : SwitchId) → length flags ≡ length (round_after k u.rounds)
      → ((i : ℕ) (c : Change) → slice_get (round_after k u.rounds) i ≡ Some c → slice_get flags i ≡ Some (get_or by_switch (switch_of c).0 false))
      → IsSameSet (rules_at tables s) (rules_after (changes_at s (made_of (map not flags) (round_after k u.rounds))) (rules_at (tables_before u k) s))
      → IsSameSet (rules_at tables s) (cond (get_or by_switch s.0 false) (rules_at (tables_before u (suc k)) s) (rules_at (tables_before u k) s))
  side_logged k less tables flags by_switch s count are same =
      go (get_or by_switch s.0 false) refl
    where
      go : (b : Bool) → get_or by_switch s.0 false ≡ b → IsSameSet (rules_at tables s) (cond b (rules_at (tables_before u (suc k)) s) (rules_at (tables_before u k) s))
      go true is =
          subst (IsSameSet (rules_at tables s)) (ap (λ cs. rules_after cs (rules_at (tables_before u k) s)) (made_at flags (round_after k u.rounds) by_switch s true count are is) ∙ sym (next_at u good k less s)) same
      go false is = subst (IsSameSet (rules_at tables s)) (ap (λ cs. rules_after cs (rules_at (tables_before u k) s)) (made_at flags (round_after k u.rounds) by_switch s false count are is)) same

  by_stage : (stage : Stage) (tables : List (List Rule)) (flags by_switch : List Bool) → TablesAre u (phase_of stage) tables flags → InForceAs u.rounds stage by_switch flags → (s : SwitchId)
      → HoldsBy (sides u stage s) (λ key. get_or by_switch s.0 false) (rules_at tables s)
  by_stage (Settled k) tables flags by_switch are in_force s = are.1 s
  by_stage (Onward k) tables flags by_switch are in_force s = side_logged k are.0 tables flags by_switch s are.1 in_force (are.2 s)
  by_stage (Undone k) tables flags by_switch are in_force s = side_logged k are.0 tables flags by_switch s are.1 in_force (are.2 s)

  -- each entry of a logged table is on the side of what is logged of its switch
  pub logged_at : (s : SwitchId) → HoldsBy (sides u (driver_at u calls).state.stage s) (λ key. get_or (driver_at u calls).state.in_force s.0 false) (rules_at (logged_state u calls).tables s)
  logged_at s =
      let d = (driver_at u calls).state in
      let says : SaysRun (rollout_of u.net u.old u.rounds) (driver_at u calls).state = says_run u.net u.rounds (inverse_rounds u.old u.rounds) u.old good turnable calls ok in
      let st = logged_state u calls in
      let sound = sound_both_ways u good (events_in d.said) says.run in
      by_stage d.stage st.tables st.in_force d.in_force (subst (λ p. TablesAre u p st.tables st.in_force) says.phase sound.tables) says.in_force s

  -- the flags of a switch's changes in the running round
  pub record FlagsAt (k : ℕ) (in_force : List Bool) (s : SwitchId) (b : Bool) : Type 0 where
    pub count : length in_force ≡ length (round_after k u.rounds)
    pub are : (i : ℕ) (c : Change) → slice_get (round_after k u.rounds) i ≡ Some c → eqb (switch_of c).0 s.0 ≡ true → slice_get in_force i ≡ Some b

  abbrev pub FlagsIn : Stage → List Bool → SwitchId → Bool → Type 0
  FlagsIn (Settled k) in_force s b = Unit {0}
  FlagsIn (Onward k) in_force s b = FlagsAt k in_force s b
  FlagsIn (Undone k) in_force s b = FlagsAt k in_force s b

  flags_by : (stage : Stage) (tables : List (List Rule)) (flags by_switch : List Bool) → TablesAre u (phase_of stage) tables flags → InForceAs u.rounds stage by_switch flags → (s : SwitchId)
      → FlagsIn stage flags s (get_or by_switch s.0 false)
  flags_by (Settled k) tables flags by_switch are in_force s = tt
  flags_by (Onward k) tables flags by_switch are in_force s =
      record { count = are.1; are = λ i c at here. in_force i c at ∙ ap (λ (n : ℕ). Some (get_or by_switch n false)) (eqb-true (switch_of c).0 s.0 here) }
  flags_by (Undone k) tables flags by_switch are in_force s =
      record { count = are.1; are = λ i c at here. in_force i c at ∙ ap (λ (n : ℕ). Some (get_or by_switch n false)) (eqb-true (switch_of c).0 s.0 here) }

  pub flags_logged : (s : SwitchId) → FlagsIn (driver_at u calls).state.stage (logged_state u calls).in_force s (get_or (driver_at u calls).state.in_force s.0 false)
  flags_logged s =
      let d = (driver_at u calls).state in
      let says : SaysRun (rollout_of u.net u.old u.rounds) (driver_at u calls).state = says_run u.net u.rounds (inverse_rounds u.old u.rounds) u.old good turnable calls ok in
      let st = logged_state u calls in
      let sound = sound_both_ways u good (events_in d.said) says.run in
      flags_by d.stage st.tables st.in_force d.in_force (subst (λ p. TablesAre u p st.tables st.in_force) says.phase sound.tables) says.in_force s
