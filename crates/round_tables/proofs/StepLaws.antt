-- Switches that are prepared for changes, one change more or less.
use Rattle.std.proofs.Common.{◌≡◌, ◌≢◌, ℕ, ◌+◌, ◌<◌, ◌≤◌, List, [], ◌∷◌, ◌++◌, zero, suc, get_or, length, refl, sym, ◌∙◌, subst, ap, inl, inr, arith}
use Rattle.std.specs.List.{AllByRecursion}
use Rattle.std.specs.Prelude.{Option, Some, None, IsSomeAnd, ◌==◌}
use Rattle.std.proofs.lemmas.Bool.{eq-eqb, ne_eqb, cases_eq, cond-true, cond-false}
use Rattle.std.proofs.lemmas.List.{length-map}
use Rattle.std.proofs.lemmas.Option.{get_or_from_slice_get, slice_get_within}
use Rattle.net_base.specs.declared.ids.SwitchId.{SwitchId}
use Rattle.net_base.proofs.NameLaws.{same_switch}
use Rattle.topology.specs.Networks.{Network, IsNetwork, switch_count, capacity_of}
use Rattle.flow_rules.specs.Tables.{TableState, IsClear, rules_at, rules_of_all}
use Rattle.flow_rules.specs.declared.rules.Rule.{Rule}
use Rattle.update_model.specs.Changes.{switch_of, changes_at}
use Rattle.update_model.specs.Mixtures.{entries_needed}
use Rattle.update_model.specs.declared.Change.{Change}
use Rattle.certificates.specs.Rounds.{one_round_of}
use Rattle.round_mix.specs.Prepared.{MixedState, IsPrepared}
use Rattle.round_mix.specs.declared.MarkedRule.{MarkedRule}
use Rattle.round_mix.proofs.ClearLaws.{prepared_needed}
use Rattle.check_reasons.specs.Loaded.{IsLoaded, AreLoaded}
use Rattle.round_tables.specs.Trials.{HaveRoom}
use Rattle.round_tables.specs.PreparedTables.{PreparedState, mix_at, IsMixed, rules_there}
use Rattle.round_tables.specs.Steps.{AreSwitchesReady, AreReadyBeside, HasOneMore}
use Rattle.round_tables.proofs.GrowLaws.{have_kept}
use Rattle.round_tables.proofs.LoadLaws.{needed_few}

-- a switch by its number
abbrev pub switch_n : ℕ → SwitchId
switch_n n = record { 0 = n }

-- where one more switch is prepared
pub each_pushed : (mixes : List MixedState) (mixed : MixedState) (new : List MixedState) (i : ℕ) → new ≡ mixes ++ mixed ∷ [] → length mixes ≡ i → (P : SwitchId → MixedState → Type 0)
    → ((s : SwitchId) → s.0 < i → P s (mix_at mixes s)) → P (switch_n i) mixed → (s : SwitchId) → s.0 < i + 1 → P s (mix_at new s)
each_pushed mixes mixed new i pushed count P before here s less =
    subst (λ (ms : List MixedState). P s (mix_at ms s)) (sym pushed)
    (elim (cases_eq s.0 i) [
      | inl e ↦ subst (λ (x : SwitchId). P x (mix_at (mixes ++ mixed ∷ []) x)) (sym (same_switch s (switch_n i) e))
          (subst (P (switch_n i)) (sym (last_of mixes mixed i (record { prepared = None; room = 0; aimed = None }) count)) here)
      | inr ne ↦ subst (P s) (sym (first_of_these mixes mixed s.0 (record { prepared = None; room = 0; aimed = None }) (omega arith))) (before s (omega arith))
    ])
  where
    last_of : (ms : List MixedState) (m : MixedState) (j : ℕ) (d : MixedState) → length ms ≡ j → get_or (ms ++ m ∷ []) j d ≡ m
    last_of [] m zero d e = refl
    last_of [] m (suc j) d e = absurd (omega arith)
    last_of (x ∷ ms) m zero d e = absurd (omega arith)
    last_of (x ∷ ms) m (suc j) d e = last_of ms m j d (omega arith)

    first_of_these : (ms : List MixedState) (m : MixedState) (j : ℕ) (d : MixedState) → j < length ms → get_or (ms ++ m ∷ []) j d ≡ get_or ms j d
    first_of_these [] m j d l = absurd (omega arith)
    first_of_these (x ∷ ms) m zero d l = refl
    first_of_these (x ∷ ms) m (suc j) d l = first_of_these ms m j d (omega arith)

-- the round has its change at the change's switch
pub changes_here : (c : Change) → changes_at (switch_of c) (c ∷ []) ≡ c ∷ []
changes_here c = cond-true ((switch_of c).0 == (switch_of c).0) (c ∷ []) [] (eq-eqb (switch_of c).0 (switch_of c).0 refl)

-- and none at the others
pub changes_there : (c : Change) (s : SwitchId) → s.0 ≢ (switch_of c).0 → changes_at s (c ∷ []) ≡ []
changes_there c s ne = cond-false ((switch_of c).0 == s.0) (c ∷ []) [] (ne_eqb (switch_of c).0 s.0 (λ e. ne (sym e)))

pub count_rules : (tables : List TableState) → length (rules_of_all tables) ≡ length tables
count_rules tables = length-map tables (λ (t : TableState). t.rules)

module _ (net : Network) (s : SwitchId) (cs : List Change) (p q : PreparedState) where
  -- where one switch is prepared anew the others stay ready
  pub beside_next : AreReadyBeside net s cs p → rules_of_all q.tables ≡ rules_of_all p.tables → length q.mixes ≡ length p.mixes → q.limits ≡ p.limits
      → ((o : SwitchId) → o.0 ≢ s.0 → mix_at q.mixes o ≡ mix_at p.mixes o) → (mix_at p.mixes s).room ≤ (mix_at q.mixes s).room → AreReadyBeside net s cs q
  beside_next beside rules mixes limits others room = record {
    fit = record {
      tables = sym (count_rules q.tables) ∙ ap length rules ∙ count_rules p.tables ∙ beside.fit.tables;
      mixes = mixes ∙ beside.fit.mixes;
      limits = ap length limits ∙ beside.fit.limits;
      room = subst (λ (ns : List ℕ). HaveRoom ns q.mixes) (sym limits) (have_kept p.limits p.mixes q.mixes s beside.fit.room others room);
      fits = λ o less. subst (λ (ts : List (List Rule)). length (rules_at ts o) ≤ capacity_of net o) (sym rules) (beside.fit.fits o less);
      clear = λ o. subst (λ (ts : List (List Rule)). IsClear (rules_at ts o)) (sym rules) (beside.fit.clear o);
    };
    within = beside.within;
    others = λ o less ne. subst (λ (ts : List (List Rule)). IsMixed (rules_at ts o) (changes_at o cs) (mix_at q.mixes o)) (sym rules)
        (subst (λ (m : MixedState). IsMixed (rules_there p.tables o) (changes_at o cs) m) (sym (others o ne)) (beside.others o less ne));
  }

-- the same where the list of them is lent
pub beside_lent : (net : Network) (s : SwitchId) (cs : List Change) (p q : PreparedState) (old new : List MixedState) → AreReadyBeside net s cs p → rules_of_all q.tables ≡ rules_of_all p.tables → q.limits ≡ p.limits
    → old ≡ p.mixes → q.mixes ≡ new → length new ≡ length old → ((o : SwitchId) → o.0 ≢ s.0 → mix_at new o ≡ mix_at old o) → (mix_at old s).room ≤ (mix_at new s).room → AreReadyBeside net s cs q
beside_lent net s cs p q old new beside rules limits lent same count others room =
    beside_next net s cs p q beside rules (ap length same ∙ count ∙ ap length lent) limits
    (λ o ne. ap (λ (ms : List MixedState). mix_at ms o) same ∙ others o ne ∙ ap (λ (ms : List MixedState). mix_at ms o) lent)
    (let had = ap (λ (ms : List MixedState). (mix_at ms s).room) lent in let has = ap (λ (ms : List MixedState). (mix_at ms s).room) same in omega arith)

module _ (net : Network) (cs : List Change) (p : PreparedState) where
  -- where the last one is ready too, all are
  pub ready_last : (s : SwitchId) → AreReadyBeside net s cs p → IsMixed (rules_there p.tables s) (changes_at s cs) (mix_at p.mixes s) → AreSwitchesReady net cs p
  ready_last s beside here = record {
    fit = beside.fit;
    each = λ o less. elim (cases_eq o.0 s.0) [
      | inl e ↦ subst (λ (x : SwitchId). IsMixed (rules_there p.tables x) (changes_at x cs) (mix_at p.mixes x)) (sym (same_switch o s e)) here
      | inr ne ↦ beside.others o less ne
    ];
  }

  -- all of them are, so the others are
  pub beside_ready : (s : SwitchId) → s.0 < switch_count net → AreSwitchesReady net cs p → AreReadyBeside net s cs p
  beside_ready s within ready = record { fit = ready.fit; within = within; others = λ o less ne. ready.each o less }

  -- one of the switches has room made for it and stays prepared for its changes
  pub ready_wider : (s : SwitchId) (q : PreparedState) → AreSwitchesReady net cs p → q.tables ≡ p.tables → length q.mixes ≡ length p.mixes → length q.limits ≡ length p.limits → HaveRoom q.limits q.mixes
      → ((o : SwitchId) → o.0 ≢ s.0 → mix_at q.mixes o ≡ mix_at p.mixes o) → IsMixed (rules_there p.tables s) (changes_at s cs) (mix_at q.mixes s) → AreSwitchesReady net cs q
  ready_wider s q ready tables mixes limits room others here = record {
    fit = record {
      tables = ap length tables ∙ ready.fit.tables;
      mixes = mixes ∙ ready.fit.mixes;
      limits = limits ∙ ready.fit.limits;
      room = room;
      fits = λ o less. subst (λ (ts : List TableState). length (rules_there ts o) ≤ capacity_of net o) (sym tables) (ready.fit.fits o less);
      clear = λ o. subst (λ (ts : List TableState). IsClear (rules_there ts o)) (sym tables) (ready.fit.clear o);
    };
    each = λ o less. subst (λ (ts : List TableState). IsMixed (rules_there ts o) (changes_at o cs) (mix_at q.mixes o)) (sym tables)
        (elim (cases_eq o.0 s.0) [
          | inl e ↦ subst (λ (x : SwitchId). IsMixed (rules_there p.tables x) (changes_at x cs) (mix_at q.mixes x)) (sym (same_switch o s e)) here
          | inr ne ↦ subst (λ (m : MixedState). IsMixed (rules_there p.tables o) (changes_at o cs) m) (sym (others o ne)) (ready.each o less)
        ]);
  }

-- what is prepared for changes has room for one entry more, where it has room for more than the table and the changes
pub one_more : (rules : List Rule) (cs : List Change) (mixed : MixedState) → IsMixed rules cs mixed → length rules + length cs + 1 ≤ mixed.room → HasOneMore mixed
one_more rules cs mixed here room = go mixed.prepared here
  where
    go : (o : Option (List MarkedRule)) → IsSomeAnd o (IsPrepared rules cs) → IsSomeAnd o (λ marks. length marks < mixed.room)
    go None h = absurd h
    go (Some marks) h =
        let needed = prepared_needed rules cs marks h in
        let few = needed_few rules cs in
        omega arith

capacity_few : (cs : List ℕ) (i : ℕ) → AllByRecursion (λ c. (1 ≤ c) × (c ≤ 8192)) cs → get_or cs i 0 ≤ 8192
capacity_few [] i few = omega arith
capacity_few (c ∷ cs) zero few = few.0.1
capacity_few (c ∷ cs) (suc i) few = capacity_few cs i few.1

-- no capacity is above 8192
pub capacities_few : (net : Network) → IsNetwork net → (s : SwitchId) → s.0 < switch_count net → capacity_of net s ≤ 8192
capacities_few net is s less = capacity_few net.capacities s.0 is.capacities

-- the switches are prepared for the round of changes that fit the tables
module _ (net : Network) (is : IsNetwork net) (cs : List Change) (p : PreparedState) (ready : AreSwitchesReady net cs p)
    (fits : (s : SwitchId) → s.0 < switch_count net → entries_needed (rules_there p.tables s) (changes_at s cs) ≤ capacity_of net s) where
  loaded_from : (s : SwitchId) (mixed : MixedState) → s.0 < switch_count net → IsMixed (rules_there p.tables s) (changes_at s cs) mixed → IsLoaded (one_round_of net (rules_of_all p.tables) cs) 0 s mixed
  loaded_from s mixed below h = go mixed.prepared refl h
    where
      go : (o : Option (List MarkedRule)) → mixed.prepared ≡ o → IsSomeAnd o (IsPrepared (rules_there p.tables s) (changes_at s cs)) → IsLoaded (one_round_of net (rules_of_all p.tables) cs) 0 s mixed
      go None e g = absurd g
      go (Some marks) e g =
          let needed = prepared_needed (rules_there p.tables s) (changes_at s cs) marks g in
          let room = fits s below in
          let most = capacities_few net is s below in
          record { marks = marks; is = e; prepared = g; few = omega arith }

  pub ready_loaded : AreLoaded (one_round_of net (rules_of_all p.tables) cs) 0 p.mixes
  ready_loaded = record {
    count = ready.fit.mixes;
    each = λ s mixed at.
        let below = slice_get_within p.mixes s.0 mixed at in
        let within : s.0 < switch_count net = omega (arith, ready.fit.mixes) in
        let same : mix_at p.mixes s ≡ mixed = get_or_from_slice_get p.mixes s.0 mixed (record { prepared = None; room = 0; aimed = None }) at in
        loaded_from s mixed within (subst (IsMixed (rules_there p.tables s) (changes_at s cs)) same (ready.each s within));
  }
