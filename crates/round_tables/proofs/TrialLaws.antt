-- One change as a round of its own, on tables on which single changes are tried.
use Rattle.std.proofs.Common.{◌≡◌, ◌≢◌, ℕ, ◌<◌, ◌≤◌, List, [], ◌∷◌, ◌++◌, length, sym, ◌∙◌, subst, ap, inl, inr, arith}
use Rattle.std.specs.Prelude.{Option, None, IsSomeAnd}
use Rattle.std.proofs.lemmas.Bool.{cases_eq}
use Rattle.std.proofs.lemmas.Option.{slice_get-get_or}
use Rattle.net_base.specs.declared.ids.SwitchId.{SwitchId}
use Rattle.net_base.proofs.NameLaws.{same_switch}
use Rattle.topology.specs.Networks.{Network, IsNetwork, switch_count, capacity_of}
use Rattle.flow_rules.specs.Tables.{IsClear, rules_at, rules_of_all}
use Rattle.flow_rules.specs.declared.rules.Rule.{Rule}
use Rattle.update_model.specs.Changes.{switch_of, Applies, changes_at}
use Rattle.update_model.specs.Mixtures.{IsMixture, entries_needed}
use Rattle.update_model.specs.declared.Change.{Change}
use Rattle.round_mix.specs.Prepared.{MixedState, AreClear, IsPrepared}
use Rattle.round_mix.specs.declared.MarkedRule.{MarkedRule}
use Rattle.round_mix.proofs.TriedLaws.{clear_none}
use Rattle.check_reasons.specs.Loaded.{AreLoaded}
use Rattle.round_tables.specs.Trials.{HaveRoom, IsBetweenTrials, IsTrying, HasRoomAlone, single}
use Rattle.round_tables.specs.PreparedTables.{PreparedState, mix_at, IsMixed, rules_there}
use Rattle.round_tables.specs.Steps.{AreSwitchesReady, AreReadyBeside, FitTable, IsBegun, taken_and}
use Rattle.round_tables.specs.Filling.{FitTables}
use Rattle.round_tables.proofs.LoadLaws.{clear_mixed}
use Rattle.round_tables.proofs.StepLaws.{changes_here, changes_there, count_rules, ready_loaded}

-- what holds at the change's switch and at the others holds at each
each_single : (c : Change) (P : SwitchId → List Change → Type 0) → P (switch_of c) (c ∷ []) → ((s : SwitchId) → s.0 ≢ (switch_of c).0 → P s []) → (s : SwitchId) → P s (changes_at s (c ∷ []))
each_single c P here there s =
    elim (cases_eq s.0 (switch_of c).0) [
      | inl e ↦ subst (λ (x : SwitchId). P x (changes_at x (c ∷ []))) (sym (same_switch s (switch_of c) e)) (subst (P (switch_of c)) (sym (changes_here c)) here)
      | inr ne ↦ subst (P s) (sym (changes_there c s ne)) (there s ne)
    ]

-- where none is taken and the switches are ready, no change is tried
pub settled_ready : (net : Network) (p : PreparedState) → p.round ≡ [] → AreSwitchesReady net p.round p → IsBetweenTrials net p
settled_ready net p none ready = record {
  none = none;
  fit = ready.fit;
  alone = λ s less. subst (λ (cs : List Change). IsMixed (rules_there p.tables s) (changes_at s cs) (mix_at p.mixes s)) none (ready.each s less);
}

-- beside no others a change is alone
pub with_alone : (p : PreparedState) (c : Change) → p.round ≡ [] → taken_and p c ≡ c ∷ []
with_alone p c none = ap (λ (cs : List Change). changes_at (switch_of c) cs ++ c ∷ []) none

module _ (net : Network) (c : Change) (p : PreparedState) (none : p.round ≡ []) (begun : IsBegun net c p) where
  here_alone : IsMixed (rules_there p.tables (switch_of c)) (c ∷ []) (mix_at p.mixes (switch_of c))
  here_alone = subst (λ (cs : List Change). IsMixed (rules_there p.tables (switch_of c)) cs (mix_at p.mixes (switch_of c))) (with_alone p c none) begun.here

  others_alone : (o : SwitchId) → o.0 < switch_count net → o.0 ≢ (switch_of c).0 → IsMixed (rules_there p.tables o) [] (mix_at p.mixes o)
  others_alone o less ne = subst (λ (cs : List Change). IsMixed (rules_there p.tables o) (changes_at o cs) (mix_at p.mixes o)) none (begun.beside.others o less ne)

  clear_each : (s : SwitchId) → AreClear (rules_there p.tables s) (changes_at s (c ∷ []))
  clear_each = each_single c (λ s cs. AreClear (rules_there p.tables s) cs)
      (clear_mixed (rules_there p.tables (switch_of c)) (c ∷ []) (mix_at p.mixes (switch_of c)) here_alone)
      (λ s ne. clear_none (rules_there p.tables s) (begun.beside.fit.clear s))

  fits_each : (s : SwitchId) → s.0 < switch_count net → entries_needed (rules_there p.tables s) (changes_at s (c ∷ [])) ≤ capacity_of net s
  fits_each = each_single c (λ s cs. s.0 < switch_count net → entries_needed (rules_there p.tables s) cs ≤ capacity_of net s)
      (λ _. subst (λ (cs : List Change). entries_needed (rules_there p.tables (switch_of c)) cs ≤ capacity_of net (switch_of c)) (with_alone p c none) begun.fits)
      (λ s ne less. let had = begun.beside.fit.fits s less in omega arith)

  ready_single : AreSwitchesReady net (c ∷ []) p
  ready_single = record {
    fit = begun.beside.fit;
    each = each_single c (λ s cs. s.0 < switch_count net → IsMixed (rules_there p.tables s) cs (mix_at p.mixes s)) (λ _. here_alone) (λ s ne less. others_alone s less ne);
  }

  -- a change that is begun beside none is tried
  pub trying : IsNetwork net → Applies (rules_of_all p.tables) c → IsTrying net c p
  trying is applies = record {
    none = none;
    fit = begun.beside.fit;
    applies = applies;
    stands = record { clear = λ s mixed held. clear_each s mixed held; fits = λ s less. fits_each s less };
    loaded = ready_loaded net is (c ∷ []) p ready_single fits_each;
  }

-- a change that doesn't fit its table beside none has no room alone
pub never_alone : (net : Network) (c : Change) (p : PreparedState) → p.round ≡ [] → (switch_of c).0 < switch_count net → Applies (rules_of_all p.tables) c
    → (¬ FitTable (rules_there p.tables (switch_of c)) (taken_and p c) (capacity_of net (switch_of c))) → ¬ HasRoomAlone net (rules_of_all p.tables) c
never_alone net c p none within applies never stands =
    let rules = rules_there p.tables (switch_of c) in
    never (subst (λ (cs : List Change). FitTable rules cs (capacity_of net (switch_of c))) (sym (with_alone p c none))
    (record {
      good = record { applies = (applies.1, tt); distinct = (λ i. i, tt) };
      clear = λ mixed held. stands.clear (switch_of c) mixed (subst (λ (cs : List Change). IsMixture rules cs mixed) (sym (changes_here c)) held);
      fits = subst (λ (cs : List Change). entries_needed rules cs ≤ capacity_of net (switch_of c)) (changes_here c) (stands.fits (switch_of c) within);
    }))

-- the change's switch is one of the network
pub within_net : (net : Network) (c : Change) (p : PreparedState) → length p.tables ≡ switch_count net → Applies (rules_of_all p.tables) c → (switch_of c).0 < switch_count net
within_net net c p tables applies = let first = applies.0 in let count = count_rules p.tables in omega arith

module _ (net : Network) (c : Change) (p : PreparedState) (trying : IsTrying net c p) where
  -- a change that is tried fits the tables as a round of its own
  pub fit_tried : FitTables net (rules_of_all p.tables) (c ∷ [])
  fit_tried = record {
    good = record { applies = (trying.applies, tt); distinct = (λ i. i, tt) };
    clear = trying.stands.clear;
    fits = trying.stands.fits;
  }

  -- and each switch is prepared for that
  pub ready_tried : AreSwitchesReady net (c ∷ []) p
  ready_tried = record {
    fit = trying.fit;
    each = λ s less.
        let in_mixes : s.0 < length p.mixes = omega (arith, trying.fit.mixes) in
        let loaded = trying.loaded.each s (mix_at p.mixes s) (slice_get-get_or p.mixes s.0 (record { prepared = None; room = 0; aimed = None }) in_mixes) in
        subst (λ (m : Option (List MarkedRule)). IsSomeAnd m (IsPrepared (rules_there p.tables s) (changes_at s (c ∷ [])))) (sym loaded.is) loaded.prepared;
  }

  tried_within : (switch_of c).0 < switch_count net
  tried_within = within_net net c p trying.fit.tables trying.applies

  -- it is begun beside none
  pub beside_tried : AreReadyBeside net (switch_of c) p.round p
  beside_tried = record {
    fit = trying.fit;
    within = tried_within;
    others = λ o less ne. subst (λ (cs : List Change). IsMixed (rules_there p.tables o) cs (mix_at p.mixes o))
        (changes_there c o ne ∙ ap (changes_at o) (sym trying.none)) (ready_tried.each o less);
  }

  pub here_tried : IsMixed (rules_there p.tables (switch_of c)) (taken_and p c) (mix_at p.mixes (switch_of c))
  here_tried =
      subst (λ (cs : List Change). IsMixed (rules_there p.tables (switch_of c)) cs (mix_at p.mixes (switch_of c))) (changes_here c ∙ sym (with_alone p c trying.none)) (ready_tried.each (switch_of c) tried_within)

  -- where nothing is changed it is still tried
  pub still_tried : (q : PreparedState) → rules_of_all q.tables ≡ rules_of_all p.tables → q.mixes ≡ p.mixes → q.limits ≡ p.limits → q.round ≡ p.round → IsTrying net c q
  still_tried q rules mixes limits round = record {
    none = round ∙ trying.none;
    fit = record {
      tables = sym (count_rules q.tables) ∙ ap (λ (ts : List (List Rule)). length ts) rules ∙ count_rules p.tables ∙ trying.fit.tables;
      mixes = ap (λ (ms : List MixedState). length ms) mixes ∙ trying.fit.mixes;
      limits = ap (λ (ns : List ℕ). length ns) limits ∙ trying.fit.limits;
      room = subst (λ (ns : List ℕ). HaveRoom ns q.mixes) (sym limits) (subst (HaveRoom p.limits) (sym mixes) trying.fit.room);
      fits = λ s less. subst (λ (ts : List (List Rule)). length (rules_at ts s) ≤ capacity_of net s) (sym rules) (trying.fit.fits s less);
      clear = λ s. subst (λ (ts : List (List Rule)). IsClear (rules_at ts s)) (sym rules) (trying.fit.clear s);
    };
    applies = subst (λ (ts : List (List Rule)). Applies ts c) (sym rules) trying.applies;
    stands = subst (λ (ts : List (List Rule)). HasRoomAlone net ts c) (sym rules) trying.stands;
    loaded = subst (λ (ts : List (List Rule)). AreLoaded (single net ts c) 0 q.mixes) (sym rules) (subst (AreLoaded (single net (rules_of_all p.tables) c) 0) (sym mixes) trying.loaded);
  }
