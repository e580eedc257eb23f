-- Changes that are taken for a round, left again, and made.
use Rattle.std.proofs.Common.{◌≡◌, ◌≢◌, ℕ, zero, suc, ◌-◌, ◌<◌, ◌≤◌, List, [], ◌∷◌, ◌++◌, length, take, length-append, refl, sym, ◌∙◌, subst, ap, inl, inr, arith}
use Rattle.std.specs.Prelude.{◌==◌}
use Rattle.std.proofs.lemmas.Bool.{eq-eqb, ne_eqb, cases_eq, cond-true, cond-false}
use Rattle.net_base.specs.declared.ids.SwitchId.{SwitchId}
use Rattle.net_base.proofs.NameLaws.{same_switch}
use Rattle.topology.specs.Networks.{Network, IsNetwork, switch_count, capacity_of}
use Rattle.flow_rules.specs.Tables.{TableState, IsClear, rules_at, rules_of_all}
use Rattle.flow_rules.specs.declared.rules.Rule.{Rule}
use Rattle.update_model.specs.Changes.{switch_of, changes_at, Applies, rules_after_change, tables_after, tables_after_change}
use Rattle.update_model.specs.declared.Change.{Change}
use Rattle.update_model.proofs.ChangeLaws.{length-tables_after, rules_at-after_change}
use Rattle.round_mix.specs.Prepared.{MixedState}
use Rattle.round_tables.specs.PreparedTables.{PreparedState, IsMixed, limit_at, mix_at, rules_there}
use Rattle.round_tables.specs.Trials.{HaveRoom}
use Rattle.round_tables.specs.Steps.{AreMixed, AreSwitchesReady, AreReadyBeside, FitTable, IsBegun, taken_and}
use Rattle.round_tables.specs.Filling.{AreTakenChanges, FitTables}
use Rattle.round_tables.proofs.LoadLaws.{good_mixed, clear_mixed}
use Rattle.round_tables.proofs.StepLaws.{count_rules, ready_loaded}
use Rattle.round_tables.proofs.FitLaws.{clear_made, each_more, fit_less, fit_more, fit_there, fits_made, more_here, more_there}

-- changes that fit, with each switch prepared for them, are taken
pub taken_of : (net : Network) → IsNetwork net → (p : PreparedState) → AreSwitchesReady net p.round p → FitTables net (rules_of_all p.tables) p.round → AreTakenChanges net p
taken_of net is p ready fit = record { ready = ready; fit = fit; loaded = ready_loaded net is p.round p ready fit.fits }

-- and stay so where neither the rules nor what is taken changes
pub taken_again : (net : Network) → IsNetwork net → (p q : PreparedState) → AreTakenChanges net p → rules_of_all q.tables ≡ rules_of_all p.tables → q.round ≡ p.round → AreSwitchesReady net q.round q → AreTakenChanges net q
taken_again net is p q taken rules round ready =
    taken_of net is q ready (subst (FitTables net (rules_of_all q.tables)) (sym round) (subst (λ (ts : List (List Rule)). FitTables net ts p.round) (sym rules) taken.fit))

-- ---- changes are made

module _ (c : Change) (rest : List Change) (tables : List (List Rule)) (applies : Applies tables c) where
  abbrev w : SwitchId
  w = switch_of c

  first_here : changes_at w (c ∷ rest) ≡ c ∷ changes_at w rest
  first_here = cond-true (w.0 == w.0) (c ∷ changes_at w rest) (changes_at w rest) (eq-eqb w.0 w.0 refl)

  first_there : (s : SwitchId) → s.0 ≢ w.0 → changes_at s (c ∷ rest) ≡ changes_at s rest
  first_there s ne = cond-false (w.0 == s.0) (c ∷ changes_at s rest) (changes_at s rest) (ne_eqb w.0 s.0 (λ e. ne (sym e)))

  made_here : rules_at (tables_after_change c tables) w ≡ rules_after_change c (rules_at tables w)
  made_here = rules_at-after_change c tables w applies.0 ∙ cond-true (w.0 == w.0) (rules_after_change c (rules_at tables w)) (rules_at tables w) (eq-eqb w.0 w.0 refl)

  made_there : (s : SwitchId) → s.0 ≢ w.0 → rules_at (tables_after_change c tables) s ≡ rules_at tables s
  made_there s ne =
      rules_at-after_change c tables s applies.0 ∙ cond-false (w.0 == s.0) (rules_after_change c (rules_at tables s)) (rules_at tables s) (ne_eqb w.0 s.0 (λ e. ne (sym e)))

  -- the first of the changes is made, and the switches are prepared for the rest
  pub kept_mixed : (new : List (List Rule)) (old mixes : List MixedState) (n : ℕ) → new ≡ tables_after_change c tables → ((o : SwitchId) → o.0 ≢ w.0 → mix_at mixes o ≡ mix_at old o)
      → (IsMixed (rules_at tables w) (c ∷ changes_at w rest) (mix_at old w) → IsMixed (rules_after_change c (rules_at tables w)) (changes_at w rest) (mix_at mixes w))
      → AreMixed n tables (c ∷ rest) old → AreMixed n new rest mixes
  kept_mixed new old mixes n made others keep all s less =
      subst (λ (ts : List (List Rule)). IsMixed (rules_at ts s) (changes_at s rest) (mix_at mixes s)) (sym made)
      (elim (cases_eq s.0 w.0) [
        | inl e ↦ (
            let at : s ≡ w = same_switch s w e in
            let had : IsMixed (rules_at tables w) (changes_at w (c ∷ rest)) (mix_at old w) = subst (λ (x : SwitchId). IsMixed (rules_at tables x) (changes_at x (c ∷ rest)) (mix_at old x)) at (all s less) in
            subst (λ (x : SwitchId). IsMixed (rules_at (tables_after_change c tables) x) (changes_at x rest) (mix_at mixes x)) (sym at)
            (subst (λ (rs : List Rule). IsMixed rs (changes_at w rest) (mix_at mixes w)) (sym made_here)
            (keep (subst (λ (cs : List Change). IsMixed (rules_at tables w) cs (mix_at old w)) first_here had))))
        | inr ne ↦ subst (λ (rs : List Rule). IsMixed rs (changes_at s rest) (mix_at mixes s)) (sym (made_there s ne))
            (subst (λ (m : MixedState). IsMixed (rules_at tables s) (changes_at s rest) m) (sym (others s ne))
            (subst (λ (cs : List Change). IsMixed (rules_at tables s) cs (mix_at old s)) (first_there s ne) (all s less)))
      ])

-- the changes are made: each switch is prepared for its table alone
module _ (net : Network) (cs : List Change) (p q : PreparedState) (ready : AreSwitchesReady net cs p) (fit : FitTables net (rules_of_all p.tables) cs) where
  pub ready_made : rules_of_all q.tables ≡ tables_after cs (rules_of_all p.tables) → length q.mixes ≡ length p.mixes → q.limits ≡ p.limits
      → ((s : SwitchId) → (mix_at p.mixes s).room ≤ (mix_at q.mixes s).room) → AreMixed (switch_count net) (rules_of_all q.tables) [] q.mixes → AreSwitchesReady net [] q
  ready_made made mixes limits room alone = record {
    fit = record {
      tables = sym (count_rules q.tables) ∙ ap (λ (ts : List (List Rule)). length ts) made ∙ length-tables_after cs (rules_of_all p.tables) ∙ count_rules p.tables ∙ ready.fit.tables;
      mixes = mixes ∙ ready.fit.mixes;
      limits = ap (λ (ns : List ℕ). length ns) limits ∙ ready.fit.limits;
      room = λ s. let had = ready.fit.room s in let more = room s in let same = ap (λ (ns : List ℕ). limit_at ns s) limits in omega arith;
      fits = λ s less. subst (λ (ts : List (List Rule)). length (rules_at ts s) ≤ capacity_of net s) (sym made) (fits_made net (rules_of_all p.tables) cs fit s less);
      clear = λ s. subst (λ (ts : List (List Rule)). IsClear (rules_at ts s)) (sym made) (clear_made net (rules_of_all p.tables) cs fit s);
    };
    each = alone;
  }

-- ---- one change is taken

module _ (net : Network) (is : IsNetwork net) (c : Change) (q : PreparedState) (fit : FitTables net (rules_of_all q.tables) q.round) (begun : IsBegun net c q) where
  here_fits : FitTable (rules_there q.tables (switch_of c)) (taken_and q c) (capacity_of net (switch_of c))
  here_fits = record {
    good = good_mixed (rules_there q.tables (switch_of c)) (taken_and q c) (mix_at q.mixes (switch_of c)) begun.here;
    clear = clear_mixed (rules_there q.tables (switch_of c)) (taken_and q c) (mix_at q.mixes (switch_of c)) begun.here;
    fits = begun.fits;
  }

  -- it is put behind the others
  pub taken_more : (r : PreparedState) → r.tables ≡ q.tables → r.mixes ≡ q.mixes → r.limits ≡ q.limits → r.round ≡ q.round ++ c ∷ [] → AreTakenChanges net r
  taken_more r tables mixes limits round =
      let next = q.round ++ c ∷ [] in
      let rules : rules_of_all r.tables ≡ rules_of_all q.tables = ap rules_of_all tables in
      let ready : AreSwitchesReady net r.round r = record {
        fit = record {
          tables = ap (λ (ts : List TableState). length ts) tables ∙ begun.beside.fit.tables;
          mixes = ap (λ (ms : List MixedState). length ms) mixes ∙ begun.beside.fit.mixes;
          limits = ap (λ (ns : List ℕ). length ns) limits ∙ begun.beside.fit.limits;
          room = subst (λ (ns : List ℕ). HaveRoom ns r.mixes) (sym limits) (subst (HaveRoom q.limits) (sym mixes) begun.beside.fit.room);
          fits = λ s less. subst (λ (ts : List TableState). length (rules_there ts s) ≤ capacity_of net s) (sym tables) (begun.beside.fit.fits s less);
          clear = λ s. subst (λ (ts : List TableState). IsClear (rules_there ts s)) (sym tables) (begun.beside.fit.clear s);
        };
        each = λ s less. subst (λ (cs : List Change). IsMixed (rules_there r.tables s) (changes_at s cs) (mix_at r.mixes s)) (sym round)
            (subst (λ (ts : List TableState). IsMixed (rules_there ts s) (changes_at s next) (mix_at r.mixes s)) (sym tables)
            (subst (λ (ms : List MixedState). IsMixed (rules_there q.tables s) (changes_at s next) (mix_at ms s)) (sym mixes)
            (each_more q.round c (λ o cs. o.0 < switch_count net → IsMixed (rules_there q.tables o) cs (mix_at q.mixes o))
            (λ _. subst (λ (cs : List Change). IsMixed (rules_there q.tables (switch_of c)) cs (mix_at q.mixes (switch_of c))) (sym (more_here q.round c)) begun.here)
            (λ o ne within. begun.beside.others o within ne) s less)));
      } in
      let fits : FitTables net (rules_of_all q.tables) next =
      fit_more net (rules_of_all q.tables) q.round fit c (count_rules q.tables ∙ begun.beside.fit.tables) begun.beside.within
      (subst (λ (cs : List Change). FitTable (rules_there q.tables (switch_of c)) cs (capacity_of net (switch_of c))) (sym (more_here q.round c)) here_fits) in
      taken_of net is r ready
      (subst (FitTables net (rules_of_all r.tables)) (sym round) (subst (λ (ts : List (List Rule)). FitTables net ts next) (sym rules) fits))

-- changes that don't fit the table of the last one don't fit the tables
pub unfit_there : (net : Network) (tables : List (List Rule)) (round : List Change) (c : Change) → (switch_of c).0 < switch_count net
    → (¬ FitTable (rules_at tables (switch_of c)) (changes_at (switch_of c) round ++ c ∷ []) (capacity_of net (switch_of c))) → ¬ FitTables net tables (round ++ c ∷ [])
unfit_there net tables round c within never fit =
    never (subst (λ (cs : List Change). FitTable (rules_at tables (switch_of c)) cs (capacity_of net (switch_of c))) (more_here round c)
    (fit_there net tables (round ++ c ∷ []) fit (switch_of c) within))

-- ---- the last change is left

module _ (net : Network) (c : Change) (round : List Change) (p mid : PreparedState) (taken : AreTakenChanges net p) (last : p.round ≡ round ++ c ∷ []) (within : (switch_of c).0 < switch_count net)
    (tables : mid.tables ≡ p.tables) (mixes : mid.mixes ≡ p.mixes) (limits : mid.limits ≡ p.limits) (left : mid.round ≡ round) where
  mixed_there : (s : SwitchId) → s.0 < switch_count net → IsMixed (rules_there mid.tables s) (changes_at s (round ++ c ∷ [])) (mix_at mid.mixes s)
  mixed_there s less =
      subst (λ (ts : List TableState). IsMixed (rules_there ts s) (changes_at s (round ++ c ∷ [])) (mix_at mid.mixes s)) (sym tables)
      (subst (λ (ms : List MixedState). IsMixed (rules_there p.tables s) (changes_at s (round ++ c ∷ [])) (mix_at ms s)) (sym mixes)
      (subst (λ (cs : List Change). IsMixed (rules_there p.tables s) (changes_at s cs) (mix_at p.mixes s)) last (taken.ready.each s less)))

  -- the other switches are prepared for the changes before it
  pub beside_left : AreReadyBeside net (switch_of c) mid.round mid
  beside_left = record {
    fit = record {
      tables = ap (λ (ts : List TableState). length ts) tables ∙ taken.ready.fit.tables;
      mixes = ap (λ (ms : List MixedState). length ms) mixes ∙ taken.ready.fit.mixes;
      limits = ap (λ (ns : List ℕ). length ns) limits ∙ taken.ready.fit.limits;
      room = subst (λ (ns : List ℕ). HaveRoom ns mid.mixes) (sym limits) (subst (HaveRoom p.limits) (sym mixes) taken.ready.fit.room);
      fits = λ s less. subst (λ (ts : List TableState). length (rules_there ts s) ≤ capacity_of net s) (sym tables) (taken.ready.fit.fits s less);
      clear = λ s. subst (λ (ts : List TableState). IsClear (rules_there ts s)) (sym tables) (taken.ready.fit.clear s);
    };
    within = within;
    others = λ o less ne. subst (λ (cs : List Change). IsMixed (rules_there mid.tables o) (changes_at o cs) (mix_at mid.mixes o)) (sym left)
        (subst (λ (cs : List Change). IsMixed (rules_there mid.tables o) cs (mix_at mid.mixes o)) (more_there round c o ne) (mixed_there o less));
  }

  -- and its own for it too
  pub here_left : IsMixed (rules_there mid.tables (switch_of c)) (taken_and mid c) (mix_at mid.mixes (switch_of c))
  here_left =
      subst (λ (cs : List Change). IsMixed (rules_there mid.tables (switch_of c)) (changes_at (switch_of c) cs ++ c ∷ []) (mix_at mid.mixes (switch_of c))) (sym left)
      (subst (λ (cs : List Change). IsMixed (rules_there mid.tables (switch_of c)) cs (mix_at mid.mixes (switch_of c))) (more_here round c) (mixed_there (switch_of c) within))

  -- the changes before it fit
  pub fit_left : (q : PreparedState) → rules_of_all q.tables ≡ rules_of_all mid.tables → q.round ≡ mid.round → FitTables net (rules_of_all q.tables) q.round
  fit_left q rules same =
      subst (FitTables net (rules_of_all q.tables)) (sym (same ∙ left))
      (subst (λ (ts : List (List Rule)). FitTables net ts round) (sym (rules ∙ ap rules_of_all tables))
      (fit_less net (rules_of_all p.tables) round c (subst (FitTables net (rules_of_all p.tables)) last taken.fit)))

-- without its last member a list is what stood before it
pub popped : (xs ys : List Change) (x : Change) (n : ℕ) → xs ≡ ys ++ x ∷ [] → n ≡ length xs → take (n - 1) xs ≡ ys
popped xs ys x n are count =
    ap (λ (zs : List Change). take (n - 1) zs) are ∙ front ys (n - 1) (let l = ap (λ (zs : List Change). length zs) are in let m = length-append ys (x ∷ []) in omega arith)
  where
    front : (zs : List Change) (k : ℕ) → k ≡ length zs → take k (zs ++ x ∷ []) ≡ zs
    front [] zero e = refl
    front [] (suc k) e = absurd (omega arith)
    front (z ∷ zs) zero e = absurd (omega arith)
    front (z ∷ zs) (suc k) e = ap (λ ws. z ∷ ws) (front zs k (omega arith))
