-- A failure of a change stands while nothing touches what it rests on.
use Rattle.std.proofs.Common.{◌≡◌, ◌≢◌, ℕ, zero, suc, ◌<◌, ◌≤◌, List, [], ◌∷◌, length, refl, sym, ◌∙◌, subst, ap, inl, inr, arith, length-set, get_or-set_other}
use Rattle.std.specs.Prelude.{◌==◌, IsTrue}
use Rattle.std.specs.List.{AllByRecursion}
use Rattle.std.proofs.lemmas.Bool.{cases_eq, eq-eqb, and_from, cond-true}
use Rattle.net_base.proofs.MemberLaws.{each_weaker}
use Rattle.net_base.proofs.NameLaws.{same_switch}
use Rattle.net_base.specs.declared.ids.SwitchId.{SwitchId}
use Rattle.net_base.specs.declared.ids.Place.{Place}
use Rattle.topology.specs.Networks.{Network, switch_count, capacity_of}
use Rattle.flow_rules.specs.Tables.{IsClear, rules_at, rules_of_all, covering_rules}
use Rattle.flow_rules.specs.declared.rules.Rule.{Rule}
use Rattle.path_walk.specs.Outcomes.{header_at}
use Rattle.dest_classes.specs.declared.Class.{Class}
use Rattle.update_model.specs.Changes.{switch_of, rule_of, rules_after_change, tables_after_change, tables_after, changes_at, round_after}
use Rattle.update_model.specs.Mixtures.{Rollout, IsMixture, MayHold, IsOnMixedWalk, need_of, entries_needed}
use Rattle.update_model.specs.declared.Change.{Change}
use Rattle.update_model.proofs.ChangeLaws.{rules_at-after_change}
use Rattle.certificates.specs.Certified.{KeepsVlan}
use Rattle.check_reasons.specs.Touched.{may_cover}
use Rattle.check_reasons.proofs.TouchLaws.{not_covered}
use Rattle.mixed_walks.specs.Walks.{TablesKeepVlans}
use Rattle.mixed_walks.proofs.PlaceLaws.{on_walk_vlan}
use Rattle.round_tables.specs.PreparedTables.{PreparedState}
use Rattle.round_tables.specs.Trials.{single, HasRoomAlone, IsBetweenTrials}
use Rattle.round_tables.proofs.StepLaws.{changes_here, changes_there}
use Rattle.round_mix.proofs.TriedLaws.{clear_none}
use Rattle.table_difference.specs.Targets.{Target}
use Rattle.round_judge.specs.Goals.{duties_in}
use Rattle.update_model.proofs.HeldLaws.{each_tables_after}
use Rattle.round_planner.specs.Search.{CanBeSafe, Qualifies}
use Rattle.net_base.specs.Switches.{has}
use Rattle.class_watch.specs.Alike.{AreAlike}
use Rattle.class_watch.proofs.CoveringLaws.{covering_kept}
use Rattle.class_watch.proofs.StandLaws.{alike_walks, alike_safe}
use Rattle.round_planner.specs.Failures.{HasRoomThere, IsTouched, IsApart, IsFailure}
use Rattle.round_planner.specs.declared.failing.Failure.{Failure}
use Rattle.round_planner.specs.declared.failing.Failure.TheVariants as failure

-- the rules of another switch than the change's stay
other_rules : (d : Change) (tables : List (List Rule)) (s : SwitchId) → s.0 ≢ (switch_of d).0 → rules_at (tables_after_change d tables) s ≡ rules_at tables s
other_rules d tables s ne = get_or-set_other tables (switch_of d).0 s.0 (rules_after_change d (rules_at tables (switch_of d))) [] ne

-- ---- room in the table

module _ (net : Network) (tables : List (List Rule)) (c : Change) where
  -- room alone is room in the table
  pub room_there : HasRoomAlone net tables c → HasRoomThere net tables c
  room_there alone = record {
    clear = λ mixed held. alone.clear (switch_of c) mixed (subst (λ (cs : List Change). IsMixture (rules_at tables (switch_of c)) cs mixed) (sym (changes_here c)) held);
    fits = λ within. subst (λ (cs : List Change). entries_needed (rules_at tables (switch_of c)) cs ≤ capacity_of net (switch_of c)) (changes_here c) (alone.fits (switch_of c) within);
  }

  -- and room in the table is room alone, where the tables are clear and within capacity
  module _ (clear : (s : SwitchId) → IsClear (rules_at tables s)) (fits : (s : SwitchId) → s.0 < switch_count net → length (rules_at tables s) ≤ capacity_of net s) where
    pub room_alone_from : HasRoomThere net tables c → HasRoomAlone net tables c
    room_alone_from there = record { clear = clear_each; fits = fits_each }
      where
        clear_each : (s : SwitchId) (mixed : List Rule) → MayHold (single net tables c) 0 s mixed → IsClear mixed
        clear_each s mixed held =
            elim (cases_eq s.0 (switch_of c).0) [
              | inl e ↦
                  let same : s ≡ switch_of c = same_switch s (switch_of c) e in
                  there.clear mixed (subst (λ (cs : List Change). IsMixture (rules_at tables (switch_of c)) cs mixed) (changes_here c)
                  (subst (λ (x : SwitchId). IsMixture (rules_at tables x) (changes_at x (c ∷ [])) mixed) same held))
              | inr ne ↦ clear_none (rules_at tables s) (clear s) mixed (subst (λ (cs : List Change). IsMixture (rules_at tables s) cs mixed) (changes_there c s ne) held)
            ]

        fits_each : (s : SwitchId) → s.0 < switch_count net → need_of (single net tables c) 0 s ≤ capacity_of net s
        fits_each s within =
            elim (cases_eq s.0 (switch_of c).0) [
              | inl e ↦
                  let same : switch_of c ≡ s = sym (same_switch s (switch_of c) e) in
                  subst (λ (x : SwitchId). entries_needed (rules_at tables x) (changes_at x (c ∷ [])) ≤ capacity_of net x) same
                  (subst (λ (cs : List Change). entries_needed (rules_at tables (switch_of c)) cs ≤ capacity_of net (switch_of c)) (sym (changes_here c))
                  (there.fits (subst (λ (x : SwitchId). x.0 < switch_count net) (sym same) within)))
              | inr ne ↦
                  let had = fits s within in
                  subst (λ (cs : List Change). entries_needed (rules_at tables s) cs ≤ capacity_of net s) (sym (changes_there c s ne)) (omega arith)
            ]

  -- a change at another switch leaves it as it is
  pub room_back : (d : Change) → (switch_of c).0 ≢ (switch_of d).0 → HasRoomThere net (tables_after_change d tables) c → HasRoomThere net tables c
  room_back d apart there =
      let same = other_rules d tables (switch_of c) apart in
      record {
        clear = λ mixed held. there.clear mixed (subst (λ (rs : List Rule). IsMixture rs (c ∷ []) mixed) (sym same) held);
        fits = λ within. subst (λ (rs : List Rule). entries_needed rs (c ∷ []) ≤ capacity_of net (switch_of c)) same (there.fits within);
      }

-- where no room was found for a change that is tried there is none in its table
pub no_room : (net : Network) (t : PreparedState) (tables : List (List Rule)) (c : Change) → IsBetweenTrials net t → rules_of_all t.tables ≡ tables → ¬ HasRoomAlone net tables c → ¬ HasRoomThere net tables c
no_room net t tables c settled are none there =
    none (room_alone_from net tables c (λ s. subst (λ (ts : List (List Rule)). IsClear (rules_at ts s)) are (settled.fit.clear s))
    (λ s within. subst (λ (ts : List (List Rule)). length (rules_at ts s) ≤ capacity_of net s) are (settled.fit.fits s within)) there)

-- ---- a class that is not safe

module _ (to : Target) (tables : List (List Rule)) (c : Change) (keeps_rules : TablesKeepVlans tables) (keeps : KeepsVlan (rule_of c).action) (class : Class) where
  abbrev u : Rollout
  u = single to.net tables c

  keep_rounds : (j : ℕ) → AllByRecursion (λ d. KeepsVlan (rule_of d).action) (round_after j u.rounds)
  keep_rounds zero = (keeps, tt)
  keep_rounds (suc j) = tt

  module _ (d : Change) (within : (switch_of d).0 < length tables) (apart : IsApart to tables c class d) where
    abbrev v : Rollout
    v = single to.net (tables_after_change d tables) c

    -- the same rules cover a packet of the class where its mixed walks come to
    same_covering : (place : Place) → IsOnMixedWalk u 0 class.first class.entry place
        → covering_rules (header_at place class.first) (rules_at (tables_after_change d tables) place.switch) ≡ covering_rules (header_at place class.first) (rules_at tables place.switch)
    same_covering place on =
        elim (cases_eq place.switch.0 (switch_of d).0) [
          | inl e ↦
              let off : ¬ IsTrue (may_cover d class) = apart place on (same_switch place.switch (switch_of d) e) in
              ap (covering_rules (header_at place class.first)) (rules_at-after_change d tables place.switch within
              ∙ cond-true ((switch_of d).0 == place.switch.0) (rules_after_change d (rules_at tables place.switch)) (rules_at tables place.switch) (eq-eqb (switch_of d).0 place.switch.0 (sym e)))
              ∙ covering_kept (header_at place class.first) d (not_covered d class place (on_walk_vlan u 0 class.first class.entry keeps_rules (λ j _. keep_rounds j) place on) off) (rules_at tables place.switch)
          | inr ne ↦ ap (covering_rules (header_at place class.first)) (other_rules d tables place.switch ne)
        ]

    -- so both rounds are alike for the class
    alike : AreAlike u 0 v 0 class
    alike = record { net = refl; each = λ place on. record { rules = sym (same_covering place on); changes = refl } }

    -- evidence that keeps the class safe after the change does before it
    pub safe_back : CanBeSafe to (tables_after_change d tables) c class → CanBeSafe to tables c class
    safe_back can = record {
      numbers = can.numbers;
      sets = can.sets;
      safe = (alike_safe u v 0 0 class alike (duties_in to class) can.numbers can.sets).0 can.safe;
    }

    -- and its mixed walks are the same
    pub walk_same : (place : Place) → IsOnMixedWalk v 0 class.first class.entry place → IsOnMixedWalk u 0 class.first class.entry place
    walk_same place = (alike_walks u v 0 0 class alike place).0

-- ---- a failure, after one change

pub failure_stands : (to : Target) (tables : List (List Rule)) (c : Change) → TablesKeepVlans tables → KeepsVlan (rule_of c).action → (d : Change) → (switch_of d).0 < length tables
    → (f : Failure) → ¬ IsTouched (switch_of c) d f → IsFailure to tables c f → IsFailure to (tables_after_change d tables) c f
failure_stands to tables c keeps_rules keeps d within failure.Table untouched fails =
    λ room. fails (room_back to.net tables c d (λ e. untouched (sym e)) room)
failure_stands to tables c keeps_rules keeps d within (failure.Class f) untouched fails =
    let apart : IsApart to tables c f.class d = λ place on at covers_it.
    untouched (and_from (may_cover d f.class) (has f.visited (switch_of d)) covers_it (subst (λ (x : SwitchId). IsTrue (has f.visited x)) at (fails.visits place on))) in
    record {
      is_class = fails.is_class;
      never = λ can. fails.never (safe_back to tables c keeps_rules keeps f.class d within apart can);
      visits = λ place on. fails.visits place (walk_same to tables c keeps_rules keeps f.class d within apart place on);
    }

-- a failure rules the change out
pub fails_then : (to : Target) (tables : List (List Rule)) (c : Change) (f : Failure) → IsFailure to tables c f → ¬ Qualifies to tables c
fails_then to tables c failure.Table fails q = fails (room_there to.net tables c q.stands)
fails_then to tables c (failure.Class f) fails q = fails.never (q.safe f.number f.class fails.is_class)

-- ---- after several changes

pub never_room : (net : Network) (c : Change) (changes : List Change) (tables : List (List Rule)) → ¬ HasRoomThere net tables c → AllByRecursion (λ d. (switch_of d).0 ≢ (switch_of c).0) changes
    → ¬ HasRoomThere net (tables_after changes tables) c
never_room net c [] tables none apart = none
never_room net c (d ∷ changes) tables none apart =
    never_room net c changes (tables_after_change d tables) (λ room. none (room_back net tables c d (λ e. apart.0 (sym e)) room)) apart.1

module _ (to : Target) (c : Change) (keeps : KeepsVlan (rule_of c).action) (class : Class) where
  -- a change that keeps the VLANs, at a switch of the tables, and covers the class at none that its mixed walks come to
  abbrev pub LeavesWalks : List (List Rule) → Change → Type 0
  LeavesWalks tables d = KeepsVlan (rule_of d).action × ((switch_of d).0 < length tables) × IsApart to tables c class d

  pub never_safe : (changes : List Change) (tables : List (List Rule)) → TablesKeepVlans tables → AllByRecursion (LeavesWalks tables) changes → ¬ CanBeSafe to tables c class
      → ¬ CanBeSafe to (tables_after changes tables) c class
  never_safe [] tables rules apart never = never
  never_safe (d ∷ changes) tables rules apart never =
      let (kept, within, off) = apart.0 in
      never_safe changes (tables_after_change d tables) (each_tables_after (λ r. KeepsVlan r.action) (d ∷ []) tables rules (kept, tt))
      (each_weaker (LeavesWalks tables) (LeavesWalks (tables_after_change d tables))
      (λ e h. (
        h.0,
        subst (λ n. (switch_of e).0 < n) (sym (length-set tables (switch_of d).0 (rules_after_change d (rules_at tables (switch_of d))))) h.1,
        λ place on at covers_it. h.2 place (walk_same to tables c rules keeps class d within off place on) at covers_it,
      )) changes apart.1)
      (λ can. never (safe_back to tables c rules keeps class d within off can))
