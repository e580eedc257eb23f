-- A class beside one more change, beside one less, and after a round.
use Rattle.std.proofs.Common.{◌≡◌, ℕ, zero, suc, true, false, List, [], ◌∷◌, ◌++◌, IsTrue, refl, sym, ◌∙◌, subst, ap, arith}
use Rattle.std.specs.Prelude.{◌&&◌, ◌==◌}
use Rattle.std.specs.List.{AllByRecursion}
use Rattle.std.proofs.lemmas.Bool.{both_ways, and_from, cond-false, eqb-true}
use Rattle.std.proofs.lemmas.List.{append-nil}
use Rattle.std.proofs.lemmas.List.Elements.{filter-append}
use Rattle.net_base.specs.Members.{IsSubsequence}
use Rattle.net_base.specs.Switches.{has}
use Rattle.net_base.proofs.MemberLaws.{each_at, each_from_in, in_from_filter}
use Rattle.net_base.specs.declared.ids.Place.{Place}
use Rattle.topology.specs.Networks.{Network}
use Rattle.flow_rules.specs.Patterns.{Header, covers}
use Rattle.flow_rules.specs.declared.rules.Rule.{Rule}
use Rattle.path_walk.specs.Outcomes.{header_at}
use Rattle.path_walk.specs.declared.Outcome.{Outcome}
use Rattle.dest_classes.specs.declared.Class.{Class}
use Rattle.demands.specs.Duties.{duties_of}
use Rattle.update_model.specs.Changes.{switch_of, rule_of, changes_at, tables_after, IsGoodRound}
use Rattle.update_model.specs.Mixtures.{Rollout, IsPossible, IsOnMixedWalk}
use Rattle.update_model.specs.declared.Change.{Change}
use Rattle.certificates.specs.Certified.{KeepsVlan}
use Rattle.certificates.specs.Rounds.{one_round_of, IsSafeByEvidence}
use Rattle.check_reasons.specs.Touched.{may_cover}
use Rattle.check_reasons.proofs.TouchLaws.{not_covered}
use Rattle.check_reasons.proofs.SameWalks.{was_on_walk}
use Rattle.mixed_walks.specs.Walks.{KeepVlansUpTo, TablesKeepVlans}
use Rattle.mixed_walks.proofs.PlaceLaws.{on_walk_vlan}
use Rattle.class_watch.specs.Walks.{at_rest, meets}
use Rattle.class_watch.specs.Alike.{covering_changes, AreAlike}
use Rattle.class_watch.proofs.StandLaws.{alike_walks, alike_safe, safe_after, held_after}
use Rattle.table_difference.specs.Targets.{Target}
use Rattle.round_tables.proofs.FitLaws.{at_more, part_longer}
use Rattle.round_packer.specs.Kept.{HoldsClass, IsKeptSafe}

-- where no change covers a header, none of them is among those that do
pub none_covering : (h : Header) (changes : List Change) → AllByRecursion (λ d. covers (rule_of d).key.pattern h ≡ false) changes → covering_changes h changes ≡ []
none_covering h [] off = refl
none_covering h (d ∷ changes) off =
    cond-false (covers (rule_of d).key.pattern h) (d ∷ covering_changes h changes) (covering_changes h changes) off.0 ∙ none_covering h changes off.1

-- changes that don't meet the class cover none of its packets at a switch of the set
pub uncovered : (changes : List Change) (class : Class) (set : ℕ) (place : Place) → place.vlan ≡ class.entry.vlan → IsTrue (has set place.switch) → AllByRecursion (λ d. meets d class set ≡ false) changes
    → AllByRecursion (λ d. covers (rule_of d).key.pattern (header_at place class.first) ≡ false) (changes_at place.switch changes)
uncovered changes class set place vlan there off =
    each_from_in (λ d. covers (rule_of d).key.pattern (header_at place class.first) ≡ false) (changes_at place.switch changes) (λ d i.
    let (among, here) = in_from_filter (λ (e : Change). (switch_of e).0 == place.switch.0) d changes i in
    let at : has set (switch_of d) ≡ true = subst (λ n. has set (record { 0 = n }) ≡ true) (sym (eqb-true (switch_of d).0 place.switch.0 here)) there in
    not_covered d class place vlan
    (λ covered. both_ways (may_cover d class && has set (switch_of d)) (each_at (λ (e : Change). meets e class set ≡ false) changes d off among) (and_from (may_cover d class) (has set (switch_of d)) covered at)))

-- one round that keeps the VLANs
pub keeps_round : (net : Network) (tables : List (List Rule)) (changes : List Change) → AllByRecursion (λ c. KeepsVlan (rule_of c).action) changes → KeepVlansUpTo (one_round_of net tables changes) 0
keeps_round net tables changes keeps zero le = keeps
keeps_round net tables changes keeps (suc j) le = tt

module _ (net : Network) (tables : List (List Rule)) (taken : List Change) (c : Change) where
  abbrev before : Rollout
  before = one_round_of net tables taken

  abbrev beside : Rollout
  beside = one_round_of net tables (taken ++ c ∷ [])

  -- what is possible without the change is possible beside it
  possible_beside : (dst : ℕ) (place : Place) (found : Outcome) → IsPossible before 0 dst place found → IsPossible beside 0 dst place found
  possible_beside dst place found may = record {
    mixed = may.mixed;
    held = record {
      made = may.held.made;
      some = subst (IsSubsequence may.held.made) (sym (at_more place.switch taken c)) (part_longer may.held.made (changes_at place.switch taken) (changes_at place.switch (c ∷ [])) may.held.some);
      same = may.held.same;
    };
    is = may.is;
  }

  -- a set that has the switches of the walks beside the change has those without it
  pub held_without : (class : Class) (set : ℕ) → HoldsClass net tables (taken ++ c ∷ []) class set → HoldsClass net tables taken class set
  held_without class set held place on = held place (was_on_walk beside before 0 0 class.first class.entry (λ p _ found. possible_beside class.first p found) place on)

  module _ (keeps_rules : TablesKeepVlans tables) (keeps : AllByRecursion (λ d. KeepsVlan (rule_of d).action) taken) (class : Class) (set : ℕ) (held : HoldsClass net tables taken class set)
      (off : meets c class set ≡ false) where
    same_covering : (place : Place) → IsOnMixedWalk before 0 class.first class.entry place
        → covering_changes (header_at place class.first) (changes_at place.switch taken) ≡ covering_changes (header_at place class.first) (changes_at place.switch (taken ++ c ∷ []))
    same_covering place on =
        let h = header_at place class.first in
        let here = changes_at place.switch taken in
        let more = changes_at place.switch (c ∷ []) in
        let vlan = on_walk_vlan before 0 class.first class.entry keeps_rules (keeps_round net tables taken keeps) place on in
        let none : covering_changes h more ≡ [] = none_covering h more (uncovered (c ∷ []) class set place vlan (held place on) (off, tt)) in
        sym (ap (covering_changes h) (at_more place.switch taken c) ∙ filter-append (λ (d : Change). covers (rule_of d).key.pattern h) here more
        ∙ ap (λ (ds : List Change). covering_changes h here ++ ds) none ∙ append-nil (covering_changes h here))

    alike : AreAlike before 0 beside 0 class
    alike = record { net = refl; each = λ place on. record { rules = refl; changes = same_covering place on } }

    pub held_unmet : HoldsClass net tables (taken ++ c ∷ []) class set
    held_unmet place on = held place ((alike_walks before beside 0 0 class alike place).0 on)

    pub safe_unmet : (to : Target) → to.net ≡ net → IsSafeByEvidence net to.demands tables taken class → IsSafeByEvidence net to.demands tables (taken ++ c ∷ []) class
    safe_unmet to _ by = record {
      numbers = by.numbers;
      sets = by.sets;
      safe = (alike_safe before beside 0 0 class alike (duties_of to.demands class.entry class.first) by.numbers by.sets).1 by.safe;
    }

-- a class that the change meets at no switch that its walks come to stays as it is
pub kept_unmet : (to : Target) (tables : List (List Rule)) (taken : List Change) (c : Change) → TablesKeepVlans tables → AllByRecursion (λ d. KeepsVlan (rule_of d).action) taken
    → (class : Class) (set : ℕ) → meets c class set ≡ false → IsKeptSafe to tables taken class set → IsKeptSafe to tables (taken ++ c ∷ []) class set
kept_unmet to tables taken c rules keeps class set off kept = record {
  safe = safe_unmet to.net tables taken c rules keeps class set kept.held off to refl kept.safe;
  held = held_unmet to.net tables taken c rules keeps class set kept.held off;
}

-- ---- after a round

-- a class that is kept in a round is kept after it
pub kept_after : (to : Target) (tables : List (List Rule)) (round : List Change) → IsGoodRound tables round → (class : Class) (set : ℕ) → IsKeptSafe to tables round class set
    → IsKeptSafe to (tables_after round tables) [] class set
kept_after to tables round good class set kept =
    let u = one_round_of to.net tables round in
    let rest = at_rest to.net (tables_after round tables) in
    let none = one_round_of to.net (tables_after round tables) [] in
    let same : AreAlike rest 0 none 0 class = record { net = refl; each = λ place on. record { rules = refl; changes = refl } } in
    record {
      safe = record {
        numbers = kept.safe.numbers;
        sets = kept.safe.sets;
        safe = (alike_safe rest none 0 0 class same (duties_of to.demands class.entry class.first) kept.safe.numbers kept.safe.sets).1
            (safe_after u 0 class (omega arith) good (duties_of to.demands class.entry class.first) kept.safe.numbers kept.safe.sets kept.safe.safe);
      };
      held = λ place on. held_after u 0 class set kept.held (omega arith) good place ((alike_walks rest none 0 0 class same place).0 on);
    }
