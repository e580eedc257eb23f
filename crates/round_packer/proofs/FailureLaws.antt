-- A failure stands while more changes are taken, and after a round no change of which meets its class.
use Rattle.std.proofs.Common.{◌≡◌, ℕ, Bool, true, false, List, [], ◌∷◌, ◌++◌, refl, sym, ◌∙◌, subst, ap}
use Rattle.std.specs.Prelude.{◌&&◌, ◌==◌, not}
use Rattle.std.specs.List.{AllByRecursion, list_any}
use Rattle.std.proofs.lemmas.Bool.{and_parts, or_parts, cond_both, not-true, false≢true, eqb-true}
use Rattle.std.proofs.lemmas.List.{append-nil, append_assoc}
use Rattle.std.proofs.lemmas.List.Elements.{filter-append}
use Rattle.net_base.specs.Members.{IsSubsequence}
use Rattle.net_base.proofs.MemberLaws.{IsSubsequence-append, IsSubsequence-push, IsSubsequence_refl, each_weaker, each_append, each_first}
use Rattle.net_base.proofs.NameLaws.{same_switch}
use Rattle.net_base.specs.declared.ids.SwitchId.{SwitchId}
use Rattle.net_base.specs.declared.ids.Place.{Place}
use Rattle.flow_rules.specs.Patterns.{Header, covers}
use Rattle.flow_rules.specs.Tables.{covering_rules, rules_at}
use Rattle.flow_rules.specs.Same.{rule_eq}
use Rattle.flow_rules.specs.declared.rules.Rule.{Rule}
use Rattle.flow_rules.proofs.TableLaws.{rule_eq-true}
use Rattle.path_walk.specs.Outcomes.{header_at}
use Rattle.dest_classes.specs.declared.Class.{Class}
use Rattle.demands.specs.Duties.{duties_of}
use Rattle.update_model.specs.Changes.{rule_of, changes_at, rules_after, rules_after_change, tables_after, IsGoodRound}
use Rattle.update_model.specs.Mixtures.{Rollout, IsOnMixedWalk}
use Rattle.update_model.specs.declared.Change.{Change}
use Rattle.update_model.specs.declared.Change.TheVariants.{Insert, Delete, Replace}
use Rattle.update_model.proofs.ChangeLaws.{rules_at-after}
use Rattle.certificates.specs.Certified.{KeepsVlan}
use Rattle.certificates.specs.Rounds.{one_round_of, IsSafeByEvidence}
use Rattle.certificates.proofs.Fewer.{safe_fewer}
use Rattle.mixed_walks.specs.Walks.{TablesKeepVlans}
use Rattle.mixed_walks.proofs.PlaceLaws.{on_walk_vlan}
use Rattle.class_watch.specs.Walks.{meets, meets_any}
use Rattle.class_watch.specs.Alike.{covering_changes, AreAlike}
use Rattle.class_watch.proofs.CoveringLaws.{covering_kept}
use Rattle.class_watch.proofs.StandLaws.{alike_walks, alike_safe}
use Rattle.table_difference.specs.Targets.{Target}
use Rattle.law_packed_rounds.specs.Packing.{CanStand}
use Rattle.round_mix.proofs.RoundLaws.{within_good}
use Rattle.round_trials.proofs.FitLaws.{at_more}
use Rattle.round_packer.specs.declared.failing.Failure.{Failure}
use Rattle.round_packer.specs.Kept.{HoldsClass, IsFailing, change_eq, unmet_failures}
use Rattle.round_packer.specs.Filling.{HasFailed}
use Rattle.round_packer.proofs.KeptLaws.{keeps_round, none_covering, uncovered}

-- ---- changes that are the same

same_parts : (make : SwitchId → Rule → Change) (s t : SwitchId) (r q : Rule) → (s.0 == t.0 && rule_eq r q) ≡ true → make s r ≡ make t q
same_parts make s t r q e =
    let (switch, rule) = and_parts (s.0 == t.0) (rule_eq r q) e in
    ap (λ (x : SwitchId). make x r) (same_switch s t (eqb-true s.0 t.0 switch)) ∙ ap (make t) (rule_eq-true r q rule)

pub change_eq-true : (a b : Change) → change_eq a b ≡ true → a ≡ b
change_eq-true (Insert s r) (Insert t q) e = same_parts (λ x y. Insert x y) s t r q e
change_eq-true (Insert s r) (Delete t q) e = absurd (false≢true e)
change_eq-true (Insert s r) (Replace t q) e = absurd (false≢true e)
change_eq-true (Delete s r) (Insert t q) e = absurd (false≢true e)
change_eq-true (Delete s r) (Delete t q) e = same_parts (λ x y. Delete x y) s t r q e
change_eq-true (Delete s r) (Replace t q) e = absurd (false≢true e)
change_eq-true (Replace s r) (Insert t q) e = absurd (false≢true e)
change_eq-true (Replace s r) (Delete t q) e = absurd (false≢true e)
change_eq-true (Replace s r) (Replace t q) e = same_parts (λ x y. Replace x y) s t r q e

-- where none passes a test, each fails it
none_any : {A : Type 0} (p : A → Bool) (xs : List A) → list_any p xs ≡ false → AllByRecursion (λ x. p x ≡ false) xs
none_any p [] off = tt
none_any p (x ∷ xs) off = (let both = or_parts (p x) (list_any p xs) off in (both.0, none_any p xs both.1))

-- ---- more changes are taken

module _ (to : Target) (tables : List (List Rule)) (taken : List Change) where
  -- a failure rules its change out
  pub never_beside : (f : Failure) → HasFailed to tables taken f → ¬ CanStand to tables (taken ++ f.change ∷ [])
  never_beside f h can =
      let by = can.safe h.failing.number f.class h.failing.is_class in
      let some : IsSubsequence (h.early ++ f.change ∷ []) (taken ++ f.change ∷ []) =
      subst (λ (cs : List Change). IsSubsequence (h.early ++ f.change ∷ []) (cs ++ f.change ∷ [])) (sym h.are) (IsSubsequence-push h.early (h.early ++ h.late) f.change (IsSubsequence-append h.early h.early h.late (IsSubsequence_refl h.early))) in
      h.failing.never (record {
        numbers = by.numbers;
        sets = by.sets;
        safe = safe_fewer to.net tables (h.early ++ f.change ∷ []) (taken ++ f.change ∷ []) some f.class.first f.class.entry _ by.numbers by.sets by.safe;
      })

  -- it stands beside one more
  pub failed_more : (c : Change) (f : Failure) → HasFailed to tables taken f → HasFailed to tables (taken ++ c ∷ []) f
  failed_more c f h = record {
    early = h.early;
    late = h.late ++ c ∷ [];
    are = ap (λ (cs : List Change). cs ++ c ∷ []) h.are ∙ append_assoc h.early h.late (c ∷ []);
    keeps = h.keeps;
    failing = h.failing;
  }

  pub all_more : (c : Change) (fs : List Failure) → AllByRecursion (HasFailed to tables taken) fs → AllByRecursion (HasFailed to tables (taken ++ c ∷ [])) fs
  all_more c fs all = each_weaker (HasFailed to tables taken) (HasFailed to tables (taken ++ c ∷ [])) (failed_more c) fs all

  -- a failure that was found
  pub failed_here : (f : Failure) → KeepsVlan (rule_of f.change).action → IsFailing to tables (taken ++ f.change ∷ []) f → HasFailed to tables taken f
  failed_here f keeps failing = record { early = taken; late = []; are = sym (append-nil taken); keeps = keeps; failing = failing }

-- ---- after a round

-- changes that don't cover the header leave the covering rules as they are
covering_all : (h : Header) (made : List Change) (rules : List Rule) → AllByRecursion (λ c. covers (rule_of c).key.pattern h ≡ false) made → covering_rules h (rules_after made rules) ≡ covering_rules h rules
covering_all h [] rules off = refl
covering_all h (c ∷ made) rules off = covering_all h made (rules_after_change c rules) off.1 ∙ covering_kept h c off.0 rules

module _ (to : Target) (tables : List (List Rule)) (rules : TablesKeepVlans tables) (early late : List Change) (good : IsGoodRound tables (early ++ late)) (c : Change)
    (keeps : AllByRecursion (λ d. KeepsVlan (rule_of d).action) (early ++ c ∷ [])) (class : Class) (set : ℕ) (held : HoldsClass to.net tables (early ++ c ∷ []) class set)
    (off : AllByRecursion (λ d. meets d class set ≡ false) (early ++ late)) where
  abbrev before : Rollout
  before = one_round_of to.net tables (early ++ c ∷ [])

  abbrev after : Rollout
  after = one_round_of to.net (tables_after (early ++ late) tables) (c ∷ [])

  vlan_is : (place : Place) → IsOnMixedWalk before 0 class.first class.entry place → place.vlan ≡ class.entry.vlan
  vlan_is place on = on_walk_vlan before 0 class.first class.entry rules (keeps_round to.net tables (early ++ c ∷ []) keeps) place on

  -- beside the first changes before the round, and alone after it, the same covers packets of the class
  alike : AreAlike before 0 after 0 class
  alike = record {
    net = refl;
    each = λ place on.
        let h = header_at place class.first in
        let s = place.switch in
        record {
          rules = sym (ap (covering_rules h) (rules_at-after (early ++ late) tables s (within_good tables (early ++ late) good.applies))
              ∙ covering_all h (changes_at s (early ++ late)) (rules_at tables s) (uncovered (early ++ late) class set place (vlan_is place on) (held place on) off));
          changes = ap (covering_changes h) (at_more s early c) ∙ filter-append (λ (d : Change). covers (rule_of d).key.pattern h) (changes_at s early) (changes_at s (c ∷ []))
              ∙ ap (λ (ds : List Change). ds ++ covering_changes h (changes_at s (c ∷ [])))
              (none_covering h (changes_at s early) (uncovered early class set place (vlan_is place on) (held place on) (each_first (λ d. meets d class set ≡ false) early late off)));
        };
  }

  held_alone : HoldsClass to.net (tables_after (early ++ late) tables) (c ∷ []) class set
  held_alone place on = held place ((alike_walks before after 0 0 class alike place).0 on)

  safe_before : IsSafeByEvidence to.net to.demands (tables_after (early ++ late) tables) (c ∷ []) class → IsSafeByEvidence to.net to.demands tables (early ++ c ∷ []) class
  safe_before by = record {
    numbers = by.numbers;
    sets = by.sets;
    safe = (alike_safe before after 0 0 class alike (duties_of to.demands class.entry class.first) by.numbers by.sets).0 by.safe;
  }

-- a failure stands after a round no change of which meets its class
pub failed_after : (to : Target) (tables : List (List Rule)) → TablesKeepVlans tables → (round : List Change) → AllByRecursion (λ d. KeepsVlan (rule_of d).action) round → IsGoodRound tables round
    → (f : Failure) → meets_any round f.class f.visited ≡ false → HasFailed to tables round f → HasFailed to (tables_after round tables) [] f
failed_after to tables rules round keeps good f off h =
    let early = h.early in
    let late = h.late in
    let good_parts : IsGoodRound tables (early ++ late) = subst (IsGoodRound tables) h.are good in
    let off_parts : AllByRecursion (λ d. meets d f.class f.visited ≡ false) (early ++ late) =
    subst (AllByRecursion (λ d. meets d f.class f.visited ≡ false)) h.are (none_any (λ (d : Change). meets d f.class f.visited) round off) in
    let keep : AllByRecursion (λ d. KeepsVlan (rule_of d).action) (early ++ f.change ∷ []) =
    each_append (λ (d : Change). KeepsVlan (rule_of d).action) early (f.change ∷ [])
    (each_first (λ (d : Change). KeepsVlan (rule_of d).action) early late (subst (AllByRecursion (λ (d : Change). KeepsVlan (rule_of d).action)) h.are keeps)) (h.keeps, tt) in
    record {
      early = [];
      late = [];
      are = refl;
      keeps = h.keeps;
      failing = subst (λ (cs : List Change). IsFailing to (tables_after cs tables) (f.change ∷ []) f) (sym h.are) (record {
        number = h.failing.number;
        is_class = h.failing.is_class;
        never = λ by. h.failing.never (safe_before to tables rules early late good_parts f.change keep f.class f.visited h.failing.held off_parts by);
        held = held_alone to tables rules early late good_parts f.change keep f.class f.visited h.failing.held off_parts;
      });
    }

-- so for all of them
pub unmet_stand : (to : Target) (tables : List (List Rule)) → TablesKeepVlans tables → (round : List Change) → AllByRecursion (λ d. KeepsVlan (rule_of d).action) round → IsGoodRound tables round
    → (fs : List Failure) → AllByRecursion (HasFailed to tables round) fs → AllByRecursion (HasFailed to (tables_after round tables) []) (unmet_failures round fs)
unmet_stand to tables rules round keeps good [] all = tt
unmet_stand to tables rules round keeps good (f ∷ fs) all =
    let rest = unmet_stand to tables rules round keeps good fs all.1 in
    cond_both (not (meets_any round f.class f.visited)) (f ∷ unmet_failures round fs) (unmet_failures round fs) (AllByRecursion (HasFailed to (tables_after round tables) []))
    (λ on. (failed_after to tables rules round keeps good f (not-true (meets_any round f.class f.visited) on) all.0, rest)) (λ _. rest)
