-- The search of an update of destination trees isn't stuck.
use Rattle.std.proofs.Common.{◌≡◌, ℕ, zero, suc, ◌+◌, ◌<◌, true, false, cond, List, [], ◌∷◌, length, get_or, refl, sym, ◌∙◌, subst, ap, inl, arith}
use Rattle.std.specs.Prelude.{◌==◌, filter, ◌≢◌}
use Rattle.net_base.specs.Members.{IsIn}
use Rattle.net_base.proofs.MemberLaws.{in_map, each_at}
use Rattle.net_base.specs.declared.ids.SwitchId.{SwitchId}
use Rattle.topology.specs.Networks.{IsNetwork}
use Rattle.flow_rules.specs.Tables.{rules_at, keys_of}
use Rattle.flow_rules.specs.declared.rules.Rule.{Rule}
use Rattle.path_walk.specs.Paths.{outcome_in}
use Rattle.path_walk.specs.UserConfigs.{IsUserConfig}
use Rattle.dest_classes.specs.Classes.{ClassList, IsClass}
use Rattle.dest_classes.specs.declared.Class.{Class}
use Rattle.demands.specs.Duties.{duties_of}
use Rattle.update_model.specs.Changes.{changes_at, rules_after, rules_after_change, tables_after, tables_after_change, IsGoodRound}
use Rattle.update_model.specs.Mixtures.{IsMixture, AreGoodRounds}
use Rattle.update_model.specs.Remaining.{remaining_changes, changes_between}
use Rattle.update_model.specs.declared.Change.{Change}
use Rattle.update_model.specs.declared.Change.TheVariants.{Replace}
use Rattle.update_model.proofs.ChangeLaws.{rules_at-after}
use Rattle.certificates.specs.Updates.{Task}
use Rattle.certificates.specs.Certified.{classes_for}
use Rattle.update_model.specs.Mixtures.{is_insert}
use Rattle.certificates.specs.Ordered.{IsSafe}
use Rattle.certificates.specs.Trees.{IsTreeUpdate, IsRemainingReplace}
use Rattle.certificates.proofs.TreeTables.{Fits, unique_in_table}
use Rattle.certificates.proofs.TreeRounds.{AllFit, new_fit, one_fits, mixture_clear}
use Rattle.certificates.proofs.TreeWalks.{FinePath}
use Rattle.certificates.proofs.TreePaths.{fine_from_good, fine_after_round}
use Rattle.certificates.proofs.TreeSteps.{some_replace_is_safe}
use Rattle.table_difference.specs.SameClasses.{HasSameClasses}
use Rattle.round_tables.specs.Trials.{single}
use Rattle.table_difference.specs.Targets.{Target}
use Rattle.round_planner.specs.Search.{Qualifies, AreFirstQualifying, EndsStuck}
use Rattle.round_planner.proofs.ClassKept.{class_kept, same_classes_back}
use Rattle.update_model.proofs.RemainingLaws.{switch_at, in_from_changes, in_changes}
use Rattle.round_planner.proofs.SearchLaws.{first_remains}
use Rattle.round_planner.proofs.DifferingLaws.{differing, differing_in}

within : {A : Type 0} (x : A) (xs : List (List A)) (n : ℕ) → IsIn x (get_or xs n []) → n < length xs
within x [] n i = absurd i
within x (ys ∷ xs) zero i = omega arith
within x (ys ∷ xs) (suc n) i = let h = within x xs n i in omega arith

replaced_length : (s : SwitchId) (next : Rule) (rules : List Rule) → length (rules_after_change (Replace s next) rules) ≡ length rules
replaced_length s next [] = refl
replaced_length s next (q ∷ rules) = ap suc (replaced_length s next rules)

-- what the search of an update is for, with a list of classes
abbrev target_for : Task → ClassList → Target
target_for t classes = record { net = t.update.net; new = t.update.new; demands = t.update.demands; classes = classes }

module _ (t : Task) (tree : IsTreeUpdate t) (is_net : IsNetwork t.update.net) (old_user : IsUserConfig t.update.net t.update.old) (new_user : IsUserConfig t.update.net t.update.new)
    (classes : ClassList) (same : HasSameClasses classes (classes_for t)) where
  abbrev Fit : List (List Rule) → Type 0
  Fit tables = AllFit t tree old_user.distinct new_user.distinct tables

  -- what holds of the tables while the search goes on
  record Progress (tables : List (List Rule)) : Type 0 where
    fit : Fit tables
    fine : (n : ℕ) (class : Class) → IsClass (classes_for t) n class → FinePath (λ p. outcome_in t.update.net tables p class.first) (duties_of t.update.demands class.entry class.first).arrive class.entry
    sizes : (s : SwitchId) → length (rules_at tables s) ≡ length (rules_at t.update.old s)

  start : Progress t.update.old
  start = record {
    fit = λ s. record { keys = tree.same_keys s; unique = unique_in_table (rules_at t.update.old s) (old_user.distinct s) };
    fine = λ n class is. fine_from_good t.update.net t.update.old t.update.demands class.entry class.first (tree.old_good n class is);
    sizes = λ s. refl;
  }

  module _ (tables : List (List Rule)) (p : Progress tables) where
    -- the changes that remain are the remaining replaces
    remaining_replace : (d : Change) → IsIn d (remaining_changes tables t.update.new) → IsRemainingReplace t tables d
    remaining_replace d i =
        let (n, j, _, _) = in_from_changes 0 tables t.update.new d i in
        let s = switch_at n in
        let here : IsIn d (changes_between s (rules_at tables s) (rules_at t.update.new s)) =
        subst (λ m. IsIn d (changes_between (switch_at m) (get_or tables n []) (get_or t.update.new n []))) (let e : 0 + n ≡ n = omega arith in e) j in
        let h = differing s (rules_at tables s) (rules_at t.update.new s) (p.fit s) (new_fit t tree old_user.distinct new_user.distinct s) d here in
        record { switch = s; now = h.rule; next = h.next; is = h.is; stands = h.stands; wanted = h.wanted; same_key = h.same_key; differs = h.differs }

    module _ (c : Change) (r : IsRemainingReplace t tables c) where
      abbrev s : SwitchId
      s = r.switch

      in_tables : s.0 < length tables
      in_tables = within r.now tables s.0 r.stands

      in_new : s.0 < length t.update.new
      in_new = within r.next t.update.new s.0 r.wanted

      remains : IsIn c (remaining_changes tables t.update.new)
      remains =
          subst (λ d. IsIn d (remaining_changes tables t.update.new)) (sym r.is)
          (in_changes 0 tables t.update.new (Replace s r.next) s.0 in_tables in_new
          (subst (λ m. IsIn (Replace s r.next) (changes_between (switch_at m) (get_or tables s.0 []) (get_or t.update.new s.0 []))) (let e : s.0 ≡ 0 + s.0 = omega arith in e)
          (differing_in s (rules_at tables s) (rules_at t.update.new s) (p.fit s) (new_fit t tree old_user.distinct new_user.distinct s) r.now r.next r.stands r.wanted r.same_key r.differs)))

      key_there : IsIn r.next.key (keys_of (rules_at tables s))
      key_there = ((p.fit s).keys r.next.key).1 (in_map (λ x. x.key) r.next (rules_at t.update.new s) r.wanted)

      -- the rules of each switch after the change
      rules_then : (x : SwitchId) → rules_at (tables_after_change c tables) x ≡ rules_after (changes_at x (Replace s r.next ∷ [])) (rules_at tables x)
      rules_then x =
          ap (λ d. rules_at (tables_after_change d tables) x) r.is
          ∙ rules_at-after (Replace s r.next ∷ []) tables x (in_tables, tt)

      good_single : AreGoodRounds (single t.update.net tables c)
      good_single zero less =
          subst (λ d. IsGoodRound tables (d ∷ [])) (sym r.is) (record { applies = ((in_tables, key_there), tt); distinct = (λ i. i, tt) })
      good_single (suc k) less = absurd (omega arith)

      same_length : (x : SwitchId) → length (rules_after (changes_at x (Replace s r.next ∷ [])) (rules_at tables x)) ≡ length (rules_at tables x)
      same_length x =
          elim (s.0 == x.0) as (λ b. length (rules_after (cond b (Replace s r.next ∷ []) []) (rules_at tables x)) ≡ length (rules_at tables x)) [
            | true ↦ replaced_length s r.next (rules_at tables x)
            | false ↦ refl
          ]

      -- after a change that qualifies
      goes_on : Qualifies (target_for t classes) tables c → Progress (tables_after_change c tables)
      goes_on q = record {
        fit = λ x. subst (Fits (rules_at t.update.new x)) (sym (rules_then x)) (one_fits t tree old_user.distinct new_user.distinct x s r.next (rules_at tables x) r.wanted (p.fit x));
        fine = λ n class is.
            let keeps = q.safe n class (class_kept (classes_for t) classes (same_classes_back classes (classes_for t) same) n class is) in
            fine_after_round (single t.update.net tables c) good_single 0 (omega arith) class.first class.entry (duties_of t.update.demands class.entry class.first).arrive keeps.numbers keeps.safe.falls keeps.safe.arrives;
        sizes = λ x. ap length (rules_then x) ∙ same_length x ∙ p.sizes x;
      }

      no_inserts : (x : SwitchId) → length (filter is_insert (changes_at x (c ∷ []))) ≡ 0
      no_inserts x =
          ap (λ d. length (filter is_insert (changes_at x (d ∷ [])))) r.is
          ∙ elim (s.0 == x.0) as (λ b. length (filter is_insert (cond b (Replace s r.next ∷ []) [])) ≡ 0) [ true ↦ refl | false ↦ refl ]

      -- a remaining replace that keeps each class safe qualifies
      qualifies : ((n : ℕ) (class : Class) → IsClass (classes_for t) n class
          → (numbers : List ℕ) × (sets : List (List ℕ)) × IsSafe (single t.update.net tables c) 0 class.first class.entry (duties_of t.update.demands class.entry class.first) numbers sets)
          → Qualifies (target_for t classes) tables c
      qualifies safe = record {
        stands = record {
          clear = λ x mixed held. mixture_clear t tree old_user.distinct new_user.distinct tables p.fit s r.next r.wanted x mixed
              (subst (λ d. IsMixture (rules_at tables x) (changes_at x (d ∷ [])) mixed) r.is held);
          fits = λ x less.
              let most = old_user.fits x less in
              let size = p.sizes x in
              let none = no_inserts x in
              omega arith;
        };
        safe = λ n class is. let (numbers, sets, keeps) = safe n class (class_kept classes (classes_for t) same n class is) in record { numbers = numbers; sets = sets; safe = keeps };
      }

    -- where a change remains, one qualifies
    some_qualifies : (d : Change) → IsIn d (remaining_changes tables t.update.new) → (c : Change) × IsIn c (remaining_changes tables t.update.new) × Qualifies (target_for t classes) tables c
    some_qualifies d i =
        let (c, r, safe) = some_replace_is_safe t tree old_user.distinct new_user.distinct is_net tables p.fit p.fine tables (λ x. (x ∷ []) ∷ []) 0 (λ x. refl) (λ x. refl) d (remaining_replace d i) in
        (c, remains c r, qualifies c r safe)

  -- along the search the tables stay fit and fine
  along : (tables : List (List Rule)) → Progress tables → (changes : List Change) → AreFirstQualifying (target_for t classes) tables changes → Progress (tables_after changes tables)
  along tables p [] found = p
  along tables p (c ∷ changes) found =
      let r = remaining_replace tables p c (first_remains (target_for t classes) tables (remaining_changes tables t.update.new) c found.0) in
      along (tables_after_change c tables) (goes_on tables p c r found.0.qualifies) changes found.1

  some_in : (changes : List Change) → changes ≢ [] → (d : Change) × IsIn d changes
  some_in [] ne = absurd (ne refl)
  some_in (d ∷ changes) ne = (d, inl refl)

  -- the search isn't stuck
  pub not_stuck : (changes : List Change) → ¬ EndsStuck (target_for t classes) t.update.old changes
  not_stuck changes stuck =
      let now = tables_after changes t.update.old in
      let p = along t.update.old start changes stuck.found in
      let (d, i) = some_in (remaining_changes now t.update.new) stuck.some_remain in
      let (c, j, q) = some_qualifies now p d i in
      each_at (λ x. ¬ Qualifies (target_for t classes) now x) (remaining_changes now t.update.new) c stuck.none_qualifies j q
