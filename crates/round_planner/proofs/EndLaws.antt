-- What the end of a search is worth: the plan is valid and certified.
use Rattle.std.proofs.Common.{◌≡◌, ℕ, zero, suc, ◌+◌, ◌<◌, ◌≤◌, true, false, cond, List, [], ◌∷◌, ◌++◌, length, get_or, refl, sym, ◌∙◌, subst, ap, inl, inr, arith}
use Rattle.std.proofs.lemmas.List.Sums.{sum_by-cons}
use Rattle.std.specs.Prelude.{sum_by, Option, Some, None}
use Rattle.std.specs.List.{AllByRecursion}
use Rattle.std.proofs.lemmas.Bool.{cases_lt}
use Rattle.net_base.specs.Members.{IsIn, IsSameSet}
use Rattle.net_base.proofs.MemberLaws.{each_at, each_weaker, each_from_in, in_map, in_append_left, in_append_right}
use Rattle.net_base.proofs.ListLaws.{in_filter_map}
use Rattle.net_base.specs.Blocks.{Block}
use Rattle.net_base.specs.declared.ids.SwitchId.{SwitchId}
use Rattle.topology.specs.Networks.{IsNetwork, switch_count, capacity_of}
use Rattle.flow_rules.specs.Same.{action_eq}
use Rattle.flow_rules.specs.Tables.{rules_at, keys_of, table_blocks}
use Rattle.flow_rules.specs.declared.rules.Key.{Key}
use Rattle.flow_rules.specs.declared.rules.Rule.{Rule}
use Rattle.path_walk.specs.UserConfigs.{IsUserConfig}
use Rattle.dest_classes.specs.Classes.{IsClass}
use Rattle.dest_classes.specs.declared.Class.{Class}
use Rattle.demands.specs.Good.{HasGoodPaths}
use Rattle.update_model.specs.Changes.{switch_of, rule_of, Applies, tables_after, tables_after_change, round_after, settled_tables, round_blocks, IsGoodRound}
use Rattle.update_model.specs.Mixtures.{Rollout, tables_before, AreGoodRounds, AreClearRounds, need_of}
use Rattle.update_model.specs.Ranges.{IsPlanChange}
use Rattle.update_model.specs.Remaining.{rule_with, difference, changes_between, keys_in_order, remaining_changes}
use Rattle.update_model.specs.declared.Change.{Change}
use Rattle.update_model.specs.declared.Change.TheVariants.{Insert, Delete, Replace}
use Rattle.update_model.proofs.DifferenceLaws.{remaining_in}
use Rattle.update_model.proofs.KeyOrderLaws.{in_order}
use Rattle.update_model.proofs.RemainingLaws.{rule_is, rule_told}
use Rattle.update_model.proofs.RoundLaws.{settled_start}
use Rattle.certificates.proofs.TreeTables.{unique_in_table}
use Rattle.flow_rules.proofs.TableLaws.{action_eq-true, rule_same}
use Rattle.certificates.specs.Updates.{Task}
use Rattle.certificates.specs.Certified.{classes_for, KeepsVlan, IsCertified}
use Rattle.certificates.specs.Valid.{IsValidPick, IsValidPlan}
use Rattle.certificates.specs.declared.Evidence.TheVariants.{Ordered}
use Rattle.certificates.specs.declared.OrderedPick.{OrderedPick}
use Rattle.certificates.specs.declared.OrderedEvidence.{OrderedEvidence}
use Rattle.certificates.specs.declared.Plan.{Plan}
use Rattle.dest_classes.proofs.MapLaws.{number_fits}
use Rattle.dest_classes.specs.Classes.{class_count}
use Rattle.evidence_store.specs.Stored.{IsStored}
use Rattle.table_difference.specs.SameClasses.{HasSameClasses, classes_before, BringNoPrefix, MakeNoClasses}
use Rattle.round_tables.specs.Trials.{single, HasRoomAlone}
use Rattle.table_difference.specs.Targets.{Target}
use Rattle.round_planner.specs.Search.{update_by, single_rounds, IsFirstQualifying, AreFirstQualifying}
use Rattle.round_planner.specs.Standing.{Stands}
use Rattle.table_difference.specs.Tried.{AreTried}
use Rattle.round_planner.proofs.ClassKept.{class_kept}
use Rattle.round_planner.proofs.SameRound.{IsSameRound, same_back, same_alone, held_same, need_same}
use Rattle.round_planner.proofs.StandingLaws.{length_rounds}
use Rattle.round_planner.proofs.SearchLaws.{first_remains}
use Rattle.round_planner.proofs.UserTables.{AreUserTables, IsUserChange, plan_change, keeps_user, user_start, user_along, changes_along, remaining_applies, remaining_count}
use Rattle.table_difference.proofs.LengthLaws.{few_remain}

some_not_none : {A : Type 0} {x : A} → ¬ (Some x ≡ None)
some_not_none e = cc

get_or_past : (tables : List (List Rule)) (n : ℕ) → length tables ≤ n → get_or tables n [] ≡ []
get_or_past [] n le = refl
get_or_past (rules ∷ tables) zero le = absurd (let f : suc (length tables) ≤ 0 = le in omega arith)
get_or_past (rules ∷ tables) (suc n) le = get_or_past tables n (omega arith)

-- ---- a change among the changes of a search

-- the change at a place, with those before and behind it
record IsSplit (changes : List Change) (k : ℕ) : Type 0 where
  front : List Change
  c : Change
  rest : List Change
  are : changes ≡ front ++ c ∷ rest
  length_is : length front ≡ k

split_at : (changes : List Change) (k : ℕ) → k < length changes → IsSplit changes k
split_at [] k less = absurd (let f : k < 0 = less in omega arith)
split_at (d ∷ changes) zero less = record { front = []; c = d; rest = changes; are = refl; length_is = refl }
split_at (d ∷ changes) (suc k) less =
    let s = split_at changes k (omega arith) in
    record { front = d ∷ s.front; c = s.c; rest = s.rest; are = ap (λ xs. d ∷ xs) s.are; length_is = ap suc s.length_is }

first_there : (to : Target) (tables : List (List Rule)) (front : List Change) (c : Change) (rest : List Change) → AreFirstQualifying to tables (front ++ c ∷ rest)
    → IsFirstQualifying to (tables_after front tables) (remaining_changes (tables_after front tables) to.new) c
first_there to tables [] c rest found = found.0
first_there to tables (d ∷ front) c rest found = first_there to (tables_after_change d tables) front c rest found.1

front_found : (to : Target) (tables : List (List Rule)) (front rest : List Change) → AreFirstQualifying to tables (front ++ rest) → AreFirstQualifying to tables front
front_found to tables [] rest found = tt
front_found to tables (d ∷ front) rest found = (found.0, front_found to (tables_after_change d tables) front rest found.1)

-- ---- where nothing remains

module _ (to : Target) (old : List (List Rule)) (new_user : IsUserConfig to.net to.new) (tables : List (List Rule)) (user : AreUserTables to old tables) (none : remaining_changes tables to.new ≡ []) where
  no_change : (c : Change) → ¬ IsIn c (remaining_changes tables to.new)
  no_change c i = subst (IsIn c) none i

  module _ (s : SwitchId) (within : s.0 < switch_count to.net) where
    abbrev now : List Rule
    now = rules_at tables s

    abbrev next : List Rule
    next = rules_at to.new s

    not_between : (c : Change) → ¬ IsIn c (changes_between s now next)
    not_between c i = no_change c (remaining_in tables to.new s c (subst (λ n. s.0 < n) (sym user.count) within) (subst (λ n. s.0 < n) (sym new_user.count) within) i)

    -- what stands under a key in both tables is the same
    same_under : (k : Key) → IsIn k (keys_in_order (keys_of now ++ keys_of next)) → (o p : Option Rule) → rule_with k now ≡ o → rule_with k next ≡ p → difference s o p ≡ None
    same_under k i o p e f =
        elim (difference s o p) as (λ d. difference s o p ≡ d → d ≡ None) [
          | None ↦ λ _. refl
          | Some c ↦ λ g. absurd (not_between c (in_filter_map (λ x. difference s (rule_with x now) (rule_with x next)) k c (keys_in_order (keys_of now ++ keys_of next)) i
              (ap (λ x. difference s x (rule_with k next)) e ∙ ap (difference s o) f ∙ g)))
        ] refl

    there : (r : Rule) → IsIn r now → IsIn r next
    there r i =
        let k = in_order r.key (keys_of now ++ keys_of next) (in_append_left r.key (keys_of now) (keys_of next) (in_map (λ x. x.key) r now i)) in
        let here = rule_is now (user.unique s) r.key r i refl in
        elim (rule_with r.key next) as (λ p. rule_with r.key next ≡ p → IsIn r next) [
          | None ↦ λ f. (let e : Some (Delete s r) ≡ None = same_under r.key k (Some r) None here f in absurd (some_not_none e))
          | Some q ↦ λ f.
              let told = rule_told next r.key q f in
              let e = same_under r.key k (Some r) (Some q) here f in
              elim (action_eq r.action q.action) as (λ b. action_eq r.action q.action ≡ b → cond b None (Some (Replace s q)) ≡ None → IsIn r next) [
                | true ↦ λ same _. subst (λ x. IsIn x next) (rule_same q r told.1 (sym (action_eq-true r.action q.action same))) told.0
                | false ↦ λ _ g. absurd (some_not_none g)
              ] refl e
        ] refl

    back : (r : Rule) → IsIn r next → IsIn r now
    back r i =
        let k = in_order r.key (keys_of now ++ keys_of next) (in_append_right r.key (keys_of now) (keys_of next) (in_map (λ x. x.key) r next i)) in
        let here = rule_is next (unique_in_table next (new_user.distinct s)) r.key r i refl in
        elim (rule_with r.key now) as (λ o. rule_with r.key now ≡ o → IsIn r now) [
          | None ↦ λ f. (let e : Some (Insert s r) ≡ None = same_under r.key k None (Some r) f here in absurd (some_not_none e))
          | Some q ↦ λ f.
              let told = rule_told now r.key q f in
              let e = same_under r.key k (Some q) (Some r) f here in
              elim (action_eq q.action r.action) as (λ b. action_eq q.action r.action ≡ b → cond b None (Some (Replace s r)) ≡ None → IsIn r now) [
                | true ↦ λ same _. subst (λ x. IsIn x now) (rule_same q r told.1 (action_eq-true q.action r.action same)) told.0
                | false ↦ λ _ g. absurd (some_not_none g)
              ] refl e
        ] refl

  -- where no change remains the tables are the new ones, as sets
  pub same_when_none : (s : SwitchId) → IsSameSet (rules_at tables s) (rules_at to.new s)
  same_when_none s =
      elim (cases_lt s.0 (switch_count to.net)) [
        | inl within ↦ λ r. (there s within r, back s within r)
        | inr past ↦
            let first : rules_at tables s ≡ [] = get_or_past tables s.0 (let n = user.count in omega arith) in
            let second : rules_at to.new s ≡ [] = get_or_past to.new s.0 (let n = new_user.count in omega arith) in
            subst (λ xs. IsSameSet xs (rules_at to.new s)) (sym first) (subst (λ ys. IsSameSet [] ys) (sym second) (λ r. (λ i. i, λ i. i)))
      ]

-- ---- the rounds of a search

module _ (to : Target) (old : List (List Rule)) (net : IsNetwork to.net) (old_user : IsUserConfig to.net old) (new_user : IsUserConfig to.net to.new)
    (changes : List Change) (found : AreFirstQualifying to old changes) where
  abbrev u : Rollout
  u = update_by to old changes

  pub found_user : AreUserTables to old (tables_after changes old)
  found_user = user_along to old new_user old (user_start to old new_user old_user) changes found

  found_changes : AllByRecursion (IsUserChange to old) changes
  found_changes = changes_along to old new_user old (user_start to old new_user old_user) changes found

  -- the change of round k, which applies, and is clear and within capacity alone
  record IsRoundAt (k : ℕ) : Type 0 where
    front : List Change
    c : Change
    rest : List Change
    same : IsSameRound u k (single to.net (tables_after front old) c) 0
    round_is : round_after k u.rounds ≡ c ∷ []
    applies : Applies (tables_before u k) c
    stands : HasRoomAlone to.net (tables_after front old) c

  round_of : (k : ℕ) → k < length u.rounds → IsRoundAt k
  round_of k less =
      let count = length_rounds changes in
      let s = split_at changes k (omega arith) in
      let first = first_there to old s.front s.c s.rest (subst (AreFirstQualifying to old) s.are found) in
      let user = user_along to old new_user old (user_start to old new_user old_user) s.front (front_found to old s.front (s.c ∷ s.rest) (subst (AreFirstQualifying to old) s.are found)) in
      let i = first_remains to (tables_after s.front old) (remaining_changes (tables_after s.front old) to.new) s.c first in
      let same : IsSameRound u k (single to.net (tables_after s.front old) s.c) 0 =
      subst (λ cs. IsSameRound (update_by to old cs) k (single to.net (tables_after s.front old) s.c) 0) (sym s.are)
      (subst (λ j. IsSameRound (update_by to old (s.front ++ s.c ∷ s.rest)) j (single to.net (tables_after s.front old) s.c) 0) s.length_is
      (same_back (single to.net (tables_after s.front old) s.c) 0 (update_by to old (s.front ++ s.c ∷ s.rest)) (length s.front) (same_alone to old s.front s.c s.rest))) in
      record {
        front = s.front;
        c = s.c;
        rest = s.rest;
        same = same;
        round_is = same.round;
        applies = subst (λ ts. Applies ts s.c) (sym (same.tables ∙ settled_start ((s.c ∷ []) ∷ []) (tables_after s.front old))) (remaining_applies to old new_user (tables_after s.front old) user s.c i);
        stands = first.qualifies.stands;
      }

  pub good : AreGoodRounds u
  good k less =
      let r = round_of k less in
      subst (IsGoodRound (tables_before u k)) (sym r.round_is) (record { applies = (r.applies, tt); distinct = (λ i. i, tt) })

  clear : AreClearRounds u
  clear k less s mixed held =
      let r = round_of k less in
      r.stands.clear s mixed (held_same u k (single to.net (tables_after r.front old) r.c) 0 r.same s mixed held)

  fits : (k : ℕ) (s : SwitchId) → k < length u.rounds → s.0 < switch_count to.net → need_of u k s ≤ capacity_of to.net s
  fits k s less within =
      let r = round_of k less in
      subst (λ n. n ≤ capacity_of to.net s) (sym (need_same u k (single to.net (tables_after r.front old) r.c) 0 r.same s)) (r.stands.fits s within)

  each_round : (P : Change → Type 0) (cs : List Change) → AllByRecursion P cs → AllByRecursion (AllByRecursion P) (single_rounds cs)
  each_round P [] all = tt
  each_round P (c ∷ cs) all = ((all.0, tt), each_round P cs all.1)

  keeps : AllByRecursion (AllByRecursion (λ c. KeepsVlan (rule_of c).action)) u.rounds
  keeps = each_round (λ c. KeepsVlan (rule_of c).action) changes
      (each_weaker (IsUserChange to old) (λ c. KeepsVlan (rule_of c).action) (λ c is. keeps_user to.net (switch_of c) (rule_of c).action is.rule.action) changes found_changes)

  pub ranges : AllByRecursion (AllByRecursion (IsPlanChange to.net)) u.rounds
  ranges = each_round (IsPlanChange to.net) changes (each_weaker (IsUserChange to old) (IsPlanChange to.net) (λ c is. plan_change to.net net c is.within is.rule) changes found_changes)

  tables_last : (cs : List Change) (tables : List (List Rule)) → settled_tables (single_rounds cs) (length (single_rounds cs)) tables ≡ tables_after cs tables
  tables_last [] tables = refl
  tables_last (c ∷ cs) tables = tables_last cs (tables_after (c ∷ []) tables)

  -- what remained at first was made or remains, and is little
  pub found_count : length changes + length (remaining_changes (tables_after changes old) to.new) ≡ length (remaining_changes old to.new)
  found_count = remaining_count to old new_user old (user_start to old new_user old_user) changes found

  pub found_few : length (remaining_changes old to.new) ≤ 4096
  found_few = let few = few_remain old to.new in let first = old_user.few in let second = new_user.few in omega arith

  length_singles : length u.rounds ≡ length changes
  length_singles = length_rounds changes

  single_each : (cs : List Change) → AllByRecursion (λ (round : List Change). length round ≡ 1) (single_rounds cs)
  single_each [] = tt
  single_each (c ∷ cs) = (refl, single_each cs)

  sum_singles : (cs : List Change) → sum_by length (single_rounds cs) ≡ length cs
  sum_singles [] = refl
  sum_singles (c ∷ cs) = let first = sum_by-cons length (c ∷ []) (single_rounds cs) in let rest = sum_singles cs in omega arith

  pub may_be_tried : AreTried to.net u.rounds
  may_be_tried = record {
    few = (let count = length_singles in let all = found_count in let few = found_few in omega arith);
    single = single_each changes;
    ranges = ranges;
  }

  -- the rounds bring in no prefix of their own
  blocks_known : (cs : List Change) → AllByRecursion (IsUserChange to old) cs → (b : Block) → IsIn b (round_blocks (single_rounds cs)) → IsIn b (table_blocks old ++ table_blocks to.new)
  blocks_known [] all b i = absurd i
  blocks_known (c ∷ cs) all b (inl e) = subst (λ x. IsIn x (table_blocks old ++ table_blocks to.new)) (sym e) all.0.known
  blocks_known (c ∷ cs) all b (inr i) = blocks_known cs all.1 b i

  pub no_prefix : BringNoPrefix old to.new u.rounds
  no_prefix b i = inl (blocks_known changes found_changes b i)

  -- ---- the plan

  module _ (e : OrderedEvidence) (stands : Stands to old changes e) (stored : IsStored e) where
    abbrev pub plan_of : Plan
    plan_of = record { rounds = single_rounds changes; evidence = Ordered e }

    valid_pick : (p : OrderedPick) → IsIn p e.picks → class_count to.classes ≤ 8192 → IsValidPick (length u.rounds) (length e.uses) p
    valid_pick p i few =
        let least = stands.so_far.picked p i in
        let within = each_at (λ (q : OrderedPick). (q.shared < length e.uses) × (q.shared ≤ 4294967295)) e.picks p stored.picks i in
        let number = number_fits to.classes p.class least.class least.class_is in
        let round = least.round_is in
        let less = least.within in
        (omega arith, omega arith, omega arith, within.0, within.1)

    pub plan_valid : class_count to.classes ≤ 8192 → IsValidPlan to.net plan_of
    plan_valid few = record {
      few_rounds = (let count = length_singles in let all = found_count in let most = found_few in omega arith);
      few_changes = (let sum = sum_singles changes in let all = found_count in let most = found_few in omega arith);
      rounds = ranges;
      evidence = record {
        numberings = stands.so_far.numberings;
        befores = stands.so_far.befores;
        uses = stored.uses;
        picks = each_from_in (IsValidPick (length u.rounds) (length e.uses)) e.picks (λ p i. valid_pick p i few);
        ascending = stored.ascending;
      };
    }

    -- the plan of a search for the classes of the configurations and the demands
    module _ (classes_are : to.classes ≡ classes_before to.net old to.new to.demands) (no_classes : MakeNoClasses to.net old to.new)
        (old_good : HasGoodPaths to.net old to.demands to.classes) (new_good : HasGoodPaths to.net to.new to.demands to.classes) (none : remaining_changes (tables_after changes old) to.new ≡ []) where
      abbrev pub task : Task
      task = record { update = record { net = to.net; old = old; new = to.new; demands = to.demands }; rounds = u.rounds }

      pub plan_classes : HasSameClasses (classes_for task) to.classes
      plan_classes = subst (HasSameClasses (classes_for task)) (sym classes_are) (no_classes to.demands u.rounds no_prefix)

      class_of : (n : ℕ) (class : Class) → IsClass (classes_for task) n class → IsClass to.classes n class
      class_of n class is = class_kept (classes_for task) to.classes plan_classes n class is

      pub plan_certified : IsCertified task (Ordered e)
      plan_certified = record {
        old_good = λ n class is. old_good n class (class_of n class is);
        new_good = λ n class is. new_good n class (class_of n class is);
        good = good;
        clear = clear;
        fits = fits;
        keeps = keeps;
        certificates = λ k n class less is. stands.so_far.certificates k n class (let count = length_singles in omega arith) (class_of n class is);
        ends = λ s. subst (λ ts. IsSameSet (rules_at ts s) (rules_at to.new s)) (sym (tables_last changes old)) (same_when_none to old new_user (tables_after changes old) found_user none s);
      }

      -- one round for each change that remained at first
      pub plan_count : length (single_rounds changes) ≡ length (remaining_changes old to.new)
      plan_count = let count = length_singles in let all = found_count in let nothing : length (remaining_changes (tables_after changes old) to.new) ≡ 0 = ap length none in omega arith
