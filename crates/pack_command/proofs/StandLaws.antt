-- What is known of packed rounds at their tables.
use Rattle.std.proofs.Common.{◌≡◌, ◌≢◌, ℕ, zero, suc, ◌<◌, ◌≤◌, List, [], ◌∷◌, ◌++◌, length, map, refl, sym, subst, inl, inr, arith}
use Rattle.std.specs.Prelude.{sum_by}
use Rattle.std.proofs.lemmas.List.Sums.{sum_by-cons}
use Rattle.std.specs.List.{AllByRecursion}
use Rattle.net_base.specs.Blocks.{Block}
use Rattle.net_base.specs.Members.{IsIn, IsSameSet}
use Rattle.net_base.proofs.MemberLaws.{each_at, each_weaker, in_append_cases, in_from_map}
use Rattle.net_base.specs.declared.ids.SwitchId.{SwitchId}
use Rattle.topology.specs.Networks.{IsNetwork}
use Rattle.flow_rules.specs.Tables.{IsTable, rules_at, table_blocks}
use Rattle.flow_rules.specs.declared.rules.Rule.{Rule}
use Rattle.path_walk.specs.UserConfigs.{IsUserConfig}
use Rattle.update_model.specs.Changes.{switch_of, rule_of, round_after, round_blocks, settled_tables, tables_after, tables_after_change}
use Rattle.update_model.specs.Ranges.{IsPlanChange}
use Rattle.update_model.specs.Remaining.{remaining_changes, AreRemaining}
use Rattle.update_model.specs.declared.Change.{Change}
use Rattle.update_model.proofs.RemainingLaws.{AllUnique, remaining_made}
use Rattle.certificates.specs.Certified.{KeepsVlan}
use Rattle.certificates.specs.Updates.{Update}
use Rattle.certificates.proofs.TreeTables.{unique_in_table}
use Rattle.table_difference.specs.SameClasses.{BringNoPrefix}
use Rattle.table_difference.proofs.LengthLaws.{few_remain}
use Rattle.law_packed_rounds.specs.Packing.{CanStand, ArePacked, IsPackedRound, PacksOrdered, tables_past}
use Rattle.law_packed_rounds.proofs.Filled.{filled_stands}
use Rattle.law_packed_rounds.proofs.Packed.{packed_part, part_made}
use Rattle.round_planner.specs.Updates.{update_target}
use Rattle.round_planner.proofs.EndLaws.{same_when_none}
use Rattle.round_planner.proofs.UserTables.{AreUserTables, IsUserChange, plan_change, keeps_user, user_start, user_next, remaining_user, remaining_applies}

-- each table of a user configuration has distinct keys
each_table : (tables : List (List Rule)) → ((s : SwitchId) → IsTable (rules_at tables s)) → AllByRecursion IsTable tables
each_table [] all = tt
each_table (rules ∷ tables) all = (all (record { 0 = 0 }), each_table tables (λ s. all (record { 0 = suc s.0 })))

pub tables_of_user : (u : Update) (tables : List (List Rule)) → IsUserConfig u.net tables → AllByRecursion IsTable tables
tables_of_user u tables user = each_table tables user.distinct

module _ (u : Update) (old_user : IsUserConfig u.net u.old) (new_user : IsUserConfig u.net u.new) where
  -- tables of rules that are those of a user
  abbrev pub AreUsers : List (List Rule) → Type 0
  AreUsers tables = AreUserTables (update_target u) u.old tables

  abbrev pub IsUsers : Change → Type 0
  IsUsers c = IsUserChange (update_target u) u.old c

  new_unique : AllUnique u.new
  new_unique s = unique_in_table (rules_at u.new s) (new_user.distinct s)

  old_users : AreUsers u.old
  old_users = user_start (update_target u) u.old new_user old_user

  -- changes that remain one after the other
  made_users : (tables : List (List Rule)) → AreUsers tables → (changes : List Change) → AreRemaining tables u.new changes → AreUsers (tables_after changes tables) × AllByRecursion IsUsers changes
  made_users tables user [] made = (user, tt)
  made_users tables user (c ∷ changes) made =
      let is = remaining_user (update_target u) u.old new_user tables user c made.0 in
      let next = user_next (update_target u) u.old new_user tables user c (remaining_applies (update_target u) u.old new_user tables user c made.0) is in
      let rest = made_users (tables_after_change c tables) next changes made.1 in
      (rest.0, (is, rest.1))

  -- a packed round
  round_users : (tables : List (List Rule)) → AreUsers tables → (round : List Change) → IsPackedRound (update_target u) tables round → AreUsers (tables_after round tables) × AllByRecursion IsUsers round
  round_users tables user round packed =
      made_users tables user round (part_made u.new new_unique tables user.unique round (packed_part (update_target u) tables round packed)).made

  -- a round that can stand at its tables, of changes that are those of a user
  pub record IsStanding (tables : List (List Rule)) (round : List Change) : Type 0 where
    pub stands : CanStand (update_target u) tables round
    pub users : AllByRecursion IsUsers round

  stands_first : (tables : List (List Rule)) (round : List Change) → IsPackedRound (update_target u) tables round → round ≢ [] → CanStand (update_target u) tables round
  stands_first tables round packed some =
      elim (filled_stands (CanStand (update_target u) tables) [] (remaining_changes tables u.new) round packed) [
        | inl none ↦ absurd (some none)
        | inr can ↦ can
      ]

  standing_from : (tables : List (List Rule)) → AreUsers tables → (rounds : List (List Change)) → ArePacked (update_target u) tables rounds → (k : ℕ) → k < length rounds
      → IsStanding (settled_tables rounds k tables) (round_after k rounds)
  standing_from tables user [] packed k less = absurd (let f : k < 0 = less in omega arith)
  standing_from tables user (round ∷ rounds) packed zero less = record {
    stands = stands_first tables round packed.0 packed.1;
    users = (round_users tables user round packed.0).1;
  }
  standing_from tables user (round ∷ rounds) packed (suc k) less = standing_from (tables_after round tables) (round_users tables user round packed.0).0 rounds packed.2 k (omega arith)

  each_from : (tables : List (List Rule)) → AreUsers tables → (rounds : List (List Change)) → ArePacked (update_target u) tables rounds → AllByRecursion (AllByRecursion IsUsers) rounds
  each_from tables user [] packed = tt
  each_from tables user (round ∷ rounds) packed =
      let (next, users) = round_users tables user round packed.0 in
      (users, each_from (tables_after round tables) next rounds packed.2)

  past_from : (tables : List (List Rule)) → AreUsers tables → (rounds : List (List Change)) → ArePacked (update_target u) tables rounds → AreUsers (tables_past rounds tables)
  past_from tables user [] packed = user
  past_from tables user (round ∷ rounds) packed = past_from (tables_after round tables) (round_users tables user round packed.0).0 rounds packed.2

  sum_from : (tables : List (List Rule)) → AreUsers tables → (rounds : List (List Change)) → ArePacked (update_target u) tables rounds → sum_by length rounds ≤ length (remaining_changes tables u.new)
  sum_from tables user [] packed = omega arith
  sum_from tables user (round ∷ rounds) packed =
      let made = part_made u.new new_unique tables user.unique round (packed_part (update_target u) tables round packed.0) in
      let count = remaining_made u.new new_unique tables user.unique round made.made in
      let rest = sum_from (tables_after round tables) (round_users tables user round packed.0).0 rounds packed.2 in
      let sum = sum_by-cons length round rounds in
      omega arith

  settled_past : (rounds : List (List Change)) (tables : List (List Rule)) → settled_tables rounds (length rounds) tables ≡ tables_past rounds tables
  settled_past [] tables = refl
  settled_past (round ∷ rounds) tables = settled_past rounds (tables_after round tables)

  keeps_change : (c : Change) → IsUsers c → KeepsVlan (rule_of c).action
  keeps_change c is = keeps_user u.net (switch_of c) (rule_of c).action is.rule.action

  pub keeps_round : (tables : List (List Rule)) (round : List Change) → IsStanding tables round → AllByRecursion (λ c. KeepsVlan (rule_of c).action) round
  keeps_round tables round h = each_weaker IsUsers (λ c. KeepsVlan (rule_of c).action) keeps_change round h.users

  module _ (rounds : List (List Change)) (ordered : PacksOrdered (update_target u) u.old rounds) where
    -- round k stands at the tables before it
    pub standing_at : (k : ℕ) → k < length rounds → IsStanding (settled_tables rounds k u.old) (round_after k rounds)
    standing_at k less = standing_from u.old old_users rounds ordered.packed k less

    -- the tables after the last round are the new ones, as sets
    pub ends_at_new : (s : SwitchId) → IsSameSet (rules_at (settled_tables rounds (length rounds) u.old) s) (rules_at u.new s)
    ends_at_new s =
        subst (λ ts. IsSameSet (rules_at ts s) (rules_at u.new s)) (sym (settled_past rounds u.old))
        (same_when_none (update_target u) u.old new_user (tables_past rounds u.old) (past_from u.old old_users rounds ordered.packed) ordered.none_remains s)

    pub changes_few : sum_by length rounds ≤ 4096
    changes_few =
        let sum = sum_from u.old old_users rounds ordered.packed in
        let few = few_remain u.old u.new in
        let first = old_user.few in
        let second = new_user.few in
        omega arith

    pub remaining_few : length (remaining_changes u.old u.new) ≤ 4096
    remaining_few = let few = few_remain u.old u.new in let first = old_user.few in let second = new_user.few in omega arith

    pub ranges : IsNetwork u.net → AllByRecursion (AllByRecursion (IsPlanChange u.net)) rounds
    ranges net =
        each_weaker (AllByRecursion IsUsers) (AllByRecursion (IsPlanChange u.net))
        (λ round users. each_weaker IsUsers (IsPlanChange u.net) (λ c is. plan_change u.net net c is.within is.rule) round users)
        rounds (each_from u.old old_users rounds ordered.packed)

    abbrev map_blocks : List Change → List Block
    map_blocks changes = map (λ (d : Change). (rule_of d).key.pattern.dst) changes

    known_in : (changes : List Change) → AllByRecursion IsUsers changes → (b : Block) → IsIn b (map_blocks changes) → IsIn b (table_blocks u.old ++ table_blocks u.new)
    known_in changes users b i =
        let (c, j, e) = in_from_map (λ (d : Change). (rule_of d).key.pattern.dst) b changes i in
        subst (λ x. IsIn x (table_blocks u.old ++ table_blocks u.new)) (sym e) (each_at IsUsers changes c users j).known

    known_all : (all : List (List Change)) → AllByRecursion (AllByRecursion IsUsers) all → (b : Block) → IsIn b (round_blocks all) → IsIn b (table_blocks u.old ++ table_blocks u.new)
    known_all [] users b i = absurd i
    known_all (round ∷ all) users b i = elim (in_append_cases b (map_blocks round) (round_blocks all) i) [
      | inl j ↦ known_in round users.0 b j
      | inr j ↦ known_all all users.1 b j
    ]

    -- the rounds bring in no prefix of their own
    pub no_prefix : BringNoPrefix u.old u.new rounds
    no_prefix b i = inl (known_all rounds (each_from u.old old_users rounds ordered.packed) b i)
