-- Tables that were read are a user configuration.
use Rattle.std.proofs.Common.{◌≡◌, ◌⊎◌, ℕ, zero, suc, ◌+◌, ◌≤◌, ◌<◌, true, false, Result, Ok, Err, List, [], ◌∷◌, ◌++◌, length, replicate, set, get_or, mul-zero, refl, sym, ◌∙◌, ap, subst, inl, inr, arith}
use Rattle.std.specs.Prelude.{◌==◌, Option, Some, None, not, nat_lt, find, cond, codes, sum_by, IfOk}
use Rattle.std.specs.List.{list_any, range_with_len, AllByRecursion}
use Rattle.std.proofs.lemmas.Bool.{and_from, eq-eqb, ltb-true, lt-ltb, cases_lt, not-true, both_ways}
use Rattle.std.proofs.lemmas.List.{length-set, length_push, length-replicate}
use Rattle.std.proofs.lemmas.List.Folds.{sum_by-replicate}
use Rattle.std.proofs.lemmas.List.Sums.{sum_by-set}
use Rattle.serde_json.specs.Data.{Data}
use Rattle.net_base.specs.Members.{IsIn}
use Rattle.net_base.specs.Reading.{◌>>=◌, check, in_turn, place_of}
use Rattle.flat_json.specs.JsonTree.{is_object, text_at, tree_in}
use Rattle.net_base.specs.declared.ids.SwitchId.{SwitchId}
use Rattle.net_base.specs.declared.field.Field.TheVariants as field
use Rattle.net_base.proofs.Turns.{bind_ok, ok_is}
use Rattle.net_base.proofs.ListLaws.{any_in}
use Rattle.topology.specs.Networks.{Network, switch_count, switch_named, capacity_of}
use Rattle.topology.proofs.NamedLaws.{named_within}
use Rattle.flow_rules.specs.Patterns.{Header, covers, key_eq}
use Rattle.flow_rules.specs.Overlaps.{keys_clash, patterns_meet}
use Rattle.flow_rules.specs.Tables.{IsTable, IsClear, rules_at}
use Rattle.flow_rules.specs.declared.rules.Rule.{Rule}
use Rattle.flow_rules.proofs.OverlapLaws.{meet_out}
use Rattle.flow_rules.proofs.TableLaws.{table_push, key_found}
use Rattle.flow_rules.specs.Tables.{TableState, rules_of_all}
use Rattle.net_base.specs.Reading.{Gives}
use Rattle.path_walk.specs.UserConfigs.{IsUserRule, IsUserConfig}
use Rattle.config_files.specs.declared.fault.ConfigFault.{ConfigFault}
use Rattle.config_files.specs.declared.fault.ConfigFault.TheVariants.{Memory, NotJson, Shape, UnknownSwitch, KeyTwice, Overlap, TooMany}
use Rattle.config_files.specs.Configuration.{rule_in, rules_with, with_rule, rule_to, switch_in, rule_at, is_over, over_capacity, fit, items_in, filled_in, tables_in, configuration_in}
use Rattle.config_files.proofs.Steps.{need_passed, check_passed}
use Rattle.config_files.proofs.TableUpdates.{each_after}
use Rattle.config_files.proofs.UserRules.{rule_shown}

-- the table of one switch
pub record IsUserTable (net : Network) (s : ℕ) (table : List Rule) : Type 0 where
  pub distinct : IsTable table
  pub clear : IsClear table
  pub rules : AllByRecursion (IsUserRule net (record { 0 = s })) table

-- the tables after so many rules
pub record AreUserTables (net : Network) (n : ℕ) (tables : List (List Rule)) : Type 0 where
  pub count : length tables ≡ switch_count net
  pub sum : sum_by length tables ≡ n
  pub few : n ≤ 2048
  pub each : (s : ℕ) → IsUserTable net s (get_or tables s [])

-- ---- one rule more in a table

all_push : (P : Rule → Type 0) (rules : List Rule) (r : Rule) → AllByRecursion P rules → P r → AllByRecursion P (rules ++ r ∷ [])
all_push P [] r all new = (new, tt)
all_push P (x ∷ rules) r all new = (all.0, all_push P rules r all.1 new)

in_push : (x : Rule) (rules : List Rule) (r : Rule) → IsIn x (rules ++ r ∷ []) → IsIn x rules ⊎ (x ≡ r)
in_push x [] r i = elim i [ inl e ↦ inr e | inr j ↦ absurd j ]
in_push x (y ∷ rules) r (inl e) = inl (inl e)
in_push x (y ∷ rules) r (inr i) = elim (in_push x rules r i) [ inl j ↦ inl (inr j) | inr e ↦ inr e ]

module _ (rules : List Rule) (r : Rule) (apart : list_any (λ q. keys_clash q.key r.key) rules ≡ false) where
  apart_from : (q : Rule) (h : Header) → IsIn q rules → covers q.key.pattern h ≡ true → covers r.key.pattern h ≡ true → q.key.priority ≡ r.key.priority → ⊥
  apart_from q h i first second same =
      both_ways (list_any (λ x. keys_clash x.key r.key) rules) apart (any_in (λ x. keys_clash x.key r.key) q rules i
      (and_from (q.key.priority == r.key.priority) (patterns_meet q.key.pattern r.key.pattern) (eq-eqb q.key.priority r.key.priority same) (meet_out q.key.pattern r.key.pattern h first second)))

  clear_push : IsClear rules → IsClear (rules ++ r ∷ [])
  clear_push clear h a b i j first second same =
      elim (in_push a rules r i) [
        | inl k ↦ elim (in_push b rules r j) [
          | inl l ↦ clear h a b k l first second same
          | inr f ↦ absurd (apart_from a h k first (subst (λ (x : Rule). covers x.key.pattern h ≡ true) f second) (same ∙ ap (λ (x : Rule). x.key.priority) f))
        ]
        | inr e ↦ elim (in_push b rules r j) [
          | inl l ↦ absurd (apart_from b h l second (subst (λ (x : Rule). covers x.key.pattern h ≡ true) e first) (sym same ∙ ap (λ (x : Rule). x.key.priority) e))
          | inr f ↦ e ∙ sym f
        ]
      ]

-- a rule with a new key that clashes with no other
pub user_push : (net : Network) (s : ℕ) (rules : List Rule) (r : Rule) → IsUserTable net s rules → IsUserRule net (record { 0 = s }) r → list_any (λ q. key_eq q.key r.key) rules ≡ false
    → list_any (λ q. keys_clash q.key r.key) rules ≡ false → IsUserTable net s (rules ++ r ∷ [])
user_push net s rules r table user fresh apart = record {
  distinct = table_push rules r table.distinct (λ i. both_ways (list_any (λ q. key_eq q.key r.key) rules) fresh ((key_found r.key rules).1 i));
  clear = clear_push rules r apart table.clear;
  rules = all_push (IsUserRule net (record { 0 = s })) rules r table.rules user;
}

with_new : (net : Network) (place : ℕ) (s : ℕ) (rules new : List Rule) (r : Rule) → IsUserTable net s rules → IsUserRule net (record { 0 = s }) r → rules_with place rules r ≡ Ok new
    → IsUserTable net s new × (length new ≡ suc (length rules))
unfolding rules_with
with_new net place s rules new r table user e =
    let more : List Rule = rules ++ r ∷ [] in
    let (fresh, e1) = check_passed (not (list_any (λ q. key_eq q.key r.key) rules)) (KeyTwice place) (check (not (list_any (λ q. keys_clash q.key r.key) rules)) (Overlap place) >>= λ _. Ok more) new e in
    let (apart, e2) = check_passed (not (list_any (λ q. keys_clash q.key r.key) rules)) (Overlap place) (Ok more) new e1 in
    let longer = length_push rules r in
    subst (λ (x : List Rule). IsUserTable net s x × (length x ≡ suc (length rules))) (ok_is more new e2)
    (user_push net s rules r table user (not-true _ fresh) (not-true _ apart), omega arith)

-- ---- one rule more in the tables

module _ (net : Network) where
  switch_shown : (place : ℕ) (d : Data) (s : SwitchId) → switch_in place net d ≡ Ok s → (place < 2048) × (s.0 < switch_count net)
  unfolding switch_in
  switch_shown place d s e =
      let (few, e1) = check_passed (nat_lt place 2048) (TooMany place) _ s e in
      let (object, e2) = check_passed (is_object d) (Shape field.Rules place) _ s e1 in
      let (name, there, e3) = need_passed (text_at (codes "switch") d) (Shape field.Switch place) _ s e2 in
      let (k, named, e4) = need_passed (switch_named net.names name) (UnknownSwitch place) (λ (j : ℕ). Ok (record { 0 = j })) s e3 in
      (ltb-true place 2048 few, subst (λ (t : SwitchId). t.0 < switch_count net) (ok_is (record { 0 = k }) s e4) (named_within net.names name k named))

  rule_kept : (n : ℕ) (tables more : List (List Rule)) (d : Data) → AreUserTables net n tables → rule_at net (place_of n) tables d ≡ Ok more → AreUserTables net (suc n) more
  unfolding rule_at rule_to with_rule
  rule_kept n tables more d user e =
      let place = place_of n in
      let (s, switch, e4) = bind_ok (switch_in place net d) (λ s. rule_to net place tables s d) more e in
      let (below, known) = switch_shown place d s switch in
      let (rule, read, e5) = bind_ok (rule_in place net s d) (λ rule. with_rule place tables s rule) more e4 in
      let (rules, added, e6) = bind_ok (rules_with place (rules_at tables s) rule) (λ rules. Ok (set tables s.0 rules)) more e5 in
      let (table, longer) = with_new net place s.0 (get_or tables s.0 []) rules rule (user.each s.0) (rule_shown place net s d rule read) added in
      let within : s.0 < length tables = subst (λ (k : ℕ). s.0 < k) (sym user.count) known in
      let sums = sum_by-set length tables s.0 rules [] within in
      let counted = user.sum in
      let before = user.few in
      subst (AreUserTables net (suc n)) {x = set tables s.0 rules} (ok_is (set tables s.0 rules) more e6) (record {
        count = length-set tables s.0 rules ∙ user.count;
        sum = omega arith;
        few = omega arith;
        each = each_after (IsUserTable net) tables s.0 rules table user.each;
      })

  rules_kept : (n : ℕ) (tables more : List (List Rule)) (items : List Data) → AreUserTables net n tables → in_turn (rule_at net) n tables items ≡ Ok more → AreUserTables net (n + length items) more
  unfolding in_turn
  rules_kept n tables more [] user e =
      let same : n ≡ n + 0 = omega arith in
      subst (λ (k : ℕ). AreUserTables net k more) same (subst (AreUserTables net n) (ok_is tables more e) user)
  rules_kept n tables more (d ∷ items) user e =
      let (next, step, rest) = bind_ok (rule_at net (place_of n) tables d) (λ t. in_turn (rule_at net) (suc n) t items) more e in
      let kept = rules_kept (suc n) next more items (rule_kept n tables next d user step) rest in
      let same : suc n + length items ≡ n + suc (length items) = omega arith in
      subst (λ (k : ℕ). AreUserTables net k more) same kept

  -- ---- no rules

  none_at : (count s : ℕ) → get_or (replicate count (let none : List Rule = [] in none)) s [] ≡ []
  none_at zero s = refl
  none_at (suc count) zero = refl
  none_at (suc count) (suc s) = none_at count s

  no_sum : (count : ℕ) → sum_by length (replicate count (let none : List Rule = [] in none)) ≡ 0
  no_sum count = sum_by-replicate length count [] ∙ mul-zero count

  pub no_rules : AreUserTables net 0 (replicate (switch_count net) [])
  no_rules = record {
    count = length-replicate (switch_count net) [];
    sum = no_sum (switch_count net);
    few = omega arith;
    each = λ s. subst (IsUserTable net s) (sym (none_at (switch_count net) s)) (record { distinct = tt; clear = λ h a b i. absurd i; rules = tt });
  }

  -- ---- capacities

  none_over : (tables : List (List Rule)) (a n s : ℕ) → find (is_over net tables) (range_with_len a n) ≡ None → a ≤ s → s < a + n → is_over net tables s ≡ false
  none_over tables a zero s e low high = absurd (omega arith)
  none_over tables a (suc n) s e low high =
      elim (is_over net tables a) as (λ b. is_over net tables a ≡ b → cond b (Some a) (find (is_over net tables) (range_with_len (a + 1) n)) ≡ None → is_over net tables s ≡ false) [
        | true ↦ λ over f. absurd (let g : Some a ≡ None = f in cc)
        | false ↦ λ not_over f. elim (cases_lt a s) [
          | inl less ↦ none_over tables (a + 1) n s f (omega arith) (omega arith)
          | inr more ↦ (let same : a ≡ s = omega arith in subst (λ (k : ℕ). is_over net tables k ≡ false) same not_over)
        ]
      ] refl e

  pub fits : (tables : List (List Rule)) → over_capacity net tables ≡ None → (s : SwitchId) → s.0 < switch_count net → length (rules_at tables s) ≤ capacity_of net s
  fits tables e s within =
      let held = none_over tables 0 (switch_count net) s.0 e (omega arith) (omega arith) in
      elim (cases_lt (capacity_of net s) (length (rules_at tables s))) [
        | inl over ↦ absurd (both_ways (is_over net tables s.0) held (lt-ltb (capacity_of net s) (length (rules_at tables s)) over))
        | inr fit ↦ fit
      ]

  fit_same : (o : Option ℕ) (tables more : List (List Rule)) → fit o tables ≡ Ok more → (o ≡ None) × (tables ≡ more)
  fit_same None tables more e = (refl, ok_is tables more e)
  fit_same (Some s) tables more e = absurd cc

  -- ---- the file

  pub configuration_shown : (bytes : List ℕ) (tables : List (List Rule)) → configuration_in net bytes ≡ Ok tables → IsUserConfig net tables
  unfolding configuration_in tables_in items_in filled_in
  configuration_shown bytes tables e =
      let (top, there, e1) = need_passed (tree_in bytes) NotJson (λ top. tables_in net top) tables e in
      let (items, listed, e2) = bind_ok (items_in top) (λ items. filled_in net (replicate (switch_count net) []) items) tables e1 in
      let (read, all, e3) = bind_ok (in_turn (rule_at net) 0 (replicate (switch_count net) []) items) (λ ts. fit (over_capacity net ts) ts) tables e2 in
      let (within, same) = fit_same (over_capacity net read) read tables e3 in
      let user = rules_kept 0 (replicate (switch_count net) []) read items no_rules all in
      let sum = user.sum in
      let few = user.few in
      subst (IsUserConfig net) same (record {
        count = user.count;
        few = omega arith;
        distinct = λ s. (user.each s.0).distinct;
        clear = λ s. (user.each s.0).clear;
        fits = fits read within;
        rules = λ s. (user.each s.0).rules;
      })

-- what the reader returned is one
pub read_shown : (net : Network) (bytes : List ℕ) (r : Result (List TableState) ConfigFault) → Gives Memory rules_of_all r (configuration_in net bytes) → IfOk r (λ c. IsUserConfig net (rules_of_all c))
read_shown net bytes (Ok c) h = configuration_shown net bytes (rules_of_all c) h
read_shown net bytes (Err e) h = tt
