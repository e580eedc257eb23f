-- Reading the text of a configuration gives the configuration.
use Rattle.std.proofs.Common.{◌≡◌, ℕ, zero, suc, ◌+◌, ◌<◌, ◌≤◌, Bool, false, List, [], ◌∷◌, ◌++◌, length, map, replicate, set, get_or, sum_by, Some, None, Result, Ok, refl, sym, ap, subst, inl, inr, ◌∙◌, append-nil, append_assoc, zero-add, arith}
use Rattle.std.specs.Prelude.{◌==◌, find}
use Rattle.std.specs.List.{AllByRecursion, list_any, range_with_len}
use Rattle.std.proofs.lemmas.Bool.{and_parts, eqb-true, le-ltb, false_from_ne_true}
use Rattle.std.proofs.lemmas.List.{length-set, length-append, get_or-set_same, set-set, set-get_or, set_at, get_or_at}
use Rattle.std.proofs.lemmas.List.Sums.{sum_by-cons}
use Rattle.serde_json.specs.Data.{Data}
use Rattle.net_base.specs.Members.{IsIn, IsDistinct}
use Rattle.net_base.specs.Reading.{in_turn, place_of}
use Rattle.flat_json.specs.JsonTree.{tree_in}
use Rattle.net_base.specs.declared.ids.SwitchId.{SwitchId}
use Rattle.net_base.proofs.ListLaws.{in_from_any}
use Rattle.net_base.proofs.MemberLaws.{in_append_left, in_append_right, in_map}
use Rattle.flat_json.proofs.JsonTree.{list_of-items_of}
use Rattle.topology.specs.Networks.{Network, IsNetwork, switch_count, capacity_of}
use Rattle.flow_rules.specs.Patterns.{key_eq}
use Rattle.flow_rules.specs.Overlaps.{keys_clash, patterns_meet}
use Rattle.flow_rules.specs.Tables.{IsTable, IsClear, rules_at, keys_of}
use Rattle.flow_rules.specs.declared.rules.Rule.{Rule}
use Rattle.flow_rules.proofs.KeyLaws.{key_eq-true}
use Rattle.flow_rules.proofs.OverlapLaws.{meet_in}
use Rattle.path_walk.specs.UserConfigs.{IsUserRule, IsUserConfig}
use Rattle.config_files.specs.declared.fault.ConfigFault.{ConfigFault}
use Rattle.config_files.specs.Configuration.{rules_with, with_rule, rule_to, rule_at, is_over, over_capacity, items_in, filled_in, tables_in, configuration_in}
use Rattle.config_files.specs.ConfigText.{rule_tree, rule_trees, config_tree}
use Rattle.config_files.proofs.RuleAgain.{rule_again, switch_again}
use Rattle.config_files.proofs.UserTables.{IsUserTable}

-- ---- a rule of a table among those before it

key_in_middle : (r : Rule) (done rest : List Rule) → IsIn r.key (keys_of (done ++ r ∷ rest))
key_in_middle r done rest = in_map (λ (y : Rule). y.key) r (done ++ r ∷ rest) (in_append_right r done (r ∷ rest) (inl refl))

-- no earlier rule has its key
fresh_from : (q r : Rule) (done rest : List Rule) → IsTable (done ++ r ∷ rest) → IsIn q done → q.key ≡ r.key → ⊥
fresh_from q r [] rest table i e = i
fresh_from q r (x ∷ done) rest table (inl same) e =
    table.0 (subst (λ k. IsIn k (keys_of (done ++ r ∷ rest))) (sym e ∙ ap (λ (y : Rule). y.key) same) (key_in_middle r done rest))
fresh_from q r (x ∷ done) rest table (inr i) e = fresh_from q r done rest table.1 i e

fresh : (r : Rule) (done rest : List Rule) → IsTable (done ++ r ∷ rest) → list_any (λ q. key_eq q.key r.key) done ≡ false
fresh r done rest table =
    false_from_ne_true (list_any (λ q. key_eq q.key r.key) done) (λ e.
    let (q, i, same) = in_from_any (λ (q : Rule). key_eq q.key r.key) done e in
    fresh_from q r done rest table i (key_eq-true q.key r.key same))

-- no earlier rule clashes with it
apart : (r : Rule) (done rest : List Rule) → IsTable (done ++ r ∷ rest) → IsClear (done ++ r ∷ rest) → list_any (λ q. keys_clash q.key r.key) done ≡ false
apart r done rest table clear =
    false_from_ne_true (list_any (λ q. keys_clash q.key r.key) done) (λ e.
    let (q, i, clash) = in_from_any (λ (q : Rule). keys_clash q.key r.key) done e in
    let (priority, meets) = and_parts (q.key.priority == r.key.priority) (patterns_meet q.key.pattern r.key.pattern) clash in
    let (h, first, second) = meet_in q.key.pattern r.key.pattern meets in
    let same : q ≡ r = clear h q r (in_append_left q done (r ∷ rest) i) (in_append_right r done (r ∷ rest) (inl refl)) first second (eqb-true q.key.priority r.key.priority priority) in
    fresh_from q r done rest table i (ap (λ (y : Rule). y.key) same))

module _ (net : Network) (distinct : IsDistinct net.names) where
  -- ---- one rule

  rule_step : (n : ℕ) (tables : List (List Rule)) (s : SwitchId) (r : Rule) (done rest : List Rule) → s.0 < switch_count net → n < 2048 → IsUserRule net s r → rules_at tables s ≡ done
      → IsTable (done ++ r ∷ rest) → IsClear (done ++ r ∷ rest) → rule_at net (place_of n) tables (rule_tree net s r) ≡ Ok (set tables s.0 (done ++ r ∷ []))
  unfolding rule_at rule_to with_rule rules_with
  rule_step n tables s r done rest known few user is table clear =
      let small : place_of n < 2048 = omega arith in
      rw (
        switch_again net (place_of n) s r distinct known small,
        rule_again net (place_of n) s r user,
        is,
        fresh r done rest table,
        apart r done rest table clear,
      ) refl

  -- ---- the rules of a switch

  table_again : (s : SwitchId) (rest : List Rule) (n : ℕ) (tables : List (List Rule)) (done : List Rule) (more : List Data) → s.0 < switch_count net → s.0 < length tables → n + length rest ≤ 2048
      → AllByRecursion (IsUserRule net s) rest → rules_at tables s ≡ done → IsTable (done ++ rest) → IsClear (done ++ rest)
      → in_turn (rule_at net) n tables (map (rule_tree net s) rest ++ more) ≡ in_turn (rule_at net) (n + length rest) (set tables s.0 (done ++ rest)) more
  unfolding in_turn
  table_again s [] n tables done more known within few users is table clear =
      let same : set tables s.0 (done ++ []) ≡ tables = ap (set tables s.0) (append-nil done ∙ sym is) ∙ set-get_or tables s.0 [] in
      let count : n + 0 ≡ n = omega arith in
      rw (same, count) refl
  table_again s (r ∷ rest) n tables done more known within few users is table clear =
      let next : List (List Rule) = set tables s.0 (done ++ r ∷ []) in
      let longer : (done ++ r ∷ []) ++ rest ≡ done ++ r ∷ rest = append_assoc done (r ∷ []) rest in
      let count : suc n + length rest ≡ n + suc (length rest) = omega arith in
      let inside : s.0 < length next = subst (λ (k : ℕ). s.0 < k) (sym (length-set tables s.0 (done ++ r ∷ []))) within in
      let later = table_again s rest (suc n) next (done ++ r ∷ []) more known inside (omega arith) users.1 (get_or-set_same tables s.0 (done ++ r ∷ []) [] within)
      (subst IsTable (sym longer) table) (subst IsClear (sym longer) clear) in
      let here : in_turn (rule_at net) n tables (rule_tree net s r ∷ (map (rule_tree net s) rest ++ more)) ≡ in_turn (rule_at net) (suc n) next (map (rule_tree net s) rest ++ more) =
      rw (rule_step n tables s r done rest known (omega arith) users.0 is table clear) refl in
      here ∙ later ∙ ap (λ (k : ℕ). in_turn (rule_at net) k (set next s.0 ((done ++ r ∷ []) ++ rest)) more) count
      ∙ ap (λ (ts : List (List Rule)). in_turn (rule_at net) (n + suc (length rest)) ts more) (set-set tables s.0 (done ++ r ∷ []) ((done ++ r ∷ []) ++ rest) ∙ ap (set tables s.0) longer)

  -- ---- the rules of all switches

  -- so many empty tables
  abbrev empty : ℕ → List (List Rule)
  empty k = replicate k []

  tables_again : (tables : List (List Rule)) (k n : ℕ) (before : List (List Rule)) → length before ≡ k → k + length tables ≡ switch_count net → n + sum_by length tables ≤ 2048
      → ((j : ℕ) → IsUserTable net (k + j) (get_or tables j []))
      → in_turn (rule_at net) n (before ++ replicate (length tables) []) (rule_trees net k tables) ≡ Ok (before ++ tables)
  unfolding in_turn
  tables_again [] k n before long all few each = refl
  tables_again (t ∷ ts) k n before long all few each =
      let s : SwitchId = record { 0 = k } in
      let start : List (List Rule) = before ++ [] ∷ replicate (length ts) [] in
      let known : k < switch_count net = omega arith in
      let sum : sum_by length (t ∷ ts) ≡ length t + sum_by length ts = sum_by-cons length t ts in
      let at_k : k + 0 ≡ k = omega arith in
      let here : IsUserTable net k t = subst (λ (i : ℕ). IsUserTable net i t) at_k (each 0) in
      let size : length start ≡ length before + suc (length (empty (length ts))) = length-append before ([] ∷ empty (length ts)) in
      let within : k < length start = omega (arith, size, long) in
      let first = table_again s t n start [] (rule_trees net (suc k) ts) known within (omega arith) here.rules (get_or_at before [] (replicate (length ts) []) [] k long) here.distinct here.clear in
      let filled : set start k t ≡ (before ++ t ∷ []) ++ replicate (length ts) [] = set_at before [] (replicate (length ts) []) t k long ∙ sym (append_assoc before (t ∷ []) (replicate (length ts) [])) in
      let pushed : length (before ++ t ∷ []) ≡ suc k = length-append before (t ∷ []) ∙ omega arith in
      let rest = tables_again ts (suc k) (n + length t) (before ++ t ∷ []) pushed (omega arith) (omega arith)
      (λ j. let e : k + suc j ≡ suc k + j = omega arith in subst (λ (i : ℕ). IsUserTable net i (get_or ts j [])) e (each (suc j))) in
      first ∙ ap (λ (x : List (List Rule)). in_turn (rule_at net) (n + length t) x (rule_trees net (suc k) ts)) filled ∙ rest
      ∙ ap (λ (x : List (List Rule)). let r : Result (List (List Rule)) ConfigFault = Ok x in r) (append_assoc before (t ∷ []) ts)

  -- ---- capacities

  none_found : (p : ℕ → Bool) (a n : ℕ) → ((s : ℕ) → a ≤ s → s < a + n → p s ≡ false) → find p (range_with_len a n) ≡ None
  none_found p a zero each = refl
  none_found p a (suc n) each = rw (each a (omega arith) (omega arith)) (none_found p (a + 1) n (λ s low high. each s (omega arith) (omega arith)))

  fits_again : (tables : List (List Rule)) → IsUserConfig net tables → over_capacity net tables ≡ None
  fits_again tables user =
      none_found (is_over net tables) 0 (switch_count net) (λ s low high.
      let switch : SwitchId = record { 0 = s } in
      let fit = user.fits switch (omega arith) in
      le-ltb (capacity_of net switch) (length (rules_at tables switch)) fit)

  -- ---- the file

  config_again : (tables : List (List Rule)) → IsUserConfig net tables → tables_in net (config_tree net tables) ≡ Ok tables
  unfolding tables_in items_in filled_in
  config_again tables user =
      let few = user.few in
      let count = user.count in
      let read : in_turn (rule_at net) 0 (replicate (switch_count net) []) (rule_trees net 0 tables) ≡ Ok tables =
      ap (λ (k : ℕ). in_turn (rule_at net) 0 (replicate k []) (rule_trees net 0 tables)) (sym count)
      ∙ tables_again tables 0 0 [] refl (zero-add (length tables) ∙ count) (omega (arith, few)) (λ j. subst (λ (i : ℕ). IsUserTable net i (get_or tables j [])) (sym (zero-add j)) (record {
        distinct = user.distinct (record { 0 = j });
        clear = user.clear (record { 0 = j });
        rules = user.rules (record { 0 = j });
      })) in
      rw (list_of-items_of (rule_trees net 0 tables), read, fits_again tables user) refl

pub text_again : (net : Network) (tables : List (List Rule)) (bytes : List ℕ) (d : Data) → IsNetwork net → IsUserConfig net tables → d ≡ config_tree net tables → tree_in bytes ≡ Some d
    → configuration_in net bytes ≡ Ok tables
unfolding configuration_in
text_again net tables bytes d kept user is reads = rw (reads, is) (config_again net kept.names tables user)
