-- The text of a configuration is read as the ring's tables.
use Rattle.std.proofs.Common.{◌≡◌, ℕ, zero, suc, ◌+◌, ◌-◌, ◌*◌, ◌%◌, ◌^◌, ◌<◌, ◌≤◌, Bool, true, false, List, [], ◌∷◌, ◌++◌, length, map, get_or, set, replicate, codes, Some, None, Ok, refl, sym, ap, subst, ◌∙◌, append_assoc, arith}
use Rattle.std.specs.Prelude.{find, flat_map}
use Rattle.std.specs.List.{range_with_len, list_any}
use Rattle.std.proofs.lemmas.Bool.{lt-ltb}
use Rattle.std.proofs.lemmas.List.{get_or_at, set_at, append-nil}
use Rattle.std.proofs.lemmas.List.FromFn.{length-map-range_with_len, get_or-map-range_with_len, map-range_with_len_more}
use Rattle.serde_json.specs.Data.{Data}
use Rattle.net_base.specs.Blocks.{IsBlock}
use Rattle.net_base.specs.Reading.{in_turn, place_of}
use Rattle.flat_json.specs.JsonTree.{tree_in}
use Rattle.net_base.proofs.Prefixes.{prefix_in-text}
use Rattle.flat_json.proofs.JsonTree.{list_of-items_of}
use Rattle.topology.specs.Networks.{switch_count}
use Rattle.flow_rules.specs.Overlaps.{keys_clash}
use Rattle.flow_rules.specs.Patterns.{key_eq}
use Rattle.flow_rules.specs.declared.rules.Rule.{Rule}
use Rattle.config_files.specs.Configuration.{port_in, some_port, priority_in, dst_in, pattern_in, action_in, rule_in, rules_with, with_rule, rule_to, switch_in, rule_at, is_over, over_capacity, items_in, filled_in, tables_in, configuration_in}
use Rattle.ring_sample.specs.Ring.{numbers_below, ring_name, ring_network, destinations, ring_prefix, ring_rule, ring_table, ring_tables}
use Rattle.ring_sample.specs.RingTrees.{rule_tree, configuration_tree}
use Rattle.ring_sample.proofs.Ranges.{group_turns}
use Rattle.ring_sample.proofs.Names.{named}
use Rattle.ring_sample.proofs.Ports.{out_used}
use Rattle.net_base.specs.Switches.{most_switches}

pub prefix_block : (j : ℕ) → j < 4 → IsBlock (ring_prefix j)
prefix_block j lt = record { length = omega arith; base = omega arith; aligned = omega arith }

none_found : (p : ℕ → Bool) (a m : ℕ) → ((i : ℕ) → a ≤ i → i < a + m → p i ≡ false) → find p (range_with_len a m) ≡ None
none_found p a zero each = refl
none_found p a (suc m) each = rw (each a (omega arith) (omega arith)) (none_found p (a + 1) m (λ i low high. each i (omega arith) (omega arith)))

module _ (n : ℕ) (few : n ≤ most_switches) (port : ℕ) (low : 2 ≤ port) (high : port ≤ 3) where
  -- ---- one rule

  module _ (i : ℕ) (lt : i < n) where
    switch_again : (place j : ℕ) → place < 2048 → switch_in place (ring_network n) (rule_tree port i j) ≡ Ok (record { 0 = i })
    unfolding switch_in ring_network
    switch_again place j small = rw (lt-ltb place 2048 small, named n i few lt) refl

    rule_again : (place j : ℕ) → j < 4 → rule_in place (ring_network n) (record { 0 = i }) (rule_tree port i j) ≡ Ok (ring_rule port i j)
    unfolding rule_in priority_in pattern_in dst_in action_in some_port port_in
    rule_again place j within = rw (prefix_in-text (ring_prefix j) (prefix_block j within), out_used n i lt port j low high) refl

    -- the tables with these rules at the switch
    abbrev tables_with : List (List Rule) → List (List Rule) → List Rule → List (List Rule)
    tables_with before after rules = before ++ rules ∷ after

    step : (before after : List (List Rule)) → length before ≡ i → (place j : ℕ) (rules : List Rule) → place < 2048 → j < 4
        → list_any (λ q. key_eq q.key (ring_rule port i j).key) rules ≡ false → list_any (λ q. keys_clash q.key (ring_rule port i j).key) rules ≡ false
        → rule_at (ring_network n) place (tables_with before after rules) (rule_tree port i j) ≡ Ok (tables_with before after (rules ++ ring_rule port i j ∷ []))
    unfolding rule_at rule_to with_rule rules_with
    step before after size place j rules small within new clear =
        rw (switch_again place j small, rule_again place j within, get_or_at before rules after [] i size, new, clear, set_at before rules after (rules ++ ring_rule port i j ∷ []) i size) refl

    -- the rules of the switch
    four : (before after : List (List Rule)) → length before ≡ i → (m : ℕ) → m ≤ 512 → in_turn (rule_at (ring_network n)) m (tables_with before after []) (map (rule_tree port i) destinations) ≡ Ok (tables_with before after (ring_table port i))
    unfolding in_turn
    four before after size m small =
        rw (
          step before after size (place_of m) 0 [] (omega arith) (omega arith) refl refl,
          step before after size (place_of (suc m)) 1 (ring_rule port i 0 ∷ []) (omega arith) (omega arith) refl refl,
          step before after size (place_of (suc (suc m))) 2 (ring_rule port i 0 ∷ ring_rule port i 1 ∷ []) (omega arith) (omega arith) refl refl,
          step before after size (place_of (suc (suc (suc m)))) 3 (ring_rule port i 0 ∷ ring_rule port i 1 ∷ ring_rule port i 2 ∷ []) (omega arith) (omega arith) refl refl,
        ) refl

  -- ---- all rules

  -- the tables of the first k switches
  abbrev tables_of : ℕ → List (List Rule)
  tables_of k = map (ring_table port) (numbers_below k) ++ replicate (n - k) []

  next_tables : (m k : ℕ) → k < n → m ≤ 4 * k → in_turn (rule_at (ring_network n)) m (tables_of k) (map (rule_tree port k) destinations) ≡ Ok (tables_of (k + 1))
  next_tables m k lt small =
      let before = map (ring_table port) (numbers_below k) in
      let after : List (List Rule) = replicate (n - (k + 1)) [] in
      let left : n - k ≡ suc (n - (k + 1)) = omega arith in
      let here : tables_of k ≡ tables_with k lt before after [] = ap (λ (c : ℕ). before ++ replicate c []) left in
      let there : tables_with k lt before after (ring_table port k) ≡ tables_of (k + 1) =
      sym (append_assoc before (ring_table port k ∷ []) after) ∙ ap (λ (ts : List (List Rule)). ts ++ after) (sym (map-range_with_len_more (ring_table port) 0 k k (omega arith))) in
      subst (λ (ts : List (List Rule)). in_turn (rule_at (ring_network n)) m ts (map (rule_tree port k) destinations) ≡ Ok (tables_of (k + 1))) (sym here)
      (subst (λ (ts : List (List Rule)). in_turn (rule_at (ring_network n)) m (tables_with k lt before after []) (map (rule_tree port k) destinations) ≡ Ok ts) there
      (four k lt before after (length-map-range_with_len (ring_table port) 0 k) m (omega arith)))

  whole : tables_of n ≡ ring_tables n port
  unfolding ring_tables
  whole =
      let none : n - n ≡ 0 = omega arith in
      ap (λ (c : ℕ). map (ring_table port) (numbers_below n) ++ replicate c []) none ∙ append-nil (map (ring_table port) (numbers_below n))

  many : switch_count (ring_network n) ≡ n
  unfolding ring_network
  many = length-map-range_with_len ring_name 0 n

  rules_again : in_turn (rule_at (ring_network n)) 0 (replicate (switch_count (ring_network n)) []) (flat_map (λ i. map (rule_tree port i) destinations) (numbers_below n)) ≡ Ok (ring_tables n port)
  rules_again =
      let all : in_turn (rule_at (ring_network n)) 0 (tables_of 0) (flat_map (λ i. map (rule_tree port i) destinations) (numbers_below n)) ≡ Ok (tables_of (0 + n)) =
      group_turns (rule_at (ring_network n)) (λ i. map (rule_tree port i) destinations) tables_of n (λ k. omega arith) next_tables n 0 0 (omega arith) (omega arith) in
      let none : n - 0 ≡ switch_count (ring_network n) = omega (arith, many) in
      let same : 0 + n ≡ n = omega arith in
      subst (λ (c : ℕ). in_turn (rule_at (ring_network n)) 0 (replicate c []) (flat_map (λ i. map (rule_tree port i) destinations) (numbers_below n)) ≡ Ok (ring_tables n port)) none
      (subst (λ (ts : List (List Rule)). in_turn (rule_at (ring_network n)) 0 (tables_of 0) (flat_map (λ i. map (rule_tree port i) destinations) (numbers_below n)) ≡ Ok ts) (ap tables_of same ∙ whole) all)

  within_capacity : (i : ℕ) → i < n → is_over (ring_network n) (ring_tables n port) i ≡ false
  unfolding ring_network ring_tables
  within_capacity i lt =
      rw (get_or-map-range_with_len {X = ℕ} (λ k. 64) 0 n i i 0 lt (omega arith), get_or-map-range_with_len (ring_table port) 0 n i i [] lt (omega arith)) refl

  none_over : over_capacity (ring_network n) (ring_tables n port) ≡ None
  none_over = none_found (is_over (ring_network n) (ring_tables n port)) 0 (switch_count (ring_network n)) (λ i low high. within_capacity i (omega (arith, many)))

  tables_again : tables_in (ring_network n) (configuration_tree n port) ≡ Ok (ring_tables n port)
  unfolding tables_in items_in filled_in configuration_tree
  tables_again = rw (list_of-items_of (flat_map (λ i. map (rule_tree port i) destinations) (numbers_below n)), rules_again, none_over) refl

  pub configuration_again : (bytes : List ℕ) (d : Data) → d ≡ configuration_tree n port → tree_in bytes ≡ Some d → configuration_in (ring_network n) bytes ≡ Ok (ring_tables n port)
  unfolding configuration_in
  configuration_again bytes d is reads = rw (reads, is) tables_again
