-- The text of the policy is read as the ring's demands.
use Rattle.std.proofs.Common.{◌≡◌, ℕ, zero, suc, ◌+◌, ◌*◌, ◌<◌, ◌≤◌, false, List, [], ◌∷◌, ◌++◌, length, map, codes, Some, Ok, refl, sym, ap, subst, ◌∙◌, append_assoc, arith}
use Rattle.std.specs.Prelude.{flat_map, filter, not, ◌==◌}
use Rattle.std.specs.List.{AllByRecursion, range_with_len}
use Rattle.std.specs.Str.{bytes_eq}
use Rattle.std.proofs.lemmas.Bool.{lt-ltb}
use Rattle.std.proofs.lemmas.List.{append-nil, length-append, length-map, length_push}
use Rattle.std.proofs.lemmas.List.Sums.{length-filter, count_by-le-length}
use Rattle.serde_json.specs.Data.{Data}
use Rattle.net_base.specs.Reading.{in_turn, place_of}
use Rattle.flat_json.specs.JsonTree.{tree_in}
use Rattle.net_base.proofs.MemberLaws.{each_filter}
use Rattle.net_base.proofs.Prefixes.{prefix_in-text}
use Rattle.flat_json.proofs.JsonTree.{list_of-items_of}
use Rattle.demands.specs.Duties.{DemandView}
use Rattle.demands.specs.Policy.{host_in, source_in, from_in, test_in, through_in, deliver_in, unknown_in, dst_in, cover_in, demand_in, demand_at, members_in, demands_in}
use Rattle.ring_sample.specs.Ring.{numbers_below, ring_name, ring_network, destinations, others, ring_prefix, ring_demand, ring_demands}
use Rattle.ring_sample.specs.RingTrees.{port_text, demand_tree, policy_tree}
use Rattle.ring_sample.proofs.Ranges.{flat_more, group_turns}
use Rattle.ring_sample.proofs.Names.{named, parts_again}
use Rattle.ring_sample.proofs.Ports.{host_is}
use Rattle.ring_sample.proofs.ConfigurationAgain.{prefix_block}
use Rattle.net_base.specs.Switches.{most_switches}

not_any : (i : ℕ) → bytes_eq (port_text i 1) (codes "any") ≡ false
unfolding port_text ring_name
not_any i = refl

narrow : (n : ℕ) → (ring_network n).wide ≡ false
unfolding ring_network
narrow n = refl

pub few_others : (i : ℕ) → length (others i) ≤ 4
few_others i = omega (arith, length-filter (λ j. not (j == i)) destinations, count_by-le-length (λ j. not (j == i)) destinations)

few_flat : {A : Type 0} (group : ℕ → List A) → ((i : ℕ) → length (group i) ≤ 4) → (a m : ℕ) → length (flat_map group (range_with_len a m)) ≤ 4 * m
few_flat group few a zero = omega arith
few_flat group few a (suc m) = omega (arith, length-append (group a) (flat_map group (range_with_len (a + 1) m)), few a, few_flat group few (a + 1) m)

pub each_other : (i : ℕ) → AllByRecursion (λ j. j < 4) (others i)
each_other i = each_filter (λ j. j < 4) (λ j. not (j == i)) destinations (omega arith, (omega arith, (omega arith, (omega arith, tt))))

module _ (n : ℕ) (few : n ≤ most_switches) where
  module _ (i : ℕ) (lt : i < n) where
    host_again : (place : ℕ) → host_in (ring_network n) place (port_text i 1) ≡ Ok (record { switch = record { 0 = i }; port = record { 0 = 1 } })
    unfolding host_in ring_network
    host_again place = rw (parts_again i 1 (omega arith), named n i few lt, host_is n i lt) refl

    demand_again : (place j : ℕ) (before : List DemandView) → length before < 512 → j < 4 → demand_at (ring_network n) place before (demand_tree i j) ≡ Ok (before ++ ring_demand i j ∷ [])
    unfolding demand_at demand_in cover_in dst_in from_in source_in test_in through_in deliver_in unknown_in
    demand_again place j before short within =
        rw (lt-ltb (length before) 512 short, not_any i, host_again place, prefix_in-text (ring_prefix j) (prefix_block j within), narrow n) refl

    each_again : (js : List ℕ) (m : ℕ) (before : List DemandView) → AllByRecursion (λ j. j < 4) js → length before + length js ≤ 512
        → in_turn (demand_at (ring_network n)) m before (map (demand_tree i) js) ≡ Ok (before ++ map (ring_demand i) js)
    unfolding in_turn
    each_again [] m before within short = ap (λ (ds : List DemandView). Ok ds) (sym (append-nil before))
    each_again (j ∷ js) m before within short =
        let longer = length_push before (ring_demand i j) in
        rw (demand_again (place_of m) j before (omega arith) within.0)
        (each_again js (suc m) (before ++ ring_demand i j ∷ []) within.1 (omega arith) ∙ ap (λ (ds : List DemandView). Ok ds) (append_assoc before (ring_demand i j ∷ []) (map (ring_demand i) js)))

  abbrev demands_of : ℕ → List DemandView
  demands_of k = flat_map (λ i. map (ring_demand i) (others i)) (numbers_below k)

  few_of : (k : ℕ) → length (demands_of k) ≤ 4 * k
  few_of k = few_flat (λ i. map (ring_demand i) (others i)) (λ i. omega (arith, length-map (others i) (ring_demand i), few_others i)) 0 k

  next_demands : (m k : ℕ) → k < n → m ≤ 4 * k → in_turn (demand_at (ring_network n)) m (demands_of k) (map (demand_tree k) (others k)) ≡ Ok (demands_of (k + 1))
  next_demands m k lt small =
      each_again k lt (others k) m (demands_of k) (each_other k) (omega (arith, few_of k, few_others k))
      ∙ ap (λ (ds : List DemandView). Ok ds) (sym (flat_more (λ i. map (ring_demand i) (others i)) k))

  items_again : in_turn (demand_at (ring_network n)) 0 [] (flat_map (λ i. map (demand_tree i) (others i)) (numbers_below n)) ≡ Ok (ring_demands n)
  unfolding ring_demands
  items_again =
      let same : 0 + n ≡ n = omega arith in
      subst (λ (j : ℕ). in_turn (demand_at (ring_network n)) 0 [] (flat_map (λ i. map (demand_tree i) (others i)) (numbers_below n)) ≡ Ok (demands_of j)) same
      (group_turns (demand_at (ring_network n)) (λ i. map (demand_tree i) (others i)) demands_of n (λ k. omega (arith, length-map (others k) (demand_tree k), few_others k)) next_demands n 0 0 (omega arith) (omega arith))

  members_again : members_in (ring_network n) (policy_tree n) ≡ Ok (ring_demands n)
  unfolding members_in policy_tree
  members_again = rw (list_of-items_of (flat_map (λ i. map (demand_tree i) (others i)) (numbers_below n)), items_again) refl

  pub policy_again : (bytes : List ℕ) (d : Data) → d ≡ policy_tree n → tree_in bytes ≡ Some d → demands_in (ring_network n) bytes ≡ Ok (ring_demands n)
  unfolding demands_in
  policy_again bytes d is reads = rw (reads, is) members_again
