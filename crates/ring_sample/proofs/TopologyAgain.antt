-- The text of the topology is read as the ring's network.
use Rattle.std.proofs.Common.{◌≡◌, ℕ, zero, suc, ◌+◌, ◌%◌, ◌<◌, ◌≤◌, Bool, true, false, cond, eqb, List, [], ◌∷◌, ◌++◌, length, map, codes, Some, None, Ok, inl, inr, refl, sym, ap, subst, ◌∙◌, arith}
use Rattle.std.specs.Prelude.{◌==◌, flat_map, count_by}
use Rattle.std.specs.List.{range_with_len, list_any}
use Rattle.std.proofs.lemmas.Bool.{lt-ltb, ne_eqb, and_left, and_right, or_parts, or_from}
use Rattle.std.proofs.lemmas.List.FromFn.{length-map-range_with_len, map-range_with_len_more}
use Rattle.std.proofs.lemmas.List.Sums.{sum_by-cons, count_by-le-length}
use Rattle.serde_json.specs.Data.{Data, object}
use Rattle.serde_json.specs.Find.{get}
use Rattle.net_base.specs.Reading.{in_turn, place_of}
use Rattle.flat_json.specs.JsonTree.{tree_in}
use Rattle.flat_json.proofs.JsonTree.{list_of-items_of}
use Rattle.net_base.specs.declared.field.Field.{Field}
use Rattle.net_base.specs.declared.field.Field.TheVariants.{Links, Hosts}
use Rattle.net_base.specs.declared.ids.Stop.{Stop}
use Rattle.net_base.specs.declared.ids.SwitchId.{SwitchId}
use Rattle.net_base.specs.declared.ids.Vlan.TheVariants.{Untagged}
use Rattle.topology.specs.declared.net.Link.{Link}
use Rattle.topology.specs.Networks.{Network, used_ports, stop_eq, is_on}
use Rattle.topology.specs.Growth.{no_network}
use Rattle.topology_files.specs.Topology.{switch_at, named_at, name_at, switches_in, reference, free_port, link_at, linked_at, links_in, host_at, host_port_at, hosts_in, vlan_at, new_vlan_at, vlans_in, tags_in, range_in, fields_in, ports_in, parts_in, format_in, members_in, network_in}
use Rattle.topology.proofs.PortLaws.{count_append}
use Rattle.ring_sample.specs.Ring.{numbers_below, ring_name, ring_stop, ring_link, ring_network}
use Rattle.ring_sample.specs.RingTrees.{switch_tree, link_tree, host_tree, topology_tree, port_text}
use Rattle.ring_sample.proofs.Ranges.{numbered_turns, none_mapped, one_counted, count_mapped}
use Rattle.ring_sample.proofs.Names.{next_cases, next_apart, new_name, name_form, reference_again}
use Rattle.net_base.specs.Switches.{most_switches}

-- ---- switches

-- with the first k switches
abbrev switches_of : ℕ → Network
switches_of k = record { names = map ring_name (numbers_below k); capacities = map (λ i. 64) (numbers_below k); links = []; hosts = []; vlans = []; tags = None; wide = false }

name_again : (place k : ℕ) → k < most_switches → name_at place (switches_of k) (switch_tree k) ≡ Ok (ring_name k)
unfolding name_at
name_again place k lt = rw (name_form k lt, new_name k lt) refl

switch_again : (place k : ℕ) → k < most_switches → switch_at place (switches_of k) (switch_tree k) ≡ Ok (switches_of (k + 1))
unfolding switch_at named_at
switch_again place k lt =
    rw (
      name_again place k lt,
      length-map-range_with_len ring_name 0 k,
      lt-ltb k most_switches lt,
      map-range_with_len_more ring_name 0 k k (omega arith),
      map-range_with_len_more {X = ℕ} (λ i. 64) 0 k k (omega arith),
    ) refl

switches_again : (n : ℕ) → n ≤ most_switches → switches_in (no_network false) (topology_tree n) ≡ Ok (switches_of n)
unfolding switches_in topology_tree
switches_again n few = rw (list_of-items_of (map switch_tree (numbers_below n))) (subst (λ (j : ℕ). in_turn switch_at 0 (switches_of 0) (map switch_tree (numbers_below n)) ≡ Ok (switches_of j)) (omega arith) (numbered_turns switch_at switch_tree switches_of most_switches switch_again n 0 0 (omega arith)))

-- ---- ports that aren't used

-- the ends of a link
abbrev pub ends : Link → List Stop
ends l = l.one ∷ l.other ∷ []

-- the ports of so many links from a switch on
abbrev pub linked : ℕ → ℕ → ℕ → List Stop
linked n a m = flat_map ends (map (ring_link n) (range_with_len a m))

-- the host ports of so many switches from one on
abbrev pub hosted : ℕ → ℕ → List Stop
hosted a m = map (λ i. ring_stop i 1) (range_with_len a m)

none_linked : (n : ℕ) (x : Stop) (a m : ℕ) → ((i : ℕ) → a ≤ i → i < a + m → (stop_eq x (ring_stop i 2) ≡ false) × (stop_eq x (ring_stop ((i + 1) % n) 3) ≡ false)) → list_any (stop_eq x) (linked n a m) ≡ false
none_linked n x a zero each = refl
none_linked n x a (suc m) each =
    let h = each a (omega arith) (omega arith) in
    rw (h.0, h.1) (none_linked n x (a + 1) m (λ i low high. each i (omega arith) (omega arith)))

none_append : (p : Stop → Bool) (xs ys : List Stop) → list_any p xs ≡ false → list_any p ys ≡ false → list_any p (xs ++ ys) ≡ false
none_append p [] ys first last = last
none_append p (x ∷ xs) ys first last = let h = or_parts (p x) (list_any p xs) first in rw h.0 (none_append p xs ys h.1 last)

pub other_switch : (i k p q : ℕ) → ¬ (i ≡ k) → stop_eq (ring_stop i p) (ring_stop k q) ≡ false
other_switch i k p q apart = and_left (i == k) (p == q) (ne_eqb i k apart)

pub other_port : (i k p q : ℕ) → ¬ (p ≡ q) → stop_eq (ring_stop i p) (ring_stop k q) ≡ false
other_port i k p q apart = and_right (i == k) (p == q) (ne_eqb p q apart)

counted : (n s a m : ℕ) → count_by (is_on (record { 0 = s })) (linked n a m) ≡ count_by (λ i. i == s) (range_with_len a m) + count_by (λ i. ((i + 1) % n) == s) (range_with_len a m)
counted n s a zero = refl
counted n s a (suc m) =
    let here : Stop → ℕ = λ stop. cond (stop.switch.0 == s) 1 0 in
    let one : count_by (is_on (record { 0 = s })) (linked n a (suc m)) ≡ cond (a == s) 1 0 + count_by (is_on (record { 0 = s })) (ring_stop ((a + 1) % n) 3 ∷ linked n (a + 1) m) = sum_by-cons here (ring_stop a 2) (ring_stop ((a + 1) % n) 3 ∷ linked n (a + 1) m) in
    let two : count_by (is_on (record { 0 = s })) (ring_stop ((a + 1) % n) 3 ∷ linked n (a + 1) m) ≡ cond (((a + 1) % n) == s) 1 0 + count_by (is_on (record { 0 = s })) (linked n (a + 1) m) = sum_by-cons here (ring_stop ((a + 1) % n) 3) (linked n (a + 1) m) in
    let three : count_by (λ i. i == s) (range_with_len a (suc m)) ≡ cond (a == s) 1 0 + count_by (λ i. i == s) (range_with_len (a + 1) m) = sum_by-cons (λ i. cond (i == s) 1 0) a (range_with_len (a + 1) m) in
    let four : count_by (λ i. ((i + 1) % n) == s) (range_with_len a (suc m)) ≡ cond (((a + 1) % n) == s) 1 0 + count_by (λ i. ((i + 1) % n) == s) (range_with_len (a + 1) m) = sum_by-cons (λ i. cond (((i + 1) % n) == s) 1 0) a (range_with_len (a + 1) m) in
    let rest = counted n s (a + 1) m in
    omega (arith, one, two, three, four, rest)

few_linked : (n s k : ℕ) → k ≤ n → count_by (is_on (record { 0 = s })) (linked n 0 k) ≤ 2
few_linked n s k within =
    let first = one_counted (λ i. i) s 0 k (λ i j low less high same. omega arith) in
    let second = one_counted (λ i. (i + 1) % n) s 0 k (λ i j low less high same. next_apart n i j less (omega arith) same) in
    omega (arith, counted n s 0 k, first, second)

few_hosted : (s k : ℕ) → count_by (is_on (record { 0 = s })) (hosted 0 k) ≤ 1
few_hosted s k =
    let first = one_counted (λ i. i) s 0 k (λ i j low less high same. omega arith) in
    omega (arith, count_mapped (is_on (record { 0 = s })) (λ i. ring_stop i 1) (numbers_below k), first)

free_again : (net : Network) (field : Field) (place : ℕ) (used : List Stop) (text : List ℕ) (stop : Stop) → reference net field place text ≡ Ok stop → list_any (stop_eq stop) used ≡ false
    → count_by (is_on stop.switch) used < 64 → free_port net field place used text ≡ Ok stop
unfolding free_port
free_again net field place used text stop reads none few = rw (reads, none, lt-ltb (count_by (is_on stop.switch) used) 64 few) refl

-- ---- links

-- with all switches, and the first k links
abbrev links_of : ℕ → ℕ → Network
links_of n k = record { names = map ring_name (numbers_below n); capacities = map (λ i. 64) (numbers_below n); links = map (ring_link n) (numbers_below k); hosts = []; vlans = []; tags = None; wide = false }

module _ (n place k : ℕ) (some : 4 ≤ n) (few : n ≤ most_switches) (lt : k < n) where
  next_below : (k + 1) % n < n
  next_below = elim (next_cases n k lt) [ inl h ↦ omega (arith, h.0, h.1) | inr h ↦ omega (arith, h.1) ]

  first_free : free_port (links_of n k) Links place (used_ports (links_of n k)) (port_text k 2) ≡ Ok (ring_stop k 2)
  first_free =
      free_again (links_of n k) Links place (linked n 0 k) (port_text k 2) (ring_stop k 2) (reference_again (links_of n k) n k 2 Links place refl few lt (omega arith) (omega arith))
      (none_linked n (ring_stop k 2) 0 k (λ i low high. (other_switch k i 2 2 (λ e. omega arith), other_port k ((i + 1) % n) 2 3 (λ e. omega arith))))
      (omega (arith, few_linked n k k (omega arith)))

  second_free : free_port (links_of n k) Links place (used_ports (links_of n k) ++ ring_stop k 2 ∷ []) (port_text ((k + 1) % n) 3) ≡ Ok (ring_stop ((k + 1) % n) 3)
  second_free =
      let next = (k + 1) % n in
      let none = none_linked n (ring_stop next 3) 0 k (λ i low high. (other_port next i 3 2 (λ e. omega arith), other_switch next ((i + 1) % n) 3 3 (λ e. next_apart n i k (omega arith) lt (sym e)))) in
      let count : count_by (is_on (record { 0 = next })) (linked n 0 k ++ ring_stop k 2 ∷ []) < 64 =
      omega (arith, count_append (is_on (record { 0 = next })) (linked n 0 k) (ring_stop k 2 ∷ []), few_linked n next k (omega arith), count_by-le-length (is_on (record { 0 = next })) (ring_stop k 2 ∷ [])) in
      free_again (links_of n k) Links place (linked n 0 k ++ ring_stop k 2 ∷ []) (port_text next 3) (ring_stop next 3) (reference_again (links_of n k) n next 3 Links place refl few next_below (omega arith) (omega arith))
      (none_append (stop_eq (ring_stop next 3)) (linked n 0 k) (ring_stop k 2 ∷ []) none (or_from _ _ (other_port next k 3 2 (λ e. omega arith)) refl))
      count

  pub link_again : link_at place (links_of n k) (link_tree n k) ≡ Ok (links_of n (k + 1))
  unfolding link_at linked_at
  link_again = rw (first_free, second_free, map-range_with_len_more (ring_link n) 0 k k (omega arith)) refl

links_again : (n : ℕ) → 4 ≤ n → n ≤ most_switches → links_in (switches_of n) (topology_tree n) ≡ Ok (links_of n n)
unfolding links_in topology_tree
links_again n some few =
    rw (list_of-items_of (map (link_tree n) (numbers_below n)))
    (subst (λ (j : ℕ). in_turn link_at 0 (links_of n 0) (map (link_tree n) (numbers_below n)) ≡ Ok (links_of n j)) (omega arith)
    (numbered_turns link_at (link_tree n) (links_of n) n (λ place k lt. link_again n place k some few lt) n 0 0 (omega arith)))

-- ---- host ports

-- with all links, and the first k host ports
abbrev hosts_of : ℕ → ℕ → Network
hosts_of n k = record { names = map ring_name (numbers_below n); capacities = map (λ i. 64) (numbers_below n); links = map (ring_link n) (numbers_below n); hosts = map (λ i. ring_stop i 1) (numbers_below k); vlans = []; tags = None; wide = false }

module _ (n place k : ℕ) (few : n ≤ most_switches) (lt : k < n) where
  host_free : free_port (hosts_of n k) Hosts place (used_ports (hosts_of n k)) (port_text k 1) ≡ Ok (ring_stop k 1)
  host_free =
      let none = none_append (stop_eq (ring_stop k 1)) (hosted 0 k) (linked n 0 n)
      (none_mapped (stop_eq (ring_stop k 1)) (λ i. ring_stop i 1) 0 k (λ i low high. other_switch k i 1 1 (λ e. omega arith)))
      (none_linked n (ring_stop k 1) 0 n (λ i low high. (other_port k i 1 2 (λ e. omega arith), other_port k ((i + 1) % n) 1 3 (λ e. omega arith)))) in
      let count : count_by (is_on (record { 0 = k })) (hosted 0 k ++ linked n 0 n) < 64 =
      omega (arith, count_append (is_on (record { 0 = k })) (hosted 0 k) (linked n 0 n), few_linked n k n (omega arith), few_hosted k k) in
      free_again (hosts_of n k) Hosts place (hosted 0 k ++ linked n 0 n) (port_text k 1) (ring_stop k 1) (reference_again (hosts_of n k) n k 1 Hosts place refl few lt (omega arith) (omega arith)) none count

  pub host_again : host_at place (hosts_of n k) (host_tree k) ≡ Ok (hosts_of n (k + 1))
  unfolding host_at host_port_at
  host_again = rw (host_free, map-range_with_len_more (λ i. ring_stop i 1) 0 k k (omega arith)) refl

hosts_again : (n : ℕ) → n ≤ most_switches → hosts_in (links_of n n) (topology_tree n) ≡ Ok (hosts_of n n)
unfolding hosts_in topology_tree
hosts_again n few =
    rw (list_of-items_of (map host_tree (numbers_below n)))
    (subst (λ (j : ℕ). in_turn host_at 0 (hosts_of n 0) (map host_tree (numbers_below n)) ≡ Ok (hosts_of n j)) (omega arith)
    (numbered_turns host_at host_tree (hosts_of n) n (λ place k lt. host_again n place k few lt) n 0 0 (omega arith)))

-- ---- the file

ports_again : (n : ℕ) → 4 ≤ n → n ≤ most_switches → ports_in false (topology_tree n) ≡ Ok (hosts_of n n)
unfolding ports_in
ports_again n some few = rw (switches_again n few, links_again n some few, hosts_again n few) refl

abbrev vlans_of : ℕ → Network
vlans_of n = record (hosts_of n n) { vlans = Untagged ∷ [] }

vlans_again : (n : ℕ) → vlans_in (hosts_of n n) (topology_tree n) ≡ Ok (vlans_of n)
unfolding vlans_in vlan_at new_vlan_at in_turn topology_tree
vlans_again n = refl

tags_again : (n : ℕ) → tags_in (vlans_of n) (topology_tree n) ≡ Ok (ring_network n)
unfolding tags_in range_in topology_tree ring_network
tags_again n = refl

fields_again : (n : ℕ) → fields_in (ring_network n) (topology_tree n) ≡ Ok (ring_network n)
unfolding fields_in ring_network
fields_again n = refl

parts_again : (n : ℕ) → 4 ≤ n → n ≤ most_switches → parts_in false (topology_tree n) ≡ Ok (ring_network n)
unfolding parts_in topology_tree
parts_again n some few = rw (ports_again n some few, vlans_again n, tags_again n, fields_again n) refl

format_again : (n : ℕ) → format_in (get (codes "format") (topology_tree n)) ≡ Ok false
unfolding format_in topology_tree
format_again n = refl

members_again : (n : ℕ) → 4 ≤ n → n ≤ most_switches → members_in (topology_tree n) ≡ Ok (ring_network n)
unfolding members_in topology_tree
members_again n some few = rw (format_again n, parts_again n some few) refl

pub topology_again : (n : ℕ) (bytes : List ℕ) (d : Data) → 4 ≤ n → n ≤ most_switches → d ≡ topology_tree n → tree_in bytes ≡ Some d → network_in bytes ≡ Ok (ring_network n)
unfolding network_in
topology_again n bytes d some few is reads = rw (reads, is) (members_again n some few)
