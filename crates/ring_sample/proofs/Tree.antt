-- The update of the ring is one of destination trees.
use Rattle.std.proofs.Common.{◌≡◌, ℕ, zero, suc, ◌+◌, ◌*◌, ◌%◌, ◌^◌, ◌<◌, ◌≤◌, ◌⊎◌, true, List, [], ◌∷◌, ◌++◌, length, map, get_or, Some, inl, inr, refl, sym, ap, subst, ◌∙◌, arith}
use Rattle.std.specs.Prelude.{IsTrue, flat_map, slice_get, filter, not, ◌==◌}
use Rattle.std.specs.List.{AllByRecursion, range_with_len}
use Rattle.std.proofs.lemmas.Bool.{cases_eq, cases_lt}
use Rattle.std.proofs.lemmas.List.{get_or_past}
use Rattle.std.proofs.lemmas.List.FromFn.{length-map-range_with_len, get_or-map-range_with_len}
use Rattle.net_base.specs.Blocks.{Block, in_block}
use Rattle.net_base.specs.Members.{IsIn, IsSameSet}
use Rattle.net_base.specs.Places.{stop_of}
use Rattle.net_base.specs.declared.ids.Place.{Place}
use Rattle.net_base.specs.declared.ids.Stop.{Stop}
use Rattle.net_base.specs.declared.ids.SwitchId.{SwitchId}
use Rattle.net_base.proofs.MemberLaws.{in_map, in_from_map, in_append_left, in_append_cases, in_from_filter, each_map}
use Rattle.net_base.proofs.ListLaws.{in_flat_map, in_from_flat_map}
use Rattle.topology.specs.Networks.{IsNetwork}
use Rattle.flow_rules.specs.Tables.{rules_at, keys_of, table_blocks}
use Rattle.flow_rules.specs.declared.rules.Rule.{Rule}
use Rattle.path_walk.specs.Paths.{Trace, IsPath}
use Rattle.path_walk.proofs.PathLaws.{path_one}
use Rattle.dest_classes.specs.Classes.{IsClass, boundaries, class_count}
use Rattle.dest_classes.specs.declared.Class.{Class}
use Rattle.demands.specs.Duties.{DemandView}
use Rattle.demands.specs.Good.{HasGoodPath, HasGoodPaths}
use Rattle.certificates.specs.Updates.{Task}
use Rattle.certificates.specs.Certified.{classes_for, blocks_of}
use Rattle.certificates.specs.Trees.{IsTreeUpdate, MatchesPrefixAlone, AreApart, LeavesOrStays}
use Rattle.table_difference.specs.SameClasses.{every_address}
use Rattle.table_difference.proofs.BoundaryLaws.{same_boundaries}
use Rattle.ring_sample.specs.Ring.{numbers_below, destinations, others, ring_stop, ring_network, ring_prefix, ring_rule, ring_table, ring_tables, ring_demand, ring_demands}
use Rattle.ring_sample.proofs.Ranges.{in_range, from_range}
use Rattle.ring_sample.proofs.Ways.{IsWay, IsFar, next_way, back_way, ahead, next_ahead, back, behind, back_behind}
use Rattle.ring_sample.proofs.Walks.{place_at}
use Rattle.ring_sample.proofs.ClassPaths.{firsts, within_block, ring_demand_of, none_through, table_at, ClassPath, class_path}
use Rattle.net_base.proofs.ItemLaws.{in_from_get}

-- ---- tables

alone_from : (port a m : ℕ) → AllByRecursion (AllByRecursion MatchesPrefixAlone) (map (ring_table port) (range_with_len a m))
alone_from port a zero = tt
alone_from port a (suc m) = (((refl, refl), ((refl, refl), ((refl, refl), ((refl, refl), tt)))), alone_from port (a + 1) m)

alone : (n port : ℕ) → AllByRecursion (AllByRecursion MatchesPrefixAlone) (ring_tables n port)
unfolding ring_tables
alone n port = alone_from port 0 n

past_all : (n port i : ℕ) → n ≤ i → rules_at (ring_tables n port) (record { 0 = i }) ≡ []
unfolding ring_tables
past_all n port i past = get_or_past (map (ring_table port) (numbers_below n)) i [] (let many = length-map-range_with_len (ring_table port) 0 n in omega (arith, many))

keys_same : (n i : ℕ) → keys_of (rules_at (ring_tables n 2) (record { 0 = i })) ≡ keys_of (rules_at (ring_tables n 3) (record { 0 = i }))
keys_same n i =
    elim (cases_lt i n) [
      | inl less ↦ ap keys_of (table_at n 2 i less) ∙ ap keys_of (sym (table_at n 3 i less))
      | inr past ↦ ap keys_of (past_all n 2 i past) ∙ ap keys_of (sym (past_all n 3 i past))
    ]

-- ---- prefixes

abbrev four : List Block
four = map ring_prefix destinations

in_tables : (n port : ℕ) (b : Block) → IsIn b (table_blocks (ring_tables n port)) → IsIn b four
unfolding ring_tables
in_tables n port b there =
    let (rules, among, inside) = in_from_flat_map (λ (rs : List Rule). map (λ (r : Rule). r.key.pattern.dst) rs) b (map (ring_table port) (numbers_below n)) there in
    let (i, _, is) = in_from_map (ring_table port) rules (numbers_below n) among in
    subst (λ (rs : List Rule). IsIn b (map (λ (r : Rule). r.key.pattern.dst) rs)) is inside

in_demands : (n : ℕ) (b : Block) → IsIn b (map (λ (d : DemandView). d.dst) (ring_demands n)) → IsIn b four
in_demands n b there =
    let (d, among, is) = in_from_map (λ (x : DemandView). x.dst) b (ring_demands n) there in
    let r = ring_demand_of n d among in
    let dst : b ≡ ring_prefix r.j = is ∙ ap (λ (x : DemandView). x.dst) r.is in
    let (one, _) = in_from_filter (λ k. not (k == r.i)) r.j destinations r.other in
    subst (λ (x : Block). IsIn x four) (sym dst) (in_map ring_prefix r.j destinations one)

first_has_all : (n : ℕ) → 1 ≤ n → (b : Block) → IsIn b four → IsIn b (table_blocks (ring_tables n 2))
unfolding ring_tables
first_has_all n some b i =
    in_flat_map (λ (rs : List Rule). map (λ (r : Rule). r.key.pattern.dst) rs) (ring_table 2 0) b (map (ring_table 2) (numbers_below n))
    (in_map (ring_table 2) 0 (numbers_below n) (in_range 0 n 0 (omega arith) (omega arith))) i

-- each is one of the destinations'
prefix_of : (b : Block) → IsIn b four → (j : ℕ) × (b ≡ ring_prefix j)
prefix_of b i = let (j, _, is) = in_from_map ring_prefix b destinations i in (j, is)

apart_or_same : (a b : Block) → IsIn a four → IsIn b four → AreApart a b
apart_or_same a b i k =
    let (j, is) = prefix_of a i in
    let (l, same) = prefix_of b k in
    elim (cases_eq j l) [
      | inl e ↦ inl (is ∙ ap ring_prefix e ∙ sym same)
      | inr apart ↦ inr (λ dst first second. (
          let (low, high) = within_block j dst (subst (λ (x : Block). in_block x dst ≡ true) is first) in
          let (down, up) = within_block l dst (subst (λ (x : Block). in_block x dst ≡ true) same second) in
          apart (omega arith)))
    ]

module _ (n : ℕ) where
  -- the update of the ring, without rounds
  abbrev pub ring_task : Task
  ring_task = record { update = record { net = ring_network n; old = ring_tables n 2; new = ring_tables n 3; demands = ring_demands n }; rounds = [] }

  abbrev prefixes : List Block
  prefixes = blocks_of (ring_tables n 2) (ring_tables n 3) (ring_demands n) []

  in_four : (b : Block) → IsIn b prefixes → IsIn b four
  in_four b i =
      elim (in_append_cases b (table_blocks (ring_tables n 2) ++ table_blocks (ring_tables n 3) ++ map (λ d. d.dst) (ring_demands n)) [] i) [
        | inl j ↦ elim (in_append_cases b (table_blocks (ring_tables n 2) ++ table_blocks (ring_tables n 3)) (map (λ d. d.dst) (ring_demands n)) j) [
          | inl k ↦ elim (in_append_cases b (table_blocks (ring_tables n 2)) (table_blocks (ring_tables n 3)) k) [ inl l ↦ in_tables n 2 b l | inr l ↦ in_tables n 3 b l ]
          | inr k ↦ in_demands n b k
        ]
        | inr j ↦ absurd j
      ]

  in_rules : (b : Block) → IsIn b (table_blocks (ring_tables n 2) ++ table_blocks (ring_tables n 3)) → IsIn b four
  in_rules b k = elim (in_append_cases b (table_blocks (ring_tables n 2)) (table_blocks (ring_tables n 3)) k) [ inl l ↦ in_tables n 2 b l | inr l ↦ in_tables n 3 b l ]

  module _ (some : 4 ≤ n) where
    pub atoms_are : boundaries prefixes ≡ firsts
    atoms_are =
        let same : boundaries prefixes ≡ boundaries four =
        same_boundaries prefixes four (λ b i. inl (in_four b i))
        (λ b i.
        in_append_left b (table_blocks (ring_tables n 2) ++ table_blocks (ring_tables n 3) ++ map (λ d. d.dst) (ring_demands n)) []
        (in_append_left b (table_blocks (ring_tables n 2) ++ table_blocks (ring_tables n 3)) (map (λ d. d.dst) (ring_demands n))
        (in_append_left b (table_blocks (ring_tables n 2)) (table_blocks (ring_tables n 3)) (first_has_all n (omega arith) b i)))) in
        same ∙ refl

    -- a class of the ring: a host and the first address of an atom
    record IsRingClass (class : Class) : Type 0 where
      i : ℕ
      within : i < n
      entry : class.entry ≡ place_at i 1 class.entry.vlan
      first : IsIn class.first firsts

    ring_class : (number : ℕ) (class : Class) → IsClass (classes_for ring_task) number class → IsRingClass class
    unfolding ring_network
    ring_class number class is =
        let (i, among, same) = in_from_map (λ k. ring_stop k 1) (stop_of class.entry) (numbers_below n) (in_from_get (map (λ k. ring_stop k 1) (numbers_below n)) is.host (stop_of class.entry) is.host_is) in
        let (_, within) = from_range 0 n i among in
        record {
          i = i;
          within = omega arith;
          entry = ap (λ (s : Stop). let p : Place = record { switch = s.switch; port = s.port; vlan = class.entry.vlan } in p) same;
          first = subst (IsIn class.first) atoms_are (in_from_get (boundaries prefixes) is.atom class.first is.atom_is);
        }

    paths : (port into : ℕ) (move : ℕ → ℕ) → IsWay n port into move → ((j : ℕ) → j < 4 → (far : ℕ → ℕ) × IsFar n j move far) → (number : ℕ) (class : Class) → IsClass (classes_for ring_task) number class
        → ClassPath n port class.entry class.first
    paths port into move way fars number class is =
        let c = ring_class number class is in
        subst (λ (p : Place). ClassPath n port p class.first) (sym c.entry) (class_path n c.i class.entry.vlan class.first port into move way c.within fars c.first)

    module _ (kept : IsNetwork (ring_network n)) where
      old_paths : (number : ℕ) (class : Class) → IsClass (classes_for ring_task) number class → ClassPath n 2 class.entry class.first
      old_paths = paths 2 3 (λ i. (i + 1) % n) (next_way n) (λ j less. (ahead n j, next_ahead n j (omega arith)))

      new_paths : (number : ℕ) (class : Class) → IsClass (classes_for ring_task) number class → ClassPath n 3 class.entry class.first
      new_paths = paths 3 2 (back n) (back_way n (omega arith) kept) (λ j less. (behind n j, back_behind n j (omega arith)))

      pub ring_tree : IsTreeUpdate ring_task
      ring_tree = record {
        old_alone = alone n 2;
        new_alone = alone n 3;
        apart = λ a b i j. apart_or_same a b (in_rules a i) (in_rules b j);
        same_keys = λ s k. (let same = keys_same n s.0 in (λ i. subst (IsIn k) same i, λ i. subst (IsIn k) (sym same) i));
        no_waypoints = none_through n;
        old_good = λ number class is. (old_paths number class is).good;
        new_good = λ number class is. (new_paths number class is).good;
        leaves = λ number class trace is path. (
            let p = new_paths number class is in
            subst (λ (t : Trace). LeavesOrStays class.entry t.ended) (path_one (ring_network n) (ring_tables n 3) class.entry class.first p.good.trace trace p.good.path path) p.stays);
      }

    pub class_count_is : class_count (classes_for ring_task) ≡ 6 * n
    unfolding ring_network
    class_count_is = rw (length-map-range_with_len (λ k. ring_stop k 1) 0 n, atoms_are) (omega arith)
