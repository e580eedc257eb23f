-- At how many places of a new path of the ring the lookup differs.
use Rattle.std.proofs.Common.{◌≡◌, ℕ, zero, suc, ◌+◌, ◌-◌, ◌<◌, ◌≤◌, Bool, true, false, cond, List, [], ◌∷◌, length, Some, refl, sym, ◌∙◌, ap, subst, inl, inr, arith}
use Rattle.std.specs.Prelude.{◌==◌, filter}
use Rattle.std.proofs.lemmas.Bool.{cases_eq, cases_lt, cond-true, cond-false, eq-eqb, ne_eqb, false≢true}
use Rattle.std.proofs.lemmas.List.FromFn.{length-map-range_with_len}
use Rattle.net_base.specs.Members.{IsIn}
use Rattle.net_base.specs.Walks.{IsWalk, end_of}
use Rattle.net_base.proofs.MemberLaws.{in_from_map}
use Rattle.net_base.specs.declared.ids.Place.{Place}
use Rattle.net_base.specs.declared.ids.Vlan.{Vlan}
use Rattle.net_base.specs.declared.ids.Vlan.TheVariants.{Untagged}
use Rattle.topology.specs.Networks.{IsNetwork}
use Rattle.flow_rules.specs.Tables.{rules_at, matched_rule, lookup}
use Rattle.flow_rules.specs.declared.rules.Rewrite.TheVariants.{Keep}
use Rattle.flow_rules.specs.declared.rules.Action.TheVariants as action
use Rattle.path_walk.specs.Outcomes.{action_outcome, header_at}
use Rattle.path_walk.specs.Paths.{outcome_in, ended_by}
use Rattle.path_walk.specs.declared.Outcome.{Outcome}
use Rattle.path_walk.specs.declared.Outcome.TheVariants.{Discard, Leave, Go}
use Rattle.demands.specs.Good.{IsDropped}
use Rattle.certificates.proofs.TreeWalks.{Steps, back_drops}
use Rattle.law_packed_trees.specs.Bounds.{NewPath, differ_at, count_differing, SomeIsUnmet, AreBounds}
use Rattle.law_packed_trees.proofs.TreePlaces.{differ_false, one_walk, path_ends}
use Rattle.law_packed_trees.proofs.TreeProgress.{within}
use Rattle.ring_sample.specs.Ring.{destinations, ring_network, ring_rule, ring_table, ring_tables}
use Rattle.ring_sample.proofs.Ways.{back, back_cases, back_way, behind, back_behind}
use Rattle.ring_sample.proofs.Walks.{place_at, out_of, goes_on, leaves_at, drops_at, rest_from}
use Rattle.ring_sample.proofs.ClassPaths.{IsTo, IsToNone, first_of, kind_of, table_at}
use Rattle.ring_sample.proofs.Tree.{ring_task, ring_tree}
use Rattle.law_packed_ring.proofs.RingClasses.{IsRingClass, ring_class, class_of, class_is}

most_one : {A : Type 0} (p : A → Bool) (x : A) (xs : List A) → length (filter p (x ∷ xs)) ≤ suc (length (filter p xs))
most_one p x xs = elim (p x) as (λ b. length (cond b (x ∷ filter p xs) (filter p xs)) ≤ suc (length (filter p xs))) [ true ↦ omega arith | false ↦ omega arith ]

module _ (n : ℕ) (some : 4 ≤ n) (kept : IsNetwork (ring_network n)) where
  -- the outcome at a place in the new tables, and whether the lookup there differs from the old one
  abbrev outs : ℕ → Place → Outcome
  outs dst p = outcome_in (ring_network n) (ring_tables n 3) p dst

  abbrev differ : ℕ → Place → Bool
  differ dst p = differ_at (ring_tables n 2) (ring_tables n 3) dst p

  module _ (dst j : ℕ) (h : IsTo dst j) where
    looks : (port i at : ℕ) (v : Vlan) → i < n → lookup (header_at (place_at i at v) dst) (rules_at (ring_tables n port) (record { 0 = i })) ≡ out_of (cond (i == j) 1 port)
    looks port i at v lt = ap (lookup (header_at (place_at i at v) dst)) (table_at n port i lt) ∙ h.looks port i (place_at i at v)

    sends : (i at : ℕ) (v : Vlan) → i < n → lookup (header_at (place_at i at v) dst) (rules_at (ring_tables n 3) (record { 0 = i })) ≡ out_of (cond (i == j) 1 3)
    sends i at v lt = looks 3 i at v lt

    same_there : (i at : ℕ) (v : Vlan) → i < n → i ≡ j → differ dst (place_at i at v) ≡ false
    same_there i at v lt here =
        differ_false (ring_tables n 2) (ring_tables n 3) dst (place_at i at v)
        (looks 2 i at v lt ∙ ap out_of (cond-true (i == j) 1 2 (eq-eqb i j here)) ∙ sym (looks 3 i at v lt ∙ ap out_of (cond-true (i == j) 1 3 (eq-eqb i j here))))

    ends_there : (i at : ℕ) (v : Vlan) → i < n → i ≡ j → (q : Place) → ¬ (outs dst (place_at i at v) ≡ Go q)
    ends_there i at v lt here q goes =
        elim (cases_eq 1 at) [
          | inl same ↦ (let f : Discard ≡ Go q = sym (drops_at n 3 2 (back n) (back_way n (omega arith) kept) (ring_tables n 3) dst j sends i at v lt here same) ∙ goes in absurd (let g : Discard ≡ Go q = f in cc))
          | inr other ↦ (let f : Leave (record { 0 = 1 }) v ≡ Go q = sym (leaves_at n 3 2 (back n) (back_way n (omega arith) kept) (ring_tables n 3) dst j sends i at v lt here other) ∙ goes in
              absurd (let g : Leave (record { 0 = 1 }) v ≡ Go q = f in cc))
        ]

    turned_back : (i at : ℕ) (v : Vlan) → i < n → ¬ (i ≡ j) → 3 ≡ at → outs dst (place_at i at v) ≡ Discard
    turned_back i at v lt apart same =
        ap (action_outcome (ring_network n) (place_at i at v)) (sends i at v lt ∙ ap out_of (cond-false (i == j) 1 3 (ne_eqb i j apart)))
        ∙ back_drops (ring_network n) (place_at i at v) (record { 0 = 3 }) Keep same

    away : (i d : ℕ) → behind n j i ≡ suc d → ¬ (i ≡ j)
    away i d e here =
        let home = (back_behind n j (let low = h.below_four in omega arith)).home in
        let same : behind n j i ≡ behind n j j = ap (behind n j) here in
        omega (arith, home, same, e)

    -- at no more places than switches away
    count : (d i at : ℕ) (v : Vlan) → i < n → behind n j i ≡ d → (rest : List Place) → IsWalk (Steps (outs dst)) (place_at i at v) rest → length (filter (differ dst) (place_at i at v ∷ rest)) ≤ d
    count zero i at v lt e [] walk =
        let here = (back_behind n j (let low = h.below_four in omega arith)).there i lt e in
        subst (λ b. length (cond b (place_at i at v ∷ []) []) ≤ 0) (sym (same_there i at v lt here)) (omega arith)
    count zero i at v lt e (q ∷ rest) walk =
        absurd (ends_there i at v lt ((back_behind n j (let low = h.below_four in omega arith)).there i lt e) q walk.0)
    count (suc d) i at v lt e [] walk =
        let m : length (filter (differ dst) (place_at i at v ∷ [])) ≤ 1 = most_one (differ dst) (place_at i at v) [] in omega (arith, m)
    count (suc d) i at v lt e (q ∷ rest) walk =
        let apart = away i d e in
        let far = back_behind n j (let low = h.below_four in omega arith) in
        let way = back_way n (omega arith) kept in
        elim (cases_eq 3 at) [
          | inl same ↦ absurd (let f : Discard ≡ Go q = sym (turned_back i at v lt apart same) ∙ walk.0 in cc)
          | inr other ↦ (
              let goes : Go (place_at (back n i) 2 v) ≡ Go q = sym (goes_on n 3 2 (back n) way (ring_tables n 3) dst j sends i at v lt apart other) ∙ walk.0 in
              let is : place_at (back n i) 2 v ≡ q = cc in
              let nearer = far.nearer i lt apart in
              let less = count d (back n i) 2 v (way.within i lt) (omega (arith, nearer, e)) rest (subst (λ x. IsWalk (Steps (outs dst)) x rest) (sym is) walk.1) in
              let here : length (filter (differ dst) (q ∷ rest)) ≤ d = subst (λ x. length (filter (differ dst) (x ∷ rest)) ≤ d) is less in
              let m = most_one (differ dst) (place_at i at v) (q ∷ rest) in
              omega (arith, here, m))
        ]

    -- switches behind the destination, and before it
    high : (k i : ℕ) → i ≡ j + k → i < n → behind n j i ≡ k
    high zero i e lt =
        let home = (back_behind n j (let low = h.below_four in omega arith)).home in
        let here : i ≡ j = omega arith in
        ap (behind n j) here ∙ home
    high (suc k) i e lt =
        let (cases, inside, _) = back_cases n i (omega arith) lt in
        let nearer = (back_behind n j (let low = h.below_four in omega arith)).nearer i lt (λ here. omega arith) in
        elim cases [
          | inl first ↦ absurd (omega (arith, first.0, e))
          | inr more ↦ (let rest = high k (back n i) (omega (arith, more.1, e)) inside in omega (arith, nearer, rest))
        ]

    low : (k i : ℕ) → i ≡ k → i < j → behind n j i + j ≡ n + i
    low zero i e less =
        let four = h.below_four in
        let (cases, inside, _) = back_cases n i (omega arith) (omega arith) in
        let nearer = (back_behind n j (omega arith)).nearer i (omega arith) (λ here. omega arith) in
        elim cases [
          | inl first ↦ (let rest = high (n - 1 - j) (back n i) (omega (arith, first.1)) inside in omega (arith, nearer, rest))
          | inr more ↦ absurd (omega (arith, more.0, e))
        ]
    low (suc k) i e less =
        let four = h.below_four in
        let (cases, inside, _) = back_cases n i (omega arith) (omega arith) in
        let nearer = (back_behind n j (omega arith)).nearer i (omega arith) (λ here. omega arith) in
        elim cases [
          | inl first ↦ absurd (omega (arith, first.0, e))
          | inr more ↦ (let rest = low k (back n i) (omega (arith, more.1, e)) (omega (arith, more.1, less)) in omega (arith, nearer, rest, more.1))
        ]

    most_away : (i : ℕ) → i < n → behind n j i ≤ n - 1
    most_away i lt =
        let four = h.below_four in
        elim (cases_lt i j) [
          | inl less ↦ (let e = low i i refl less in omega (arith, e))
          | inr past ↦ (let e = high (i - j) i (omega arith) lt in omega (arith, e))
        ]

    leaving_at : (i : ℕ) (v : Vlan) → i < n → (rest : List Place) → IsWalk (Steps (outs dst)) (place_at i 1 v) rest → length (filter (differ dst) (place_at i 1 v ∷ rest)) ≤ n - 1
    leaving_at i v lt rest walk = let le = count (behind n j i) i 1 v lt refl rest walk in let most = most_away i lt in omega (arith, le, most)

    -- a path that is dropped begins at its destination
    dropped_same : (i : ℕ) (v : Vlan) → i < n → (rest : List Place) → IsWalk (Steps (outs dst)) (place_at i 1 v) rest → ((q : Place) → ¬ (outs dst (end_of (place_at i 1 v) rest) ≡ Go q))
        → IsDropped (ended_by (end_of (place_at i 1 v) rest) (outs dst (end_of (place_at i 1 v) rest))) → differ dst (place_at i 1 v) ≡ false
    dropped_same i v lt rest walk ends dropped =
        elim (cases_eq i j) [
          | inl here ↦ same_there i 1 v lt here
          | inr apart ↦ (
              let way = back_way n (omega arith) kept in
              let r = rest_from n 3 2 (back n) way (ring_tables n 3) dst j sends (behind n j) (back_behind n j (let low = h.below_four in omega arith)) (behind n j i) i 1 v lt refl way.out_host (λ here. absurd (apart here)) in
              let same : rest ≡ r.rest =
              one_walk (outs dst) (place_at i 1 v) rest r.rest walk r.walk ends (λ q e. let f : Leave (record { 0 = 1 }) v ≡ Go q = sym r.leaves ∙ e in cc) in
              let leaves : outs dst (end_of (place_at i 1 v) rest) ≡ Leave (record { 0 = 1 }) v = ap (λ xs. outs dst (end_of (place_at i 1 v) xs)) same ∙ r.leaves in
              absurd (subst (λ o. IsDropped (ended_by (end_of (place_at i 1 v) rest) o)) leaves dropped))
        ]

  -- what holds of packets that no rule covers
  module _ (dst : ℕ) (h : IsToNone dst) where
    none_looks : (port i : ℕ) (v : Vlan) → i < n → lookup (header_at (place_at i 1 v) dst) (rules_at (ring_tables n port) (record { 0 = i })) ≡ action.Discard
    none_looks port i v lt = ap (lookup (header_at (place_at i 1 v) dst)) (table_at n port i lt) ∙ h.looks port i (place_at i 1 v)

    none_same : (i : ℕ) (v : Vlan) → i < n → differ dst (place_at i 1 v) ≡ false
    none_same i v lt = differ_false (ring_tables n 2) (ring_tables n 3) dst (place_at i 1 v) (none_looks 2 i v lt ∙ sym (none_looks 3 i v lt))

    none_leaving : (i : ℕ) (v : Vlan) → i < n → (rest : List Place) → IsWalk (Steps (outs dst)) (place_at i 1 v) rest → length (filter (differ dst) (place_at i 1 v ∷ rest)) ≤ n - 1
    none_leaving i v lt [] walk = let m : length (filter (differ dst) (place_at i 1 v ∷ [])) ≤ 1 = most_one (differ dst) (place_at i 1 v) [] in omega (arith, m)
    none_leaving i v lt (q ∷ rest) walk = absurd (let f : Discard ≡ Go q = sym (ap (action_outcome (ring_network n) (place_at i 1 v)) (none_looks 3 i v lt)) ∙ walk.0 in cc)

  module _ (p : NewPath (ring_task n)) where
    ring : IsRingClass n some p.class
    ring = ring_class n some p.number p.class p.is_class

    leaving_path : count_differing (ring_task n) (ring_tables n 2) p ≤ n - 1
    leaving_path =
        subst (λ (e : Place). (rest : List Place) → IsWalk (Steps (outs p.class.first)) e rest → length (filter (differ p.class.first) (e ∷ rest)) ≤ n - 1) (sym ring.entry)
        (elim (kind_of p.class.first ring.first) [
          | inl h ↦ none_leaving p.class.first h ring.i p.class.entry.vlan ring.within
          | inr (j, h) ↦ leaving_at p.class.first j h ring.i p.class.entry.vlan ring.within
        ]) p.path.rest p.path.walk

    dropped_path : IsDropped p.trace.ended → differ p.class.first p.class.entry ≡ false
    dropped_path dropped =
        elim (kind_of p.class.first ring.first) [
          | inl h ↦ subst (λ e. differ p.class.first e ≡ false) (sym ring.entry) (none_same p.class.first h ring.i p.class.entry.vlan ring.within)
          | inr (j, h) ↦
              subst (λ (e : Place). (rest : List Place) → IsWalk (Steps (outs p.class.first)) e rest → ((q : Place) → ¬ (outs p.class.first (end_of e rest) ≡ Go q))
              → IsDropped (ended_by (end_of e rest) (outs p.class.first (end_of e rest))) → differ p.class.first e ≡ false) (sym ring.entry)
              (dropped_same p.class.first j h ring.i p.class.entry.vlan ring.within) p.path.rest p.path.walk
              (path_ends (ring_network n) (ring_tables n 3) p.class.entry p.class.first p.trace p.path) (subst IsDropped p.path.ended dropped)
        ]

  -- every rule is picked where packets to its destination enter
  picks : (i j : ℕ) → j < 4 → matched_rule (header_at (place_at i 1 Untagged) (first_of j)) (ring_table 3 i) ≡ Some (ring_rule 3 i j)
  picks i j less =
      elim (cases_eq j 0) [
        | inl e ↦ subst (λ k. matched_rule (header_at (place_at i 1 Untagged) (first_of k)) (ring_table 3 i) ≡ Some (ring_rule 3 i k)) (sym e) refl
        | inr none ↦ elim (cases_eq j 1) [
          | inl e ↦ subst (λ k. matched_rule (header_at (place_at i 1 Untagged) (first_of k)) (ring_table 3 i) ≡ Some (ring_rule 3 i k)) (sym e) refl
          | inr one ↦ elim (cases_eq j 2) [
            | inl e ↦ subst (λ k. matched_rule (header_at (place_at i 1 Untagged) (first_of k)) (ring_table 3 i) ≡ Some (ring_rule 3 i k)) (sym e) refl
            | inr two ↦ (let e : 3 ≡ j = omega arith in subst (λ k. matched_rule (header_at (place_at i 1 Untagged) (first_of k)) (ring_table 3 i) ≡ Some (ring_rule 3 i k)) e refl)
          ]
        ]
      ]

  in_four : (j : ℕ) → IsIn j destinations → j < 4
  in_four j (inl e) = omega arith
  in_four j (inr (inl e)) = omega arith
  in_four j (inr (inr (inl e))) = omega arith
  in_four j (inr (inr (inr (inl e)))) = omega arith
  in_four j (inr (inr (inr (inr i)))) = absurd i

  table_length : (port : ℕ) → length (ring_tables n port) ≡ n
  unfolding ring_tables
  table_length port = length-map-range_with_len (ring_table port) 0 n

  none_unmet : SomeIsUnmet (ring_task n) (ring_tables n 2) → ⊥
  none_unmet m =
      let r = m.remains in
      let i : ℕ = r.switch.0 in
      let many = table_length 2 in
      let inside = within r.now (ring_tables n 2) i r.stands in
      let lt : i < n = omega (arith, many, inside) in
      let (j, among, is) = in_from_map (ring_rule 3 i) r.next destinations (subst (IsIn r.next) (table_at n 3 i lt) r.wanted) in
      let less = in_four j among in
      let (number, is_class) = class_is n some i j lt less in
      let good = (ring_tree n some kept).new_good number (class_of n some i j) is_class in
      let p : NewPath (ring_task n) = record { number = number; class = class_of n some i j; is_class = is_class; trace = good.trace; path = good.path } in
      m.unmet p (place_at i 1 Untagged) (inl refl) refl (ap (matched_rule (header_at (place_at i 1 Untagged) (first_of j))) (table_at n 3 i lt) ∙ picks i j less ∙ ap Some (sym is))

  pub ring_bounds : AreBounds (ring_task n) (ring_tables n 2) (n - 1) 0 0
  ring_bounds = record {
    leaving = λ p left. leaving_path p;
    dropping = λ d. absurd (false≢true (sym (dropped_path d.new_path d.dropped) ∙ d.differs));
    unpicked = λ m. absurd (none_unmet m);
  }
