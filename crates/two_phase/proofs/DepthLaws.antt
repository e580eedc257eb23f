-- The depths of ingress rules: each is told by those above it, and with them as marks the two-phase plan is layered.
use Rattle.std.proofs.Common.{◌≡◌, ℕ, zero, suc, ◌+◌, ◌*◌, ◌<◌, ◌≤◌, true, cond, List, [], ◌∷◌, map, length, sum_by, refl, ◌∙◌, ap, inl, inr, arith}
use Rattle.std.specs.Prelude.{nat_lt, filter, flat_map, reverse}
use Rattle.std.proofs.lemmas.Bool.{cases_lt, ltb-true, lt-ltb, le-ltb, and_parts, and_from}
use Rattle.std.proofs.lemmas.List.{length-map, length-reverse}
use Rattle.net_base.specs.Members.{IsIn}
use Rattle.net_base.proofs.MemberLaws.{in_map, in_from_map, in_filter, in_from_filter}
use Rattle.net_base.proofs.ListLaws.{in_flat_map, in_from_flat_map}
use Rattle.net_base.specs.declared.ids.SwitchId.{SwitchId}
use Rattle.topology.specs.Networks.{Network, switch_count}
use Rattle.flow_rules.specs.Overlaps.{patterns_meet}
use Rattle.flow_rules.specs.Tables.{rules_at}
use Rattle.flow_rules.specs.declared.rules.Rule.{Rule}
use Rattle.flow_rules.proofs.OverlapLaws.{meet_out}
use Rattle.dest_classes.proofs.ClassLaws.{in_ascending}
use Rattle.net_base.specs.Numbers.{numbers_from}
use Rattle.net_base.proofs.NumberLaws.{in_numbers, numbers_above, numbers_length}
use Rattle.two_phase.specs.TwoPhasePlan.{ingress_rules, switches, ranks}
use Rattle.two_phase.specs.Depths.{is_above, greatest, depth_through, depth_of, ingress_depth, depth_count, depths, depth_rounds}
use Rattle.two_phase.proofs.LayerLaws.{IsLayering}
use Rattle.two_phase.proofs.RankLaws.{IsRising, falling_reverse, in_reverse, has_rank}
use Rattle.two_phase.proofs.ValidCounts.{few_ranks, rounds_count, switch_within}

-- ---- the greatest of numbers

pub greatest_most : (ns : List ℕ) (most : ℕ) → ((n : ℕ) → IsIn n ns → n ≤ most) → greatest ns ≤ most
greatest_most [] most each = omega arith
greatest_most (n ∷ ns) most each = let here = each n (inl refl) in let rest = greatest_most ns most (λ m i. each m (inr i)) in omega arith

pub greatest_less : (ns : List ℕ) (bound : ℕ) → 0 < bound → ((n : ℕ) → IsIn n ns → n < bound) → greatest ns < bound
greatest_less [] bound some each = some
greatest_less (n ∷ ns) bound some each = let here = each n (inl refl) in let rest = greatest_less ns bound some (λ m i. each m (inr i)) in omega arith

pub greatest_has : (n : ℕ) (ns : List ℕ) → IsIn n ns → n ≤ greatest ns
greatest_has n [] i = absurd i
greatest_has n (m ∷ ns) (inl e) = omega arith
greatest_has n (m ∷ ns) (inr i) = let rest = greatest_has n ns i in omega arith

map_same : {A : Type 0} (f g : A → ℕ) (xs : List A) → ((x : A) → IsIn x xs → f x ≡ g x) → map f xs ≡ map g xs
map_same f g [] same = refl
map_same f g (x ∷ xs) same = ap (λ n. n ∷ map f xs) (same x (inl refl)) ∙ ap (λ ns. g x ∷ ns) (map_same f g xs (λ y i. same y (inr i)))

-- ---- how many numbers of a list are greater

abbrev one : ℕ → ℕ → ℕ
one p k = cond (nat_lt p k) 1 0

abbrev higher : ℕ → List ℕ → ℕ
higher p [] = 0
higher p (k ∷ ks) = one p k + higher p ks

one_yes : (p k : ℕ) → p < k → one p k ≡ 1
one_yes p k less = ap (λ b. cond b 1 0) (lt-ltb p k less)

one_no : (p k : ℕ) → k ≤ p → one p k ≡ 0
one_no p k le = ap (λ b. cond b 1 0) (le-ltb p k le)

one_less : (p q k : ℕ) → p ≤ q → one q k ≤ one p k
one_less p q k le =
    elim (cases_lt q k) [
      | inl less ↦ (let e = one_yes q k less in let f = one_yes p k (omega arith) in omega arith)
      | inr more ↦ (let e = one_no q k more in omega arith)
    ]

one_most : (p k : ℕ) → one p k ≤ 1
one_most p k = elim (cases_lt p k) [ inl less ↦ (let e = one_yes p k less in omega arith) | inr more ↦ (let e = one_no p k more in omega arith) ]

higher_less : (p q : ℕ) (ks : List ℕ) → p ≤ q → higher q ks ≤ higher p ks
higher_less p q [] le = omega arith
higher_less p q (k ∷ ks) le = let here = one_less p q k le in let rest = higher_less p q ks le in omega arith

-- a greater number of the list has fewer above it
higher_fewer : (p q : ℕ) (ks : List ℕ) → p < q → IsIn q ks → higher q ks < higher p ks
higher_fewer p q [] less i = absurd i
higher_fewer p q (k ∷ ks) less (inl e) =
    let a = one_no q k (omega arith) in let b = one_yes p k (omega arith) in let rest = higher_less p q ks (omega arith) in omega arith
higher_fewer p q (k ∷ ks) less (inr i) = let here = one_less p q k (omega arith) in let rest = higher_fewer p q ks less i in omega arith

higher_most : (p : ℕ) (ks : List ℕ) → higher p ks ≤ length ks
higher_most p [] = omega arith
higher_most p (k ∷ ks) = let here = one_most p k in let rest = higher_most p ks in omega arith

higher_others : (p : ℕ) (ks : List ℕ) → IsIn p ks → higher p ks < length ks
higher_others p [] i = absurd i
higher_others p (k ∷ ks) (inl e) = let here = one_no p k (omega arith) in let rest = higher_most p ks in omega arith
higher_others p (k ∷ ks) (inr i) = let here = one_most p k in let rest = higher_others p ks i in omega arith

-- ---- depths

pub above_parts : (x y : Rule) → is_above x y ≡ true → (y.key.priority < x.key.priority) × (patterns_meet x.key.pattern y.key.pattern ≡ true)
above_parts x y e =
    let (less, meet) = and_parts (nat_lt y.key.priority x.key.priority) (patterns_meet x.key.pattern y.key.pattern) e in
    (ltb-true y.key.priority x.key.priority less, meet)

abbrev over : List Rule → Rule → List Rule
over rules r = filter (λ x. is_above x r) rules

-- a depth is at most the number of priorities above that of the rule
depth_most : (n : ℕ) (rules : List Rule) (r : Rule) (ks : List ℕ) → ((x : Rule) → IsIn x rules → IsIn x.key.priority ks) → depth_through n rules r ≤ higher r.key.priority ks
depth_most zero rules r ks all = omega arith
depth_most (suc n) rules r ks all =
    greatest_most (map (λ x. suc (depth_through n rules x)) (over rules r)) (higher r.key.priority ks) (λ m i.
    let (x, j, e) = in_from_map (λ x. suc (depth_through n rules x)) m (over rules r) i in
    let (k, above) = in_from_filter (λ x. is_above x r) x rules j in
    let rest = depth_most n rules x ks all in
    let fewer = higher_fewer r.key.priority x.key.priority ks (above_parts x r above).0 (all x k) in
    omega arith)

-- once all priorities above can be followed, more make no difference
depth_stable : (n : ℕ) (rules : List Rule) (r : Rule) → higher r.key.priority (map (λ x. x.key.priority) rules) ≤ n → depth_through n rules r ≡ depth_through (suc n) rules r
depth_stable zero rules r few =
    let none = greatest_most (map (λ x. suc (depth_through zero rules x)) (over rules r)) 0 (λ m i.
    let (x, j, e) = in_from_map (λ x. suc (depth_through zero rules x)) m (over rules r) i in
    let (k, above) = in_from_filter (λ x. is_above x r) x rules j in
    let fewer = higher_fewer r.key.priority x.key.priority (map (λ x. x.key.priority) rules) (above_parts x r above).0 (in_map (λ x. x.key.priority) x rules k) in
    absurd (omega arith)) in
    omega arith
depth_stable (suc n) rules r few =
    ap greatest (map_same (λ x. suc (depth_through n rules x)) (λ x. suc (depth_through (suc n) rules x)) (over rules r) (λ x j.
    let (k, above) = in_from_filter (λ x. is_above x r) x rules j in
    let fewer = higher_fewer r.key.priority x.key.priority (map (λ x. x.key.priority) rules) (above_parts x r above).0 (in_map (λ x. x.key.priority) x rules k) in
    ap suc (depth_stable n rules x (omega arith))))

-- a depth is told by those of the rules above
pub depth_is : (rules : List Rule) (r : Rule) → depth_of rules r ≡ greatest (map (λ x. suc (depth_of rules x)) (over rules r))
depth_is rules r =
    let most = higher_most r.key.priority (map (λ x. x.key.priority) rules) in
    let e = length-map rules (λ (x : Rule). x.key.priority) in
    depth_stable (length rules) rules r (omega arith)

-- of a rule above another one the depth is less
pub depth_less : (rules : List Rule) (x r : Rule) → IsIn x rules → is_above x r ≡ true → depth_of rules x < depth_of rules r
depth_less rules x r i above =
    let e = depth_is rules r in
    let most = greatest_has (suc (depth_of rules x)) (map (λ x. suc (depth_of rules x)) (over rules r)) (in_map (λ x. suc (depth_of rules x)) x (over rules r) (in_filter (λ x. is_above x r) x rules i above)) in
    omega arith

-- ---- the layering by depth

numbers_rise : (n count : ℕ) → IsRising (numbers_from n count)
numbers_rise n zero = tt
numbers_rise n (suc count) = (λ m i. let rest = numbers_above (suc n) count m i in omega arith, numbers_rise (suc n) count)

module _ (net : Network) (new : List (List Rule)) where
  abbrev given : SwitchId → List Rule
  given s = ingress_rules net s (rules_at new s)

  in_switches : (s : SwitchId) → s.0 < switch_count net → IsIn s (switches net)
  in_switches s inside = in_map (λ (n : ℕ). let s : SwitchId = record { 0 = n } in s) s.0 (numbers_from 0 (switch_count net)) (in_numbers 0 (switch_count net) s.0 (omega arith) (omega arith))

  pub depth_among : (s : SwitchId) → s.0 < switch_count net → (r : Rule) → IsIn r (given s) → IsIn (ingress_depth net new s r) (depths net new)
  depth_among s inside r i =
      let all = flat_map (λ s. map (ingress_depth net new s) (given s)) (switches net) in
      let most = greatest_has (ingress_depth net new s r) all (in_flat_map (λ s. map (ingress_depth net new s) (given s)) s (ingress_depth net new s r) (switches net) (in_switches s inside) (in_map (ingress_depth net new s) r (given s) i)) in
      in_numbers 0 (depth_count net new) (ingress_depth net new s r) (omega arith) (omega arith)

  -- the depths are a layering: ascending depths are laid, and descending ones taken away
  pub depth_layering : IsLayering net new (ingress_depth net new) (λ a b. a < b) (depth_count net new) (depths net new) (reverse (depths net new))
  depth_layering = record {
    apart = λ a b less more. absurd (omega arith);
    up = λ s inside p q i j h c d less.
        depth_less (given s) p q i (and_from (nat_lt q.key.priority p.key.priority) (patterns_meet p.key.pattern q.key.pattern) (lt-ltb q.key.priority p.key.priority less) (meet_out p.key.pattern q.key.pattern h c d));
    laying = numbers_rise 0 (depth_count net new);
    taking = falling_reverse (depths net new) (numbers_rise 0 (depth_count net new));
    laid_count = numbers_length 0 (depth_count net new);
    taken_count = length-reverse (depths net new) ∙ numbers_length 0 (depth_count net new);
    in_laid = depth_among;
    in_taken = λ s inside r i. in_reverse (ingress_depth net new s r) (depths net new) (depth_among s inside r i);
  }

  some_there : (n : ℕ) (ns : List ℕ) → IsIn n ns → 0 < length ns
  some_there n [] i = absurd i
  some_there n (m ∷ ns) i = omega arith

  -- there are no more depths than ranks
  pub depths_fewer : depth_count net new ≤ length (ranks net new)
  depths_fewer =
      let some = some_there 32768 (ranks net new) (in_ascending 32768 (32768 ∷ flat_map (λ s. map (λ r. r.key.priority) (given s)) (switches net)) (inl refl)) in
      let less = greatest_less (flat_map (λ s. map (ingress_depth net new s) (given s)) (switches net)) (length (ranks net new)) some (λ d i.
      let (s, j, k) = in_from_flat_map (λ s. map (ingress_depth net new s) (given s)) d (switches net) i in
      let (r, l, e) = in_from_map (ingress_depth net new s) d (given s) k in
      let inside = switch_within net s j in
      let most = depth_most (length (given s)) (given s) r (ranks net new) (λ x m. has_rank net new s inside x m) in
      let others = higher_others r.key.priority (ranks net new) (has_rank net new s inside r l) in
      omega arith) in
      omega arith

pub few_depths : (net : Network) (new : List (List Rule)) → sum_by length new ≤ 2048 → depth_count net new ≤ 2049
few_depths net new few = let fewer = depths_fewer net new in let most = few_ranks net new few in omega arith

-- ---- the plan by depth

pub depth_rounds_count : (net : Network) (old new : List (List Rule)) → length (depth_rounds net old new) ≡ 2 * depth_count net new + 4
depth_rounds_count net old new =
    let count = rounds_count net old new (ingress_depth net new) (depths net new) (reverse (depths net new)) in
    let down = (depth_layering net new).laid_count in
    let up = (depth_layering net new).taken_count in
    omega arith
