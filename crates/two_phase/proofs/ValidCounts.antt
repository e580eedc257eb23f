-- How many ranks, rounds and changes the plan has.
use Rattle.std.proofs.Common.{◌≡◌, ℕ, zero, suc, ◌+◌, ◌<◌, ◌≤◌, List, [], ◌∷◌, ◌++◌, map, length, get_or, sum_by, refl, ◌∙◌, subst, ap, inl, inr, arith, length-append}
use Rattle.std.specs.Prelude.{filter, flat_map, not}
use Rattle.std.specs.List.{AllByRecursion}
use Rattle.std.specs.Ordering.{is_lt}
use Rattle.std.proofs.lemmas.Bool.{cond_both}
use Rattle.std.proofs.lemmas.List.{length-map}
use Rattle.std.proofs.lemmas.List.Concat.{length-flat_map}
use Rattle.std.proofs.lemmas.List.Sums.{sum_by-cons, sum_by-append}
use Rattle.net_base.specs.Members.{IsIn, IsDistinct}
use Rattle.net_base.proofs.MemberLaws.{in_append_left, in_append_right, in_map, in_from_map}
use Rattle.net_base.proofs.ListLaws.{in_from_flat_map, no_longer}
use Rattle.net_base.specs.declared.ids.SwitchId.{SwitchId}
use Rattle.topology.specs.Networks.{Network, IsNetwork, switch_count}
use Rattle.flow_rules.specs.Order.{key_cmp}
use Rattle.flow_rules.specs.Tables.{rules_at}
use Rattle.flow_rules.specs.declared.rules.Rule.{Rule}
use Rattle.update_model.specs.Mixtures.{is_insert}
use Rattle.update_model.specs.Remaining.{remaining_changes}
use Rattle.update_model.specs.declared.Change.{Change}
use Rattle.update_model.specs.declared.Change.TheVariants.{Insert, Delete}
use Rattle.net_base.specs.Numbers.{numbers_from}
use Rattle.net_base.proofs.NumberLaws.{numbers_length, numbers_below}
use Rattle.table_difference.specs.Tried.{AreTried}
use Rattle.two_phase.specs.Laws.{FitsTwoPhase}
use Rattle.two_phase.specs.TwoPhasePlan.{tagged_rules, ingress_rules, with_rule, in_key_order, switches, by_switch, ranks, of_mark, layered_rounds}
use Rattle.two_phase.proofs.CountLaws.{tagged_counted, ingress_counted}
use Rattle.two_phase.proofs.CountedLaws.{capacity_most}
use Rattle.two_phase.proofs.BandLaws.{ingress_cases}
use Rattle.two_phase.proofs.LayerLaws.{chained_distinct}
use Rattle.two_phase.proofs.RankLaws.{ranks_rise}
use Rattle.two_phase.proofs.SumLaws.{sum_less, sum_most, sum_map, sum_swap, sum_both, length_split, parts_most}
use Rattle.dest_classes.proofs.RisingLaws.{in_from_ascending}
use Rattle.table_difference.proofs.LengthLaws.{length_from}

-- ---- ranks

pub in_tables : (f : Rule → ℕ) (r : Rule) (tables : List (List Rule)) (n : ℕ) → IsIn r (get_or tables n []) → IsIn (f r) (flat_map (map f) tables)
in_tables f r [] n i = absurd i
in_tables f r (rules ∷ tables) zero i = in_append_left (f r) (map f rules) (flat_map (map f) tables) (in_map f r rules i)
in_tables f r (rules ∷ tables) (suc n) i = in_append_right (f r) (map f rules) (flat_map (map f) tables) (in_tables f r tables n i)

-- the rank of a new rule's ingress copies
abbrev rank_of : Rule → ℕ
rank_of r = 32768 + r.key.priority

pub few_ranks : (net : Network) (new : List (List Rule)) → sum_by length new ≤ 2048 → length (ranks net new) ≤ 2049
few_ranks net new few =
    let all = 32768 ∷ flat_map (map rank_of) new in
    let fewer : length (ranks net new) ≤ length all = no_longer (ranks net new) all (chained_distinct (λ x y. x < y) (λ a h. absurd (omega arith)) (ranks net new) (ranks_rise net new)) within in
    let size : length (flat_map (map rank_of) new) ≡ sum_by length new = length-flat_map (map rank_of) new ∙ ap (λ (f : List Rule → ℕ). sum_by f new) (λ j rules. length-map rules rank_of j) in
    omega arith
  where
    within : (x : ℕ) → IsIn x (ranks net new) → IsIn x (32768 ∷ flat_map (map rank_of) new)
    within x i =
        elim (in_from_ascending x (32768 ∷ flat_map (λ s. map (λ r. r.key.priority) (ingress_rules net s (rules_at new s))) (switches net)) i) [
          | inl e ↦ inl e
          | inr j ↦ (
              let (s, k, l) = in_from_flat_map (λ s. map (λ r. r.key.priority) (ingress_rules net s (rules_at new s))) x (switches net) j in
              let (q, m, e) = in_from_map (λ r. r.key.priority) x (ingress_rules net s (rules_at new s)) l in
              elim (ingress_cases net s (rules_at new s) q m) [
                | inl c ↦ inr (subst (λ y. IsIn y (flat_map (map rank_of) new)) (let f = ap (λ (r : Rule). r.key.priority) c.is in omega arith) (in_tables rank_of c.of_rule new s.0 c.is_new))
                | inr d ↦ inl (let f = ap (λ (r : Rule). r.key.priority) d.is in omega arith)
              ])
        ]

-- ---- rounds

pub rounds_count : (net : Network) (old new : List (List Rule)) (mark : SwitchId → Rule → ℕ) (in_order back : List ℕ) → length (layered_rounds net old new mark in_order back) ≡ length in_order + length back + 4
rounds_count net old new mark in_order back =
    let lay : ℕ → List Change = λ k. by_switch net Insert (of_mark net new mark k) in
    let take_out : ℕ → List Change = λ k. by_switch net Delete (of_mark net new mark k) in
    let first = by_switch net Insert (λ s. tagged_rules net s (rules_at new s)) ∷ [] in
    let laid = map lay in_order in
    let exchange = filter (λ c. not (is_insert c)) (remaining_changes old new) ∷ filter is_insert (remaining_changes old new) ∷ [] in
    let taken = map take_out back in
    let last = by_switch net Delete (λ s. tagged_rules net s (rules_at new s)) ∷ [] in
    let a = length-append (first ++ laid ++ exchange ++ taken) last in
    let b = length-append (first ++ laid ++ exchange) taken in
    let c = length-append (first ++ laid) exchange in
    let d = length-append first laid in
    let e = length-map in_order lay in
    let f = length-map back take_out in
    omega arith

-- ---- changes

with_rule_length : (r : Rule) (rs : List Rule) → length (with_rule r rs) ≡ suc (length rs)
with_rule_length r [] = refl
with_rule_length r (q ∷ rs) =
    let rest = with_rule_length r rs in
    cond_both (is_lt (key_cmp r.key q.key)) (r ∷ q ∷ rs) (q ∷ with_rule r rs) (λ zs. length zs ≡ suc (suc (length rs))) (λ _. refl) (λ _. ap suc rest)

order_length : (rs : List Rule) → length (in_key_order rs) ≡ length rs
order_length [] = refl
order_length (r ∷ rs) = with_rule_length r (in_key_order rs) ∙ ap suc (order_length rs)

switches_count : (net : Network) → length (switches net) ≡ switch_count net
switches_count net = length-map (numbers_from 0 (switch_count net)) (λ (n : ℕ). let s : SwitchId = record { 0 = n } in s) ∙ numbers_length 0 (switch_count net)

pub switch_within : (net : Network) (s : SwitchId) → IsIn s (switches net) → s.0 < switch_count net
switch_within net s i =
    let (n, j, e) = in_from_map (λ (n : ℕ). let s : SwitchId = record { 0 = n } in s) s (numbers_from 0 (switch_count net)) i in
    let less = numbers_below 0 (switch_count net) n j in
    let f = ap (λ (x : SwitchId). x.0) e in
    omega arith

round_length : (net : Network) (change : SwitchId → Rule → Change) (rules : SwitchId → List Rule) → length (by_switch net change rules) ≡ sum_by (λ s. length (rules s)) (switches net)
round_length net change rules =
    length-flat_map (λ s. map (change s) (in_key_order (rules s))) (switches net)
    ∙ ap (λ (f : SwitchId → ℕ). sum_by f (switches net)) (λ j s. (length-map (in_key_order (rules s)) (change s) ∙ order_length (rules s)) j)

-- the rounds of distinct marks have no more changes than there are ingress rules
layers_length : (net : Network) (new : List (List Rule)) (mark : SwitchId → Rule → ℕ) (change : SwitchId → Rule → Change) (ks : List ℕ) → IsDistinct ks
    → sum_by length (map (λ k. by_switch net change (of_mark net new mark k)) ks) ≤ sum_by (λ s. length (ingress_rules net s (rules_at new s))) (switches net)
layers_length net new mark change ks distinct =
    let part : ℕ → SwitchId → ℕ = λ k s. length (of_mark net new mark k s) in
    let a = sum_map length (λ k. by_switch net change (of_mark net new mark k)) ks in
    let b : sum_by (λ k. length (by_switch net change (of_mark net new mark k))) ks ≡ sum_by (λ k. sum_by (part k) (switches net)) ks =
    ap (λ (f : ℕ → ℕ). sum_by f ks) (λ j k. round_length net change (of_mark net new mark k) j)
    in
    let c = sum_swap part ks (switches net) in
    let d = sum_less (λ s. sum_by (λ k. part k s) ks) (λ s. length (ingress_rules net s (rules_at new s))) (switches net) (λ s _. parts_most (mark s) ks distinct (ingress_rules net s (rules_at new s))) in
    omega arith

module _ (net : Network) (is : IsNetwork net) (old new : List (List Rule)) (fits : FitsTwoPhase net old new) where
  abbrev tagged_at : SwitchId → ℕ
  tagged_at s = length (tagged_rules net s (rules_at new s))

  abbrev ingress_at : SwitchId → ℕ
  ingress_at s = length (ingress_rules net s (rules_at new s))

  -- the tagged rules and the ingress rules of all switches
  bands_most : sum_by tagged_at (switches net) + sum_by ingress_at (switches net) ≤ 1048576
  bands_most =
      let each : (s : SwitchId) → IsIn s (switches net) → tagged_at s + ingress_at s ≤ 8192 = λ s i.
      let room = fits.room s (switch_within net s i) in
      let capacity = capacity_most net is s in
      let a = tagged_counted net s (rules_at new s) in
      let b = ingress_counted net s (rules_at new s) in
      omega arith
      in
      let sum = sum_most (λ s. tagged_at s + ingress_at s) 8192 (switches net) each in
      let both = sum_both tagged_at ingress_at (switches net) in
      let count = switches_count net in
      let few = is.few in
      omega arith

  module _ (few_old : sum_by length old ≤ 2048) (few_new : sum_by length new ≤ 2048) where
    pub changes_few : (mark : SwitchId → Rule → ℕ) (in_order back : List ℕ) → IsDistinct in_order → IsDistinct back → sum_by length (layered_rounds net old new mark in_order back) ≤ 2101248
    changes_few mark in_order back distinct also_distinct =
        let lay : ℕ → List Change = λ k. by_switch net Insert (of_mark net new mark k) in
        let take_out : ℕ → List Change = λ k. by_switch net Delete (of_mark net new mark k) in
        let tags_in = by_switch net Insert (λ s. tagged_rules net s (rules_at new s)) in
        let tags_out = by_switch net Delete (λ s. tagged_rules net s (rules_at new s)) in
        let gone = filter (λ c. not (is_insert c)) (remaining_changes old new) in
        let come = filter is_insert (remaining_changes old new) in
        let laid = map lay in_order in
        let taken = map take_out back in
        let exchange = gone ∷ come ∷ [] in
        let a = sum_by-append length ((tags_in ∷ []) ++ laid ++ exchange ++ taken) (tags_out ∷ []) in
        let b = sum_by-append length ((tags_in ∷ []) ++ laid ++ exchange) taken in
        let c = sum_by-append length ((tags_in ∷ []) ++ laid) exchange in
        let d = sum_by-append length (tags_in ∷ []) laid in
        let e = sum_by-cons length tags_in [] in
        let f = sum_by-cons length tags_out [] in
        let g = sum_by-cons length gone (come ∷ []) in
        let h = sum_by-cons length come [] in
        let i = round_length net Insert (λ s. tagged_rules net s (rules_at new s)) in
        let j = round_length net Delete (λ s. tagged_rules net s (rules_at new s)) in
        let l = layers_length net new mark Insert in_order distinct in
        let m = layers_length net new mark Delete back also_distinct in
        let n = length_split is_insert (remaining_changes old new) in
        let o = length_from 0 old new in
        let p = bands_most in
        omega arith

tried_single : (rounds : List (List Change)) → AllByRecursion (λ round. length round ≡ 1) rounds → sum_by length rounds ≡ length rounds
tried_single [] single = refl
tried_single (round ∷ rounds) single = let e = sum_by-cons length round rounds in let here = single.0 in let rest = tried_single rounds single.1 in omega arith

pub tried_few : (net : Network) (tried : List (List Change)) → AreTried net tried → sum_by length tried ≤ 4096
tried_few net tried are = let e = tried_single tried are.single in let few = are.few in omega arith
