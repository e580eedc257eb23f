-- What is made of rules in key order: their depths, the greatest of them, and the rules of one depth.
use Rattle.std.proofs.Common.{◌≡◌, ◌⊎◌, ℕ, zero, suc, ◌+◌, ◌<◌, ◌≤◌, Bool, true, false, cond, List, [], ◌∷◌, ◌++◌, map, length, get_or, take, max, refl, sym, ◌∙◌, subst, ap, inl, inr, arith, append_assoc, length-append}
use Rattle.std.specs.Prelude.{◌==◌, filter, flat_map}
use Rattle.std.proofs.lemmas.Bool.{eq-eqb, ne_eqb}
use Rattle.std.proofs.lemmas.List.{take_more, map-append, append-nil}
use Rattle.std.proofs.lemmas.List.Folds.{flat_map-map}
use Rattle.std.proofs.Math.Seq.{take-length}
use Rattle.std.specs.List.{AllByRecursion}
use Rattle.net_base.specs.Members.{IsIn}
use Rattle.net_base.specs.declared.ids.SwitchId.{SwitchId}
use Rattle.net_base.proofs.MemberLaws.{in_map, in_from_map, in_filter, in_from_filter, each_weaker, each_append}
use Rattle.net_base.proofs.ListLaws.{in_flat_map, in_from_flat_map}
use Rattle.topology.specs.Networks.{Network, switch_count}
use Rattle.flow_rules.specs.Tables.{IsTable, keys_of, rules_at}
use Rattle.flow_rules.specs.declared.rules.Rule.{Rule}
use Rattle.update_model.specs.declared.Change.{Change}
use Rattle.update_model.proofs.KeyOrderLaws.{IsSorted}
use Rattle.two_phase.specs.TwoPhasePlan.{ingress_rules, in_key_order, switches}
use Rattle.two_phase.specs.Depths.{is_above, greatest, depth_of, ingress_depth, depth_count}
use Rattle.two_phase.specs.DeepRules.{deep_rule, deep_rules, AreDeep}
use Rattle.two_phase.specs.declared.deep_rules.DeepRule.{DeepRule}
use Rattle.two_phase.proofs.DepthLaws.{greatest_most, greatest_has, above_parts, depth_is}
use Rattle.two_phase.proofs.DistinctLaws.{in_ordered, from_ordered}
use Rattle.two_phase.proofs.OrderedLaws.{first_part, ordered_sorted, filter_ordered}
use Rattle.two_phase.proofs.StepLaws.{flat_added, map_added}
use Rattle.two_phase.proofs.SwitchLaws.{numbered, first_switches, images_more, at_number}

-- ---- the greatest of numbers

pub greatest_more : (xs ys : List ℕ) → greatest (xs ++ ys) ≡ max (greatest xs) (greatest ys)
greatest_more [] ys = omega arith
greatest_more (x ∷ xs) ys = let rest = greatest_more xs ys in omega arith

greatest_within : (xs ys : List ℕ) → ((n : ℕ) → IsIn n xs → IsIn n ys) → greatest xs ≤ greatest ys
greatest_within xs ys within = greatest_most xs (greatest ys) (λ n i. greatest_has n ys (within n i))

-- the greatest number depends on which they are
pub greatest_same : (xs ys : List ℕ) → ((n : ℕ) → IsIn n xs → IsIn n ys) → ((n : ℕ) → IsIn n ys → IsIn n xs) → greatest xs ≡ greatest ys
greatest_same xs ys to from = let a = greatest_within xs ys to in let b = greatest_within ys xs from in omega arith

pub in_at : {A : Type 0} (xs : List A) (i : ℕ) (x : A) → i < length xs → x ≡ get_or xs i x → IsIn x xs
in_at [] i x within is = absurd (omega arith)
in_at (y ∷ xs) zero x within is = inl is
in_at (y ∷ xs) (suc i) x within is = inr (in_at xs i x (omega arith) is)

-- ---- the depth of the next rule

abbrev pub over_deep : Rule → List DeepRule → ℕ
over_deep r before = greatest (map (λ d. suc d.depth) (filter (λ d. is_above d.rule r) before))

over_more : (r : Rule) (before : List DeepRule) (d : DeepRule) → over_deep r (before ++ d ∷ []) ≡ max (over_deep r before) (cond (is_above d.rule r) (suc d.depth) 0)
over_more r [] d =
    elim (is_above d.rule r) as (λ b. greatest (map (λ (x : DeepRule). suc x.depth) (cond b (d ∷ []) [])) ≡ max 0 (cond b (suc d.depth) 0)) [ true ↦ omega arith | false ↦ omega arith ]
over_more r (x ∷ before) d =
    let rest = over_more r before d in
    elim (is_above x.rule r) as (λ b. greatest (map (λ (y : DeepRule). suc y.depth) (cond b (x ∷ filter (λ y. is_above y.rule r) (before ++ d ∷ [])) (filter (λ y. is_above y.rule r) (before ++ d ∷ []))))
    ≡ max (greatest (map (λ (y : DeepRule). suc y.depth) (cond b (x ∷ filter (λ y. is_above y.rule r) before) (filter (λ y. is_above y.rule r) before)))) (cond (is_above d.rule r) (suc d.depth) 0)) [
      | true ↦ omega arith
      | false ↦ rest
    ]

-- the depth by one rule more: it is above and as deep, or it isn't above, or less deep
pub chosen_above : (b : Bool) (now d next : ℕ) → b ≡ true → now ≤ d → next ≡ d + 1 → next ≡ max now (cond b (suc d) 0)
chosen_above b now d next is le e = let f : cond b (suc d) 0 ≡ suc d = ap (λ x. cond x (suc d) 0) is in omega arith

pub chosen_other : (b : Bool) (now d next : ℕ) → b ≡ false → next ≡ now → next ≡ max now (cond b (suc d) 0)
chosen_other b now d next is e = let f : cond b (suc d) 0 ≡ 0 = ap (λ x. cond x (suc d) 0) is in omega arith

pub chosen_less : (b : Bool) (now d next : ℕ) → d < now → next ≡ now → next ≡ max now (cond b (suc d) 0)
chosen_less true now d next less e = omega arith
chosen_less false now d next less e = omega arith

-- one rule more is looked at
pub over_next : (r : Rule) (before : List DeepRule) (i : ℕ) (d x : DeepRule) → i < length before → d ≡ get_or before i x → (now next : ℕ) → now ≡ over_deep r (take i before)
    → next ≡ max now (cond (is_above d.rule r) (suc d.depth) 0) → next ≡ over_deep r (take (i + 1) before)
over_next r before i d x within is now next e f =
    f ∙ ap (λ n. max n (cond (is_above d.rule r) (suc d.depth) 0)) e ∙ sym (over_more r (take i before) d)
    ∙ ap (λ y. over_deep r (take i before ++ y ∷ [])) is ∙ sym (ap (over_deep r) (take_more before i x within))

-- ---- the greatest depth

abbrev pub depths_in : List DeepRule → List ℕ
depths_in rules = map (λ d. d.depth) rules

pub greatest_next : (first : ℕ) (rules : List DeepRule) (i : ℕ) (d : DeepRule) → i < length rules → d ≡ get_or rules i d → (now next : ℕ) → now ≡ greatest (first ∷ depths_in (take i rules)) → next ≡ max now d.depth
    → next ≡ greatest (first ∷ depths_in (take (i + 1) rules))
greatest_next first rules i d within is now next e f =
    let all = ap (λ ds. greatest (depths_in ds)) (take_more rules i d within) in
    let there = ap (λ y. greatest (depths_in (take i rules ++ y ∷ []))) is in
    let split = ap greatest (map-append (λ (x : DeepRule). x.depth) (take i rules) (d ∷ [])) in
    let most = greatest_more (depths_in (take i rules)) (d.depth ∷ []) in
    omega arith

-- ---- rules in key order with their depths

-- a rule of the list stands before a place, or has no higher priority than the rule there
before_or_low : (rs : List Rule) → IsSorted (keys_of rs) → (i : ℕ) (d x : Rule) → IsIn x rs → IsIn x (take i rs) ⊎ (x.key.priority ≤ (get_or rs i d).key.priority)
before_or_low [] sorted i d x j = absurd j
before_or_low (r ∷ rs) sorted zero d x (inl e) = inr (let f = ap (λ (y : Rule). y.key.priority) e in omega arith)
before_or_low (r ∷ rs) sorted zero d x (inr j) = inr (first_part x.key.priority r.key.priority _ (sorted.0 x.key (in_map (λ (y : Rule). y.key) x rs j)))
before_or_low (r ∷ rs) sorted (suc i) d x (inl e) = inl (inl e)
before_or_low (r ∷ rs) sorted (suc i) d x (inr j) = elim (before_or_low rs sorted.1 i d x j) [ inl k ↦ inl (inr k) | inr low ↦ inr low ]

in_from_take : (n : ℕ) (x : Rule) (rs : List Rule) → IsIn x (take n rs) → IsIn x rs
in_from_take zero x rs i = absurd i
in_from_take (suc n) x [] i = i
in_from_take (suc n) x (r ∷ rs) (inl e) = inl e
in_from_take (suc n) x (r ∷ rs) (inr i) = inr (in_from_take n x rs i)

over_map : (all : List Rule) (r : Rule) (rs : List Rule) → over_deep r (map (deep_rule all) rs) ≡ greatest (map (λ x. suc (depth_of all x)) (filter (λ x. is_above x r) rs))
over_map all r [] = refl
over_map all r (x ∷ rs) =
    let rest = over_map all r rs in
    elim (is_above x r) as (λ b. greatest (map (λ (y : DeepRule). suc y.depth) (cond b (deep_rule all x ∷ filter (λ y. is_above y.rule r) (map (deep_rule all) rs)) (filter (λ y. is_above y.rule r) (map (deep_rule all) rs))))
    ≡ greatest (map (λ y. suc (depth_of all y)) (cond b (x ∷ filter (λ y. is_above y r) rs) (filter (λ y. is_above y r) rs)))) [
      | true ↦ ap (max (suc (depth_of all x))) rest
      | false ↦ rest
    ]

module _ (all : List Rule) (table : IsTable all) (rules : List Rule) (same : rules ≡ in_key_order all) where
  sorted_rules : IsSorted (keys_of rules)
  sorted_rules = subst (λ rs. IsSorted (keys_of rs)) (sym same) (ordered_sorted all table)

  -- those before the next rule tell its depth
  pub next_is : (i : ℕ) (r d : Rule) → i < length rules → r ≡ get_or rules i d → (before : List DeepRule) → before ≡ map (deep_rule all) (take i rules) → over_deep r before ≡ depth_of all r
  next_is i r d within is before e =
      ap (over_deep r) e ∙ over_map all r (take i rules) ∙ greatest_same (map deeper (filter above (take i rules))) (map deeper (filter above all)) to from ∙ sym (depth_is all r)
    where
      deeper : Rule → ℕ
      deeper x = suc (depth_of all x)

      above : Rule → Bool
      above x = is_above x r

      to : (n : ℕ) → IsIn n (map deeper (filter above (take i rules))) → IsIn n (map deeper (filter above all))
      to n j =
          let (x, k, f) = in_from_map deeper n (filter above (take i rules)) j in
          let (l, g) = in_from_filter above x (take i rules) k in
          let here = from_ordered x all (subst (IsIn x) same (in_from_take i x rules l)) in
          subst (λ m. IsIn m (map deeper (filter above all))) (sym f) (in_map deeper x (filter above all) (in_filter above x all here g))

      from : (n : ℕ) → IsIn n (map deeper (filter above all)) → IsIn n (map deeper (filter above (take i rules)))
      from n j =
          let (x, k, f) = in_from_map deeper n (filter above all) j in
          let (l, g) = in_from_filter above x all k in
          let here : IsIn x (take i rules) = elim (before_or_low rules sorted_rules i d x (subst (IsIn x) (sym same) (in_ordered x all l))) [
            | inl m ↦ m
            | inr low ↦ (let less = (above_parts x r g).0 in let e = ap (λ (y : Rule). y.key.priority) is in absurd (omega arith))
          ] in
          subst (λ m. IsIn m (map deeper (filter above (take i rules)))) (sym f) (in_map deeper x (filter above (take i rules)) (in_filter above x (take i rules) here g))

-- one rule more with its depth
pub deeper_value : (all : List Rule) → IsTable all → (rules : List Rule) → rules ≡ in_key_order all → (i : ℕ) (r : Rule) → i < length rules → r ≡ get_or rules i r → (deep read after : List DeepRule) (depth : ℕ)
    → read ≡ deep → deep ≡ map (deep_rule all) (take i rules) → depth ≡ over_deep r read → (let d : DeepRule = record { rule = r; depth = depth } in after ≡ deep ++ d ∷ [])
    → after ≡ map (deep_rule all) (take (i + 1) rules)
deeper_value all table rules same i r within is deep read after depth e f g h =
    map_added (deep_rule all) rules i r r within is [] deep after (record { rule = r; depth = depth }) f
    (ap (λ (n : ℕ). let d : DeepRule = record { rule = r; depth = n } in d) (g ∙ next_is all table rules same i r r within is read (e ∙ f))) h

pub deeper_shallow : (i : ℕ) (r : Rule) (deep read after : List DeepRule) (depth : ℕ) → read ≡ deep → length deep ≡ i → AllByRecursion (λ d. d.depth < i) deep → depth ≤ length read
    → (let d : DeepRule = record { rule = r; depth = depth } in after ≡ deep ++ d ∷ []) → AllByRecursion (λ d. d.depth < i + 1) after
deeper_shallow i r deep read after depth e count shallow few h =
    let long = ap length e in
    let here : depth < i + 1 = omega arith in
    subst (AllByRecursion (λ d. d.depth < i + 1)) (sym h)
    (each_append (λ d. d.depth < i + 1) deep (record { rule = r; depth = depth } ∷ []) (each_weaker (λ d. d.depth < i) (λ d. d.depth < i + 1) (λ d less. omega arith) deep shallow) (here, tt))

pub deeper_count : (i : ℕ) (r : Rule) (deep after : List DeepRule) (depth : ℕ) → length deep ≡ i → (let d : DeepRule = record { rule = r; depth = depth } in after ≡ deep ++ d ∷ []) → length after ≡ i + 1
deeper_count i r deep after depth count h = let e = ap length h in let f = length-append deep (record { rule = r; depth = depth } ∷ []) in omega arith

-- ---- the lists of all switches

pub deep_pushed : (f : SwitchId → List DeepRule) (n : ℕ) (all after : List (List DeepRule)) (rules : List DeepRule) → all ≡ map f (first_switches n) → rules ≡ f (numbered n) → after ≡ all ++ rules ∷ []
    → after ≡ map f (first_switches (n + 1))
deep_pushed f n all after rules e g h = h ∙ ap (λ ls. ls ++ rules ∷ []) e ∙ ap (λ rs. map f (first_switches n) ++ rs ∷ []) g ∙ sym (images_more f n)

-- the greatest depth of all lists is that of the ingress rules
pub greatest_is : (net : Network) (new : List (List Rule)) (lists : List (List DeepRule)) → AreDeep net (λ s. ingress_rules net s (rules_at new s)) lists
    → suc (greatest (flat_map (λ rules. map (λ d. d.depth) rules) lists)) ≡ depth_count net new
greatest_is net new lists deep =
    ap (λ ls. suc (greatest (flat_map here ls))) deep.are ∙ ap suc (greatest_same (flat_map here (map listed (switches net))) (flat_map there (switches net)) to from)
  where
    given : SwitchId → List Rule
    given s = ingress_rules net s (rules_at new s)

    listed : SwitchId → List DeepRule
    listed s = deep_rules (given s)

    here : List DeepRule → List ℕ
    here rules = map (λ d. d.depth) rules

    there : SwitchId → List ℕ
    there s = map (ingress_depth net new s) (given s)

    to : (n : ℕ) → IsIn n (flat_map here (map listed (switches net))) → IsIn n (flat_map there (switches net))
    to n i =
        let (rs, j, k) = in_from_flat_map here n (map listed (switches net)) i in
        let (s, l, e) = in_from_map listed rs (switches net) j in
        let (d, m, f) = in_from_map (λ (d : DeepRule). d.depth) n (listed s) (subst (λ qs. IsIn n (here qs)) e k) in
        let (r, o, g) = in_from_map (deep_rule (given s)) d (in_key_order (given s)) m in
        in_flat_map there s n (switches net) l
        (subst (λ x. IsIn x (there s)) (sym (f ∙ ap (λ (d : DeepRule). d.depth) g)) (in_map (ingress_depth net new s) r (given s) (from_ordered r (given s) o)))

    from : (n : ℕ) → IsIn n (flat_map there (switches net)) → IsIn n (flat_map here (map listed (switches net)))
    from n i =
        let (s, j, k) = in_from_flat_map there n (switches net) i in
        let (r, l, e) = in_from_map (ingress_depth net new s) n (given s) k in
        in_flat_map here (listed s) n (map listed (switches net)) (in_map listed s (switches net) j)
        (subst (λ x. IsIn x (here (listed s))) (sym e) (in_map (λ (d : DeepRule). d.depth) (deep_rule (given s) r) (listed s) (in_map (deep_rule (given s)) r (in_key_order (given s)) (in_ordered r (given s) l))))

-- ---- the rules of one depth

abbrev pub deep_at : ℕ → List DeepRule → List DeepRule
deep_at depth rules = filter (λ d. d.depth == depth) rules

at_map : (all : List Rule) (change : Rule → Change) (depth : ℕ) (rs : List Rule) → map (λ d. change d.rule) (deep_at depth (map (deep_rule all) rs)) ≡ map change (filter (λ r. depth_of all r == depth) rs)
at_map all change depth [] = refl
at_map all change depth (r ∷ rs) =
    let rest = at_map all change depth rs in
    elim (depth_of all r == depth) as (λ b. map (λ (d : DeepRule). change d.rule) (cond b (deep_rule all r ∷ deep_at depth (map (deep_rule all) rs)) (deep_at depth (map (deep_rule all) rs)))
    ≡ map change (cond b (r ∷ filter (λ q. depth_of all q == depth) rs) (filter (λ q. depth_of all q == depth) rs))) [
      | true ↦ ap (λ cs. change r ∷ cs) rest
      | false ↦ rest
    ]

at_more : (depth : ℕ) (rules : List DeepRule) (d : DeepRule) → deep_at depth (rules ++ d ∷ []) ≡ deep_at depth rules ++ cond (d.depth == depth) (d ∷ []) []
at_more depth [] d = refl
at_more depth (x ∷ rules) d =
    let rest = at_more depth rules d in
    elim (x.depth == depth) as (λ b. cond b (x ∷ deep_at depth (rules ++ d ∷ [])) (deep_at depth (rules ++ d ∷ [])) ≡ cond b (x ∷ deep_at depth rules) (deep_at depth rules) ++ cond (d.depth == depth) (d ∷ []) []) [
      | true ↦ ap (λ ds. x ∷ ds) rest
      | false ↦ rest
    ]

-- the next rule is of the depth, or isn't
pub at_next : (f : DeepRule → Change) (depth : ℕ) (rules : List DeepRule) (i : ℕ) (d : DeepRule) → i < length rules → d ≡ get_or rules i d → (before now after : List Change)
    → now ≡ before ++ map f (deep_at depth (take i rules)) → after ≡ now ++ map f (cond (d.depth == depth) (d ∷ []) []) → after ≡ before ++ map f (deep_at depth (take (i + 1) rules))
at_next f depth rules i d within is before now after e h =
    let one : List DeepRule = cond (d.depth == depth) (d ∷ []) [] in
    h ∙ ap (λ cs. cs ++ map f one) e ∙ append_assoc before (map f (deep_at depth (take i rules))) (map f one)
    ∙ ap (λ cs. before ++ cs)
    (sym (map-append f (deep_at depth (take i rules)) one)
    ∙ ap (map f) (sym (at_more depth (take i rules) d) ∙ ap (λ y. deep_at depth (take i rules ++ y ∷ [])) is ∙ sym (ap (deep_at depth) (take_more rules i d within))))

pub one_at : (f : DeepRule → Change) (depth : ℕ) (d : DeepRule) (now after : List Change) → d.depth ≡ depth → after ≡ now ++ f d ∷ [] → after ≡ now ++ map f (cond (d.depth == depth) (d ∷ []) [])
one_at f depth d now after same e = e ∙ sym (ap (λ b. now ++ map f (cond b (d ∷ []) [])) (eq-eqb d.depth depth same))

pub none_at : (f : DeepRule → Change) (depth : ℕ) (d : DeepRule) (now after : List Change) → ¬ (d.depth ≡ depth) → after ≡ now → after ≡ now ++ map f (cond (d.depth == depth) (d ∷ []) [])
none_at f depth d now after other e = e ∙ sym (append-nil now) ∙ sym (ap (λ b. now ++ map f (cond b (d ∷ []) [])) (ne_eqb d.depth depth other))

-- the changes of the rules of one depth, in key order
pub at_depth : (all : List Rule) → IsTable all → (change : Rule → Change) (depth : ℕ) → map (λ d. change d.rule) (deep_at depth (deep_rules all)) ≡ map change (in_key_order (filter (λ r. depth_of all r == depth) all))
at_depth all table change depth = at_map all change depth (in_key_order all) ∙ ap (map change) (filter_ordered (λ r. depth_of all r == depth) all table)

-- the list of a switch
pub deep_listed : (net : Network) (rules : SwitchId → List Rule) (lists : List (List DeepRule)) → AreDeep net rules lists → (s : SwitchId) → s.0 < switch_count net → get_or lists s.0 [] ≡ deep_rules (rules s)
deep_listed net rules lists deep s within =
    let e : 0 + s.0 ≡ s.0 = omega arith in
    ap (λ ls. get_or ls s.0 []) deep.are ∙ at_number (λ s. deep_rules (rules s)) 0 (switch_count net) s.0 within ∙ ap (λ i. deep_rules (rules (numbered i))) e

-- the greatest depth of one list more
pub greatest_listed : {V : Type 0} (f : V → List DeepRule) (vs : List V) (i : ℕ) (v d : V) → i < length vs → v ≡ get_or vs i d → (now next : ℕ) → now ≡ greatest (flat_map (λ x. depths_in (f x)) (take i vs))
    → next ≡ greatest (now ∷ depths_in (f v)) → next ≡ greatest (flat_map (λ x. depths_in (f x)) (take (i + 1) vs))
greatest_listed f vs i v d within is now next e h =
    let all = ap greatest (flat_added (λ x. depths_in (f x)) vs i v d within is [] (flat_map (λ x. depths_in (f x)) (take i vs)) (flat_map (λ x. depths_in (f x)) (take i vs) ++ depths_in (f v)) refl refl) in
    let most = greatest_more (flat_map (λ x. depths_in (f x)) (take i vs)) (depths_in (f v)) in
    omega arith

pub all_listed : {V : Type 0} (f : V → List DeepRule) (vs : List V) (n : ℕ) → n ≡ length vs → (lists : List (List DeepRule)) → map f vs ≡ lists
    → greatest (flat_map (λ v. depths_in (f v)) (take n vs)) ≡ greatest (flat_map depths_in lists)
all_listed f vs n e lists same =
    ap (λ k. greatest (flat_map (λ v. depths_in (f v)) (take k vs))) e ∙ ap (λ ws. greatest (flat_map (λ v. depths_in (f v)) ws)) (take-length vs)
    ∙ ap greatest (sym (flat_map-map depths_in f vs)) ∙ ap (λ ls. greatest (flat_map depths_in ls)) same
