-- A lookup in a clear table depends on the set of its covering rules alone.
use Rattle.std.proofs.Common.{◌≡◌, ◌&&◌, ℕ, ◌≤◌, Bool, true, cond, List, [], ◌∷◌, refl, sym, ◌∙◌, subst, ap, arith, inl, inr}
use Rattle.std.specs.Prelude.{nat_le, Some, None, find}
use Rattle.std.specs.Option.{option_map_or}
use Rattle.std.specs.List.{AllByRecursion, list_all}
use Rattle.std.proofs.lemmas.Bool.{and_from, and_parts, le-leb, leb-true, cases_lt}
use Rattle.net_base.specs.Blocks.{in_block}
use Rattle.net_base.specs.Members.{IsIn, IsSameSet}
use Rattle.net_base.proofs.MemberLaws.{find_passes, in_from_filter, empty_from_none}
use Rattle.net_base.specs.declared.ids.Port.{Port}
use Rattle.net_base.specs.declared.ids.Vlan.{Vlan}
use Rattle.flow_rules.specs.Patterns.{Header, covers, admits_port, admits_vlan}
use Rattle.flow_rules.specs.Tables.{covering_rules, matched_rule, lookup, IsClear}
use Rattle.flow_rules.specs.declared.rules.Rule.{Rule}
use Rattle.flow_rules.specs.declared.rules.Action.TheVariants.{Discard}

-- no rule of the list has a greater priority
abbrev pub IsTop : List Rule → Rule → Type 0
IsTop rules r = (q : Rule) → IsIn q rules → q.key.priority ≤ r.key.priority

-- whether no rule of the list has a greater priority
abbrev pub is_top : List Rule → Rule → Bool
is_top rules r = list_all (λ q. nat_le q.key.priority r.key.priority) rules

-- some rule of a list that isn't empty has the greatest priority
pub top_of : (x : Rule) (rules : List Rule) → (r : Rule) × IsIn r (x ∷ rules) × IsTop (x ∷ rules) r
top_of x [] = (x, inl refl, λ q i. elim i [ inl e ↦ (let p = ap (λ z. z.key.priority) e in omega arith) | inr j ↦ absurd j ])
top_of x (y ∷ rules) =
    let (m, i, top) = top_of y rules in
    elim (cases_lt x.key.priority m.key.priority) [
      | inl le ↦ (m, inr i, λ q j. elim j [ inl e ↦ (let p = ap (λ z. z.key.priority) e in omega arith) | inr k ↦ top q k ])
      | inr ge ↦ (x, inl refl, λ q j. elim j [ inl e ↦ (let p = ap (λ z. z.key.priority) e in omega arith) | inr k ↦ (let t = top q k in omega arith) ])
    ]

-- the test of a rule that none exceeds
all_from : (n : ℕ) (rules : List Rule) → ((q : Rule) → IsIn q rules → q.key.priority ≤ n) → list_all (λ q. nat_le q.key.priority n) rules ≡ true
all_from n [] h = refl
all_from n (r ∷ rules) h =
    and_from (nat_le r.key.priority n) (list_all (λ q. nat_le q.key.priority n) rules) (le-leb r.key.priority n (h r (inl refl))) (all_from n rules (λ q i. h q (inr i)))

all_to : (n : ℕ) (rules : List Rule) → list_all (λ q. nat_le q.key.priority n) rules ≡ true → (q : Rule) → IsIn q rules → q.key.priority ≤ n
all_to n [] e q i = absurd i
all_to n (r ∷ rules) e q i =
    let (first, rest) = and_parts (nat_le r.key.priority n) (list_all (λ x. nat_le x.key.priority n) rules) e in
    elim i [ inl same ↦ (let p = ap (λ z. z.key.priority) same in let l = leb-true r.key.priority n first in omega arith) | inr j ↦ all_to n rules rest q j ]

pub top_tested : (rules : List Rule) (r : Rule) → IsTop rules r → is_top rules r ≡ true
top_tested rules r top = all_from r.key.priority rules top

pub top_told : (rules : List Rule) (r : Rule) → is_top rules r ≡ true → IsTop rules r
top_told rules r e = all_to r.key.priority rules e

module _ (h : Header) (rules : List Rule) (clear : IsClear rules) where
  -- in a clear table the rule of greatest priority among those that cover is the one that matches
  pub matched_is_top : (r : Rule) → IsIn r (covering_rules h rules) → IsTop (covering_rules h rules) r → matched_rule h rules ≡ Some r
  matched_is_top r i top =
      let (y, found, j, passes) = find_passes (is_top (covering_rules h rules)) r (covering_rules h rules) i (top_tested (covering_rules h rules) r top) in
      let above = top_told (covering_rules h rules) y passes r i in
      let below = top y j in
      let f : y.key.priority ≡ r.key.priority = omega arith in
      let a = in_from_filter (λ q. covers q.key.pattern h) y rules j in
      let b = in_from_filter (λ q. covers q.key.pattern h) r rules i in
      found ∙ ap Some (clear h y r a.0 b.0 a.1 b.1 f)

-- where no rule covers there is no match
pub matched_none : (h : Header) (rules : List Rule) → ((q : Rule) → ¬ IsIn q (covering_rules h rules)) → matched_rule h rules ≡ None
matched_none h rules none =
    ap (λ rs. find (is_top rs) rs) (empty_from_none (covering_rules h rules) none)

-- clear tables with the same covering rules have the same lookup
pub lookup_by_set : (h : Header) (xs ys : List Rule) → IsClear xs → IsClear ys → IsSameSet (covering_rules h xs) (covering_rules h ys) → lookup h xs ≡ lookup h ys
lookup_by_set h xs ys clear_x clear_y same = ap (λ m. option_map_or (λ r. r.action) m Discard) (matched_same (covering_rules h xs) refl)
  where
    matched_same : (zs : List Rule) → zs ≡ covering_rules h xs → matched_rule h xs ≡ matched_rule h ys
    matched_same [] e =
        let none : (q : Rule) → ¬ IsIn q (covering_rules h xs) = λ q i. subst (λ zs. IsIn q zs) (sym e) i in
        matched_none h xs none ∙ sym (matched_none h ys (λ q i. none q ((same q).1 i)))
    matched_same (z ∷ zs) e =
        let (m, i, top) = top_of z zs in
        let j : IsIn m (covering_rules h xs) = subst (λ rs. IsIn m rs) e i in
        let t : IsTop (covering_rules h xs) m = subst (λ rs. IsTop rs m) e top in
        matched_is_top h xs clear_x m j t ∙ sym (matched_is_top h ys clear_y m ((same m).0 j) (λ q k. t q ((same q).1 k)))

-- rules that have both addresses or neither cover the same packets
module _ (port : Port) (vlan : Vlan) (a b : ℕ) where
  pub covering_same : (rules : List Rule) → AllByRecursion (λ r. in_block r.key.pattern.dst a ≡ in_block r.key.pattern.dst b) rules
      → covering_rules (record { port = port; vlan = vlan; dst = a }) rules ≡ covering_rules (record { port = port; vlan = vlan; dst = b }) rules
  covering_same [] same = refl
  covering_same (r ∷ rules) same =
      ap (λ t. cond (admits_port r.key.pattern.in_port port && admits_vlan r.key.pattern.vlan vlan && t) (r ∷ covering_rules (record { port = port; vlan = vlan; dst = a }) rules) (covering_rules (record { port = port; vlan = vlan; dst = a }) rules)) same.0
      ∙ ap (λ rs. cond (covers r.key.pattern (record { port = port; vlan = vlan; dst = b })) (r ∷ rs) rs) (covering_same rules same.1)

  pub lookup_same : (rules : List Rule) → AllByRecursion (λ r. in_block r.key.pattern.dst a ≡ in_block r.key.pattern.dst b) rules
      → lookup (record { port = port; vlan = vlan; dst = a }) rules ≡ lookup (record { port = port; vlan = vlan; dst = b }) rules
  lookup_same rules same =
      ap (λ rs. option_map_or (λ r. r.action) (find (is_top rs) rs) Discard) (covering_same rules same)
