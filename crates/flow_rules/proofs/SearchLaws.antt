-- The best of the positions of rules is that of the rule that matches.
use Rattle.std.proofs.Common.{◌≡◌, ◌⊎◌, ℕ, zero, suc, ◌+◌, ◌-◌, ◌<◌, ◌≤◌, true, false, List, [], ◌∷◌, ◌++◌, take, drop, map, length, get_or, refl, sym, ◌∙◌, subst, ap, inl, inr, arith}
use Rattle.std.specs.Prelude.{Option, Some, None, slice_get, find}
use Rattle.std.proofs.lemmas.Bool.{cases_lt, cases_eq, cond-true, false≢true, false_from_ne_true}
use Rattle.std.proofs.lemmas.List.Elements.{filter-append}
use Rattle.net_base.specs.Members.{IsIn}
use Rattle.net_base.proofs.MemberLaws.{in_map, in_filter, in_from_filter}
use Rattle.net_base.proofs.ItemLaws.{get_from_in, in_from_get}
use Rattle.flow_rules.specs.Patterns.{Header, covers}
use Rattle.flow_rules.specs.Scan.{covers_at, priority_at, IsOver, IsBeaten}
use Rattle.flow_rules.specs.Tables.{covering_rules, matched_rule, patterns_of}
use Rattle.flow_rules.specs.Tuples.{pattern_around, slot_of, link_number, IsLink}
use Rattle.flow_rules.specs.declared.rules.Pattern.{Pattern}
use Rattle.flow_rules.specs.declared.rules.Rule.{Rule}
use Rattle.flow_rules.proofs.LookupLaws.{is_top, top_tested, top_told, matched_none}
use Rattle.flow_rules.proofs.ClashLaws.{rule_at}
use Rattle.flow_rules.proofs.ScanLaws.{find_none}

pub over_self : (rules : List Rule) (i : ℕ) → IsOver rules i i
over_self rules i = record { above = omega arith; first = λ e. omega arith }

pub over_through : (rules : List Rule) (i j k : ℕ) → IsOver rules i j → IsOver rules j k → IsOver rules i k
over_through rules i j k f g =
    let a = f.above in
    let b = g.above in
    record {
      above = omega arith;
      first = λ e. let x = f.first (omega arith) in let y = g.first (omega arith) in omega arith;
    }

-- a position is beaten where another one that beats it is
pub beaten_by : (h : Header) (rules : List Rule) (i k j : ℕ) → IsOver rules k i → IsBeaten h rules (Some i) j → IsBeaten h rules (Some k) j
beaten_by h rules i k j over beaten e =
    let (x, is, g) = beaten e in
    let same : i ≡ x = cc in
    (k, refl, over_through rules k i j over (subst (λ (n : ℕ). IsOver rules n j) (sym same) g))

-- where none is best none that covers is beaten
pub beaten_by_none : (h : Header) (rules : List Rule) (k j : ℕ) → IsBeaten h rules None j → IsBeaten h rules (Some k) j
beaten_by_none h rules k j beaten e = let (x, is, g) = beaten e in absurd (let f : None ≡ Some x = is in cc)

-- no position past the end covers
pub none_past : (h : Header) (rules : List Rule) (j : ℕ) → length rules ≤ j → covers_at h rules j ≡ true → ⊥
none_past h [] j le e = false≢true e
none_past h (r ∷ rules) zero le e = omega arith
none_past h (r ∷ rules) (suc j) le e = none_past h rules j (omega arith) e

pub covers_of : (h : Header) (rules : List Rule) (i : ℕ) (r : Rule) → slice_get rules i ≡ Some r → covers_at h rules i ≡ covers r.key.pattern h
covers_of h [] i r e = absurd (let f : None ≡ Some r = e in cc)
covers_of h (q ∷ rules) zero r e = let f : q ≡ r = (let g : Some q ≡ Some r = e in cc) in ap (λ (x : Rule). covers x.key.pattern h) f
covers_of h (q ∷ rules) (suc i) r e = covers_of h rules i r e

-- a rule that doesn't cover is beaten by any
pub missed_beaten : (h : Header) (rules : List Rule) (best : Option ℕ) (j : ℕ) (r : Rule) → slice_get rules j ≡ Some r → false ≡ covers r.key.pattern h → IsBeaten h rules best j
missed_beaten h rules best j r at missed e = absurd (false≢true (missed ∙ sym (covers_of h rules j r at) ∙ e))

-- of two hits each is one
pub hit_either : (h : Header) (rules : List Rule) (i j k : ℕ) → (k ≡ i) ⊎ (k ≡ j) → covers_at h rules i ≡ true → covers_at h rules j ≡ true → covers_at h rules k ≡ true
hit_either h rules i j k (inl e) a b = ap (λ (n : ℕ). covers_at h rules n) e ∙ a
hit_either h rules i j k (inr e) a b = ap (λ (n : ℕ). covers_at h rules n) e ∙ b

pub priority_of : (rules : List Rule) (i : ℕ) (r : Rule) → slice_get rules i ≡ Some r → priority_at rules i ≡ r.key.priority
priority_of [] i r e = absurd (let f : None ≡ Some r = e in cc)
priority_of (q ∷ rules) zero r e = let f : q ≡ r = (let g : Some q ≡ Some r = e in cc) in ap (λ (x : Rule). x.key.priority) f
priority_of (q ∷ rules) (suc i) r e = priority_of rules i r e

-- one position counts before another by the priorities of their rules
pub over_by : (rules : List Rule) (i j : ℕ) (a b : Rule) → i < length rules → j < length rules → a ≡ get_or rules i a → b ≡ get_or rules j b → b.key.priority ≤ a.key.priority
    → (b.key.priority ≡ a.key.priority → i ≤ j) → IsOver rules i j
over_by rules i j a b i_in j_in a_is b_is above first =
    let p = priority_of rules i a (rule_at rules i a i_in a_is) in
    let q = priority_of rules j b (rule_at rules j b j_in b_is) in
    record { above = omega arith; first = λ e. first (sym q ∙ e ∙ p) }

-- a member of the first rules stands before their end
place_before : (n : ℕ) (rules : List Rule) (r : Rule) → IsIn r (take n rules) → (j : ℕ) × (j < n) × (slice_get rules j ≡ Some r)
place_before zero rules r i = absurd i
place_before (suc n) [] r i = absurd i
place_before (suc n) (q ∷ rules) r (inl e) = (zero, omega arith, ap Some (sym e))
place_before (suc n) (q ∷ rules) r (inr i) = let (j, less, at) = place_before n rules r i in (suc j, omega arith, at)

split_at : (rules : List Rule) (i : ℕ) (r : Rule) → slice_get rules i ≡ Some r → rules ≡ take i rules ++ r ∷ drop (suc i) rules
split_at [] i r e = absurd (let f : None ≡ Some r = e in cc)
split_at (q ∷ rules) zero r e = let f : q ≡ r = (let g : Some q ≡ Some r = e in cc) in ap (λ (x : Rule). x ∷ rules) f
split_at (q ∷ rules) (suc i) r e = ap (λ rs. q ∷ rs) (split_at rules i r e)

module _ (h : Header) (rules : List Rule) where
  -- where no position is best no rule matches
  pub none_matched : ((j : ℕ) → IsBeaten h rules None j) → matched_rule h rules ≡ None
  none_matched beaten =
      matched_none h rules (λ q i.
      let (k, c) = in_from_filter (λ x. covers x.key.pattern h) q rules i in
      let (j, at) = get_from_in rules q k in
      let (x, is, g) = beaten j (covers_of h rules j q at ∙ c) in
      absurd (let f : None ≡ Some x = is in cc))

  module _ (i : ℕ) (r : Rule) (at : slice_get rules i ≡ Some r) (beaten : (j : ℕ) → IsBeaten h rules (Some i) j) where
    over : (j : ℕ) (q : Rule) → slice_get rules j ≡ Some q → covers q.key.pattern h ≡ true → IsOver rules i j
    over j q there c =
        let (x, is, g) = beaten j (covers_of h rules j q there ∙ c) in
        let same : i ≡ x = cc in
        subst (λ (n : ℕ). IsOver rules n j) (sym same) g

    top : (q : Rule) → IsIn q (covering_rules h rules) → q.key.priority ≤ r.key.priority
    top q k =
        let (l, c) = in_from_filter (λ x. covers x.key.pattern h) q rules k in
        let (j, there) = get_from_in rules q l in
        let g = (over j q there c).above in
        let e = priority_of rules j q there in
        let f = priority_of rules i r at in
        omega arith

    -- a rule before it has less priority
    less_before : covers r.key.pattern h ≡ true → (q : Rule) → IsIn q (covering_rules h (take i rules)) → is_top (covering_rules h rules) q ≡ false
    less_before hit q k =
        let (l, c) = in_from_filter (λ x. covers x.key.pattern h) q (take i rules) k in
        let (j, less, there) = place_before i rules q l in
        let g = over j q there c in
        let e = priority_of rules j q there in
        let f = priority_of rules i r at in
        let here : IsIn r (covering_rules h rules) = in_filter (λ x. covers x.key.pattern h) r rules (in_from_get rules i r at) hit in
        false_from_ne_true (is_top (covering_rules h rules) q) (λ t.
        let a = top_told (covering_rules h rules) q t r here in
        let b = g.above in
        let first = g.first (omega arith) in
        absurd (omega arith))

    -- the rule at the best position matches
    pub best_matched : covers r.key.pattern h ≡ true → matched_rule h rules ≡ Some r
    best_matched hit =
        let rest = drop (suc i) rules in
        let parts : covering_rules h rules ≡ covering_rules h (take i rules) ++ r ∷ covering_rules h rest =
        ap (covering_rules h) (split_at rules i r at) ∙ filter-append (λ x. covers x.key.pattern h) (take i rules) (r ∷ rest)
        ∙ ap (λ rs. covering_rules h (take i rules) ++ rs) (cond-true (covers r.key.pattern h) (r ∷ covering_rules h rest) (covering_rules h rest) hit) in
        ap (find (is_top (covering_rules h rules))) parts ∙ find_none (is_top (covering_rules h rules)) (covering_rules h (take i rules)) (r ∷ covering_rules h rest) (less_before hit)
        ∙ cond-true (is_top (covering_rules h rules) r) (Some r) (find (is_top (covering_rules h rules)) (covering_rules h rest)) (top_tested (covering_rules h rules) r top)

-- where a covering rule stands
place_hit : (h : Header) (rules : List Rule) (j : ℕ) → covers_at h rules j ≡ true → (r : Rule) × (slice_get rules j ≡ Some r) × (covers r.key.pattern h ≡ true)
place_hit h [] j e = absurd (false≢true e)
place_hit h (r ∷ rules) zero e = (r, refl, e)
place_hit h (r ∷ rules) (suc j) e = place_hit h rules j e

-- a position that covers is one of the rules
pub hit_within : (h : Header) (rules : List Rule) (j : ℕ) → covers_at h rules j ≡ true → j < length rules
hit_within h rules j e = elim (cases_lt j (length rules)) [ inl less ↦ less | inr more ↦ absurd (none_past h rules j more e) ]

slot_at : (f : Pattern → ℕ) (rules : List Rule) (j : ℕ) (r : Rule) → slice_get rules j ≡ Some r → get_or (map f (patterns_of rules)) j 0 ≡ f r.key.pattern
slot_at f [] j r e = absurd (let g : None ≡ Some r = e in cc)
slot_at f (q ∷ rules) zero r e = let g : q ≡ r = (let k : Some q ≡ Some r = e in cc) in ap (λ (x : Rule). f x.key.pattern) g
slot_at f (q ∷ rules) (suc j) r e = slot_at f rules j r e

-- where the slots of all kinds are seen each position is beaten
pub all_beaten : (h : Header) (rules : List Rule) (best : Option ℕ) (kinds patterns : List Pattern) (count : ℕ) → patterns ≡ patterns_of rules
    → ((p : Pattern) (x : Header) → IsIn p patterns → covers p x ≡ true → (k : Pattern) × IsIn k kinds × (pattern_around k x ≡ p))
    → ((k : Pattern) → IsIn k kinds → (j : ℕ) → get_or (map (slot_of count) patterns) j 0 ≡ slot_of count (pattern_around k h) → IsBeaten h rules best j)
    → (j : ℕ) → IsBeaten h rules best j
all_beaten h rules best kinds patterns count is complete seen j e =
    let (r, at, c) = place_hit h rules j e in
    let here : IsIn r.key.pattern patterns = subst (λ ps. IsIn r.key.pattern ps) (sym is) (in_map (λ (x : Rule). x.key.pattern) r rules (in_from_get rules j r at)) in
    let (k, i, own) = complete r.key.pattern h here c in
    let slot : get_or (map (slot_of count) patterns) j 0 ≡ slot_of count (pattern_around k h) =
    ap (λ ps. get_or (map (slot_of count) ps) j 0) is ∙ slot_at (slot_of count) rules j r at ∙ ap (slot_of count) (sym own) in
    seen k i j slot e

pub less_link : (next now i : ℕ) → next ≤ i → now ≡ i + 1 → next < now
less_link next now i le is = omega arith

-- no link is at most any number
pub none_below : (link : Option ℕ) (j : ℕ) → link ≡ None → link_number link ≤ j
none_below link j is = subst (λ (o : Option ℕ). link_number o ≤ j) (sym is) (let z : 0 ≤ j = omega arith in z)

module _ (slots : List ℕ) (slot limit : ℕ) (first : Option ℕ) (link : IsLink slots slot limit (link_number first)) where
  -- the first of a slot is in it
  pub first_same : (x : ℕ) → first ≡ Some x → get_or slots x 0 ≡ slot
  first_same x e =
      let more : link_number first ≡ x + 1 = ap link_number e in
      let less : x ≡ link_number first - 1 = omega arith in
      ap (λ (n : ℕ). get_or slots n 0) less ∙ link.same (omega arith)

  -- and none of the rules behind it is
  pub first_seen : (h : Header) (rules : List Rule) (best : Option ℕ) → limit ≡ length rules → (j : ℕ) → link_number first ≤ j → get_or slots j 0 ≡ slot → IsBeaten h rules best j
  first_seen h rules best count j le e hit = absurd (link.last j le (let k = hit_within h rules j hit in omega arith) e)

module _ (slots : List ℕ) (slot i : ℕ) (same : get_or slots i 0 ≡ slot) (next : Option ℕ) (link : IsLink slots (get_or slots i 0) i (link_number next)) where
  -- a step along a slot stays in it
  pub step_same : (x : ℕ) → next ≡ Some x → get_or slots x 0 ≡ slot
  step_same x e =
      let more : link_number next ≡ x + 1 = ap link_number e in
      let less : x ≡ link_number next - 1 = omega arith in
      ap (λ (n : ℕ). get_or slots n 0) less ∙ link.same (omega arith) ∙ same

  -- and passes none of its positions
  pub step_seen : (h : Header) (rules : List Rule) (best new : Option ℕ) → ((j : ℕ) → IsBeaten h rules best j → IsBeaten h rules new j) → IsBeaten h rules new i
      → ((j : ℕ) → i + 1 ≤ j → get_or slots j 0 ≡ slot → IsBeaten h rules best j) → (j : ℕ) → link_number next ≤ j → get_or slots j 0 ≡ slot → IsBeaten h rules new j
  step_seen h rules best new kept here seen j le e =
      elim (cases_lt j i) [
        | inl less ↦ absurd (link.last j le less (e ∙ sym same))
        | inr more ↦ elim (cases_eq j i) [
          | inl at ↦ subst (λ (n : ℕ). IsBeaten h rules new n) (sym at) here
          | inr ne ↦ kept j (seen j (omega arith) e)
        ]
      ]
