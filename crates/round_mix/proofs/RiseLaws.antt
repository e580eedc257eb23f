-- Where each rule comes before the next one by its key, no key stands twice.
use Rattle.std.proofs.Common.{◌≡◌, ◌⊎◌, ℕ, zero, suc, ◌+◌, ◌<◌, Bool, true, false, List, [], ◌∷◌, length, get_or, refl, sym, ◌∙◌, subst, ap, inl, inr, arith, add-one}
use Rattle.std.specs.List.{AllByRecursion}
use Rattle.std.specs.Ordering.{is_lt}
use Rattle.std.proofs.lemmas.Bool.{both_ways}
use Rattle.net_base.specs.Members.{IsIn, IsDistinct}
use Rattle.net_base.proofs.MemberLaws.{in_from_map, each_at, each_weaker}
use Rattle.flow_rules.specs.Order.{key_cmp}
use Rattle.flow_rules.specs.Tables.{keys_of}
use Rattle.flow_rules.specs.declared.rules.Key.{Key}
use Rattle.flow_rules.specs.declared.rules.Rule.{Rule}
use Rattle.round_mix.specs.Marks.{rules_of}
use Rattle.round_mix.specs.declared.MarkedRule.{MarkedRule}
use Rattle.round_mix.proofs.KeyOrderLaws.{keys_sort}

abbrev pub is_less : MarkedRule → MarkedRule → Bool
is_less m n = is_lt (key_cmp m.rule.key n.rule.key)

either : (b : Bool) → (b ≡ true) ⊎ (b ≡ false)
either true = inl refl
either false = inr refl

through : (m n q : MarkedRule) → is_less m n ≡ true → is_less n q ≡ true → is_less m q ≡ true
through m n q e f =
    elim (either (is_less m q)) [
      | inl g ↦ g
      | inr g ↦ absurd (both_ways (is_less n q) (keys_sort.chain n m q (keys_sort.one_way m n e) g) f)
    ]

-- each comes before the next one
abbrev NextRises : MarkedRule → List MarkedRule → Type 0
NextRises m [] = Unit {0}
NextRises m (n ∷ ns) = is_less m n ≡ true

abbrev AllRise : List MarkedRule → Type 0
AllRise [] = Unit {0}
AllRise (m ∷ ms) = NextRises m ms × AllRise ms

rise_from_places : (ms : List MarkedRule) → ((k : ℕ) (d : MarkedRule) → suc k < length ms → is_less (get_or ms k d) (get_or ms (suc k) d) ≡ true) → AllRise ms
rise_from_places [] h = tt
rise_from_places (m ∷ []) h = (tt, tt)
rise_from_places (m ∷ n ∷ ns) h = (h zero m (omega arith), rise_from_places (n ∷ ns) (λ k d within. h (suc k) d (omega arith)))

-- so the first comes before all behind it
before_all : (m : MarkedRule) (ms : List MarkedRule) → AllRise (m ∷ ms) → AllByRecursion (λ n. is_less m n ≡ true) ms
before_all m [] h = tt
before_all m (n ∷ ns) h = (h.0, each_weaker (λ q. is_less n q ≡ true) (λ q. is_less m q ≡ true) (λ q e. through m n q h.0 e) ns (before_all n ns h.1))

not_again : (m : MarkedRule) (ms : List MarkedRule) → AllByRecursion (λ n. is_less m n ≡ true) ms → ¬ IsIn m.rule.key (keys_of (rules_of ms))
not_again m ms h i =
    let (r, j, e) = in_from_map (λ (x : Rule). x.key) m.rule.key (rules_of ms) i in
    let (n, l, f) = in_from_map (λ (x : MarkedRule). x.rule) r ms j in
    let same : n.rule.key ≡ m.rule.key = sym (e ∙ ap (λ (x : Rule). x.key) f) in
    let less : is_less m m ≡ true = subst (λ (k : Key). is_lt (key_cmp m.rule.key k) ≡ true) same (each_at (λ n. is_less m n ≡ true) ms n h l) in
    both_ways (is_less m m) (keys_sort.one_way m m less) less

distinct_from_rise : (ms : List MarkedRule) → AllRise ms → IsDistinct (keys_of (rules_of ms))
distinct_from_rise [] h = tt
distinct_from_rise (m ∷ ms) h = (not_again m ms (before_all m ms h), distinct_from_rise ms h.1)

pub distinct_from_places : (ms : List MarkedRule) → ((k : ℕ) (d : MarkedRule) → k + 1 < length ms → is_less (get_or ms k d) (get_or ms (k + 1) d) ≡ true)
    → IsDistinct (keys_of (rules_of ms))
distinct_from_places ms h =
    distinct_from_rise ms (rise_from_places ms (λ k d within. subst (λ (n : ℕ). is_less (get_or ms k d) (get_or ms n d) ≡ true) (add-one k) (h k d (omega arith))))
