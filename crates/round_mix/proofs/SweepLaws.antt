-- What a sweep over two kinds of rules shows.
use Rattle.std.proofs.Common.{◌≡◌, ◌⊎◌, ◌&&◌, ◌||◌, ℕ, zero, suc, ◌+◌, ◌<◌, Bool, true, false, cond, List, [], ◌∷◌, length, get_or, refl, sym, ◌∙◌, subst, ap, inl, inr, arith}
use Rattle.std.specs.Prelude.{◌==◌, not, nat_le, nat_lt, Option, Some, None, IsPermutation}
use Rattle.std.specs.List as std_list
use Rattle.std.specs.Cmp.{IsTotalOrder, IsStrictWeakOrder, on_total, then_total, back_total, nat_cmp_total}
use Rattle.std.specs.Ordering.{nat_cmp, ordering_then, is_lt}
use Rattle.std.specs.declared.cmp.Ordering.{Ordering}
use Rattle.std.proofs.lemmas.Bool.{eqb-true, eq-eqb, and_parts, and_from, cond-true, cond-false, both_ways, false≢true, ltb-true, leb-true, or_left, or_right}
use Rattle.std.proofs.lemmas.List.Sorted.{ranks_by}
use Rattle.std.proofs.lemmas.Map.Keys.{IsDistinct-from_apart, IsDistinct-IsPermutation}
use Rattle.net_base.specs.Blocks.{in_block, block_size}
use Rattle.net_base.specs.Members.{IsIn}
use Rattle.net_base.specs.declared.ids.Port.{Port}
use Rattle.net_base.proofs.ItemLaws.{in_from_get}
use Rattle.net_base.proofs.MemberLaws.{in_from_map, each_at, each_both}
use Rattle.flow_rules.specs.Patterns.{admits_port, admits_vlan}
use Rattle.flow_rules.specs.Overlaps.{IsClash, ports_meet, vlans_meet, blocks_meet, patterns_meet, keys_clash}
use Rattle.flow_rules.specs.Order.{port_rank, vlan_rank}
use Rattle.flow_rules.specs.declared.rules.VlanTest.{VlanTest}
use Rattle.flow_rules.specs.declared.rules.VlanTest.TheVariants as test
use Rattle.flow_rules.specs.declared.rules.Key.{Key}
use Rattle.flow_rules.specs.declared.rules.Rule.{Rule}
use Rattle.flow_rules.specs.Frees.{IsFree}
use Rattle.flow_rules.proofs.OverlapLaws.{meet_in, meet_out}
use Rattle.round_mix.specs.Apart.{AreApart}
use Rattle.round_mix.specs.Marks.{rules_of}
use Rattle.round_mix.specs.Order.{priority_of, base_of}
use Rattle.round_mix.specs.Kinds.{has_port, has_vlan, kind_of, tests_port, tests_vlan, kind_eq, clash_between, AreSwept, AreKindsApart, begin_of, end_of, spot_cmp, is_sooner, begins_past, reach_with, turned_pair}
use Rattle.round_mix.specs.declared.MarkedRule.{MarkedRule}
use Rattle.round_mix.specs.declared.kinds.Kind.{Kind}
use Rattle.round_mix.specs.declared.kinds.Kind.TheVariants as kind
use Rattle.round_mix.specs.declared.kinds.Pair.{Pair}
use Rattle.round_mix.specs.declared.kinds.Spot.{Spot}
use Rattle.round_mix.proofs.ApartLaws.{apart_from_free}
use Rattle.round_mix.proofs.OrderLaws.{nat_less, nat_equal}

-- spots stand in an order that sorts
spots_total : IsTotalOrder spot_cmp
spots_total =
    then_total (then_total (then_total (back_total (on_total (λ (s : Spot). s.priority) nat_cmp_total)) (on_total (λ (s : Spot). s.port) nat_cmp_total))
    (on_total (λ (s : Spot). s.vlan) nat_cmp_total)) (on_total (λ (s : Spot). s.address) nat_cmp_total)

sooner_order : IsStrictWeakOrder is_sooner
sooner_order = ranks_by spots_total (λ (s : Spot). s)

pub begins_order : (pair : Pair) → IsStrictWeakOrder (λ (m n : MarkedRule). is_sooner (begin_of pair m) (begin_of pair n))
begins_order pair = ranks_by spots_total (begin_of pair)

-- a test either holds or not
cases_test : (b : Bool) → (b ≡ true) ⊎ (b ≡ false)
cases_test true = inl refl
cases_test false = inr refl

-- none comes before itself
not_itself : (s : Spot) → is_sooner s s ≡ false
not_itself s = elim (cases_test (is_sooner s s)) [ inl e ↦ sooner_order.one_way s s e | inr e ↦ e ]

-- the sweep has left a rule by this spot, if it is of the first kind
abbrev pub IsLeft : Pair → MarkedRule → Spot → Type 0
IsLeft pair m reach = kind_eq (kind_of m) pair.one ≡ true → is_sooner reach (end_of pair m) ≡ false

-- it stays left, and so is the next rule
pub left_kept : (pair : Pair) (m n : MarkedRule) (reach : Spot) → IsLeft pair m reach → IsLeft pair m (reach_with pair reach n)
left_kept pair m n reach left of =
    elim (cases_test (kind_eq (kind_of n) pair.one && is_sooner reach (end_of pair n))) [
      | inl e ↦ (
          let (_, sooner) = and_parts (kind_eq (kind_of n) pair.one) (is_sooner reach (end_of pair n)) e in
          subst (λ (s : Spot). is_sooner s (end_of pair m) ≡ false) (sym (cond-true (kind_eq (kind_of n) pair.one && is_sooner reach (end_of pair n)) (end_of pair n) reach e))
          (sooner_order.chain (end_of pair n) reach (end_of pair m) (sooner_order.one_way reach (end_of pair n) sooner) (left of)))
      | inr e ↦ subst (λ (s : Spot). is_sooner s (end_of pair m) ≡ false) (sym (cond-false (kind_eq (kind_of n) pair.one && is_sooner reach (end_of pair n)) (end_of pair n) reach e)) (left of)
    ]

pub left_new : (pair : Pair) (n : MarkedRule) (reach : Spot) → IsLeft pair n (reach_with pair reach n)
left_new pair n reach of =
    elim (cases_test (kind_eq (kind_of n) pair.one && is_sooner reach (end_of pair n))) [
      | inl e ↦ subst (λ (s : Spot). is_sooner s (end_of pair n) ≡ false) (sym (cond-true (kind_eq (kind_of n) pair.one && is_sooner reach (end_of pair n)) (end_of pair n) reach e)) (not_itself (end_of pair n))
      | inr e ↦ subst (λ (s : Spot). is_sooner s (end_of pair n) ≡ false) (sym (cond-false (kind_eq (kind_of n) pair.one && is_sooner reach (end_of pair n)) (end_of pair n) reach e))
          (elim (cases_test (is_sooner reach (end_of pair n))) [ inl f ↦ absurd (both_ways (kind_eq (kind_of n) pair.one && is_sooner reach (end_of pair n)) e (and_from (kind_eq (kind_of n) pair.one) (is_sooner reach (end_of pair n)) of f)) | inr f ↦ f ])
    ]

-- what both kinds test is the same where two rules clash
port_same : (a b : Bool) (p q : Option Port) → (a ≡ true → has_port p ≡ true) → (b ≡ true → has_port q ≡ true) → ports_meet p q ≡ true → cond (a && b) (port_rank p) 0 ≡ cond (a && b) (port_rank q) 0
port_same false b p q f g e = refl
port_same true false p q f g e = refl
port_same true true None q f g e = absurd (false≢true (f refl))
port_same true true (Some p) None f g e = absurd (false≢true (g refl))
port_same true true (Some p) (Some q) f g e = let h = eqb-true p.0 q.0 e in omega arith

vlan_same : (a b : Bool) (s t : VlanTest) → (a ≡ true → has_vlan s ≡ true) → (b ≡ true → has_vlan t ≡ true) → vlans_meet s t ≡ true → cond (a && b) (vlan_rank s) 0 ≡ cond (a && b) (vlan_rank t) 0
vlan_same false b s t f g e = refl
vlan_same true false s t f g e = refl
vlan_same true true test.Any t f g e = absurd (false≢true (f refl))
vlan_same true true test.Untagged test.Any f g e = absurd (false≢true (g refl))
vlan_same true true test.Untagged test.Untagged f g e = refl
vlan_same true true test.Untagged (test.Id n) f g e = absurd (false≢true e)
vlan_same true true (test.Id m) test.Any f g e = absurd (false≢true (g refl))
vlan_same true true (test.Id m) test.Untagged f g e = absurd (false≢true e)
vlan_same true true (test.Id m) (test.Id n) f g e = let h = eqb-true m n e in omega arith

-- a rule tests what its kind does
port_by : (k : Kind) (a b : Bool) → kind_eq (cond a (cond b kind.Both kind.Port) (cond b kind.Vlan kind.Address)) k ≡ true → tests_port k ≡ true → a ≡ true
port_by k true b e t = refl
port_by kind.Address false b e t = t
port_by kind.Port false true e t = e
port_by kind.Port false false e t = e
port_by kind.Vlan false b e t = t
port_by kind.Both false true e t = e
port_by kind.Both false false e t = e

vlan_by : (k : Kind) (a b : Bool) → kind_eq (cond a (cond b kind.Both kind.Port) (cond b kind.Vlan kind.Address)) k ≡ true → tests_vlan k ≡ true → b ≡ true
vlan_by k a true e t = refl
vlan_by kind.Address a false e t = t
vlan_by kind.Port a false e t = t
vlan_by kind.Vlan true false e t = e
vlan_by kind.Vlan false false e t = e
vlan_by kind.Both true false e t = e
vlan_by kind.Both false false e t = e

-- the second of two rules that clash begins before the sweep has left the first
begins_within : (pair : Pair) (m n : MarkedRule) → kind_eq (kind_of m) pair.one ≡ true → kind_eq (kind_of n) pair.two ≡ true → keys_clash m.rule.key n.rule.key ≡ true → is_sooner (begin_of pair n) (end_of pair m) ≡ true
begins_within pair m n one two clash =
    let (top, meets) = and_parts (priority_of m == priority_of n) (patterns_meet m.rule.key.pattern n.rule.key.pattern) clash in
    let (front, _) = and_parts (ports_meet m.rule.key.pattern.in_port n.rule.key.pattern.in_port && vlans_meet m.rule.key.pattern.vlan n.rule.key.pattern.vlan) (blocks_meet m.rule.key.pattern.dst n.rule.key.pattern.dst) meets in
    let (ports, vlans) = and_parts (ports_meet m.rule.key.pattern.in_port n.rule.key.pattern.in_port) (vlans_meet m.rule.key.pattern.vlan n.rule.key.pattern.vlan) front in
    let (h, over_m, over_n) = meet_in m.rule.key.pattern n.rule.key.pattern meets in
    let (_, high) = and_parts (nat_le (base_of m) h.dst) (nat_lt h.dst (base_of m + block_size m.rule.key.pattern.dst)) (and_parts (admits_port m.rule.key.pattern.in_port h.port && admits_vlan m.rule.key.pattern.vlan h.vlan) (in_block m.rule.key.pattern.dst h.dst) over_m).1 in
    let (low, _) = and_parts (nat_le (base_of n) h.dst) (nat_lt h.dst (base_of n + block_size n.rule.key.pattern.dst)) (and_parts (admits_port n.rule.key.pattern.in_port h.port && admits_vlan n.rule.key.pattern.vlan h.vlan) (in_block n.rule.key.pattern.dst h.dst) over_n).1 in
    let below = ltb-true h.dst (base_of m + block_size m.rule.key.pattern.dst) high in
    let above = leb-true (base_of n) h.dst low in
    let same_top : priority_of m ≡ priority_of n = eqb-true (priority_of m) (priority_of n) top in
    let same_port = port_same (tests_port pair.one) (tests_port pair.two) m.rule.key.pattern.in_port n.rule.key.pattern.in_port
    (port_by pair.one (has_port m.rule.key.pattern.in_port) (has_vlan m.rule.key.pattern.vlan) one) (port_by pair.two (has_port n.rule.key.pattern.in_port) (has_vlan n.rule.key.pattern.vlan) two) ports in
    let same_vlan = vlan_same (tests_vlan pair.one) (tests_vlan pair.two) m.rule.key.pattern.vlan n.rule.key.pattern.vlan
    (vlan_by pair.one (has_port m.rule.key.pattern.in_port) (has_vlan m.rule.key.pattern.vlan) one) (vlan_by pair.two (has_port n.rule.key.pattern.in_port) (has_vlan n.rule.key.pattern.vlan) two) vlans in
    let less : base_of n < base_of m + block_size m.rule.key.pattern.dst = omega arith in
    sooner_from (begin_of pair n) (end_of pair m) (sym same_top) (sym same_port) (sym same_vlan) less
  where
    sooner_from : (a b : Spot) → a.priority ≡ b.priority → a.port ≡ b.port → a.vlan ≡ b.vlan → a.address < b.address → is_sooner a b ≡ true
    sooner_from a b e f g less =
        ap (λ (o : Ordering). is_lt (ordering_then (ordering_then (ordering_then o (nat_cmp a.port b.port)) (nat_cmp a.vlan b.vlan)) (nat_cmp a.address b.address))) (nat_equal b.priority a.priority (sym e))
        ∙ ap (λ (o : Ordering). is_lt (ordering_then (ordering_then o (nat_cmp a.vlan b.vlan)) (nat_cmp a.address b.address))) (nat_equal a.port b.port f)
        ∙ ap (λ (o : Ordering). is_lt (ordering_then o (nat_cmp a.address b.address))) (nat_equal a.vlan b.vlan g)
        ∙ ap is_lt (nat_less a.address b.address less)

-- so a rule that the sweep meets after it has left another doesn't clash with that one
pub left_apart : (pair : Pair) (m n : MarkedRule) (reach : Spot) → IsLeft pair m reach → begins_past pair reach n ≡ true → clash_between pair m n ≡ false
left_apart pair m n reach left past =
    elim (cases_test (clash_between pair m n)) [
      | inl e ↦ (
          let (front, clash) = and_parts (kind_eq (kind_of m) pair.one && kind_eq (kind_of n) pair.two) (keys_clash m.rule.key n.rule.key) e in
          let (one, two) = and_parts (kind_eq (kind_of m) pair.one) (kind_eq (kind_of n) pair.two) front in
          let within = begins_within pair m n one two clash in
          elim (cases_test (is_sooner (begin_of pair n) reach)) [
            | inl f ↦ absurd (both_ways (begins_past pair reach n) (ap not (and_from (kind_eq (kind_of n) pair.two) (is_sooner (begin_of pair n) reach) two f)) past)
            | inr f ↦ absurd (both_ways (is_sooner (begin_of pair n) (end_of pair m)) (sooner_order.chain (begin_of pair n) reach (end_of pair m) f (left one)) within)
          ])
      | inr e ↦ e
    ]

pub swept_from_places : (pair : Pair) (ms : List MarkedRule) → ((i j : ℕ) (d : MarkedRule) → i < j → j < length ms → clash_between pair (get_or ms i d) (get_or ms j d) ≡ false) → AreSwept pair ms
swept_from_places pair ms h = IsDistinct-from_apart (clash_between pair) ms h

-- clashing keys clash the other way round
keys_turn : (k l : Key) → keys_clash k l ≡ true → keys_clash l k ≡ true
keys_turn k l e =
    let (top, meets) = and_parts (k.priority == l.priority) (patterns_meet k.pattern l.pattern) e in
    let (h, first, second) = meet_in k.pattern l.pattern meets in
    and_from (l.priority == k.priority) (patterns_meet l.pattern k.pattern) (eq-eqb l.priority k.priority (sym (eqb-true k.priority l.priority top))) (meet_out l.pattern k.pattern h second first)

between_turn : (pair : Pair) (m n : MarkedRule) → clash_between pair n m ≡ true → clash_between (turned_pair pair) m n ≡ true
between_turn pair m n e =
    let (front, clash) = and_parts (kind_eq (kind_of n) pair.one && kind_eq (kind_of m) pair.two) (keys_clash n.rule.key m.rule.key) e in
    let (one, two) = and_parts (kind_eq (kind_of n) pair.one) (kind_eq (kind_of m) pair.two) front in
    and_from (kind_eq (kind_of m) pair.two && kind_eq (kind_of n) pair.one) (keys_clash m.rule.key n.rule.key) (and_from (kind_eq (kind_of m) pair.two) (kind_eq (kind_of n) pair.one) two one) (keys_turn n.rule.key m.rule.key clash)

neither : (a b : Bool) → a ≡ false → b ≡ false → (a || b) ≡ false
neither a b e f = ap (λ (x : Bool). x || b) e ∙ f

-- two sweeps tell that two kinds are apart
pub apart_from_sweeps : (pair : Pair) (ms : List MarkedRule) → AreSwept pair ms → AreSwept (turned_pair pair) ms → AreKindsApart pair ms
unfolding std_list.IsDistinct
apart_from_sweeps pair [] a b = tt
apart_from_sweeps pair (m ∷ ms) a b = (
  each_both (λ n. clash_between pair m n ≡ false) (λ n. clash_between (turned_pair pair) m n ≡ false) (λ n. (clash_between pair m n || clash_between pair n m) ≡ false)
      (λ n e f. neither (clash_between pair m n) (clash_between pair n m) e (elim (cases_test (clash_between pair n m)) [
        | inl g ↦ absurd (both_ways (clash_between (turned_pair pair) m n) f (between_turn pair m n g))
        | inr g ↦ g
      ])) ms a.0 b.0,
  apart_from_sweeps pair ms a.1 b.1,
)

or_turns : (a b : Bool) → (a || b) ≡ (b || a)
or_turns true true = refl
or_turns true false = refl
or_turns false true = refl
or_turns false false = refl

-- kinds stay apart when the rules change places
pub kinds_moved : (pair : Pair) (ms ns : List MarkedRule) → IsPermutation ms ns → AreKindsApart pair ms → AreKindsApart pair ns
kinds_moved pair ms ns moved apart =
    IsDistinct-IsPermutation (λ m n. clash_between pair m n || clash_between pair n m) (λ m n. or_turns (clash_between pair m n) (clash_between pair n m)) ms ns moved apart

kind_self : (k : Kind) → kind_eq k k ≡ true
kind_self kind.Address = refl
kind_self kind.Port = refl
kind_self kind.Vlan = refl
kind_self kind.Both = refl

-- each two kinds are apart, in one order or the other
abbrev pub EachApart : List MarkedRule → Type 0
EachApart ms = (k l : Kind) → AreKindsApart (record { one = k; two = l }) ms ⊎ AreKindsApart (record { one = l; two = k }) ms

tail_apart : (m : MarkedRule) (ms : List MarkedRule) → EachApart (m ∷ ms) → EachApart ms
unfolding std_list.IsDistinct
tail_apart m ms each k l = elim (each k l) [ inl a ↦ inl a.1 | inr a ↦ inr a.1 ]

keys_from : (m n : MarkedRule) → IsClash m.rule n.rule → keys_clash m.rule.key n.rule.key ≡ true
keys_from m n clash =
    and_from (priority_of m == priority_of n) (patterns_meet m.rule.key.pattern n.rule.key.pattern) (eq-eqb (priority_of m) (priority_of n) clash.priority)
    (meet_out m.rule.key.pattern n.rule.key.pattern clash.header clash.first clash.second)

between_from : (m n : MarkedRule) → keys_clash m.rule.key n.rule.key ≡ true → clash_between (record { one = kind_of m; two = kind_of n }) m n ≡ true
between_from m n clash =
    and_from (kind_eq (kind_of m) (kind_of m) && kind_eq (kind_of n) (kind_of n)) (keys_clash m.rule.key n.rule.key)
    (and_from (kind_eq (kind_of m) (kind_of m)) (kind_eq (kind_of n) (kind_of n)) (kind_self (kind_of m)) (kind_self (kind_of n))) clash

-- so the first rule clashes with none behind it
first_apart : (m : MarkedRule) (ms : List MarkedRule) → EachApart (m ∷ ms) → (q : MarkedRule) → IsIn q ms → IsClash m.rule q.rule → ⊥
unfolding std_list.IsDistinct
first_apart m ms each q i clash =
    let keys = keys_from m q clash in
    elim (each (kind_of m) (kind_of q)) [
      | inl a ↦ (
          let p : Pair = record { one = kind_of m; two = kind_of q } in
          both_ways (clash_between p m q || clash_between p q m) (each_at (λ n. (clash_between p m n || clash_between p n m) ≡ false) ms q a.0 i)
          (or_left (clash_between p m q) (clash_between p q m) (between_from m q keys)))
      | inr a ↦ (
          let p : Pair = record { one = kind_of q; two = kind_of m } in
          both_ways (clash_between p m q || clash_between p q m) (each_at (λ n. (clash_between p m n || clash_between p n m) ≡ false) ms q a.0 i)
          (or_right (clash_between p m q) (clash_between p q m) (between_from q m (keys_turn m.rule.key q.rule.key keys))))
    ]

free_from_kinds : (ms : List MarkedRule) → EachApart ms → (i : ℕ) → IsFree (rules_of ms) i
free_from_kinds [] each i j less at = let h : None ≡ Some at.one = at.one_at in cc
free_from_kinds (m ∷ ms) each zero zero less at = omega arith
free_from_kinds (m ∷ ms) each zero (suc j) less at =
    let here : m.rule ≡ at.one = same_some at.one_at in
    let (q, i, e) = in_from_map (λ (x : MarkedRule). x.rule) at.other ms (in_from_get (rules_of ms) j at.other at.other_at) in
    first_apart m ms each q i (subst (λ x. IsClash m.rule x) e (subst (λ x. IsClash x at.other) (sym here) at.clash))
  where
    same_some : {x y : Rule} → Some x ≡ Some y → x ≡ y
    same_some e = cc
free_from_kinds (m ∷ ms) each (suc i) zero less at = omega arith
free_from_kinds (m ∷ ms) each (suc i) (suc j) less at =
    free_from_kinds ms (tail_apart m ms each) i j (omega arith) (record { one = at.one; other = at.other; one_at = at.one_at; other_at = at.other_at; clash = at.clash })

-- where each two kinds are apart, no two rules clash
pub apart_from_kinds : (ms : List MarkedRule) → EachApart ms → AreApart ms
apart_from_kinds ms each = apart_from_free ms (free_from_kinds ms each)

-- what holds at each place of a list holds of each member
pub at_each : {A : Type 0} (P : A → Type 0) (xs : List A) (x : A) → ((j : ℕ) (d : A) → j < length xs → P (get_or xs j d)) → IsIn x xs → P x
at_each P [] x h i = absurd i
at_each P (y ∷ ys) x h (inl e) = subst P (sym e) (h zero y (omega arith))
at_each P (y ∷ ys) x h (inr i) = at_each P ys x (λ j d less. h (suc j) d (omega arith)) i

abbrev pub pair : Kind → Kind → Pair
pair k l = record { one = k; two = l }

-- each two kinds once
abbrev pub all_pairs : List Pair
all_pairs =
    pair kind.Address kind.Address ∷ pair kind.Port kind.Port ∷ pair kind.Vlan kind.Vlan ∷ pair kind.Both kind.Both
    ∷ pair kind.Port kind.Both ∷ pair kind.Vlan kind.Both ∷ pair kind.Address kind.Port ∷ pair kind.Address kind.Vlan
    ∷ pair kind.Address kind.Both ∷ pair kind.Port kind.Vlan ∷ []

pub each_from_pairs : (ms : List MarkedRule) → ((p : Pair) → IsIn p all_pairs → AreKindsApart p ms) → EachApart ms
each_from_pairs ms h kind.Address kind.Address = inl (h (pair kind.Address kind.Address) (inl refl))
each_from_pairs ms h kind.Port kind.Port = inl (h (pair kind.Port kind.Port) (inr (inl refl)))
each_from_pairs ms h kind.Vlan kind.Vlan = inl (h (pair kind.Vlan kind.Vlan) (inr (inr (inl refl))))
each_from_pairs ms h kind.Both kind.Both = inl (h (pair kind.Both kind.Both) (inr (inr (inr (inl refl)))))
each_from_pairs ms h kind.Port kind.Both = inl (h (pair kind.Port kind.Both) (inr (inr (inr (inr (inl refl))))))
each_from_pairs ms h kind.Both kind.Port = inr (h (pair kind.Port kind.Both) (inr (inr (inr (inr (inl refl))))))
each_from_pairs ms h kind.Vlan kind.Both = inl (h (pair kind.Vlan kind.Both) (inr (inr (inr (inr (inr (inl refl)))))))
each_from_pairs ms h kind.Both kind.Vlan = inr (h (pair kind.Vlan kind.Both) (inr (inr (inr (inr (inr (inl refl)))))))
each_from_pairs ms h kind.Address kind.Port = inl (h (pair kind.Address kind.Port) (inr (inr (inr (inr (inr (inr (inl refl))))))))
each_from_pairs ms h kind.Port kind.Address = inr (h (pair kind.Address kind.Port) (inr (inr (inr (inr (inr (inr (inl refl))))))))
each_from_pairs ms h kind.Address kind.Vlan = inl (h (pair kind.Address kind.Vlan) (inr (inr (inr (inr (inr (inr (inr (inl refl)))))))))
each_from_pairs ms h kind.Vlan kind.Address = inr (h (pair kind.Address kind.Vlan) (inr (inr (inr (inr (inr (inr (inr (inl refl)))))))))
each_from_pairs ms h kind.Address kind.Both = inl (h (pair kind.Address kind.Both) (inr (inr (inr (inr (inr (inr (inr (inr (inl refl))))))))))
each_from_pairs ms h kind.Both kind.Address = inr (h (pair kind.Address kind.Both) (inr (inr (inr (inr (inr (inr (inr (inr (inl refl))))))))))
each_from_pairs ms h kind.Port kind.Vlan = inl (h (pair kind.Port kind.Vlan) (inr (inr (inr (inr (inr (inr (inr (inr (inr (inl refl)))))))))))
each_from_pairs ms h kind.Vlan kind.Port = inr (h (pair kind.Port kind.Vlan) (inr (inr (inr (inr (inr (inr (inr (inr (inr (inl refl)))))))))))
