-- Rules in key order clash with none where neighbours don't, if those of one priority test the same.
use Rattle.std.proofs.Common.{◌≡◌, ◌&&◌, ◌||◌, ℕ, zero, suc, ◌+◌, ◌<◌, ◌≤◌, Bool, true, List, [], ◌∷◌, length, get_or, refl, sym, ◌∙◌, subst, ap, inl, inr, arith, add-one}
use Rattle.std.specs.Prelude.{◌==◌, not, nat_le, nat_lt, Option, Some, None}
use Rattle.std.proofs.lemmas.Bool.{eqb-true, eq-eqb, and_parts, and_from, or_cases, or_left, false≢true, lt-ltb, ltb-true, le-leb}
use Rattle.net_base.specs.Blocks.{Block, in_block, block_size}
use Rattle.net_base.specs.Members.{IsIn}
use Rattle.net_base.specs.declared.ids.Port.{Port}
use Rattle.net_base.proofs.ItemLaws.{in_from_get}
use Rattle.net_base.proofs.MemberLaws.{in_from_map, each_at}
use Rattle.flow_rules.specs.Order.{port_rank, vlan_rank}
use Rattle.flow_rules.specs.Overlaps.{IsClash, ports_meet, vlans_meet, blocks_meet, keys_clash}
use Rattle.flow_rules.specs.Patterns.{covers, admits_port, admits_vlan}
use Rattle.flow_rules.specs.Tuples.{ports_alike, tests_alike, are_alike}
use Rattle.flow_rules.specs.Frees.{IsFree}
use Rattle.flow_rules.specs.declared.rules.Rule.{Rule}
use Rattle.flow_rules.specs.declared.rules.VlanTest.{VlanTest}
use Rattle.flow_rules.specs.declared.rules.VlanTest.TheVariants as test
use Rattle.flow_rules.proofs.OverlapLaws.{later_in, meet_out}
use Rattle.round_mix.specs.Apart.{AreApart, is_apart}
use Rattle.round_mix.specs.Marks.{rules_of}
use Rattle.round_mix.specs.Order.{priority_of, base_of, port_of, vlan_of, IsInKeyOrder, AreInKeyOrder}
use Rattle.round_mix.specs.declared.MarkedRule.{MarkedRule}
use Rattle.round_mix.proofs.ApartLaws.{apart_from_free}

-- choices of one kind that meet have one rank
ports_ranked : (p q : Option Port) → ports_alike p q ≡ true → ports_meet p q ≡ true → port_rank p ≡ port_rank q
ports_ranked None None a e = refl
ports_ranked None (Some q) a e = absurd (false≢true a)
ports_ranked (Some p) None a e = absurd (false≢true a)
ports_ranked (Some p) (Some q) a e = let f = eqb-true p.0 q.0 e in omega arith

ports_meet_ranked : (p q : Option Port) → port_rank p ≡ port_rank q → ports_meet p q ≡ true
ports_meet_ranked None None e = refl
ports_meet_ranked None (Some q) e = refl
ports_meet_ranked (Some p) None e = refl
ports_meet_ranked (Some p) (Some q) e = eq-eqb p.0 q.0 (omega arith)

ports_alike_through : (p q r : Option Port) → ports_alike p q ≡ true → ports_alike q r ≡ true → ports_alike p r ≡ true
ports_alike_through None None None a b = refl
ports_alike_through None None (Some r) a b = absurd (false≢true b)
ports_alike_through None (Some q) r a b = absurd (false≢true a)
ports_alike_through (Some p) None r a b = absurd (false≢true a)
ports_alike_through (Some p) (Some q) None a b = absurd (false≢true b)
ports_alike_through (Some p) (Some q) (Some r) a b = refl

vlans_ranked : (s t : VlanTest) → tests_alike s t ≡ true → vlans_meet s t ≡ true → vlan_rank s ≡ vlan_rank t
vlans_ranked test.Any test.Any a e = refl
vlans_ranked test.Any test.Untagged a e = absurd (false≢true a)
vlans_ranked test.Any (test.Id n) a e = absurd (false≢true a)
vlans_ranked test.Untagged test.Any a e = absurd (false≢true a)
vlans_ranked test.Untagged test.Untagged a e = refl
vlans_ranked test.Untagged (test.Id n) a e = absurd (false≢true e)
vlans_ranked (test.Id m) test.Any a e = absurd (false≢true a)
vlans_ranked (test.Id m) test.Untagged a e = absurd (false≢true e)
vlans_ranked (test.Id m) (test.Id n) a e = let f = eqb-true m n e in omega arith

vlans_meet_ranked : (s t : VlanTest) → vlan_rank s ≡ vlan_rank t → vlans_meet s t ≡ true
vlans_meet_ranked test.Any t e = refl
vlans_meet_ranked test.Untagged test.Any e = refl
vlans_meet_ranked test.Untagged test.Untagged e = refl
vlans_meet_ranked test.Untagged (test.Id n) e = absurd (omega arith)
vlans_meet_ranked (test.Id m) test.Any e = refl
vlans_meet_ranked (test.Id m) test.Untagged e = absurd (omega arith)
vlans_meet_ranked (test.Id m) (test.Id n) e = eq-eqb m n (omega arith)

tests_alike_through : (s t u : VlanTest) → tests_alike s t ≡ true → tests_alike t u ≡ true → tests_alike s u ≡ true
tests_alike_through test.Any test.Any u a b = b
tests_alike_through test.Any test.Untagged u a b = absurd (false≢true a)
tests_alike_through test.Any (test.Id n) u a b = absurd (false≢true a)
tests_alike_through test.Untagged test.Any u a b = absurd (false≢true a)
tests_alike_through test.Untagged test.Untagged u a b = b
tests_alike_through test.Untagged (test.Id n) test.Any a b = absurd (false≢true b)
tests_alike_through test.Untagged (test.Id n) test.Untagged a b = refl
tests_alike_through test.Untagged (test.Id n) (test.Id o) a b = refl
tests_alike_through (test.Id m) test.Any u a b = absurd (false≢true a)
tests_alike_through (test.Id m) test.Untagged test.Any a b = absurd (false≢true b)
tests_alike_through (test.Id m) test.Untagged test.Untagged a b = refl
tests_alike_through (test.Id m) test.Untagged (test.Id o) a b = refl
tests_alike_through (test.Id m) (test.Id n) test.Any a b = absurd (false≢true b)
tests_alike_through (test.Id m) (test.Id n) test.Untagged a b = refl
tests_alike_through (test.Id m) (test.Id n) (test.Id o) a b = refl

abbrev kinds : MarkedRule → MarkedRule → Bool
kinds m n = are_alike m.rule.key.pattern n.rule.key.pattern

kinds_through : (m n q : MarkedRule) → kinds m n ≡ true → kinds n q ≡ true → kinds m q ≡ true
kinds_through m n q a b =
    let (p, s) = and_parts (ports_alike m.rule.key.pattern.in_port n.rule.key.pattern.in_port) (tests_alike m.rule.key.pattern.vlan n.rule.key.pattern.vlan) a in
    let (r, t) = and_parts (ports_alike n.rule.key.pattern.in_port q.rule.key.pattern.in_port) (tests_alike n.rule.key.pattern.vlan q.rule.key.pattern.vlan) b in
    and_from _ _ (ports_alike_through m.rule.key.pattern.in_port n.rule.key.pattern.in_port q.rule.key.pattern.in_port p r)
    (tests_alike_through m.rule.key.pattern.vlan n.rule.key.pattern.vlan q.rule.key.pattern.vlan s t)

-- what neighbours that are apart say
kinds_next : (m n : MarkedRule) → is_apart m n ≡ true → priority_of m ≡ priority_of n → kinds m n ≡ true
kinds_next m n e same =
    let (front, _) = and_parts (not (priority_of m == priority_of n) || kinds m n) (not (keys_clash m.rule.key n.rule.key)) e in
    elim (or_cases (not (priority_of m == priority_of n)) (kinds m n) front) [
      | inl other ↦ absurd (false≢true (sym (ap not (eq-eqb (priority_of m) (priority_of n) same)) ∙ other))
      | inr alike ↦ alike
    ]

clash_next : (m n : MarkedRule) → is_apart m n ≡ true → keys_clash m.rule.key n.rule.key ≡ true → ⊥
clash_next m n e clash =
    let (_, off) = and_parts (not (priority_of m == priority_of n) || kinds m n) (not (keys_clash m.rule.key n.rule.key)) e in
    false≢true (sym (ap not clash) ∙ off)

-- each two neighbours are apart
abbrev NextApart : MarkedRule → List MarkedRule → Type 0
NextApart m [] = Unit {0}
NextApart m (n ∷ ns) = is_apart m n ≡ true

abbrev AllNextApart : List MarkedRule → Type 0
AllNextApart [] = Unit {0}
AllNextApart (m ∷ ms) = NextApart m ms × AllNextApart ms

next_from_places : (ms : List MarkedRule) → ((k : ℕ) (d : MarkedRule) → suc k < length ms → is_apart (get_or ms k d) (get_or ms (suc k) d) ≡ true) → AllNextApart ms
next_from_places [] h = tt
next_from_places (m ∷ []) h = (tt, tt)
next_from_places (m ∷ n ∷ ns) h = (h zero m (omega arith), next_from_places (n ∷ ns) (λ k d within. h (suc k) d (omega arith)))

-- rules of one priority are of one kind
kinds_along : (m : MarkedRule) (ms : List MarkedRule) → AreInKeyOrder (m ∷ ms) → AllNextApart (m ∷ ms) → (q : MarkedRule) → IsIn q ms → priority_of m ≡ priority_of q → kinds m q ≡ true
kinds_along m [] order apart q i same = absurd i
kinds_along m (n ∷ ns) order apart q (inl e) same =
    subst (λ x. kinds m x ≡ true) (sym e) (kinds_next m n apart.0 (same ∙ ap priority_of e))
kinds_along m (n ∷ ns) order apart q (inr i) same =
    let first : priority_of n ≤ priority_of m = order.0.0.priority in
    let second : priority_of q ≤ priority_of n = (each_at (IsInKeyOrder n) ns q order.1.0 i).priority in
    kinds_through m n q (kinds_next m n apart.0 (omega arith)) (kinds_along n ns order.1 apart.1 q i (omega arith))

-- a block that holds the first address of another holds those between
between_in : (a : Block) (x y : ℕ) → a.base ≤ x → x ≤ y → in_block a y ≡ true → in_block a x ≡ true
between_in a x y low le e =
    let (_, high) = and_parts (nat_le a.base y) (nat_lt y (a.base + block_size a)) e in
    let h : y < a.base + block_size a = ltb-true y (a.base + block_size a) high in
    and_from (nat_le a.base x) (nat_lt x (a.base + block_size a)) (le-leb a.base x low) (lt-ltb x (a.base + block_size a) (omega arith))

-- so the first clashes with none behind it
none_behind : (m : MarkedRule) (ms : List MarkedRule) → AreInKeyOrder (m ∷ ms) → AllNextApart (m ∷ ms) → (q : MarkedRule) → IsIn q ms → IsClash m.rule q.rule → ⊥
none_behind m [] order apart q i clash = i
none_behind m (n ∷ ns) order apart q (inl e) clash =
    let here : IsClash m.rule n.rule = subst (λ (x : MarkedRule). IsClash m.rule x.rule) e clash in
    clash_next m n apart.0 (and_from _ _ (eq-eqb (priority_of m) (priority_of n) here.priority) (meet_out m.rule.key.pattern n.rule.key.pattern here.header here.first here.second))
none_behind m (n ∷ ns) order apart q (inr i) clash =
    let meets = meet_out m.rule.key.pattern q.rule.key.pattern clash.header clash.first clash.second in
    let (front, _) = and_parts (ports_meet m.rule.key.pattern.in_port q.rule.key.pattern.in_port && vlans_meet m.rule.key.pattern.vlan q.rule.key.pattern.vlan) (blocks_meet m.rule.key.pattern.dst q.rule.key.pattern.dst) meets in
    let (ports, vlans) = and_parts (ports_meet m.rule.key.pattern.in_port q.rule.key.pattern.in_port) (vlans_meet m.rule.key.pattern.vlan q.rule.key.pattern.vlan) front in
    let (alike_ports, alike_vlans) = and_parts (ports_alike m.rule.key.pattern.in_port q.rule.key.pattern.in_port) (tests_alike m.rule.key.pattern.vlan q.rule.key.pattern.vlan)
    (kinds_along m (n ∷ ns) order apart q (inr i) clash.priority) in
    let p : port_of m ≡ port_of q = ports_ranked m.rule.key.pattern.in_port q.rule.key.pattern.in_port alike_ports ports in
    let v : vlan_of m ≡ vlan_of q = vlans_ranked m.rule.key.pattern.vlan q.rule.key.pattern.vlan alike_vlans vlans in
    let top : priority_of m ≡ priority_of q = clash.priority in
    let one : IsInKeyOrder m n = order.0.0 in
    let two : IsInKeyOrder n q = each_at (IsInKeyOrder n) ns q order.1.0 i in
    let one_top : priority_of n ≤ priority_of m = one.priority in
    let two_top : priority_of q ≤ priority_of n = two.priority in
    let same_top : priority_of n ≡ priority_of m = omega arith in
    let next_top : priority_of q ≡ priority_of n = omega arith in
    let one_port : port_of m ≤ port_of n = one.port same_top in
    let two_port : port_of n ≤ port_of q = two.port next_top in
    let same_port : port_of m ≡ port_of n = omega arith in
    let next_port : port_of n ≡ port_of q = omega arith in
    let one_vlan : vlan_of m ≤ vlan_of n = one.vlan same_top same_port in
    let two_vlan : vlan_of n ≤ vlan_of q = two.vlan next_top next_port in
    let same_vlan : vlan_of m ≡ vlan_of n = omega arith in
    let next_vlan : vlan_of n ≡ vlan_of q = omega arith in
    let one_base : base_of m ≤ base_of n = one.base same_top same_port same_vlan in
    let two_base : base_of n ≤ base_of q = two.base next_top next_port next_vlan in
    let far : in_block m.rule.key.pattern.dst (base_of q) ≡ true =
    later_in m.rule.key.pattern.dst q.rule.key.pattern.dst clash.header.dst (block_of m.rule clash.first) (block_of q.rule clash.second) (omega arith) in
    clash_next m n apart.0 (and_from _ _ (eq-eqb (priority_of m) (priority_of n) (sym same_top))
    (and_from _ _ (and_from _ _ (ports_meet_ranked m.rule.key.pattern.in_port n.rule.key.pattern.in_port same_port) (vlans_meet_ranked m.rule.key.pattern.vlan n.rule.key.pattern.vlan same_vlan))
    (or_left (in_block m.rule.key.pattern.dst (base_of n)) (in_block n.rule.key.pattern.dst (base_of m)) (between_in m.rule.key.pattern.dst (base_of n) (base_of q) one_base two_base far))))
  where
    block_of : (r : Rule) → covers r.key.pattern clash.header ≡ true → in_block r.key.pattern.dst clash.header.dst ≡ true
    block_of r covered = (and_parts (admits_port r.key.pattern.in_port clash.header.port && admits_vlan r.key.pattern.vlan clash.header.vlan) (in_block r.key.pattern.dst clash.header.dst) covered).1

free_from_next : (ms : List MarkedRule) → AreInKeyOrder ms → AllNextApart ms → (i : ℕ) → IsFree (rules_of ms) i
free_from_next [] order apart i j less at = let h : None ≡ Some at.one = at.one_at in cc
free_from_next (m ∷ ms) order apart zero zero less at = omega arith
free_from_next (m ∷ ms) order apart zero (suc j) less at =
    let here : m.rule ≡ at.one = same_some at.one_at in
    let (q, i, e) = in_from_map (λ (x : MarkedRule). x.rule) at.other ms (in_from_get (rules_of ms) j at.other at.other_at) in
    none_behind m ms order apart q i (subst (λ x. IsClash m.rule x) e (subst (λ x. IsClash x at.other) (sym here) at.clash))
  where
    same_some : {x y : Rule} → Some x ≡ Some y → x ≡ y
    same_some e = cc
free_from_next (m ∷ ms) order apart (suc i) zero less at = omega arith
free_from_next (m ∷ ms) order apart (suc i) (suc j) less at =
    free_from_next ms order.1 apart.1 i j (omega arith) (record { one = at.one; other = at.other; one_at = at.one_at; other_at = at.other_at; clash = at.clash })

pub apart_from_places : (ms : List MarkedRule) → AreInKeyOrder ms → ((k : ℕ) (d : MarkedRule) → k + 1 < length ms → is_apart (get_or ms k d) (get_or ms (k + 1) d) ≡ true) → AreApart ms
apart_from_places ms order h =
    apart_from_free ms (free_from_next ms order (next_from_places ms (λ k d within.
    subst (λ (n : ℕ). is_apart (get_or ms k d) (get_or ms n d) ≡ true) (add-one k) (h k d (omega arith)))))
