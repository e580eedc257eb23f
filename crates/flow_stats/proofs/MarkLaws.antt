-- What the marks of rules tell of a key.
use Rattle.std.proofs.Common.{◌≡◌, ℕ, ◌+◌, ◌≤◌, Bool, true, false, cond, ◌&&◌, List, [], ◌∷◌, refl, sym, ap, ◌∙◌, inl, inr, arith}
use Rattle.std.specs.Prelude.{◌==◌, ◌||◌, nat_le, nat_lt, Option, Some, None, Result, Ok, Err, OnOk}
use Rattle.std.specs.Option.{option_eq}
use Rattle.std.specs.List.{list_any}
use Rattle.std.proofs.Math.Bool.{or-false}
use Rattle.std.proofs.lemmas.Bool.{and_parts, and_from, both_ways, false_from_ne_true, cases_lt, cases_order, lt-ltb, le-ltb, le-leb, lt-leb, ne_eqb}
use Rattle.net_base.specs.Blocks.{Block, IsBlock}
use Rattle.net_base.specs.Members.{IsIn}
use Rattle.net_base.specs.declared.ids.Port.{Port}
use Rattle.net_base.specs.declared.ids.SwitchId.{SwitchId}
use Rattle.net_base.specs.contracts.ids.PortPartialEq.TheImpl as port
use Rattle.net_base.proofs.ListLaws.{any_in, in_from_any}
use Rattle.flow_rules.specs.Overlaps.{ports_meet, vlans_meet, blocks_meet, keys_clash}
use Rattle.flow_rules.specs.Patterns.{vlan_test_eq, key_eq}
use Rattle.flow_rules.proofs.EqualLaws.{same_port, same_test}
use Rattle.flow_rules.specs.declared.rules.VlanTest.{VlanTest}
use Rattle.flow_rules.specs.declared.rules.VlanTest.TheVariants as test
use Rattle.flow_rules.specs.contracts.rules.VlanTestPartialEq.TheImpl as test_impl
use Rattle.flow_rules.specs.declared.rules.Key.{Key}
use Rattle.flow_rules.specs.declared.rules.Rule.{Rule}
use Rattle.flow_stats.specs.declared.index.Area.{Area}
use Rattle.flow_stats.specs.declared.index.Area.TheVariants.{Exactly, Within}
use Rattle.flow_stats.specs.declared.index.Group.{Group}
use Rattle.flow_stats.specs.declared.index.Mark.{Mark}
use Rattle.flow_stats.specs.contracts.index.AreaPartialEq.TheImpl as area
use Rattle.flow_stats.specs.contracts.index.MarkPartialEq.TheImpl as mark
use Rattle.flow_stats.specs.Index.{Adds, IsIndexOf, block_around, block_eq, in_port_eq, group_eq, area_eq, mark_eq, has_mark, is_port_of, is_vlan_of, is_in_group, is_in_area, is_mark_of, is_mark_in, is_mark_at, is_mark_with, meets_by}
use Rattle.flow_stats.proofs.AreaLaws.{meets_exactly, meets_within, exactly_from_meets, within_from_meets}

-- ---- the derived `==` of marks

same_ports : (a b : Option (Option Port)) → option_eq (option_eq port.eq-value.it) a b ≡ option_eq in_port_eq a b
same_ports None None = refl
same_ports None (Some q) = refl
same_ports (Some p) None = refl
same_ports (Some p) (Some q) = same_port p q

same_tests : (a b : Option VlanTest) → option_eq test_impl.eq-value.it a b ≡ option_eq vlan_test_eq a b
same_tests None None = refl
same_tests None (Some q) = refl
same_tests (Some p) None = refl
same_tests (Some p) (Some q) = same_test p q

same_area : (a b : Area) → area.eq-value.it a b ≡ area_eq a b
same_area (Exactly a) (Exactly b) = refl
same_area (Exactly a) (Within b) = refl
same_area (Within a) (Exactly b) = refl
same_area (Within a) (Within b) = refl

same_mark : (m n : Mark) → mark.eq-value.it m n ≡ mark_eq m n
same_mark m n =
    let g = m.group in
    let h = n.group in
    ap (λ b. g.switch.0 == h.switch.0 && (g.priority == h.priority && (b && option_eq test_impl.eq-value.it g.vlan h.vlan)) && area.eq-value.it m.area n.area) (same_ports g.in_port h.in_port)
    ∙ ap (λ b. g.switch.0 == h.switch.0 && (g.priority == h.priority && (option_eq in_port_eq g.in_port h.in_port && b)) && area.eq-value.it m.area n.area) (same_tests g.vlan h.vlan)
    ∙ ap (λ b. group_eq g h && b) (same_area m.area n.area)

pub same_marks : (m : Mark) (ms : List Mark) → list_any (mark.eq-value.it m) ms ≡ has_mark ms m
same_marks m [] = refl
same_marks m (x ∷ xs) = rw (same_mark m x, same_marks m xs) refl

-- ---- lists

pub any_same : {A : Type 0} (f g : A → Bool) → ((x : A) → f x ≡ g x) → (xs : List A) → list_any f xs ≡ list_any g xs
any_same f g same [] = refl
any_same f g same (x ∷ xs) = rw (same x, any_same f g same xs) refl

either_moved : (a b c d : Bool) → ((a || b) || (c || d)) ≡ ((a || c) || (b || d))
either_moved true b c d = refl
either_moved false true true d = refl
either_moved false true false d = refl
either_moved false false true d = refl
either_moved false false false d = refl

any_either : {A : Type 0} (f g : A → Bool) (xs : List A) → list_any (λ x. f x || g x) xs ≡ (list_any f xs || list_any g xs)
any_either f g [] = refl
any_either f g (x ∷ xs) = ap (λ b. (f x || g x) || b) (any_either f g xs) ∙ either_moved (f x) (g x) (list_any f xs) (list_any g xs)

-- two tests, one after the other
module _ {A : Type 0} (f g h : A → Bool) (xs : List A) (first : Bool) (first_is : first ≡ list_any f xs) (same : (x : A) → h x ≡ (f x || g x)) where
  all_is : list_any h xs ≡ (first || list_any g xs)
  all_is = any_same h (λ x. f x || g x) same xs ∙ any_either f g xs ∙ ap (λ b. b || list_any g xs) (sym first_is)

  pub found_first : first ≡ true → true ≡ list_any h xs
  found_first e = sym (all_is ∙ ap (λ b. b || list_any g xs) e)

  pub found_second : (second : Bool) → first ≡ false → second ≡ list_any g xs → second ≡ list_any h xs
  found_second second e is = is ∙ sym (all_is ∙ ap (λ b. b || list_any g xs) e)

-- ---- a group and a prefix

module _ (g : Group) (d : Block) (marks : List Mark) (rules : List Rule) (index : IsIndexOf g.switch rules marks) (block : IsBlock d) where
  abbrev mark_in : Area → Mark
  mark_in a = record { group = g; area = a }

  abbrev is_met : Rule → Bool
  is_met r = is_in_group g r.key && blocks_meet r.key.pattern.dst d

  met : (a : Area) → ((b : Block) → is_in_area a b ≡ true → blocks_meet b d ≡ true) → has_mark marks (mark_in a) ≡ true → list_any is_met rules ≡ true
  met a leads e =
      let (r, i, m) = in_from_any (λ (r : Rule). is_mark_of (mark_in a) r.key) rules (sym (index.stand (mark_in a) refl) ∙ e) in
      let (group, inside) = and_parts (is_in_group g r.key) (is_in_area a r.key.pattern.dst) m in
      any_in is_met r rules i (and_from (is_in_group g r.key) (blocks_meet r.key.pattern.dst d) group (leads r.key.pattern.dst inside))

  stands : (a : Area) (r : Rule) → IsIn r rules → is_in_group g r.key ≡ true → is_in_area a r.key.pattern.dst ≡ true → has_mark marks (mark_in a) ≡ true
  stands a r i group inside =
      index.stand (mark_in a) refl ∙ any_in (λ (r : Rule). is_mark_of (mark_in a) r.key) r rules i (and_from (is_in_group g r.key) (is_in_area a r.key.pattern.dst) group inside)

  pub met_around : (l : ℕ) → has_mark marks (record { group = g; area = Exactly (block_around d.base l) }) ≡ true → true ≡ list_any (λ (r : Rule). is_in_group g r.key && blocks_meet r.key.pattern.dst d) rules
  met_around l e = sym (met (Exactly (block_around d.base l)) (λ b inside. meets_exactly b d l inside) e)

  pub met_within : (within : Bool) → within ≡ has_mark marks (record { group = g; area = Within d })
      → ((l : ℕ) → l ≤ d.len → has_mark marks (record { group = g; area = Exactly (block_around d.base l) }) ≡ false)
      → within ≡ list_any (λ (r : Rule). is_in_group g r.key && blocks_meet r.key.pattern.dst d) rules
  met_within true e none = sym (met (Within d) (λ b inside. meets_within b d inside) (sym e))
  met_within false e none =
      sym (false_from_ne_true (list_any is_met rules) (λ f.
      let (r, i, both) = in_from_any is_met rules f in
      let (group, meet) = and_parts (is_in_group g r.key) (blocks_meet r.key.pattern.dst d) both in
      elim (cases_lt d.len r.key.pattern.dst.len) [
        | inl longer ↦ both_ways (has_mark marks (mark_in (Within d))) (sym e) (stands (Within d) r i group (within_from_meets r.key.pattern.dst d (index.blocks r i) block (omega arith) meet))
        | inr shorter ↦ both_ways (has_mark marks (mark_in (Exactly (block_around d.base r.key.pattern.dst.len)))) (none r.key.pattern.dst.len shorter)
            (stands (Exactly (block_around d.base r.key.pattern.dst.len)) r i group (exactly_from_meets r.key.pattern.dst d (index.blocks r i) block shorter meet))
      ]))

-- ---- the groups that a key's fields meet

vlan_other : (t u : VlanTest) → ¬ (u ≡ test.Any) → vlans_meet t u ≡ (vlan_test_eq t test.Any || vlan_test_eq t u)
vlan_other t test.Any other = absurd (other refl)
vlan_other test.Any test.Untagged other = refl
vlan_other test.Untagged test.Untagged other = refl
vlan_other (test.Id m) test.Untagged other = refl
vlan_other test.Any (test.Id n) other = refl
vlan_other test.Untagged (test.Id n) other = refl
vlan_other (test.Id m) (test.Id n) other = refl

two_vlans : (p i v w b : Bool) → (p && (i && (v || w) && b)) ≡ ((p && (i && v) && b) || (p && (i && w) && b))
two_vlans false i v w b = refl
two_vlans true false v w b = refl
two_vlans true true false w b = refl
two_vlans true true true w true = refl
two_vlans true true true true false = refl
two_vlans true true true false false = refl

pub one_vlan : (s : SwitchId) (in_port : Option (Option Port)) (q k : Key) → ¬ (k.pattern.vlan ≡ test.Any)
    → meets_by in_port q k
    ≡ ((is_in_group (record { switch = s; priority = k.priority; in_port = in_port; vlan = Some test.Any }) q && blocks_meet q.pattern.dst k.pattern.dst)
    || (is_in_group (record { switch = s; priority = k.priority; in_port = in_port; vlan = Some k.pattern.vlan }) q && blocks_meet q.pattern.dst k.pattern.dst))
one_vlan s in_port q k other =
    ap (λ v. q.priority == k.priority && (is_port_of in_port q.pattern.in_port && v && blocks_meet q.pattern.dst k.pattern.dst)) (vlan_other q.pattern.vlan k.pattern.vlan other)
    ∙ two_vlans (q.priority == k.priority) (is_port_of in_port q.pattern.in_port) (vlan_test_eq q.pattern.vlan test.Any) (vlan_test_eq q.pattern.vlan k.pattern.vlan) (blocks_meet q.pattern.dst k.pattern.dst)

port_other : (p o : Option Port) → ¬ (o ≡ None) → ports_meet p o ≡ (in_port_eq p None || in_port_eq p o)
port_other p None other = absurd (other refl)
port_other None (Some x) other = refl
port_other (Some q) (Some x) other = refl

two_ports : (p i j v b : Bool) → (p && ((i || j) && v && b)) ≡ ((p && (i && v && b)) || (p && (j && v && b)))
two_ports false i j v b = refl
two_ports true false j v b = refl
two_ports true true true false b = refl
two_ports true true false false b = refl
two_ports true true true true true = refl
two_ports true true true true false = refl
two_ports true true false true true = refl
two_ports true true false true false = refl

pub one_port : (q k : Key) → ¬ (k.pattern.in_port ≡ None) → keys_clash q k ≡ (meets_by (Some None) q k || meets_by (Some k.pattern.in_port) q k)
one_port q k other =
    ap (λ i. q.priority == k.priority && (i && vlans_meet q.pattern.vlan k.pattern.vlan && blocks_meet q.pattern.dst k.pattern.dst)) (port_other q.pattern.in_port k.pattern.in_port other)
    ∙ two_ports (q.priority == k.priority) (in_port_eq q.pattern.in_port None) (in_port_eq q.pattern.in_port k.pattern.in_port) (vlans_meet q.pattern.vlan k.pattern.vlan) (blocks_meet q.pattern.dst k.pattern.dst)

regroup : (p i v b l : Bool) → (p && (i && v) && (b && l)) ≡ (p && i && v && b && l)
regroup false i v b l = refl
regroup true false v b l = refl
regroup true true false b l = refl
regroup true true true b l = refl

-- the mark of a key stands for just this key
pub own_mark : (s : SwitchId) (q k : Key)
    → is_mark_of (record { group = record { switch = s; priority = k.priority; in_port = Some k.pattern.in_port; vlan = Some k.pattern.vlan }; area = Exactly k.pattern.dst }) q ≡ key_eq q k
own_mark s q k =
    regroup (q.priority == k.priority) (in_port_eq q.pattern.in_port k.pattern.in_port) (vlan_test_eq q.pattern.vlan k.pattern.vlan) (q.pattern.dst.base == k.pattern.dst.base) (q.pattern.dst.len == k.pattern.dst.len)

-- ---- marks added

put_is : (a b : Bool) → cond a true b ≡ (a || b)
put_is true b = refl
put_is false b = refl

-- one mark
pub inserted : (old new : List Mark) (m : Mark) → ((q : Mark) → list_any (mark.eq-value.it q) new ≡ cond (mark.eq-value.it m q) true (list_any (mark.eq-value.it q) old)) → Adds old (mark_eq m) new
inserted old new m h q =
    sym (same_marks q new) ∙ h q ∙ ap (λ b. cond b true (list_any (mark.eq-value.it q) old)) (same_mark m q) ∙ ap (λ b. cond (mark_eq m q) true b) (same_marks q old)
    ∙ put_is (mark_eq m q) (has_mark old q)

or_left_out : (a b c : Bool) → (a || (b || c)) ≡ ((a || b) || c)
or_left_out true b c = refl
or_left_out false b c = refl

-- these and then those
pub added_then : (old mid new : List Mark) (f g h : Mark → Bool) → Adds old f mid → Adds mid g new → ((m : Mark) → (g m || f m) ≡ h m) → Adds old h new
added_then old mid new f g h first second same m =
    second m ∙ ap (λ b. g m || b) (first m) ∙ or_left_out (g m) (f m) (has_mark old m) ∙ ap (λ b. b || has_mark old m) (same m)

pub added_same : (old new : List Mark) (f h : Mark → Bool) → Adds old f new → ((m : Mark) → f m ≡ h m) → Adds old h new
added_same old new f h first same m = first m ∙ ap (λ b. b || has_mark old m) (same m)

-- the areas that a prefix is in, as far as the lengths below n
abbrev pub is_below : ℕ → Area → Block → Bool
is_below n (Exactly a) b = block_eq b a
is_below n (Within a) b = nat_lt a.len n && block_eq (block_around b.base a.len) a

less_as_most : (m n : ℕ) → nat_lt m (n + 1) ≡ nat_le m n
less_as_most m n = elim (cases_lt n m) [ inl more ↦ le-ltb m (n + 1) (omega arith) ∙ sym (lt-leb m n more) | inr most ↦ lt-ltb m (n + 1) (omega arith) ∙ sym (le-leb m n most) ]

none_below : (d : Block) (a : Area) → area_eq (Exactly d) a ≡ is_below 0 a d
none_below d (Exactly a) = refl
none_below d (Within a) = sym (ap (λ b. b && block_eq (block_around d.base a.len) a) (le-ltb a.len 0 (omega arith)))

all_below : (d : Block) (a : Area) → is_below (d.len + 1) a d ≡ is_in_area a d
all_below d (Exactly a) = refl
all_below d (Within a) = ap (λ b. b && block_eq (block_around d.base a.len) a) (less_as_most a.len d.len)

and_off : (b : Bool) → (b && false) ≡ false
and_off true = refl
and_off false = refl

next_below : (n : ℕ) (d : Block) (a : Area) → (area_eq (Within (block_around d.base n)) a || is_below n a d) ≡ is_below (n + 1) a d
next_below n d (Exactly a) = refl
next_below n d (Within a) =
    let here : Bool = block_eq (block_around d.base a.len) a in
    elim (cases_order a.len n) [
      | inl same ↦ ap (λ (k : ℕ). block_eq (block_around d.base k) a || (nat_lt a.len n && here)) (sym same) ∙ ap (λ b. here || (b && here)) (le-ltb a.len n (omega arith)) ∙ or-false here
          ∙ sym (ap (λ b. b && here) (lt-ltb a.len (n + 1) (omega arith)))
      | inr apart ↦ (
          let other : block_eq (block_around d.base n) a ≡ false =
          ap (λ b. (block_around d.base n).base == a.base && b) (ne_eqb n a.len (λ e. elim apart [ inl less ↦ omega arith | inr more ↦ omega arith ])) ∙ and_off ((block_around d.base n).base == a.base) in
          ap (λ b. b || (nat_lt a.len n && here)) other
          ∙ elim apart [
            | inl less ↦ ap (λ b. b && here) (lt-ltb a.len n less ∙ sym (lt-ltb a.len (n + 1) (omega arith)))
            | inr more ↦ ap (λ b. b && here) (le-ltb a.len n (omega arith) ∙ sym (le-ltb a.len (n + 1) (omega arith)))
          ])
    ]

and_either : (g a b : Bool) → ((g && a) || (g && b)) ≡ (g && (a || b))
and_either true a b = refl
and_either false a b = refl

-- the marks of the areas so far
abbrev pub is_so_far : Group → Block → ℕ → Mark → Bool
is_so_far g d n m = group_eq g m.group && is_below n m.area d

module _ (g : Group) (d : Block) (old : List Mark) where
  -- the prefix itself
  pub begun : (new : List Mark) → Adds old (mark_eq (record { group = g; area = Exactly d })) new → Adds old (is_so_far g d 0) new
  begun new h = added_same old new (mark_eq (record { group = g; area = Exactly d })) (is_so_far g d 0) h (λ m. ap (λ b. group_eq g m.group && b) (none_below d m.area))

  -- one more length
  pub gone_on : (n : ℕ) (mid new : List Mark) → Adds old (is_so_far g d n) mid → Adds mid (mark_eq (record { group = g; area = Within (block_around d.base n) })) new → Adds old (is_so_far g d (n + 1)) new
  gone_on n mid new h more =
      added_then old mid new (is_so_far g d n) (mark_eq (record { group = g; area = Within (block_around d.base n) })) (is_so_far g d (n + 1)) h more
      (λ m. and_either (group_eq g m.group) (area_eq (Within (block_around d.base n)) m.area) (is_below n m.area d) ∙ ap (λ b. group_eq g m.group && b) (next_below n d m.area))

  -- all lengths
  pub ended : (n : ℕ) (new : List Mark) → n ≡ d.len + 1 → Adds old (is_so_far g d n) new → Adds old (is_mark_in g d) new
  ended n new last h =
      added_same old new (is_so_far g d n) (is_mark_in g d) h (λ m. ap (λ b. group_eq g m.group && b) (ap (λ (k : ℕ). is_below k m.area d) last ∙ all_below d m.area))

each_vlan : (v : Option VlanTest) (t : VlanTest) → (option_eq vlan_test_eq (Some t) v || option_eq vlan_test_eq None v) ≡ is_vlan_of v t
each_vlan None t = refl
each_vlan (Some u) t = or-false (vlan_test_eq t u)

vlans_joined : (s p i v w a : Bool) → ((s && (p && (i && v)) && a) || (s && (p && (i && w)) && a)) ≡ (s && (p && (i && (v || w))) && a)
vlans_joined false p i v w a = refl
vlans_joined true false i v w a = refl
vlans_joined true true false v w a = refl
vlans_joined true true true false w a = refl
vlans_joined true true true true w true = refl
vlans_joined true true true true true false = refl
vlans_joined true true true true false false = refl

each_port : (i : Option (Option Port)) (p : Option Port) → (option_eq in_port_eq (Some p) i || option_eq in_port_eq None i) ≡ is_port_of i p
each_port None p = refl
each_port (Some q) p = or-false (in_port_eq p q)

ports_joined : (s p i j v a : Bool) → ((s && (p && (i && v)) && a) || (s && (p && (j && v)) && a)) ≡ (s && (p && ((i || j) && v) && a))
ports_joined false p i j v a = refl
ports_joined true false i j v a = refl
ports_joined true true false j v a = refl
ports_joined true true true j true true = refl
ports_joined true true true true true false = refl
ports_joined true true true false true false = refl
ports_joined true true true true false a = refl
ports_joined true true true false false a = refl

module _ (s : SwitchId) (k : Key) (old mid new : List Mark) where
  -- all VLAN tests and the key's
  pub both_vlans : (in_port : Option (Option Port))
      → Adds old (is_mark_in (record { switch = s; priority = k.priority; in_port = in_port; vlan = None }) k.pattern.dst) mid
      → Adds mid (is_mark_in (record { switch = s; priority = k.priority; in_port = in_port; vlan = Some k.pattern.vlan }) k.pattern.dst) new
      → Adds old (is_mark_with s in_port k) new
  both_vlans in_port first second =
      added_then old mid new (is_mark_in (record { switch = s; priority = k.priority; in_port = in_port; vlan = None }) k.pattern.dst)
      (is_mark_in (record { switch = s; priority = k.priority; in_port = in_port; vlan = Some k.pattern.vlan }) k.pattern.dst) (is_mark_with s in_port k) first second (λ m.
      let g = m.group in
      vlans_joined (s.0 == g.switch.0) (k.priority == g.priority) (option_eq in_port_eq in_port g.in_port) (option_eq vlan_test_eq (Some k.pattern.vlan) g.vlan) (option_eq vlan_test_eq None g.vlan) (is_in_area m.area k.pattern.dst)
      ∙ ap (λ b. s.0 == g.switch.0 && (k.priority == g.priority && (option_eq in_port_eq in_port g.in_port && b)) && is_in_area m.area k.pattern.dst) (each_vlan g.vlan k.pattern.vlan))

  -- all ingress ports and the key's choice
  pub both_ports : Adds old (is_mark_with s None k) mid → Adds mid (is_mark_with s (Some k.pattern.in_port) k) new → Adds old (is_mark_at s k) new
  both_ports first second =
      added_then old mid new (is_mark_with s None k) (is_mark_with s (Some k.pattern.in_port) k) (is_mark_at s k) first second (λ m.
      let g = m.group in
      ports_joined (s.0 == g.switch.0) (k.priority == g.priority) (option_eq in_port_eq (Some k.pattern.in_port) g.in_port) (option_eq in_port_eq None g.in_port) (is_vlan_of g.vlan k.pattern.vlan) (is_in_area m.area k.pattern.dst)
      ∙ ap (λ b. s.0 == g.switch.0 && (k.priority == g.priority && (b && is_vlan_of g.vlan k.pattern.vlan) && is_in_area m.area k.pattern.dst)) (each_port g.in_port k.pattern.in_port))

-- where one is added, so is the other
pub on_ok : {T E P Q : Type 0} (r : Result T E) → (P → Q) → OnOk r P → OnOk r Q
on_ok (Ok x) f p = f p
on_ok (Err e) f p = tt
