-- Two patterns cover a common packet exactly where their parts meet.
use Rattle.std.proofs.Common.{◌≡◌, ◌&&◌, ℕ, ◌+◌, ◌-◌, ◌<◌, ◌≤◌, true, refl, sym, ◌∙◌, inl, inr, arith}
use Rattle.std.specs.Prelude.{nat_le, nat_lt, Option, Some, None}
use Rattle.std.proofs.lemmas.Bool.{eqb-true, eq-eqb, and_parts, and_from, or_cases, or_left, or_right, false≢true, lt-ltb, ltb-true, le-leb, leb-true, cases_lt}
use Rattle.std.proofs.lemmas.Nat.{pow_pos}
use Rattle.net_base.specs.Blocks.{Block, block_size, in_block}
use Rattle.net_base.specs.declared.ids.Port.{Port}
use Rattle.net_base.specs.declared.ids.Vlan.{Vlan}
use Rattle.net_base.specs.declared.ids.Vlan.TheVariants as vlan
use Rattle.flow_rules.specs.Patterns.{Header, covers, admits_port, admits_vlan}
use Rattle.flow_rules.specs.Overlaps.{ports_meet, vlans_meet, blocks_meet, patterns_meet}
use Rattle.flow_rules.specs.declared.rules.VlanTest.{VlanTest}
use Rattle.flow_rules.specs.declared.rules.VlanTest.TheVariants as test
use Rattle.flow_rules.specs.declared.rules.Pattern.{Pattern}

-- a port that both choices admit
port_in : (p q : Option Port) → ports_meet p q ≡ true → (x : Port) × (admits_port p x ≡ true) × (admits_port q x ≡ true)
port_in None None e = (record { 0 = 0 }, refl, refl)
port_in None (Some q) e = (q, refl, eq-eqb q.0 q.0 refl)
port_in (Some p) None e = (p, eq-eqb p.0 p.0 refl, refl)
port_in (Some p) (Some q) e = (q, e, eq-eqb q.0 q.0 refl)

port_out : (p q : Option Port) (x : Port) → admits_port p x ≡ true → admits_port q x ≡ true → ports_meet p q ≡ true
port_out None q x e f = refl
port_out (Some p) None x e f = refl
port_out (Some p) (Some q) x e f = eq-eqb p.0 q.0 (eqb-true p.0 x.0 e ∙ sym (eqb-true q.0 x.0 f))

vlan_in : (s t : VlanTest) → vlans_meet s t ≡ true → (v : Vlan) × (admits_vlan s v ≡ true) × (admits_vlan t v ≡ true)
vlan_in test.Any test.Any e = (vlan.Untagged, refl, refl)
vlan_in test.Any test.Untagged e = (vlan.Untagged, refl, refl)
vlan_in test.Any (test.Id n) e = (vlan.Id n, refl, eq-eqb n n refl)
vlan_in test.Untagged test.Any e = (vlan.Untagged, refl, refl)
vlan_in test.Untagged test.Untagged e = (vlan.Untagged, refl, refl)
vlan_in test.Untagged (test.Id n) e = absurd (false≢true e)
vlan_in (test.Id m) test.Any e = (vlan.Id m, eq-eqb m m refl, refl)
vlan_in (test.Id m) test.Untagged e = absurd (false≢true e)
vlan_in (test.Id m) (test.Id n) e = (vlan.Id n, e, eq-eqb n n refl)

vlan_out : (s t : VlanTest) (v : Vlan) → admits_vlan s v ≡ true → admits_vlan t v ≡ true → vlans_meet s t ≡ true
vlan_out test.Any t v e f = refl
vlan_out test.Untagged test.Any v e f = refl
vlan_out test.Untagged test.Untagged v e f = refl
vlan_out test.Untagged (test.Id n) vlan.Untagged e f = absurd (false≢true f)
vlan_out test.Untagged (test.Id n) (vlan.Id i) e f = absurd (false≢true e)
vlan_out (test.Id m) test.Any v e f = refl
vlan_out (test.Id m) test.Untagged vlan.Untagged e f = absurd (false≢true e)
vlan_out (test.Id m) test.Untagged (vlan.Id i) e f = absurd (false≢true f)
vlan_out (test.Id m) (test.Id n) vlan.Untagged e f = absurd (false≢true e)
vlan_out (test.Id m) (test.Id n) (vlan.Id i) e f = eq-eqb m n (eqb-true m i e ∙ sym (eqb-true n i f))

-- the first address of a block lies in it
pub base_in : (b : Block) → in_block b b.base ≡ true
base_in b =
    let size : 0 < block_size b = pow_pos (32 - b.len) in
    and_from (nat_le b.base b.base) (nat_lt b.base (b.base + block_size b)) (le-leb b.base b.base (omega arith)) (lt-ltb b.base (b.base + block_size b) (omega arith))

-- of two blocks with a common address, the one that begins later begins in the other
pub later_in : (a b : Block) (x : ℕ) → in_block a x ≡ true → in_block b x ≡ true → a.base ≤ b.base → in_block a b.base ≡ true
later_in a b x e f le =
    let (low_a, high_a) = and_parts (nat_le a.base x) (nat_lt x (a.base + block_size a)) e in
    let (low_b, high_b) = and_parts (nat_le b.base x) (nat_lt x (b.base + block_size b)) f in
    let h : x < a.base + block_size a = ltb-true x (a.base + block_size a) high_a in
    let l : b.base ≤ x = leb-true b.base x low_b in
    and_from (nat_le a.base b.base) (nat_lt b.base (a.base + block_size a)) (le-leb a.base b.base le) (lt-ltb b.base (a.base + block_size a) (omega arith))

block_in : (a b : Block) → blocks_meet a b ≡ true → (x : ℕ) × (in_block a x ≡ true) × (in_block b x ≡ true)
block_in a b e =
    elim (or_cases (in_block a b.base) (in_block b a.base) e) [
      | inl f ↦ (b.base, f, base_in b)
      | inr f ↦ (a.base, base_in a, f)
    ]

block_out : (a b : Block) (x : ℕ) → in_block a x ≡ true → in_block b x ≡ true → blocks_meet a b ≡ true
block_out a b x e f =
    elim (cases_lt a.base b.base) [
      | inl less ↦ or_left (in_block a b.base) (in_block b a.base) (later_in a b x e f (omega arith))
      | inr more ↦ or_right (in_block a b.base) (in_block b a.base) (later_in b a x f e more)
    ]

-- a packet that both patterns cover
pub meet_in : (a b : Pattern) → patterns_meet a b ≡ true → (h : Header) × (covers a h ≡ true) × (covers b h ≡ true)
meet_in a b e =
    let (front, dst) = and_parts (ports_meet a.in_port b.in_port && vlans_meet a.vlan b.vlan) (blocks_meet a.dst b.dst) e in
    let (port, tag) = and_parts (ports_meet a.in_port b.in_port) (vlans_meet a.vlan b.vlan) front in
    let (p, p_a, p_b) = port_in a.in_port b.in_port port in
    let (v, v_a, v_b) = vlan_in a.vlan b.vlan tag in
    let (x, x_a, x_b) = block_in a.dst b.dst dst in (
      record { port = p; vlan = v; dst = x },
      and_from _ _ (and_from _ _ p_a v_a) x_a,
      and_from _ _ (and_from _ _ p_b v_b) x_b,
    )

pub meet_out : (a b : Pattern) (h : Header) → covers a h ≡ true → covers b h ≡ true → patterns_meet a b ≡ true
meet_out a b h e f =
    let (front_a, x_a) = and_parts (admits_port a.in_port h.port && admits_vlan a.vlan h.vlan) (in_block a.dst h.dst) e in
    let (p_a, v_a) = and_parts (admits_port a.in_port h.port) (admits_vlan a.vlan h.vlan) front_a in
    let (front_b, x_b) = and_parts (admits_port b.in_port h.port && admits_vlan b.vlan h.vlan) (in_block b.dst h.dst) f in
    let (p_b, v_b) = and_parts (admits_port b.in_port h.port) (admits_vlan b.vlan h.vlan) front_b in
    and_from _ _ (and_from _ _ (port_out a.in_port b.in_port h.port p_a p_b) (vlan_out a.vlan b.vlan h.vlan v_a v_b)) (block_out a.dst b.dst h.dst x_a x_b)
