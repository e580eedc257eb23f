-- A match whose fields pass the tests is that of the pattern which it names, and the match of a pattern passes them.
use Rattle.std.proofs.Common.{◌≡◌, ℕ, ◌-◌, ◌%◌, ◌^◌, ◌<◌, ◌≤◌, Bool, true, false, cond, ◌&&◌, ◌||◌, refl, sym, ap, ◌∙◌, arith}
use Rattle.std.specs.Prelude.{◌==◌, Option, Some, None, is_none, nat_le}
use Rattle.std.proofs.lemmas.Bool.{eqb-true, eq-eqb, ne_eqb, leb-true, le-leb, and_parts, and_from, or_right}
use Rattle.net_base.specs.Blocks.{IsBlock}
use Rattle.net_base.specs.declared.ids.Port.{Port}
use Rattle.topology.specs.Networks.{IsPortNumber, IsVlanId, is_vlan_id}
use Rattle.update_model.specs.Ranges.{IsPlanPort, IsPlanVlan}
use Rattle.flow_rules.specs.declared.rules.VlanTest.{VlanTest}
use Rattle.flow_rules.specs.declared.rules.VlanTest.TheVariants as test
use Rattle.flow_rules.specs.declared.rules.Pattern.{Pattern}
use Rattle.openflow10.specs.Actions.{is_port}
use Rattle.openflow10.specs.Match.{match_of, pattern_in, port_in, vlan_in, in_port_of, dl_vlan_of, is_any, wildcards_of, any_port, any_vlan, ignored_bits, vlan_none}
use Rattle.openflow10.specs.Refusals.{first_failed, match_tests, has_wildcards, has_in_port, has_layer_two, has_vlan, has_vlan_priority, has_network, has_address, has_transport}
use Rattle.openflow10.specs.declared.ofp_match.MatchFields.{MatchFields}
use Rattle.openflow10.proofs.TestLaws.{all_pass, none_fails}

-- ---- the wildcards

zero_ne_one : (x : ℕ) → x ≡ 0 → (x == 1) ≡ false
zero_ne_one x e = rw e refl

pub any_port-wildcards_of : (a b : Bool) (i : ℕ) → any_port (wildcards_of a b i) ≡ a
unfolding any_port wildcards_of
any_port-wildcards_of true true i = eq-eqb _ _ (omega arith)
any_port-wildcards_of true false i = eq-eqb _ _ (omega arith)
any_port-wildcards_of false true i = zero_ne_one _ (omega arith)
any_port-wildcards_of false false i = zero_ne_one _ (omega arith)

pub any_vlan-wildcards_of : (a b : Bool) (i : ℕ) → any_vlan (wildcards_of a b i) ≡ b
unfolding any_vlan wildcards_of
any_vlan-wildcards_of true true i = eq-eqb _ _ (omega arith)
any_vlan-wildcards_of true false i = zero_ne_one _ (omega arith)
any_vlan-wildcards_of false true i = eq-eqb _ _ (omega arith)
any_vlan-wildcards_of false false i = zero_ne_one _ (omega arith)

pub ignored_bits-wildcards_of : (a b : Bool) (i : ℕ) → i ≤ 32 → ignored_bits (wildcards_of a b i) ≡ i
unfolding ignored_bits wildcards_of
ignored_bits-wildcards_of true true i h = omega arith
ignored_bits-wildcards_of true false i h = omega arith
ignored_bits-wildcards_of false true i h = omega arith
ignored_bits-wildcards_of false false i h = omega arith

-- ---- what the tests say

-- the values of a match that passes the tests
pub record IsWritten (m : MatchFields) : Type 0 where
  pub wildcards : m.wildcards ≡ wildcards_of (any_port m.wildcards) (any_vlan m.wildcards) (ignored_bits m.wildcards)
  pub few : ignored_bits m.wildcards ≤ 32
  pub in_port : cond (any_port m.wildcards) (m.in_port == 0) (is_port m.in_port) ≡ true
  pub dl_src : m.dl_src ≡ 0
  pub dl_dst : m.dl_dst ≡ 0
  pub vlan : cond (any_vlan m.wildcards) (m.dl_vlan == 0) ((m.dl_vlan == vlan_none) || is_vlan_id m.dl_vlan) ≡ true
  pub dl_vlan_pcp : m.dl_vlan_pcp ≡ 0
  pub pad1 : m.pad1 ≡ 0
  pub dl_type : m.dl_type ≡ 0x0800
  pub nw_tos : m.nw_tos ≡ 0
  pub nw_proto : m.nw_proto ≡ 0
  pub pad2 : m.pad2 ≡ 0
  pub nw_src : m.nw_src ≡ 0
  pub address : m.nw_dst % 2 ^ ignored_bits m.wildcards ≡ 0
  pub tp_src : m.tp_src ≡ 0
  pub tp_dst : m.tp_dst ≡ 0

both_zero : (a b : ℕ) → ((a == 0) && (b == 0)) ≡ true → (a ≡ 0) × (b ≡ 0)
both_zero a b e =
    let (x, y) = and_parts (a == 0) (b == 0) e in
    (eqb-true a 0 x, eqb-true b 0 y)

wildcards_written : (m : MatchFields) → has_wildcards m ≡ true
    → (m.wildcards ≡ wildcards_of (any_port m.wildcards) (any_vlan m.wildcards) (ignored_bits m.wildcards)) × (ignored_bits m.wildcards ≤ 32)
unfolding has_wildcards
wildcards_written m e =
    let (x, y) = and_parts (m.wildcards == wildcards_of (any_port m.wildcards) (any_vlan m.wildcards) (ignored_bits m.wildcards)) (nat_le (ignored_bits m.wildcards) 32) e in
    (eqb-true m.wildcards (wildcards_of (any_port m.wildcards) (any_vlan m.wildcards) (ignored_bits m.wildcards)) x, leb-true (ignored_bits m.wildcards) 32 y)

network_written : (m : MatchFields) → has_network m ≡ true → ((m.nw_tos ≡ 0) × (m.nw_proto ≡ 0)) × ((m.pad2 ≡ 0) × (m.nw_src ≡ 0))
unfolding has_network
network_written m e =
    let (x, d) = and_parts _ (m.nw_src == 0) e in
    let (y, c) = and_parts _ (m.pad2 == 0) x in
    let (a, b) = and_parts (m.nw_tos == 0) (m.nw_proto == 0) y in
    ((eqb-true m.nw_tos 0 a, eqb-true m.nw_proto 0 b), (eqb-true m.pad2 0 c, eqb-true m.nw_src 0 d))

pub match_passes : (m : MatchFields) → first_failed (match_tests m) ≡ None → IsWritten m
unfolding has_in_port has_layer_two has_vlan has_vlan_priority has_address has_transport
match_passes m e =
    let (wildcards, (in_port, (layer_two, (vlan, (priority, (dl_type, (network, (address, (transport, _))))))))) = all_pass (match_tests m) e in
    let w = wildcards_written m wildcards in
    let two = both_zero m.dl_src m.dl_dst layer_two in
    let pcp = both_zero m.dl_vlan_pcp m.pad1 priority in
    let net = network_written m network in
    let ports = both_zero m.tp_src m.tp_dst transport in
    record {
      wildcards = w.0;
      few = w.1;
      in_port = in_port;
      dl_src = two.0;
      dl_dst = two.1;
      vlan = vlan;
      dl_vlan_pcp = pcp.0;
      pad1 = pcp.1;
      dl_type = eqb-true m.dl_type 0x0800 dl_type;
      nw_tos = net.0.0;
      nw_proto = net.0.1;
      pad2 = net.1.0;
      nw_src = net.1.1;
      address = eqb-true (m.nw_dst % 2 ^ ignored_bits m.wildcards) 0 address;
      tp_src = ports.0;
      tp_dst = ports.1;
    }

-- ---- the pattern that is named

is_none-cond : (b : Bool) (p : Port) → is_none (cond b None (Some p)) ≡ b
is_none-cond true p = refl
is_none-cond false p = refl

is_any-cond : (b c : Bool) (id : ℕ) → is_any (cond b test.Any (cond c test.Untagged (test.Id id))) ≡ b
is_any-cond true c id = refl
is_any-cond false true id = refl
is_any-cond false false id = refl

in_port_of-cond : (b t : Bool) (n : ℕ) → cond b (n == 0) t ≡ true → in_port_of (cond b None (Some (record { 0 = n }))) ≡ n
in_port_of-cond true t n e = sym (eqb-true n 0 e)
in_port_of-cond false t n e = refl

dl_vlan_of-cond : (b c t : Bool) (n : ℕ) → (c ≡ true → n ≡ vlan_none) → cond b (n == 0) t ≡ true → dl_vlan_of (cond b test.Any (cond c test.Untagged (test.Id n))) ≡ n
dl_vlan_of-cond true c t n none e = sym (eqb-true n 0 e)
dl_vlan_of-cond false true t n none e = sym (none refl)
dl_vlan_of-cond false false t n none e = refl

-- equal fields make equal matches
pub same_match : (m n : MatchFields) → m.wildcards ≡ n.wildcards → m.in_port ≡ n.in_port → m.dl_src ≡ n.dl_src → m.dl_dst ≡ n.dl_dst → m.dl_vlan ≡ n.dl_vlan
    → m.dl_vlan_pcp ≡ n.dl_vlan_pcp → m.pad1 ≡ n.pad1 → m.dl_type ≡ n.dl_type → m.nw_tos ≡ n.nw_tos → m.nw_proto ≡ n.nw_proto → m.pad2 ≡ n.pad2
    → m.nw_src ≡ n.nw_src → m.nw_dst ≡ n.nw_dst → m.tp_src ≡ n.tp_src → m.tp_dst ≡ n.tp_dst → m ≡ n
same_match m n e1 e2 e3 e4 e5 e6 e7 e8 e9 e10 e11 e12 e13 e14 e15 = λ i. record {
  wildcards = e1 i;
  in_port = e2 i;
  dl_src = e3 i;
  dl_dst = e4 i;
  dl_vlan = e5 i;
  dl_vlan_pcp = e6 i;
  pad1 = e7 i;
  dl_type = e8 i;
  nw_tos = e9 i;
  nw_proto = e10 i;
  pad2 = e11 i;
  nw_src = e12 i;
  nw_dst = e13 i;
  tp_src = e14 i;
  tp_dst = e15 i;
}

-- a match that passes the tests is that of the pattern which it names
pub match_of-pattern_in : (m : MatchFields) → IsWritten m → match_of (pattern_in m) ≡ m
match_of-pattern_in m h =
    let a = any_port m.wildcards in
    let b = any_vlan m.wildcards in
    let i = ignored_bits m.wildcards in
    let few = h.few in
    let untagged = m.dl_vlan == vlan_none in
    let count : 32 - (32 - i) ≡ i = omega arith in
    let wildcards : wildcards_of (is_none (port_in m)) (is_any (vlan_in m)) (32 - (32 - i)) ≡ m.wildcards =
    ap (λ (x : Bool). wildcards_of x (is_any (vlan_in m)) (32 - (32 - i))) (is_none-cond a (record { 0 = m.in_port }))
    ∙ ap (λ (x : Bool). wildcards_of a x (32 - (32 - i))) (is_any-cond b untagged m.dl_vlan)
    ∙ ap (λ (x : ℕ). wildcards_of a b x) count ∙ sym h.wildcards in
    same_match (match_of (pattern_in m)) m wildcards (in_port_of-cond a (is_port m.in_port) m.in_port h.in_port) (sym h.dl_src) (sym h.dl_dst)
    (dl_vlan_of-cond b untagged (untagged || is_vlan_id m.dl_vlan) m.dl_vlan (eqb-true m.dl_vlan vlan_none) h.vlan)
    (sym h.dl_vlan_pcp) (sym h.pad1) (sym h.dl_type) (sym h.nw_tos) (sym h.nw_proto) (sym h.pad2) (sym h.nw_src) refl (sym h.tp_src) (sym h.tp_dst)

pub is_port-true : (n : ℕ) → is_port n ≡ true → IsPortNumber n
unfolding is_port
is_port-true n e = let (low, high) = and_parts (nat_le 1 n) (nat_le n 65279) e in (leb-true 1 n low, leb-true n 65279 high)

pub is_port-from : (n : ℕ) → IsPortNumber n → is_port n ≡ true
unfolding is_port
is_port-from n h = and_from (nat_le 1 n) (nat_le n 65279) (le-leb 1 n h.0) (le-leb n 65279 h.1)

pub is_vlan_id-true : (n : ℕ) → is_vlan_id n ≡ true → IsVlanId n
is_vlan_id-true n e = let (low, high) = and_parts (nat_le 1 n) (nat_le n 4094) e in (leb-true 1 n low, leb-true n 4094 high)

pub is_vlan_id-from : (n : ℕ) → IsVlanId n → is_vlan_id n ≡ true
is_vlan_id-from n h = and_from (nat_le 1 n) (nat_le n 4094) (le-leb 1 n h.0) (le-leb n 4094 h.1)

port-cond : (b t : Bool) (n : ℕ) → cond b t (is_port n) ≡ true → IsPlanPort (cond b None (Some (record { 0 = n })))
port-cond true t n e = tt
port-cond false t n e = is_port-true n e

vlan-cond : (b c t : Bool) (n : ℕ) → cond b t (c || is_vlan_id n) ≡ true → IsPlanVlan (cond b test.Any (cond c test.Untagged (test.Id n)))
vlan-cond true c t n e = tt
vlan-cond false true t n e = tt
vlan-cond false false t n e = is_vlan_id-true n e

pub port_in-range : (m : MatchFields) → IsWritten m → IsPlanPort (port_in m)
port_in-range m h = port-cond (any_port m.wildcards) (m.in_port == 0) m.in_port h.in_port

pub vlan_in-range : (m : MatchFields) → IsWritten m → IsPlanVlan (vlan_in m)
vlan_in-range m h = vlan-cond (any_vlan m.wildcards) (m.dl_vlan == vlan_none) (m.dl_vlan == 0) m.dl_vlan h.vlan

pub prefix_in-range : (m : MatchFields) → IsWritten m → m.nw_dst < 2 ^ 32 → IsBlock (pattern_in m).dst
prefix_in-range m h below =
    let few = h.few in
    let count : 32 - (32 - ignored_bits m.wildcards) ≡ ignored_bits m.wildcards = omega arith in
    record { length = omega arith; base = below; aligned = ap (λ (k : ℕ). m.nw_dst % 2 ^ k) count ∙ h.address }

-- ---- the match of a pattern

-- a pattern whose numbers are in range
pub record IsNamed (p : Pattern) : Type 0 where
  pub port : IsPlanPort p.in_port
  pub vlan : IsPlanVlan p.vlan
  pub dst : IsBlock p.dst

in_port-passes : (o : Option Port) → IsPlanPort o → cond (is_none o) (in_port_of o == 0) (is_port (in_port_of o)) ≡ true
in_port-passes None h = refl
in_port-passes (Some p) h = is_port-from p.0 h

dl_vlan-passes : (v : VlanTest) → IsPlanVlan v → cond (is_any v) (dl_vlan_of v == 0) ((dl_vlan_of v == vlan_none) || is_vlan_id (dl_vlan_of v)) ≡ true
dl_vlan-passes test.Any h = refl
dl_vlan-passes test.Untagged h = refl
dl_vlan-passes (test.Id id) h = or_right (id == vlan_none) (is_vlan_id id) (is_vlan_id-from id h)

-- the wildcards of a pattern say what is open
open_in : (p : Pattern) → IsBlock p.dst
    → (any_port (match_of p).wildcards ≡ is_none p.in_port) × (any_vlan (match_of p).wildcards ≡ is_any p.vlan) × (ignored_bits (match_of p).wildcards ≡ 32 - p.dst.len)
open_in p h = (
  any_port-wildcards_of (is_none p.in_port) (is_any p.vlan) (32 - p.dst.len),
  any_vlan-wildcards_of (is_none p.in_port) (is_any p.vlan) (32 - p.dst.len),
  ignored_bits-wildcards_of (is_none p.in_port) (is_any p.vlan) (32 - p.dst.len) (omega arith),
)

pub match_of-passes : (p : Pattern) → IsNamed p → first_failed (match_tests (match_of p)) ≡ None
unfolding has_wildcards has_in_port has_layer_two has_vlan has_vlan_priority has_network has_address has_transport
match_of-passes p h =
    let few : 32 - p.dst.len ≤ 32 = omega arith in
    let says = open_in p h.dst in
    let w = wildcards_of (is_none p.in_port) (is_any p.vlan) (32 - p.dst.len) in
    let same : w ≡ wildcards_of (any_port w) (any_vlan w) (ignored_bits w) = rw (says.0, says.1, says.2) refl in
    let count : nat_le (ignored_bits w) 32 ≡ true = le-leb (ignored_bits w) 32 (omega (arith, says.2)) in
    none_fails (match_tests (match_of p)) (
      and_from (w == wildcards_of (any_port w) (any_vlan w) (ignored_bits w)) (nat_le (ignored_bits w) 32) (eq-eqb w (wildcards_of (any_port w) (any_vlan w) (ignored_bits w)) same) count,
      (
        rw says.0 (in_port-passes p.in_port h.port),
        (
          refl,
          (
            rw says.1 (dl_vlan-passes p.vlan h.vlan),
            (
              refl,
              (
                refl,
                (
                  refl,
                  (
                    eq-eqb (p.dst.base % 2 ^ ignored_bits w) 0 (ap (λ (k : ℕ). p.dst.base % 2 ^ k) says.2 ∙ h.dst.aligned),
                    (refl, tt),
                  ),
                ),
              ),
            ),
          ),
        ),
      ),
    )

port_in-again : (b : Bool) (o : Option Port) → b ≡ is_none o → cond b None (Some (record { 0 = in_port_of o })) ≡ o
port_in-again b None e = rw e refl
port_in-again b (Some p) e = rw e refl

vlan_in-again : (b : Bool) (v : VlanTest) → b ≡ is_any v → IsPlanVlan v → cond b test.Any (cond (dl_vlan_of v == vlan_none) test.Untagged (test.Id (dl_vlan_of v))) ≡ v
vlan_in-again b test.Any e h = rw e refl
vlan_in-again b test.Untagged e h = rw e refl
vlan_in-again b (test.Id id) e h =
    let tagged : (id == vlan_none) ≡ false = ne_eqb id vlan_none (λ same. omega (arith, h.1)) in
    rw (e, tagged) refl

-- the match of a pattern names it
pub pattern_in-match_of : (p : Pattern) → IsNamed p → pattern_in (match_of p) ≡ p
pattern_in-match_of p h =
    let says = open_in p h.dst in
    let fits = h.dst.length in
    let port : port_in (match_of p) ≡ p.in_port = port_in-again (any_port (match_of p).wildcards) p.in_port says.0 in
    let vlan : vlan_in (match_of p) ≡ p.vlan = vlan_in-again (any_vlan (match_of p).wildcards) p.vlan says.1 h.vlan in
    let len : 32 - ignored_bits (match_of p).wildcards ≡ p.dst.len = omega (arith, says.2) in
    λ i. record { in_port = port i; vlan = vlan i; dst = record { base = p.dst.base; len = len i } }
