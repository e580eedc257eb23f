-- The tests of keys say when two keys are the same.
use Rattle.std.proofs.Common.{◌≡◌, ◌⊎◌, ℕ, true, false, refl, ap, subst, inl, inr, arith}
use Rattle.std.specs.Prelude.{◌==◌, Bool, Option, Some, None}
use Rattle.std.specs.Option.{option_eq}
use Rattle.std.proofs.lemmas.Bool.{eqb-true, eq-eqb, and_parts, and_from, false≢true, false_from_ne_true, both_ways}
use Rattle.net_base.specs.declared.ids.Port.{Port}
use Rattle.net_base.proofs.NameLaws.{same_port}
use Rattle.flow_rules.specs.Order.{port_rank, vlan_rank}
use Rattle.flow_rules.specs.Patterns.{key_eq, vlan_test_eq}
use Rattle.flow_rules.specs.declared.rules.VlanTest.{VlanTest}
use Rattle.flow_rules.specs.declared.rules.VlanTest.TheVariants as test
use Rattle.flow_rules.specs.declared.rules.Key.{Key}

-- whether two choices of an ingress port are the same
abbrev pub in_port_eq : Option Port → Option Port → Bool
in_port_eq = option_eq (λ (p q : Port). p.0 == q.0)

in_port_eq-true : (a b : Option Port) → in_port_eq a b ≡ true → a ≡ b
in_port_eq-true None None e = refl
in_port_eq-true None (Some q) e = absurd (false≢true e)
in_port_eq-true (Some p) None e = absurd (false≢true e)
in_port_eq-true (Some p) (Some q) e = let f : p.0 ≡ q.0 = eqb-true p.0 q.0 e in ap (λ (n : ℕ). let x : Port = record { 0 = n } in Some x) f

in_port_eq-refl : (a : Option Port) → in_port_eq a a ≡ true
in_port_eq-refl None = refl
in_port_eq-refl (Some p) = eq-eqb p.0 p.0 refl

vlan_test_eq-true : (a b : VlanTest) → vlan_test_eq a b ≡ true → a ≡ b
vlan_test_eq-true test.Any test.Any e = refl
vlan_test_eq-true test.Any test.Untagged e = absurd (false≢true e)
vlan_test_eq-true test.Any (test.Id n) e = absurd (false≢true e)
vlan_test_eq-true test.Untagged test.Any e = absurd (false≢true e)
vlan_test_eq-true test.Untagged test.Untagged e = refl
vlan_test_eq-true test.Untagged (test.Id n) e = absurd (false≢true e)
vlan_test_eq-true (test.Id m) test.Any e = absurd (false≢true e)
vlan_test_eq-true (test.Id m) test.Untagged e = absurd (false≢true e)
vlan_test_eq-true (test.Id m) (test.Id n) e = ap test.Id (eqb-true m n e)

vlan_test_eq-refl : (a : VlanTest) → vlan_test_eq a a ≡ true
vlan_test_eq-refl test.Any = refl
vlan_test_eq-refl test.Untagged = refl
vlan_test_eq-refl (test.Id n) = eq-eqb n n refl

-- equal parts make equal keys
pub key_same : (a b : Key) → a.priority ≡ b.priority → a.pattern.in_port ≡ b.pattern.in_port → a.pattern.vlan ≡ b.pattern.vlan
    → a.pattern.dst.base ≡ b.pattern.dst.base → a.pattern.dst.len ≡ b.pattern.dst.len → a ≡ b
key_same a b priority port vlan base len =
    λ i. record { priority = priority i; pattern = record { in_port = port i; vlan = vlan i; dst = record { base = base i; len = len i } } }

pub key_eq-true : (a b : Key) → key_eq a b ≡ true → a ≡ b
key_eq-true a b e =
    let (front, len) = and_parts _ _ e in
    let (front2, base) = and_parts _ _ front in
    let (front3, vlan) = and_parts _ _ front2 in
    let (priority, port) = and_parts _ _ front3 in
    key_same a b (eqb-true a.priority b.priority priority) (in_port_eq-true a.pattern.in_port b.pattern.in_port port) (vlan_test_eq-true a.pattern.vlan b.pattern.vlan vlan)
    (eqb-true a.pattern.dst.base b.pattern.dst.base base) (eqb-true a.pattern.dst.len b.pattern.dst.len len)

pub key_eq-refl : (a : Key) → key_eq a a ≡ true
key_eq-refl a =
    and_from _ _ (and_from _ _ (and_from _ _ (and_from _ _ (eq-eqb a.priority a.priority refl) (in_port_eq-refl a.pattern.in_port)) (vlan_test_eq-refl a.pattern.vlan))
    (eq-eqb a.pattern.dst.base a.pattern.dst.base refl)) (eq-eqb a.pattern.dst.len a.pattern.dst.len refl)

pub key_eq-false : (a b : Key) → key_eq a b ≡ false → ¬ (a ≡ b)
key_eq-false a b e same = both_ways (key_eq a b) e (subst (λ k. key_eq a k ≡ true) same (key_eq-refl a))

pub key_ne : (a b : Key) → ¬ (a ≡ b) → key_eq a b ≡ false
key_ne a b differ = false_from_ne_true (key_eq a b) (λ e. differ (key_eq-true a b e))

-- two keys are the same or not
pub cases_key : (a b : Key) → (a ≡ b) ⊎ (¬ (a ≡ b))
cases_key a b = elim (key_eq a b) as (λ t. key_eq a b ≡ t → (a ≡ b) ⊎ (¬ (a ≡ b))) [ true ↦ λ e. inl (key_eq-true a b e) | false ↦ λ e. inr (key_eq-false a b e) ] refl

-- the ranks tell ports and VLAN tests apart
pub port_told : (a b : Option Port) → port_rank a ≡ port_rank b → a ≡ b
port_told None None e = refl
port_told None (Some q) e = absurd (omega arith)
port_told (Some p) None e = absurd (omega arith)
port_told (Some p) (Some q) e = ap Some (same_port p q (omega arith))

pub vlan_told : (a b : VlanTest) → vlan_rank a ≡ vlan_rank b → a ≡ b
vlan_told test.Any test.Any e = refl
vlan_told test.Any test.Untagged e = absurd (omega arith)
vlan_told test.Any (test.Id n) e = absurd (omega arith)
vlan_told test.Untagged test.Any e = absurd (omega arith)
vlan_told test.Untagged test.Untagged e = refl
vlan_told test.Untagged (test.Id n) e = absurd (omega arith)
vlan_told (test.Id m) test.Any e = absurd (omega arith)
vlan_told (test.Id m) test.Untagged e = absurd (omega arith)
vlan_told (test.Id m) (test.Id n) e = ap test.Id (omega arith)
