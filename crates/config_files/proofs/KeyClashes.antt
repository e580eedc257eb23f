-- A key clashes with itself: where no key clashes, none is the same.
use Rattle.std.proofs.Common.{◌≡◌, ℕ, true, false, Ok, ◌++◌, refl, subst, inl, inr}
use Rattle.std.specs.Prelude.{List, [], ◌∷◌, Option, Some, None}
use Rattle.std.specs.List.{list_any}
use Rattle.std.proofs.lemmas.Bool.{eq-eqb, and_from, or_left, or_right, or_cases, false≢true, false_from_ne_true}
use Rattle.net_base.specs.declared.ids.Port.{Port}
use Rattle.flow_rules.specs.Overlaps.{ports_meet, vlans_meet, keys_clash}
use Rattle.flow_rules.specs.Patterns.{key_eq}
use Rattle.flow_rules.specs.declared.rules.Key.{Key}
use Rattle.flow_rules.specs.declared.rules.Rule.{Rule}
use Rattle.flow_rules.specs.declared.rules.VlanTest.{VlanTest}
use Rattle.flow_rules.specs.declared.rules.VlanTest.TheVariants as test
use Rattle.flow_rules.proofs.KeyLaws.{key_eq-true}
use Rattle.flow_rules.proofs.OverlapLaws.{base_in}
use Rattle.config_files.specs.Configuration.{rules_with}

port_meets : (p : Option Port) → ports_meet p p ≡ true
port_meets None = refl
port_meets (Some p) = eq-eqb p.0 p.0 refl

vlan_meets : (t : VlanTest) → vlans_meet t t ≡ true
vlan_meets test.Any = refl
vlan_meets test.Untagged = refl
vlan_meets (test.Id n) = eq-eqb n n refl

self_clash : (k : Key) → keys_clash k k ≡ true
self_clash k =
    and_from _ _ (eq-eqb k.priority k.priority refl)
    (and_from _ _ (and_from _ _ (port_meets k.pattern.in_port) (vlan_meets k.pattern.vlan)) (or_left _ _ (base_in k.pattern.dst)))

same_clash : (a b : Key) → key_eq a b ≡ true → keys_clash a b ≡ true
same_clash a b e = subst (λ k. keys_clash a k ≡ true) (key_eq-true a b e) (self_clash a)

clash_of_key : (k : Key) (rules : List Rule) → list_any (λ q. key_eq q.key k) rules ≡ true → list_any (λ q. keys_clash q.key k) rules ≡ true
clash_of_key k [] e = absurd (false≢true e)
clash_of_key k (x ∷ rules) e =
    elim (or_cases (key_eq x.key k) (list_any (λ q. key_eq q.key k) rules) e) [
      | inl f ↦ or_left (keys_clash x.key k) (list_any (λ q. keys_clash q.key k) rules) (same_clash x.key k f)
      | inr f ↦ or_right (keys_clash x.key k) (list_any (λ q. keys_clash q.key k) rules) (clash_of_key k rules f)
    ]

pub no_key : (k : Key) (rules : List Rule) → list_any (λ q. keys_clash q.key k) rules ≡ false → list_any (λ q. key_eq q.key k) rules ≡ false
no_key k rules e =
    false_from_ne_true (list_any (λ q. key_eq q.key k) rules) (λ h. false≢true (subst (λ b. b ≡ true) e (clash_of_key k rules h)))

-- a rule that clashes with none is added
pub rules_with_clear : (place : ℕ) (rules : List Rule) (r : Rule) → list_any (λ q. keys_clash q.key r.key) rules ≡ false → rules_with place rules r ≡ Ok (rules ++ r ∷ [])
unfolding rules_with
rules_with_clear place rules r e = rw (no_key r.key rules e) (rw e refl)
