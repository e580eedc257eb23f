-- The derived `==` of rules and their parts is the definition's.
use Rattle.std.proofs.Common.{◌≡◌, Bool, true, false, ◌&&◌, ◌==◌, Option, Some, None, refl, ap, ◌∙◌}
use Rattle.std.specs.Option.{option_eq}
use Rattle.net_base.specs.declared.ids.Port.{Port}
use Rattle.net_base.specs.contracts.ids.PortPartialEq.TheImpl as port
use Rattle.flow_rules.specs.Patterns.{vlan_test_eq, key_eq}
use Rattle.flow_rules.specs.Same.{rewrite_eq, action_eq, rule_eq}
use Rattle.flow_rules.specs.declared.rules.VlanTest.{VlanTest}
use Rattle.flow_rules.specs.declared.rules.VlanTest.TheVariants as test
use Rattle.flow_rules.specs.declared.rules.Rewrite.{Rewrite}
use Rattle.flow_rules.specs.declared.rules.Rewrite.TheVariants.{Keep, Set, Strip}
use Rattle.flow_rules.specs.declared.rules.Action.{Action}
use Rattle.flow_rules.specs.declared.rules.Action.TheVariants.{Discard, Out}
use Rattle.flow_rules.specs.declared.rules.Key.{Key}
use Rattle.flow_rules.specs.declared.rules.Rule.{Rule}
use Rattle.flow_rules.specs.contracts.rules.VlanTestPartialEq.TheImpl as test_impl
use Rattle.flow_rules.specs.contracts.rules.RewritePartialEq.TheImpl as rewrite_impl
use Rattle.flow_rules.specs.contracts.rules.ActionPartialEq.TheImpl as action_impl
use Rattle.flow_rules.specs.contracts.rules.KeyPartialEq.TheImpl as key_impl
use Rattle.flow_rules.specs.contracts.rules.RulePartialEq.TheImpl as rule_impl
use Rattle.flow_rules.proofs.KeyLaws.{in_port_eq}

pub same_port : (a b : Option Port) → option_eq port.eq-value.it a b ≡ in_port_eq a b
same_port None None = refl
same_port None (Some q) = refl
same_port (Some p) None = refl
same_port (Some p) (Some q) = refl

pub same_test : (a b : VlanTest) → test_impl.eq-value.it a b ≡ vlan_test_eq a b
same_test test.Any test.Any = refl
same_test test.Any test.Untagged = refl
same_test test.Any (test.Id n) = refl
same_test test.Untagged test.Any = refl
same_test test.Untagged test.Untagged = refl
same_test test.Untagged (test.Id n) = refl
same_test (test.Id m) test.Any = refl
same_test (test.Id m) test.Untagged = refl
same_test (test.Id m) (test.Id n) = refl

same_rewrite : (a b : Rewrite) → rewrite_impl.eq-value.it a b ≡ rewrite_eq a b
same_rewrite Keep Keep = refl
same_rewrite Keep (Set n) = refl
same_rewrite Keep Strip = refl
same_rewrite (Set m) Keep = refl
same_rewrite (Set m) (Set n) = refl
same_rewrite (Set m) Strip = refl
same_rewrite Strip Keep = refl
same_rewrite Strip (Set n) = refl
same_rewrite Strip Strip = refl

same_action : (a b : Action) → action_impl.eq-value.it a b ≡ action_eq a b
same_action Discard Discard = refl
same_action Discard (Out q w) = refl
same_action (Out p r) Discard = refl
same_action (Out p r) (Out q w) = ap (λ b. p.0 == q.0 && b) (same_rewrite r w)

regroup : (p i v b l : Bool) → (p && (i && (v && (b && l)))) ≡ (p && i && v && b && l)
regroup false i v b l = refl
regroup true false v b l = refl
regroup true true false b l = refl
regroup true true true b l = refl

same_key : (k l : Key) → key_impl.eq-value.it k l ≡ key_eq k l
same_key k l =
    let p = k.pattern in
    let q = l.pattern in
    let dst : Bool = p.dst.base == q.dst.base && p.dst.len == q.dst.len in
    ap (λ b. k.priority == l.priority && (b && (test_impl.eq-value.it p.vlan q.vlan && dst))) (same_port p.in_port q.in_port)
    ∙ ap (λ b. k.priority == l.priority && (in_port_eq p.in_port q.in_port && (b && dst))) (same_test p.vlan q.vlan)
    ∙ regroup (k.priority == l.priority) (in_port_eq p.in_port q.in_port) (vlan_test_eq p.vlan q.vlan) (p.dst.base == q.dst.base) (p.dst.len == q.dst.len)

pub same_rule : (p q : Rule) → rule_impl.eq-value.it p q ≡ rule_eq p q
same_rule p q = ap (λ b. b && action_impl.eq-value.it p.action q.action) (same_key p.key q.key) ∙ ap (λ b. key_eq p.key q.key && b) (same_action p.action q.action)
