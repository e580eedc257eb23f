use Rattle.std.proofs.Common.{◌≡◌, ◌⊎◌, ◌≤◌, sym, ◌∙◌, ap, subst, inl, inr, arith}
use Rattle.std.specs.Prelude.{Some}
use Rattle.std.proofs.lemmas.Bool.{both_ways}
use Rattle.net_base.specs.declared.ids.SwitchId.{SwitchId}
use Rattle.flow_rules.specs.declared.rules.Rule.{Rule}
use Rattle.update_model.specs.Changes.{switch_of, rule_of}
use Rattle.certificates.specs.Certified.{KeepsVlan}
use Rattle.plan_checker.proofs.PassLaws.{rewrite_same, rewrite_more}
use Rattle.plan_checker.proofs.rewriting.with_rewrite.Goals as goal

pub returns-then-keeps_vlan : goal.returns-then-keeps_vlan
returns-then-keeps_vlan c = λ round found.
    rewrite_same round c.args.best c.args.change.now
    (subst (λ (r : Rule). KeepsVlan r.action) c.rule.ensures (c.keeps_vlan.ensures.0 c.if-keeps_vlan.true)) found

pub returns : goal.returns
returns c = λ round found.
    let w = c.lower_switch.result in
    let rewrites : ¬ KeepsVlan (rule_of c.args.change.now).action = λ keeps.
    both_ways c.keeps_vlan.result c.if-keeps_vlan.false (c.keeps_vlan.ensures.1 (subst (λ (r : Rule). KeepsVlan r.action) (sym c.rule.ensures) keeps)) in
    let one : (w ≡ switch_of c.args.change.now) ⊎ (c.args.best ≡ Some w) = elim c.lower_switch.ensures.one [ inl e ↦ inl (e ∙ c.switch.ensures) | inr e ↦ inr e ] in
    let given : w.0 ≤ (switch_of c.args.change.now).0 = let same = ap (λ (x : SwitchId). x.0) c.switch.ensures in omega (arith, c.lower_switch.ensures.given) in
    rewrite_more round c.args.best c.args.change.now w found rewrites one given c.lower_switch.ensures.so_far
