use Rattle.std.proofs.Common.{◌≡◌, ◌+◌, false, cond, List, [], ◌∷◌, ◌++◌, refl, sym, ◌∙◌, ap}
use Rattle.std.specs.Prelude.{◌&&◌, flat_map, Some}
use Rattle.std.proofs.lemmas.List.{append-nil}
use Rattle.net_base.specs.declared.ids.SwitchId.{SwitchId}
use Rattle.net_base.specs.declared.ids.Port.{Port}
use Rattle.topology.specs.Networks.{Network}
use Rattle.flow_rules.specs.Patterns.{admits_port, admits_vlan}
use Rattle.flow_rules.specs.declared.rules.Rule.{Rule}
use Rattle.tag_allocator.specs.Tags.{Tagged}
use Rattle.two_phase.specs.TwoPhasePlan.{rule, test_of, ingress_action, ingress_copy}
use Rattle.two_phase.proofs.StepLaws.{flat_added}
use Rattle.two_phase.proofs.bands.add_ingress_copies.Goals as goal

-- a rule has no ingress copies at a host port that it doesn't cover
no_copies : (net : Network) (s : SwitchId) (host : Port) (r : Rule) → admits_port r.key.pattern.in_port host ≡ false → (tags : List Tagged) → flat_map (ingress_copy net s host r) tags ≡ []
no_copies net s host r not_covered [] = refl
no_copies net s host r not_covered (v ∷ tags) =
    ap
    (λ b. cond (b && admits_vlan r.key.pattern.vlan v.user) (rule (32768 + r.key.priority) (Some host) (test_of v.user) r.key.pattern.dst (ingress_action net s v.tag r.action) ∷ []) []
    ++ flat_map (ingress_copy net s host r) tags)
    not_covered
    ∙ no_copies net s host r not_covered tags

pub returns-then-not-admits_port : goal.returns-then-not-admits_port
returns-then-not-admits_port c =
    sym (ap (λ rs. c.args.rules.now.items ++ rs) (no_copies c.args.net.now c.args.s c.args.host c.args.new.now (sym c.admits_port.ensures ∙ c.if-not-admits_port.true) c.args.tags.now)
    ∙ append-nil c.args.rules.now.items)

pub loop-v-preserved : goal.loop-v-preserved
loop-v-preserved c =
    flat_added (ingress_copy c.args.net.now c.args.s c.args.host c.args.new.now) c.args.tags.now c.loop-v.v-index c.v-item.result c.v-item.result c.loop-v-test.true c.v-item.is
    c.args.rules.now.items c.loop-v.rules.items c.add_ingress_copy.new.rules.items c.loop-v.invariant c.in_ok-add_ingress_copy.ensures
